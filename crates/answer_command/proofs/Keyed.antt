-- How many inbound keys the sections from some number on name.
use Rattle.std.proofs.Common.{◌≡◌, ◌∙◌, ap, ℕ, zero, suc, ◌+◌, ◌*◌, ◌≤◌, Bool, cond, List, [], ◌∷◌, Some, length, drop, arith}
use Rattle.std.specs.Prelude.{slice_get}
use Rattle.std.specs.List.{count_by}
use Rattle.std.proofs.lemmas.List.Sums.{count_by-le-length, sum_by-cons}
use Rattle.port_pool.specs.declared.holder.Side.TheVariants.{A, B}
use Rattle.port_pool.specs.declared.signal.SectionSignal.{SectionSignal}
use Rattle.port_pool.specs.Signals.{side_of}
use Rattle.call_cell.specs.Commits.{has_inbound, inbound_keys}

count_first : {X : Type 0} (p : X → Bool) (x : X) (xs : List X) → count_by p (x ∷ xs) ≡ count_by p (x ∷ []) + count_by p xs
count_first p x xs =
    let all = sum_by-cons (λ y. cond (p y) 1 0) x xs in
    let one = sum_by-cons (λ y. cond (p y) 1 0) x [] in
    omega (arith, all, one)

-- the first section and the others
keys_first : (s : SectionSignal) (rest : List SectionSignal) → inbound_keys (s ∷ rest) ≡ inbound_keys (s ∷ []) + inbound_keys rest
keys_first s rest =
    let a = count_first (λ (x : SectionSignal). has_inbound (side_of A x)) s rest in
    let b = count_first (λ (x : SectionSignal). has_inbound (side_of B x)) s rest in
    omega (arith, a, b)

keys_from : (signal : List SectionSignal) (i : ℕ) (s : SectionSignal) → slice_get signal i ≡ Some s
    → inbound_keys (drop i signal) ≡ inbound_keys (s ∷ []) + inbound_keys (drop (suc i) signal)
keys_from [] i s is = absurd (let none = is in cc)
keys_from (x ∷ xs) zero s is =
    let same : x ≡ s = cc in
    keys_first x xs ∙ ap (λ (y : SectionSignal). inbound_keys (y ∷ []) + inbound_keys xs) same
keys_from (x ∷ xs) (suc i) s is = keys_from xs i s is

-- this section and the later ones
pub keys_at : (signal : List SectionSignal) (i : ℕ) (s : SectionSignal) → slice_get signal i ≡ Some s
    → inbound_keys (drop i signal) ≡ inbound_keys (s ∷ []) + inbound_keys (drop (i + 1) signal)
keys_at signal i s is =
    let next : suc i ≡ i + 1 = omega arith in
    keys_from signal i s is ∙ ap (λ (n : ℕ). inbound_keys (s ∷ []) + inbound_keys (drop n signal)) next

-- none past the last
pub none_past : (signal : List SectionSignal) (i : ℕ) → length signal ≤ i → inbound_keys (drop i signal) ≡ 0
none_past [] zero past = omega arith
none_past [] (suc i) past = omega arith
none_past (x ∷ xs) zero past = absurd (omega (arith, past))
none_past (x ∷ xs) (suc i) past = none_past xs i (omega (arith, past))

-- two for each section at most
pub keys_few : (signal : List SectionSignal) → inbound_keys signal ≤ 2 * length signal
keys_few signal =
    let a = count_by-le-length (λ (x : SectionSignal). has_inbound (side_of A x)) signal in
    let b = count_by-le-length (λ (x : SectionSignal). has_inbound (side_of B x)) signal in
    omega (arith, a, b)

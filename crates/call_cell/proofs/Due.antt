-- A commit makes at most as many inbound contexts as its signal names inbound keys, since no two legs are of one section and side.
use Rattle.std.proofs.Common.{◌≡◌, ◌∙◌, refl, ap, sym, ℕ, zero, suc, ◌+◌, ◌≤◌, ◌&&◌, ◌||◌, Bool, true, false, cond, eqb, List, [], ◌∷◌, ◌++◌, Option, Some, None, is_some, map, filter, length, arith}
use Rattle.std.specs.List.{list_any}
use Rattle.std.proofs.lemmas.Bool.{eq-eqb, eqb-true}
use Rattle.std.proofs.lemmas.Bool.Decides.{Decides-eqb}
use Rattle.std.proofs.lemmas.Cmp.{nat_eq_equiv}
use Rattle.std.proofs.lemmas.List.{length-append, length-map}
use Rattle.std.proofs.lemmas.List.Kept.{AllPairs-filter}
use Rattle.std.proofs.lemmas.List.Sums.{length-filter, sum_by-cons}
use Rattle.std.proofs.lemmas.Map.Made.{IsDistinct-from_AllPairs, length-le_from_is_member}
use Rattle.relay_outside.specs.declared.settings.Config.{Config}
use Rattle.histories.specs.Words.{In, here, there}
use Rattle.histories.proofs.Lists.{in_left, in_right, filtered, mapped, any_is_in}
use Rattle.port_pool.specs.declared.holder.Side.{Side}
use Rattle.port_pool.specs.declared.holder.Side.TheVariants.{A, B}
use Rattle.port_pool.specs.declared.signal.LegSignal.{LegSignal}
use Rattle.port_pool.specs.declared.signal.SectionSignal.{SectionSignal}
use Rattle.port_pool.specs.Signals.{side_of, signal_at}
use Rattle.call_cell.specs.declared.leg.Leg.{Leg}
use Rattle.call_cell.specs.Cells.{CellEntry, differs}
use Rattle.call_cell.specs.Protection.{same_inbound}
use Rattle.call_cell.specs.LegHistories.{LegsStandFor}
use Rattle.call_cell.specs.Commits.{needs_inbound, needs_contexts, said_of, contexts_due, has_inbound, inbound_keys}
use Rattle.call_cell.proofs.Few.{Apart, pairs_of, side_number, number, numbers_apart}

-- A leg that needs a context is named a key.

both_right : (a b : Bool) → (a && b) ≡ true → b ≡ true
both_right true b both = both
both_right false b both = absurd (let e = both in cc)

needs_named : (earlier said : Option LegSignal) → needs_inbound earlier said ≡ true → has_inbound said ≡ true
needs_named earlier None needs = absurd (let e = needs in cc)
needs_named earlier (Some s) needs = both_right (differs same_inbound (Some s) earlier) (is_some s.inbound) needs

-- The numbers of the legs that are named keys, in a signal whose first section has the number n.

abbrev once : Bool → ℕ
once b = cond b 1 0

abbrev only : Bool → ℕ → List ℕ
only b n = cond b (n ∷ []) []

abbrev named : ℕ → List SectionSignal → List ℕ
named n [] = []
named n (s ∷ rest) = only (has_inbound (side_of A s)) (n + n) ++ (only (has_inbound (side_of B s)) (n + n + 1) ++ named (suc n) rest)

length_only : (b : Bool) (n : ℕ) → length (only b n) ≡ once b
length_only true n = omega arith
length_only false n = omega arith

length_named : (n : ℕ) (signal : List SectionSignal) → length (named n signal) ≡ inbound_keys signal
length_named n [] = omega arith
length_named n (s ∷ rest) =
    let a = only (has_inbound (side_of A s)) (n + n) in
    let b = only (has_inbound (side_of B s)) (n + n + 1) in
    let more = named (suc n) rest in
    let of_a = sum_by-cons (λ (x : SectionSignal). once (has_inbound (side_of A x))) s rest in
    let of_b = sum_by-cons (λ (x : SectionSignal). once (has_inbound (side_of B x))) s rest in
    let one = length_only (has_inbound (side_of A s)) (n + n) in
    let two = length_only (has_inbound (side_of B s)) (n + n + 1) in
    let left = length_named (suc n) rest in
    omega (arith, length-append a (b ++ more), length-append b more, one, two, of_a, of_b, left)

in_only : (b : Bool) (n q : ℕ) → b ≡ true → q ≡ n → In q (only b n)
in_only true n q keyed is = here is
in_only false n q keyed is = absurd (let e = keyed in cc)

named_here : (n q : ℕ) (side : Side) (s : SectionSignal) (rest : List SectionSignal) → has_inbound (side_of side s) ≡ true
    → q ≡ n + n + side_number side → In q (named n (s ∷ rest))
named_here n q A s rest keyed is = in_left _ _ (in_only (has_inbound (side_of A s)) (n + n) q keyed (omega (arith, is)))
named_here n q B s rest keyed is =
    in_right (only (has_inbound (side_of A s)) (n + n)) _ (in_left _ _ (in_only (has_inbound (side_of B s)) (n + n + 1) q keyed (omega (arith, is))))

named_at : (n q : ℕ) (signal : List SectionSignal) (section : ℕ) (side : Side) → has_inbound (signal_at signal section side) ≡ true
    → q ≡ n + section + (n + section) + side_number side → In q (named n signal)
named_at n q [] section side keyed is = absurd (let e = keyed in cc)
named_at n q (s ∷ rest) zero side keyed is = named_here n q side s rest keyed (omega (arith, is))
named_at n q (s ∷ rest) (suc section) side keyed is =
    in_right (only (has_inbound (side_of A s)) (n + n)) _
    (in_right (only (has_inbound (side_of B s)) (n + n + 1)) _ (named_at (suc n) q rest section side keyed (omega (arith, is))))

is_any : (q : ℕ) (xs : List ℕ) → In q xs → list_any (eqb q) xs ≡ true
is_any q [] i = elim i [ ]
is_any q (x ∷ xs) (here e) = ap (λ (b : Bool). b || list_any (eqb q) xs) (eq-eqb q x e)
is_any q (x ∷ xs) (there i) = ap (λ (b : Bool). eqb q x || b) (is_any q xs i) ∙ or_true (eqb q x)
  where
    or_true : (b : Bool) → (b || true) ≡ true
    or_true true = refl
    or_true false = refl

-- Each leg that needs a context has a number of its own among them.
pub due_named : {O : Type 0} (config : Config) (h : List CellEntry) (those : List (Leg O)) (signal : List SectionSignal) → LegsStandFor config h those
    → contexts_due signal those ≤ inbound_keys signal
due_named {O} config h those signal for =
    let p : Leg O → Bool = λ (leg : Leg O). needs_contexts signal leg in
    let f : Leg O → ℕ = λ (leg : Leg O). number leg in
    let due = filter p those in
    let pairs = numbers_apart due (AllPairs-filter (λ (a b : Leg O). Apart a b) p those (pairs_of those for.apart)) in
    let within : (q : ℕ) → list_any (eqb q) (map f due) ≡ true → list_any (eqb q) (named 0 signal) ≡ true = λ q any.
    let m = any_is_in (eqb q) (map f due) any in
    let n = mapped f due m.is_in in
    let leg : Leg O = n.from in
    let same : q ≡ number leg = eqb-true q m.from m.makes ∙ sym n.makes in
    let needs : needs_contexts signal leg ≡ true = (filtered p those n.is_in).1 in
    is_any q (named 0 signal)
    (named_at 0 q signal leg.holder.section leg.holder.side (needs_named leg.signal (said_of signal leg.holder) needs) (omega (arith, same))) in
    let counted = length-filter p those in
    let long = length-map due f in
    let fits = length-le_from_is_member nat_eq_equiv (map f due) (named 0 signal) (IsDistinct-from_AllPairs (λ a b. Decides-eqb a b) (map f due) pairs) within in
    let keys = length_named 0 signal in
    omega (arith, counted, long, fits, keys)

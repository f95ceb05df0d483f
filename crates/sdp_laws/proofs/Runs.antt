-- The longest run of zero groups.
use Rattle.std.proofs.Common.{◌≡◌, ℕ, zero, suc, ◌+◌, ◌<◌, ◌≤◌, true, false, eqb, ltb, cond, List, [], ◌∷◌, get_or, length, take, drop, replicate, refl, sym, ap, ◌∙◌, subst, arith, one-add}
use Rattle.std.specs.List.{prefix_len}
use Rattle.std.proofs.lemmas.Bool.{ltb-true, ltb-false, eq-eqb, eqb-true}
use Rattle.sdp_text.specs.Hosts.{longest_run}
use Rattle.sdp_laws.specs.Addresses.{AreZeros, IsLongestRun}

-- how many groups of zero stand in front
abbrev zeros : List ℕ → ℕ
zeros gs = prefix_len (λ x. eqb x 0) gs

one_more : (n g : ℕ) (gs : List ℕ) → g ≡ 0 → take n gs ≡ replicate n 0 → take (1 + n) (g ∷ gs) ≡ replicate (1 + n) 0
one_more n g gs e h = subst (λ k. take k (g ∷ gs) ≡ replicate k 0) (sym (one-add n)) (ap (λ a. a ∷ take n gs) e ∙ ap (λ l. 0 ∷ l) h)

in_front : (gs : List ℕ) → take (zeros gs) gs ≡ replicate (zeros gs) 0
in_front [] = refl
in_front (g ∷ gs) =
    elim (eqb g 0) as (λ b. eqb g 0 ≡ b → take (cond b (1 + zeros gs) 0) (g ∷ gs) ≡ replicate (cond b (1 + zeros gs) 0) 0) [
      | true ↦ λ e. one_more (zeros gs) g gs (eqb-true g 0 e) (in_front gs)
      | false ↦ λ e. refl
    ] refl

-- the empty list has none
none_long : (size other : ℕ) → AreZeros [] other size → size ≤ 0
none_long zero other e = omega arith
none_long (suc n) zero e = absurd (let no : 0 ≡ suc (length (replicate n 0)) = ap length e in omega arith)
none_long (suc n) (suc other) e = absurd (let no : 0 ≡ suc (length (replicate n 0)) = ap length e in omega arith)

most_in_front : (gs : List ℕ) (count : ℕ) → take count gs ≡ replicate count 0 → count ≤ zeros gs
most_in_front [] count e = none_long count 0 e
most_in_front (g ∷ gs) zero e = omega arith
most_in_front (g ∷ gs) (suc n) e =
    let head : g ≡ 0 = ap (λ l. get_or l 0 0) e in
    let rest : take n gs ≡ replicate n 0 = ap (drop 1) e in
    let less = most_in_front gs n rest in
    rw (eq-eqb g 0 head) (omega arith)

-- the same of a list whose first group has a given place
record Longest (place : ℕ) (gs : List ℕ) (start count : ℕ) : Type 0 where
  at : ℕ
  begins : start ≡ place + at
  all : AreZeros gs at count
  longest : (other size : ℕ) → AreZeros gs other size → size ≤ count
  first : (other : ℕ) → 0 < count → AreZeros gs other count → start ≤ place + other

within_here : (place g : ℕ) (gs : List ℕ) (start count : ℕ) → Longest (place + 1) gs start count → count ≤ zeros (g ∷ gs) → (other size : ℕ) → AreZeros (g ∷ gs) other size → size ≤ zeros (g ∷ gs)
within_here place g gs start count l less zero size run = most_in_front (g ∷ gs) size run
within_here place g gs start count l less (suc other) size run =
    let most = l.longest other size run in
    omega arith

longest_here : (place g : ℕ) (gs : List ℕ) (start count : ℕ) → Longest (place + 1) gs start count → count ≤ zeros (g ∷ gs) → Longest place (g ∷ gs) place (zeros (g ∷ gs))
longest_here place g gs start count l less = record {
  at = 0;
  begins = omega arith;
  all = in_front (g ∷ gs);
  longest = within_here place g gs start count l less;
  first = λ other some run. omega arith;
}

within_later : (place g : ℕ) (gs : List ℕ) (start count : ℕ) → Longest (place + 1) gs start count → zeros (g ∷ gs) < count → (other size : ℕ) → AreZeros (g ∷ gs) other size → size ≤ count
within_later place g gs start count l more zero size run =
    let most = most_in_front (g ∷ gs) size run in
    omega arith
within_later place g gs start count l more (suc other) size run = l.longest other size run

first_later : (place g : ℕ) (gs : List ℕ) (start count : ℕ) → Longest (place + 1) gs start count → zeros (g ∷ gs) < count → (other : ℕ) → 0 < count → AreZeros (g ∷ gs) other count → start ≤ place + other
first_later place g gs start count l more zero some run =
    let most = most_in_front (g ∷ gs) count run in
    absurd (omega arith)
first_later place g gs start count l more (suc other) some run =
    let least = l.first other some run in
    omega arith

longest_later : (place g : ℕ) (gs : List ℕ) (start count : ℕ) → Longest (place + 1) gs start count → zeros (g ∷ gs) < count → Longest place (g ∷ gs) start count
longest_later place g gs start count l more = record {
  at = suc l.at;
  begins = l.begins ∙ (let e : (place + 1) + l.at ≡ place + suc l.at = omega arith in e);
  all = l.all;
  longest = within_later place g gs start count l more;
  first = first_later place g gs start count l more;
}

longest : (place : ℕ) (gs : List ℕ) → Longest place gs (longest_run place gs).start (longest_run place gs).count
longest place [] = record {
  at = 0;
  begins = omega arith;
  all = refl;
  longest = λ other size run. none_long size other run;
  first = λ other some run. omega arith;
}
longest place (g ∷ gs) =
    let rest = longest_run (place + 1) gs in
    let n = zeros (g ∷ gs) in
    let known : Longest (place + 1) gs rest.start rest.count = longest (place + 1) gs in
    elim (ltb n rest.count) as (λ b. ltb n rest.count ≡ b → Longest place (g ∷ gs) (cond b rest (record { start = place; count = n })).start (cond b rest (record { start = place; count = n })).count) [
      | true ↦ λ e. longest_later place g gs rest.start rest.count known (ltb-true n rest.count e)
      | false ↦ λ e. longest_here place g gs rest.start rest.count known (ltb-false n rest.count e)
    ] refl

pub longest_is : (gs : List ℕ) → IsLongestRun gs (longest_run 0 gs).start (longest_run 0 gs).count
longest_is gs =
    let l = longest 0 gs in
    let run = longest_run 0 gs in
    let at : l.at ≡ run.start = sym (l.begins ∙ (let e : 0 + l.at ≡ l.at = omega arith in e)) in
    record {
      zeros = subst (λ n. AreZeros gs n run.count) at l.all;
      longest = l.longest;
      first = λ other some zero_run. let least = l.first other some zero_run in omega arith;
    }

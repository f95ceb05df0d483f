-- Each leg of a list is committed, one after the other, and there is room for the inbound contexts of all.
use Rattle.std.proofs.Common.{◌≡◌, refl, ap, subst, sym, ◌∙◌, ℕ, ◌+◌, ◌<◌, ◌≤◌, Bool, true, false, cond, List, length, take, get_or, set, arith, below_more}
use Rattle.std.specs.Prelude.{if◌then◌else◌}
use Rattle.std.specs.List.{count_by}
use Rattle.std.proofs.lemmas.List.{get_or_default}
use Rattle.std.proofs.lemmas.List.Sums.{count_by_more_yes, count_by_more_no, sum_by-take-le}
use Rattle.port_pool.specs.declared.signal.SectionSignal.{SectionSignal}
use Rattle.call_cell.specs.declared.leg.Leg.{Leg}
use Rattle.call_cell.specs.Commits.{LegCommitsBy, contexts_due, needs_contexts, said_of}
use Rattle.call_cell.proofs.Placing.{at_set, off_set}

count_take : {X : Type 0} (p : X → Bool) (k : ℕ) (xs : List X) → count_by p (take k xs) ≤ count_by p xs
count_take {X} p k xs = sum_by-take-le one xs k
  where
    one : X → ℕ
    one x = cond (p x) 1 0

count_more : {X : Type 0} (p : X → Bool) (xs : List X) (i : ℕ) (d : X) → i < length xs → (b : Bool) → p (get_or xs i d) ≡ b
    → count_by p (take (i + 1) xs) ≡ count_by p (take i xs) + (if b then 1 else 0)
count_more p xs i d below true q = count_by_more_yes p xs i d below q
count_more p xs i d below false q = count_by_more_no p xs i d below q ∙ omega arith

-- the leg at i finds room
pub room_is : {O : Type 0} (signal : List SectionSignal) (those now : List (Leg O)) (i room all : ℕ) (x : Leg O) → i < length those → get_or now i x ≡ get_or those i x
    → room + contexts_due signal (take i those) ≡ all → contexts_due signal those ≤ all → needs_contexts signal (get_or now i x) ≡ true → 0 < room
room_is {O} signal those now i room all x below same left enough needs =
    let p : Leg O → Bool = λ (leg : Leg O). needs_contexts signal leg in
    omega (arith, left, enough, count_by_more_yes p those i x below (ap p (sym same) ∙ needs), count_take p (i + 1) those)

pub room_more : {O : Type 0} (signal : List SectionSignal) (those now : List (Leg O)) (i room after all : ℕ) (x : Leg O) → i < length those → get_or now i x ≡ get_or those i x
    → room + contexts_due signal (take i those) ≡ all → after + (if needs_contexts signal (get_or now i x) then 1 else 0) ≡ room
    → after + contexts_due signal (take (i + 1) those) ≡ all
room_more {O} signal those now i room after all x below same left used =
    let p : Leg O → Bool = λ (leg : Leg O). needs_contexts signal leg in
    omega (arith, left, used, ap {B = ℕ} (λ (leg : Leg O). cond (p leg) 1 0) same, count_more p those i x below (p (get_or those i x)) refl)

pub commits_more : {O : Type 0} (signal : List SectionSignal) (those now : List (Leg O)) (i : ℕ) (new x : Leg O) → i < length those → length now ≡ length those
    → get_or now i x ≡ get_or those i x
    → ((j : ℕ) (d : Leg O) → j < i → LegCommitsBy (said_of signal (get_or those j d).holder) (get_or those j d) (get_or now j d))
    → LegCommitsBy (said_of signal (get_or now i x).holder) (get_or now i x) new
    → (j : ℕ) (d : Leg O) → j < i + 1 → LegCommitsBy (said_of signal (get_or those j d).holder) (get_or those j d) (get_or (set now i new) j d)
commits_more {O} signal those now i new x below long same before does j d less =
    let P : Leg O → Leg O → Type 0 = λ (a b : Leg O). LegCommitsBy (said_of signal a.holder) a b in
    below_more (λ (k : ℕ). P (get_or those k d) (get_or (set now i new) k d)) i
    (λ k h. subst (λ (b : Leg O). P (get_or those k d) b) (sym (off_set now i k new d (λ q. omega (arith, q, h)))) (before k d h))
    (subst (λ (b : Leg O). P (get_or those i d) b) (sym (at_set now i new d (omega (arith, below, long))))
    (subst (λ (a : Leg O). P a new) (same ∙ get_or_default those i x d below) does))
    j less

pub rest_more : {O : Type 0} (those now : List (Leg O)) (i : ℕ) (new : Leg O) → ((j : ℕ) (d : Leg O) → i ≤ j → get_or now j d ≡ get_or those j d)
    → (j : ℕ) (d : Leg O) → i + 1 ≤ j → get_or (set now i new) j d ≡ get_or those j d
rest_more those now i new before j d more =
    off_set now i j new d (λ q. omega (arith, q, more)) ∙ before j d (omega (arith, more))

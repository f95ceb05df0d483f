-- Calls in the order of their numbers: a look-up, what goes and what comes.
use Rattle.std.proofs.Common.{◌≡◌, ◌∙◌, refl, sym, ap, subst, ℕ, zero, suc, ◌+◌, ◌<◌, ◌≤◌, List, [], ◌∷◌, ◌++◌, length, set, remove, get_or, Bool, true, false, nat_lt, Some, None, Result, Ok, Err, position, arith, if◌then◌else◌}
use Rattle.std.specs.Prelude.{◌==◌}
use Rattle.std.specs.List.{HoldsAt}
use Rattle.std.specs.List.Sorted.{IsBinarySearchResult, IsSearchInRange, IsPartitionPoint, IsNonDecreasingBy}
use Rattle.std.specs.Result.{result_ok}
use Rattle.std.specs.Ordering.{nat_cmp, ordering_index}
use Rattle.std.specs.declared.cmp.Ordering.TheVariants.{Less, Equal, Greater}
use Rattle.std.proofs.lemmas.Bool.Decides.{nat_tests}
use Rattle.std.proofs.lemmas.Cmp.{ranked}
use Rattle.std.proofs.lemmas.List.Sums.{position_or_len_is}
use Rattle.call_board.specs.declared.live_call.LiveCall.{LiveCall}
use Rattle.call_board.specs.CallNumbers.{AreBelow, NumbersRise}

each : (from : ℕ) (calls : List LiveCall) (below i : ℕ) (d : LiveCall) → AreBelow from calls below → i < length calls → from ≤ (get_or calls i d).number
each from [] below i d s lt = absurd (omega (arith, lt))
each from (call ∷ calls) below zero d s lt = s.0
each from (call ∷ calls) below (suc i) d s lt = let more = each (call.number + 1) calls below i d s.1 (omega (arith, lt)) in omega (arith, more, s.0)

-- so they rise
pub in_order : (from : ℕ) (calls : List LiveCall) (below : ℕ) → AreBelow from calls below → (i j : ℕ) (d : LiveCall) → i < j → j < length calls →
    (get_or calls i d).number < (get_or calls j d).number
in_order from [] below s i j d before lt = absurd (omega (arith, lt))
in_order from (call ∷ calls) below s i zero d before lt = absurd (omega (arith, before))
in_order from (call ∷ calls) below s zero (suc j) d before lt = let more = each (call.number + 1) calls below j d s.1 (omega (arith, lt)) in omega (arith, more)
in_order from (call ∷ calls) below s (suc i) (suc j) d before lt = in_order (call.number + 1) calls below s.1 i j d (omega (arith, before)) (omega (arith, lt))

lower : (from other : ℕ) (calls : List LiveCall) (below : ℕ) → from ≤ other → AreBelow other calls below → AreBelow from calls below
lower from other [] below le s = omega (arith, le, s)
lower from other (call ∷ calls) below le s = (omega (arith, le, s.0), s.1)

higher : (from : ℕ) (calls : List LiveCall) (below : ℕ) → AreBelow from calls below → AreBelow from calls (below + 1)
higher from [] below s = omega (arith, s)
higher from (call ∷ calls) below s = (s.0, higher (call.number + 1) calls below s.1)

pushed : (from : ℕ) (calls : List LiveCall) (below : ℕ) (call : LiveCall) → AreBelow from calls below → call.number ≡ below → AreBelow from (calls ++ call ∷ []) (below + 1)
pushed from [] below call s is = (omega (arith, s, is), omega (arith, is))
pushed from (x ∷ calls) below call s is = (s.0, pushed (x.number + 1) calls below call s.1 is)

with_next : (from : ℕ) (calls : List LiveCall) (below : ℕ) (call : LiveCall) (there : Bool) → AreBelow from calls below → call.number ≡ below →
    AreBelow from (if there then calls else calls ++ call ∷ []) (below + 1)
with_next from calls below call true s is = higher from calls below s
with_next from calls below call false s is = pushed from calls below call s is

-- when one more came, of the next number, if it did
pub numbers_after : (calls new : List LiveCall) (below : ℕ) (call : LiveCall) (there : Bool) → new ≡ (if there then calls else calls ++ call ∷ []) →
    AreBelow 0 calls below → call.number ≡ below → AreBelow 0 new (below + 1)
numbers_after calls new below call there is s number =
    subst (λ (those : List LiveCall). AreBelow 0 those (below + 1)) (sym is) (with_next 0 calls below call there s number)

-- when one went
pub without_one : (from : ℕ) (calls : List LiveCall) (below i : ℕ) → AreBelow from calls below → AreBelow from (remove calls i) below
without_one from [] below zero s = s
without_one from [] below (suc i) s = s
without_one from (call ∷ calls) below zero s = lower from (call.number + 1) calls below (omega (arith, s.0)) s.1
without_one from (call ∷ calls) below (suc i) s = (s.0, without_one (call.number + 1) calls below i s.1)

-- and when one changed that keeps its number
pub with_changed : (from : ℕ) (calls : List LiveCall) (below i : ℕ) (before after : LiveCall) → AreBelow from calls below → before ≡ get_or calls i before → after.number ≡ before.number →
    AreBelow from (set calls i after) below
with_changed from [] below zero before after s at same = s
with_changed from [] below (suc i) before after s at same = s
with_changed from (call ∷ calls) below zero before after s at same =
    let number : after.number ≡ call.number = same ∙ ap (λ (c : LiveCall). c.number) at in
    (omega (arith, number, s.0), subst (λ (n : ℕ). AreBelow (n + 1) calls below) (sym number) s.1)
with_changed from (call ∷ calls) below (suc i) before after s at same = (s.0, with_changed (call.number + 1) calls below i before after s.1 at same)

pub differ : (a b : ℕ) → (a ≡ b → ⊥) → (a == b) ≡ false
differ a b other = grind (arith, nat_tests)

agree : (a b : ℕ) → a ≡ b → (a == b) ≡ true
agree a b same = grind (arith, nat_tests)

within : (a b : ℕ) → a < b → nat_lt a b ≡ true
within a b lt = grind (arith, nat_tests)

past : (a : ℕ) → nat_lt a a ≡ false
past a = grind (arith, nat_tests)

-- comparisons with a number rise
pub comparisons_rise : (calls : List LiveCall) (number : ℕ) → NumbersRise calls → IsNonDecreasingBy (λ (call : LiveCall). ordering_index (nat_cmp call.number number)) calls
comparisons_rise calls number rise i j d le lt =
    let up : (get_or calls i d).number ≤ (get_or calls j d).number = grind (arith, rise i j d, λ (same : i ≡ j). ap (λ k. (get_or calls k d).number) same) in
    grind (arith, nat_tests)

-- a call of this number that a search found is the first one
pub found_at : (calls : List LiveCall) (number i : ℕ) → NumbersRise calls → i < length calls → HoldsAt (λ (call : LiveCall). nat_cmp call.number number ≡ Equal) calls i →
    Some i ≡ position (λ (call : LiveCall). call.number == number) calls
found_at [] number i rise lt equal = absurd (omega (arith, lt))
found_at (c ∷ cs) number i rise lt equal =
    let at : (get_or (c ∷ cs) i c).number ≡ number = ranked _ number _ (sym (equal c)) in
    let place = position_or_len_is (λ (call : LiveCall). call.number == number) (c ∷ cs) i c (omega (arith, lt))
    (λ k before. differ (get_or (c ∷ cs) k c).number number (λ same. omega (arith, rise k i c before lt, at, same))) (λ l. agree (get_or (c ∷ cs) i c).number number at) in
    sym (ap (λ (n : ℕ). if nat_lt n (length (c ∷ cs)) then Some n else None) place ∙ ap (λ (b : Bool). if b then Some i else None) (within i (length (c ∷ cs)) lt))

-- and none has the number where a search found none
pub found_none : (calls : List LiveCall) (number i : ℕ) → IsPartitionPoint (λ (call : LiveCall). nat_cmp call.number number ≡ Less) (λ (call : LiveCall). nat_cmp call.number number ≡ Greater) calls i →
    None ≡ position (λ (call : LiveCall). call.number == number) calls
found_none [] number i parted = refl
found_none (c ∷ cs) number i parted =
    let place = position_or_len_is (λ (call : LiveCall). call.number == number) (c ∷ cs) (length (c ∷ cs)) c (omega arith)
    (λ k lt. differ (get_or (c ∷ cs) k c).number number (λ same. other k lt (nat_lt k i) refl same)) (λ l. absurd (omega (arith, l))) in
    sym (ap (λ (n : ℕ). if nat_lt n (length (c ∷ cs)) then Some n else None) place ∙ ap (λ (b : Bool). if b then Some (length (c ∷ cs)) else None) (past (length (c ∷ cs))))
  where
    other : (k : ℕ) → k < length (c ∷ cs) → (b : Bool) → nat_lt k i ≡ b → (get_or (c ∷ cs) k c).number ≡ number → ⊥
    other k lt true is same =
        let before : k < i = grind (arith, nat_tests) in
        let less : (get_or (c ∷ cs) k c).number < number = ranked _ number _ (sym (parted.0 k c (omega arith) before)) in
        omega (arith, less, same)
    other k lt false is same =
        let after : i ≤ k = grind (arith, nat_tests) in
        let greater : number < (get_or (c ∷ cs) k c).number = ranked _ number _ (sym (parted.1 k c after lt)) in
        omega (arith, greater, same)

-- what a search by number answers is the place of the call
pub found : (calls searched : List LiveCall) (number : ℕ) (r : Result ℕ ℕ) → searched ≡ calls → NumbersRise calls → IsSearchInRange r (length searched) →
    IsBinarySearchResult (λ (call : LiveCall). nat_cmp call.number number) searched r → result_ok r ≡ position (λ (call : LiveCall). call.number == number) calls
found calls searched number r same rise bound answers =
    result calls r rise (subst (λ (xs : List LiveCall). IsSearchInRange r (length xs)) same bound)
    (subst (λ (xs : List LiveCall). IsBinarySearchResult (λ (call : LiveCall). nat_cmp call.number number) xs r) same answers)
  where
    result : (calls : List LiveCall) (r : Result ℕ ℕ) → NumbersRise calls → IsSearchInRange r (length calls) →
        IsBinarySearchResult (λ (call : LiveCall). nat_cmp call.number number) calls r → result_ok r ≡ position (λ (call : LiveCall). call.number == number) calls
    result calls (Ok place) rise bound answers = found_at calls number place rise bound answers
    result calls (Err place) rise bound answers = found_none calls number place (answers (comparisons_rise calls number rise))

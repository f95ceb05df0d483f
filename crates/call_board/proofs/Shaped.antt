-- The shapes of the live calls of a board.
use Rattle.std.proofs.Common.{◌≡◌, ◌∙◌, refl, ap, sym, subst, ℕ, zero, suc, ◌+◌, ◌-◌, ◌<◌, ◌≤◌, Bool, true, false, cond, not, List, [], ◌∷◌, ◌++◌, length, filter, Option, Some, None, get_or, set, remove, nat_lt, arith, if◌then◌else◌}
use Rattle.std.specs.Prelude.{◌==◌, ◌||◌, position, option_map, is_some, slice_get, IfSome}
use Rattle.std.proofs.lemmas.Bool.Decides.{nat_tests}
use Rattle.std.specs.List.{list_any}
use Rattle.std.proofs.lemmas.List.{map_push}
use Rattle.std.proofs.lemmas.List.Quantifiers.{position-Some}
use Rattle.histories.specs.Words.{first}
use Rattle.histories.proofs.Lists.{equal}
use Rattle.offer_answer.specs.Shapes.{DialogShape}
use Rattle.call_board.specs.declared.live_call.LiveCall.{LiveCall}
use Rattle.call_board.specs.CallNumbers.{AreBelow}
use Rattle.call_board.specs.Shapes.{LiveShape, live_shape, live_shapes, with_dialog_of, without_live, with_mark, IsFreeCell}
use Rattle.call_board.proofs.Placed.{any-position}
use Rattle.call_board.proofs.Numbered.{in_order, differ}

first_at : {A : Type 0} (p : A → Bool) (xs : List A) (i : ℕ) (d : A) → i < length xs → p (get_or xs i d) ≡ true → ((k : ℕ) → k < i → p (get_or xs k d) ≡ false) →
    first (filter p xs) ≡ Some (get_or xs i d)
first_at p [] i d below is_so is_not = absurd (omega (arith, below))
first_at p (x ∷ xs) zero d below is_so is_not = ap (λ (b : Bool). first (cond b (x ∷ filter p xs) (filter p xs))) is_so
first_at p (x ∷ xs) (suc i) d below is_so is_not =
    ap (λ (b : Bool). first (cond b (x ∷ filter p xs) (filter p xs))) (is_not zero (omega arith))
    ∙ first_at p xs i d (omega (arith, below)) is_so (λ k lt. is_not (suc k) (omega (arith, lt)))

-- the element in the first place of those that pass is the first of them
pub first_found : {A : Type 0} (p : A → Bool) (xs : List A) (i : ℕ) (d : A) → position p xs ≡ Some i → first (filter p xs) ≡ Some (get_or xs i d)
first_found p xs i d e = let f = position-Some p xs i d e in first_at p xs i d f.0 f.1 f.2

-- the call in a place is that of its number
pub first_of_number : (calls : List LiveCall) (below i : ℕ) (d : LiveCall) → AreBelow 0 calls below → i < length calls →
    first (filter (λ (call : LiveCall). call.number == (get_or calls i d).number) calls) ≡ Some (get_or calls i d)
first_of_number calls below i d rise lt =
    first_at (λ (call : LiveCall). call.number == (get_or calls i d).number) calls i d lt (equal (get_or calls i d).number (get_or calls i d).number refl)
    (λ k before. let less = in_order 0 calls below rise k i d before lt in differ (get_or calls k d).number (get_or calls i d).number (λ same. omega (arith, less, same)))

-- no element passes where there is no place of one
pub none_passes : {A : Type 0} (p : A → Bool) (xs : List A) → position p xs ≡ None → list_any p xs ≡ false
none_passes p xs none = any-position p xs ∙ ap is_some none

-- one that passes is there where one is the first
pub one_passes : {A : Type 0} (p : A → Bool) (xs : List A) (x : A) → first (filter p xs) ≡ Some x → list_any p xs ≡ true
one_passes p [] x is = absurd (let f = is in cc)
one_passes p (y ∷ ys) x is = go (p y) is (one_passes p ys x)
  where
    go : (b : Bool) → first (cond b (y ∷ filter p ys) (filter p ys)) ≡ Some x → (first (filter p ys) ≡ Some x → list_any p ys ≡ true) → (b || list_any p ys) ≡ true
    go true f more = refl
    go false f more = more f

first_shaped : (number : ℕ) (calls : List LiveCall) →
    first (filter (λ (call : LiveShape). call.number == number) (live_shapes calls)) ≡ option_map live_shape (first (filter (λ (call : LiveCall). call.number == number) calls))
first_shaped number [] = refl
first_shaped number (call ∷ calls) = go (call.number == number) (first_shaped number calls)
  where
    go : (b : Bool) →
        first (filter (λ (call : LiveShape). call.number == number) (live_shapes calls)) ≡ option_map live_shape (first (filter (λ (call : LiveCall). call.number == number) calls)) →
        first (cond b (live_shape call ∷ filter (λ (call : LiveShape). call.number == number) (live_shapes calls)) (filter (λ (call : LiveShape). call.number == number) (live_shapes calls)))
        ≡ option_map live_shape (first (cond b (call ∷ filter (λ (call : LiveCall). call.number == number) calls) (filter (λ (call : LiveCall). call.number == number) calls)))
    go true more = refl
    go false more = more

-- the shape of the live call of a number is that of this number
pub numbered_shape : (number : ℕ) (calls : List LiveCall) (call : LiveCall) → first (filter (λ (call : LiveCall). call.number == number) calls) ≡ Some call →
    first (filter (λ (call : LiveShape). call.number == number) (live_shapes calls)) ≡ Some (live_shape call)
numbered_shape number calls call found = first_shaped number calls ∙ ap (option_map live_shape) found

-- the shape of the call in a place
pub shape_at : (calls : List LiveCall) (i : ℕ) (d : LiveCall) → i < length calls → slice_get (live_shapes calls) i ≡ Some (live_shape (get_or calls i d))
shape_at [] i d below = absurd (omega (arith, below))
shape_at (call ∷ calls) zero d below = refl
shape_at (call ∷ calls) (suc i) d below = shape_at calls i d (omega (arith, below))

-- One call changes.
module _ (number : ℕ) (dialog : DialogShape) where
  gone_on_at : (calls : List LiveCall) (i : ℕ) (d new : LiveCall) → i < length calls → ((get_or calls i d).number == number) ≡ true →
      ((k : ℕ) → k < i → ((get_or calls k d).number == number) ≡ false) → live_shape new ≡ record (live_shape (get_or calls i d)) { dialog = dialog } →
      live_shapes (set calls i new) ≡ with_dialog_of number dialog (live_shapes calls)
  gone_on_at [] i d new below is_so is_not is = absurd (omega (arith, below))
  gone_on_at (call ∷ calls) zero d new below is_so is_not is =
      ap (λ (s : LiveShape). s ∷ live_shapes calls) is
      ∙ sym (ap (λ (b : Bool). cond b (record (live_shape call) { dialog = dialog } ∷ live_shapes calls) (live_shape call ∷ with_dialog_of number dialog (live_shapes calls))) is_so)
  gone_on_at (call ∷ calls) (suc i) d new below is_so is_not is =
      ap (λ (those : List LiveShape). live_shape call ∷ those) (gone_on_at calls i d new (omega (arith, below)) is_so (λ k lt. is_not (suc k) (omega (arith, lt))) is)
      ∙ sym (ap (λ (b : Bool). cond b (record (live_shape call) { dialog = dialog } ∷ live_shapes calls) (live_shape call ∷ with_dialog_of number dialog (live_shapes calls)))
      (is_not zero (omega arith)))

  -- the call of a number has another dialog
  pub gone_on : (calls : List LiveCall) (i : ℕ) (d new : LiveCall) → position (λ (call : LiveCall). call.number == number) calls ≡ Some i →
      live_shape new ≡ record (live_shape (get_or calls i d)) { dialog = dialog } → live_shapes (set calls i new) ≡ with_dialog_of number dialog (live_shapes calls)
  gone_on calls i d new e is =
      let f = position-Some (λ (call : LiveCall). call.number == number) calls i d e in gone_on_at calls i d new f.0 f.1 f.2 is

stays_at : (calls : List LiveCall) (i : ℕ) (d new : LiveCall) → i < length calls → live_shape new ≡ live_shape (get_or calls i d) → live_shapes (set calls i new) ≡ live_shapes calls
stays_at [] i d new below is = absurd (omega (arith, below))
stays_at (call ∷ calls) zero d new below is = ap (λ (s : LiveShape). s ∷ live_shapes calls) is
stays_at (call ∷ calls) (suc i) d new below is = ap (λ (those : List LiveShape). live_shape call ∷ those) (stays_at calls i d new (omega (arith, below)) is)

-- a call changes, and its shape stays
pub stays : (number : ℕ) (calls : List LiveCall) (i : ℕ) (d new : LiveCall) → position (λ (call : LiveCall). call.number == number) calls ≡ Some i →
    live_shape new ≡ live_shape (get_or calls i d) → live_shapes (set calls i new) ≡ live_shapes calls
stays number calls i d new e is = let f = position-Some (λ (call : LiveCall). call.number == number) calls i d e in stays_at calls i d new f.0 is

-- One call goes.
gone_at : (number : ℕ) (calls : List LiveCall) (i : ℕ) (d : LiveCall) → i < length calls → ((get_or calls i d).number == number) ≡ true →
    ((k : ℕ) → k < i → ((get_or calls k d).number == number) ≡ false) → live_shapes (remove calls i) ≡ without_live number (live_shapes calls)
gone_at number [] i d below is_so is_not = absurd (omega (arith, below))
gone_at number (call ∷ calls) zero d below is_so is_not =
    sym (ap (λ (b : Bool). cond b (live_shapes calls) (live_shape call ∷ without_live number (live_shapes calls))) is_so)
gone_at number (call ∷ calls) (suc i) d below is_so is_not =
    ap (λ (those : List LiveShape). live_shape call ∷ those) (gone_at number calls i d (omega (arith, below)) is_so (λ k lt. is_not (suc k) (omega (arith, lt))))
    ∙ sym (ap (λ (b : Bool). cond b (live_shapes calls) (live_shape call ∷ without_live number (live_shapes calls))) (is_not zero (omega arith)))

pub gone : (number : ℕ) (calls : List LiveCall) (i : ℕ) (d : LiveCall) → position (λ (call : LiveCall). call.number == number) calls ≡ Some i →
    live_shapes (remove calls i) ≡ without_live number (live_shapes calls)
gone number calls i d e = let f = position-Some (λ (call : LiveCall). call.number == number) calls i d e in gone_at number calls i d f.0 f.1 f.2

-- One call comes, since none is there of its call-id.
pub comes : (calls new : List LiveCall) (call : LiveCall) (there : Bool) → new ≡ (if there then calls else calls ++ call ∷ []) → there ≡ false →
    live_shapes new ≡ live_shapes calls ++ live_shape call ∷ []
comes calls new call true is absent = absurd (let f = absent in cc)
comes calls new call false is absent = ap live_shapes is ∙ map_push (λ (c : LiveCall). live_shape c) calls call

-- the marks of the cells, by what a mark does
pub marked : (cell : ℕ) (is_taken : Bool) (old new : List Bool) → (1 ≤ cell → new ≡ set old (cell - 1) is_taken) → (cell ≡ 0 → new ≡ old) → new ≡ with_mark cell is_taken old
marked zero is_taken old new some none = none refl
marked (suc place) is_taken old new some none =
    let same : suc place - 1 ≡ place = omega arith in some (omega arith) ∙ ap (λ (n : ℕ). set old n is_taken) same

-- The first cell that isn't taken, where there are so many.
is_false : (b : Bool) → not b ≡ true → b ≡ false
is_false true is = absurd (let f = is in cc)
is_false false is = refl

free_if : (taken : List Bool) (count place : ℕ) (cell : Option ℕ) (b : Bool) → nat_lt place count ≡ b → get_or taken place true ≡ false → cell ≡ (if b then Some (place + 1) else None) →
    IfSome cell (IsFreeCell count taken)
free_if taken count place None b within free is = _
free_if taken count place (Some cell) false within free is = absurd (let f = is in cc)
free_if taken count place (Some cell) true within free is =
    let same : cell ≡ place + 1 = (let f = is in cc) in
    let low : place < count = grind (arith, nat_tests) in
    let at : place ≡ cell - 1 = omega (arith, same) in record {
      from_one = omega (arith, same);
      within = omega (arith, same, low);
      is_free = subst (λ (k : ℕ). get_or taken k true ≡ false) at free;
    }

pub free_cell : (taken : List Bool) (count place : ℕ) (cell : Option ℕ) → position not taken ≡ Some place → cell ≡ (if nat_lt place count then Some (place + 1) else None) →
    IfSome cell (IsFreeCell count taken)
free_cell taken count place cell found is =
    let f = position-Some not taken place true found in
    free_if taken count place cell (nat_lt place count) refl (is_false (get_or taken place true) f.1) is

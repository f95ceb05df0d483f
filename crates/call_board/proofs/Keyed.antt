-- Calls under their call-ids: a look-up, what goes and what comes.
use Rattle.std.proofs.Common.{◌≡◌, ◌∙◌, refl, sym, ap, ℕ, zero, suc, ◌+◌, ◌<◌, List, [], ◌∷◌, ◌++◌, length, map, set, remove, get_or, Bool, true, false, cond, not, nat_eq, nat_lt, Option, Some, None, Result, Ok, Err, IsOk, OnOk, Vec, slice_get, position, arith, if◌then◌else◌}
use Rattle.std.specs.Prelude.{◌||◌, is_some}
use Rattle.std.specs.Cmp.Lexicographic.{pointwise, bytes_decides}
use Rattle.std.specs.List.{list_any, position_or_len}
use Rattle.std.specs.Map.{keys_of, values_of, lookup}
use Rattle.std.specs.Str.{bytes_eq}
use Rattle.std.proofs.lemmas.Map.Entries.{length-keys_of, length-values_of}
use Rattle.indexmap.specs.IndexMap.{insert_entry, set_value_at}
use Rattle.call_board.specs.declared.live_call.LiveCall.{LiveCall}
use Rattle.call_board.specs.CallIds.{AreUnderTheirIds}
use Rattle.call_board.proofs.Placed.{any-position}

one_test : (a b : Bool) → (a ≡ true → b ≡ true) → (b ≡ true → a ≡ true) → a ≡ b
one_test true true f g = refl
one_test true false f g = sym (f refl)
one_test false true f g = g refl
one_test false false f g = refl

same_test : (id key text : List ℕ) → key ≡ text → pointwise nat_eq id key ≡ bytes_eq text id
same_test id key text same =
    one_test (pointwise nat_eq id key) (bytes_eq text id) (λ h. (bytes_decides text id).1 (sym ((bytes_decides id key).0 h ∙ same)))
    (λ h. (bytes_decides id key).1 (sym (same ∙ (bytes_decides text id).0 h)))

there_case : {X : Type 0} (a b : Bool) (x : X) (rest : Option X) (any : Bool) → a ≡ b → (b || any) ≡ false → (any ≡ false → rest ≡ None) → cond a (Some x) rest ≡ None
there_case a true x rest any same none more = absurd (let f = none in cc)
there_case a false x rest any same none more = ap (λ c. cond c (Some x) rest) same ∙ more none

-- the call has this call-id
abbrev pub has_id : List ℕ → LiveCall → Bool
has_id id call = bytes_eq call.id.list id

module _ {A : Type 0} where
  -- the key has these bytes
  abbrev pub has_bytes : List ℕ → Vec ℕ A → Bool
  has_bytes id key = pointwise nat_eq id key.items

  -- the keys are the call-ids
  pub keys_are : (es : List (Vec ℕ A × LiveCall)) → AreUnderTheirIds es → map (λ (key : Vec ℕ A). key.items) (keys_of es) ≡ map (λ (call : LiveCall). call.id.list) (values_of es)
  keys_are [] under = refl
  keys_are (e ∷ es) under = λ i. under.0 i ∷ keys_are es under.1 i

  same_index : (id : List ℕ) (es : List (Vec ℕ A × LiveCall)) → AreUnderTheirIds es → position_or_len (has_bytes id) (keys_of es) ≡ position_or_len (has_id id) (values_of es)
  same_index id [] under = refl
  same_index id (e ∷ es) under = λ i. if not (same_test id e.0.items e.1.id.list under.0 i) then 1 + same_index id es under.1 i else 0

  -- a call-id stands where its key does
  pub same_place : (id : List ℕ) (es : List (Vec ℕ A × LiveCall)) → AreUnderTheirIds es → position (has_bytes id) (keys_of es) ≡ position (has_id id) (values_of es)
  same_place id es under =
      let index = same_index id es under in
      let long : length (keys_of es) ≡ length (values_of es) = length-keys_of es ∙ sym (length-values_of es) in
      λ i. if nat_lt (index i) (long i) then Some (index i) else None

  -- a call-id that no call has is no key
  pub not_there : (id : List ℕ) (es : List (Vec ℕ A × LiveCall)) → AreUnderTheirIds es → list_any (has_id id) (values_of es) ≡ false → lookup (has_bytes id) es ≡ None
  not_there id [] under none = refl
  not_there id (e ∷ es) under none =
      there_case (has_bytes id e.0) (has_id id e.1) e.1 (lookup (has_bytes id) es) (list_any (has_id id) (values_of es)) (same_test id e.0.items e.1.id.list under.0) none
      (not_there id es under.1)

  pub values-push : (es : List (Vec ℕ A × LiveCall)) (e : Vec ℕ A × LiveCall) → values_of (es ++ e ∷ []) ≡ values_of es ++ e.1 ∷ []
  values-push [] e = refl
  values-push (x ∷ es) e = ap (λ calls. x.1 ∷ calls) (values-push es e)

  insert_case : (key : Vec ℕ A) (call : LiveCall) (e : Vec ℕ A × LiveCall) (es rest : List (Vec ℕ A × LiveCall)) → key.items ≡ call.id.list → AreUnderTheirIds (e ∷ es) → AreUnderTheirIds rest
      → (b : Bool) → pointwise nat_eq key.items e.0.items ≡ b → AreUnderTheirIds (if b then (e.0, call) ∷ es else e ∷ rest)
  insert_case key call e es rest same under more true is = (sym ((bytes_decides key.items e.0.items).0 is) ∙ same, under.1)
  insert_case key call e es rest same under more false is = (under.0, more)

  -- so each stands when one more came
  pub under-insert : (key : Vec ℕ A) (call : LiveCall) (es : List (Vec ℕ A × LiveCall)) → key.items ≡ call.id.list → AreUnderTheirIds es
      → AreUnderTheirIds (insert_entry (λ x y. pointwise nat_eq x.items y.items) es key call)
  under-insert key call [] same under = (same, tt)
  under-insert key call (e ∷ es) same under =
      insert_case key call e es (insert_entry (λ x y. pointwise nat_eq x.items y.items) es key call) same under (under-insert key call es same under.1)
      (pointwise nat_eq key.items e.0.items) refl

  pub values-remove : (es : List (Vec ℕ A × LiveCall)) (i : ℕ) → values_of (remove es i) ≡ remove (values_of es) i
  values-remove [] zero = refl
  values-remove [] (suc i) = refl
  values-remove (e ∷ es) zero = refl
  values-remove (e ∷ es) (suc i) = ap (λ calls. e.1 ∷ calls) (values-remove es i)

  -- when one went
  pub under-remove : (es : List (Vec ℕ A × LiveCall)) (i : ℕ) → AreUnderTheirIds es → AreUnderTheirIds (remove es i)
  under-remove [] zero under = tt
  under-remove [] (suc i) under = tt
  under-remove (e ∷ es) zero under = under.1
  under-remove (e ∷ es) (suc i) under = (under.0, under-remove es i under.1)

  pub values-set : (es : List (Vec ℕ A × LiveCall)) (i : ℕ) (call : LiveCall) → values_of (set_value_at es i call) ≡ set (values_of es) i call
  values-set [] zero call = refl
  values-set [] (suc i) call = refl
  values-set (e ∷ es) zero call = refl
  values-set (e ∷ es) (suc i) call = ap (λ calls. e.1 ∷ calls) (values-set es i call)

  -- and when one changed that keeps its call-id
  pub under-set : (es : List (Vec ℕ A × LiveCall)) (i : ℕ) (before after : LiveCall) → slice_get (values_of es) i ≡ Some before → after.id ≡ before.id → AreUnderTheirIds es
      → AreUnderTheirIds (set_value_at es i after)
  under-set [] i before after at same under = tt
  under-set (e ∷ es) zero before after at same under =
      let one : e.1 ≡ before = cc in
      (under.0 ∙ ap (λ (call : LiveCall). call.id.list) one ∙ ap (λ text. text.list) (sym same), under.1)
  under-set (e ∷ es) (suc i) before after at same under = (under.0, under-set es i before after at same under.1)

  -- the call of an entry
  pub call_at : (es : List (Vec ℕ A × LiveCall)) (i : ℕ) (e : Vec ℕ A × LiveCall) → slice_get es i ≡ Some e → e.1 ≡ get_or (values_of es) i e.1
  call_at [] zero e at = absurd (let f = at in cc)
  call_at [] (suc i) e at = absurd (let f = at in cc)
  call_at (x ∷ es) zero e at = let same : x ≡ e = cc in sym (ap (λ (p : Vec ℕ A × LiveCall). p.1) same)
  call_at (x ∷ es) (suc i) e at = call_at es i e at

  -- there is an entry in each place
  pub none_past : (es : List (Vec ℕ A × LiveCall)) (i : ℕ) → i < length es → slice_get es i ≡ None → ⊥
  none_past [] i below none = absurd (omega (arith, below))
  none_past (e ∷ es) zero below none = let f = none in cc
  none_past (e ∷ es) (suc i) below none = none_past es i (omega (arith, below)) none

pub on_ok : {X Y : Type 0} (r : Result X Y) (P : Type 0) → IsOk r → OnOk r P → P
on_ok (Ok x) P is h = h
on_ok (Err y) P is h = cc

picked : {X : Type 0} (there : Bool) (which : Bool) (x y new : X) → there ≡ which → new ≡ (if which then x else y) → new ≡ (if there then x else y)
picked there which x y new same is = is ∙ ap (λ (b : Bool). if b then x else y) (sym same)

-- one more call comes where the search for its call-id ended so
pub one_more_where_none : (test : LiveCall → Bool) (calls new : List LiveCall) (call : LiveCall) → position test calls ≡ None → (list_any test calls ≡ false → new ≡ calls ++ call ∷ []) →
    new ≡ (if list_any test calls then calls else calls ++ call ∷ [])
one_more_where_none test calls new call absent more =
    let none : list_any test calls ≡ false = any-position test calls ∙ ap is_some absent in picked (list_any test calls) false calls (calls ++ call ∷ []) new none (more none)

-- and none where it ended so
pub none_more_where_some : (test : LiveCall → Bool) (calls new : List LiveCall) (call : LiveCall) (at : ℕ) → position test calls ≡ Some at → new ≡ calls →
    new ≡ (if list_any test calls then calls else calls ++ call ∷ [])
none_more_where_some test calls new call at there same =
    picked (list_any test calls) true calls (calls ++ call ∷ []) new (any-position test calls ∙ ap is_some there) same

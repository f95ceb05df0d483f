-- A list in which only relays were changed: it is as orderly as before.
use Rattle.std.proofs.Common.{◌≡◌, ◌∙◌, sym, ap, subst, refl, ℕ, zero, suc, ◌<◌, ◌⊎◌, inl, inr, List, [], ◌∷◌, ◌++◌, Bool, true, false, cond, Option, Some, map, length, filter, ◌==◌, arith}
use Rattle.std.specs.Prelude.{◌&&◌}
use Rattle.std.specs.List.{filter_map, cons_option}
use Rattle.std.proofs.lemmas.List.{length-map, map-append}
use Rattle.relay_outside.specs.declared.settings.Config.{Config}
use Rattle.histories.specs.Words.{In, here, there, Before, begins, goes_on}
use Rattle.histories.proofs.Lists.{mapped, maps, filtered}
use Rattle.call_board.specs.Acts.{BoardEntry}
use Rattle.call_board.specs.Fits.{FitsBoard}
use Rattle.relay_core.specs.Entries.{Entry, is_nested, is_at, belongs_to, history, board_entry, box_event, board_history, box_history}
use Rattle.relay_core.specs.Scripts.{owed_by, script}
use Rattle.relay_core.specs.Legal.{Orderly}
use Rattle.relay_core.proofs.Histories.{both}

-- Lists.

filter_case : {A B : Type 0} (f : A → B) (p : A → Bool) (q : B → Bool) (x : A) (xs : List A) → filter q (map f xs) ≡ map f (filter p xs) → (t : Bool)
    → cond t (f x ∷ filter q (map f xs)) (filter q (map f xs)) ≡ map f (cond t (x ∷ filter p xs) (filter p xs))
filter_case f p q x xs rest true = ap (λ (ys : List _). f x ∷ ys) rest
filter_case f p q x xs rest false = rest

-- a filter of changed elements, where the test doesn't see the change
pub filter_mapped : {A B : Type 0} (f : A → B) (p : A → Bool) (q : B → Bool) (xs : List A) → ((x : A) → q (f x) ≡ p x)
    → filter q (map f xs) ≡ map f (filter p xs)
filter_mapped f p q [] same = refl
filter_mapped f p q (x ∷ xs) same =
    ap (λ (t : Bool). cond t (f x ∷ filter q (map f xs)) (filter q (map f xs))) (same x)
    ∙ filter_case f p q x xs (filter_mapped f p q xs same) (p x)

pub picked_mapped : {A B C : Type 0} (f : A → B) (p : A → Option C) (q : B → Option C) (xs : List A) → ((x : A) → q (f x) ≡ p x)
    → filter_map q (map f xs) ≡ filter_map p xs
picked_mapped f p q [] same = refl
picked_mapped {C = C} f p q (x ∷ xs) same =
    ap (λ (o : Option C). cons_option o (filter_map q (map f xs))) (same x)
    ∙ ap (λ (ys : List C). cons_option (p x) ys) (picked_mapped f p q xs same)

pub same_map : {A B : Type 0} (f g : A → B) (xs : List A) → ((x : A) → In x xs → f x ≡ g x) → map f xs ≡ map g xs
same_map f g [] same = refl
same_map {B = B} f g (x ∷ xs) same =
    ap (λ (y : B). y ∷ map f xs) (same x (here refl)) ∙ ap (λ (ys : List B). g x ∷ ys) (same_map f g xs (λ y i. same y (there i)))

pub before_mapped : {A B : Type 0} (f : A → B) {x y : A} (xs : List A) → Before x y xs → Before (f x) (f y) (map f xs)
before_mapped f [] b = elim b [ ]
before_mapped f (z ∷ xs) (begins q i) = begins (ap f q) (maps f xs i)
before_mapped f (z ∷ xs) (goes_on b) = goes_on (before_mapped f xs b)

-- What the change keeps.
pub record Keeps (g : Entry → Entry) : Type 0 where
  pub place_is : (e : Entry) → (g e).place ≡ e.place
  pub number_is : (e : Entry) → (g e).number ≡ e.number
  pub moment_is : (e : Entry) → (g e).moment ≡ e.moment
  pub board_is : (e : Entry) → (g e).board ≡ e.board
  pub same_board : (e : Entry) → board_entry (g e) ≡ board_entry e
  pub same_box : (e : Entry) → box_event (g e) ≡ box_event e
  pub same_nested : (e : Entry) → is_nested (g e).event ≡ is_nested e.event
  pub same_owed : (e : Entry) → is_nested e.event ≡ true → owed_by (g e) ≡ owed_by e

module _ (g : Entry → Entry) (keeps : Keeps g) where
  at_same : (place number : ℕ) (e : Entry) → is_at place number (g e) ≡ is_at place number e
  at_same place number e =
      ap (λ (p : ℕ). (p == place) && ((g e).number == number)) (keeps.place_is e)
      ∙ ap (λ (n : ℕ). (e.place == place) && (n == number)) (keeps.number_is e)

  belongs_same : (n : ℕ) (e : Entry) → belongs_to n (g e) ≡ belongs_to n e
  belongs_same n e =
      ap (λ (t : Bool). t && ((g e).board == n)) (keeps.same_nested e) ∙ ap (λ (b : ℕ). is_nested e.event && (b == n)) (keeps.board_is e)

  pub at_mapped : (place number : ℕ) (l : List Entry) → filter (is_at place number) (map g l) ≡ map g (filter (is_at place number) l)
  at_mapped place number l = filter_mapped g (is_at place number) (is_at place number) l (at_same place number)

  pub history_mapped : (l : List Entry) (place n : ℕ) → history (map g l) place n ≡ map g (history l place n)
  history_mapped l place zero = refl
  history_mapped l place (suc n) =
      ap (λ (xs : List Entry). xs ++ history (map g l) place n) (at_mapped place n l)
      ∙ ap (λ (xs : List Entry). map g (filter (is_at place n) l) ++ xs) (history_mapped l place n)
      ∙ sym (map-append g (filter (is_at place n) l) (history l place n))

  pub board_mapped : (l : List Entry) (n : ℕ) → board_history (map g l) n ≡ board_history l n
  board_mapped l n =
      ap (λ (xs : List Entry). filter_map board_entry xs) (history_mapped l 0 n)
      ∙ picked_mapped g board_entry board_entry (history l 0 n) keeps.same_board

  pub box_mapped : (l : List Entry) (place n : ℕ) → box_history (map g l) place n ≡ box_history l place n
  box_mapped l place n =
      ap (λ (xs : List Entry). filter_map box_event xs) (history_mapped l place n)
      ∙ picked_mapped g box_event box_event (history l place n) keeps.same_box

  numbered_mapped : (config : Config) (l : List Entry) → Orderly config l → (e : Entry) → In e l
      → length (filter (is_at (g e).place (g e).number) (map g l)) ≡ 1
  numbered_mapped config l o e i =
      ap (λ (p : ℕ). length (filter (is_at p (g e).number) (map g l))) (keeps.place_is e)
      ∙ ap (λ (n : ℕ). length (filter (is_at e.place n) (map g l))) (keeps.number_is e)
      ∙ ap (λ (xs : List Entry). length xs) (at_mapped e.place e.number l)
      ∙ length-map (filter (is_at e.place e.number) l) g
      ∙ o.numbered e i

  fits_mapped : (config : Config) (l : List Entry) → Orderly config l → (b : Entry) (x : BoardEntry) → In b l → board_entry (g b) ≡ Some x
      → ((g b).place ≡ 0) × FitsBoard config (board_history (map g l) (g b).number) x
  fits_mapped config l o b x i h =
      let f = o.board_fits b x i (sym (keeps.same_board b) ∙ h) in (
        keeps.place_is b ∙ f.0,
        subst (λ (n : ℕ). FitsBoard config (board_history (map g l) n) x) (sym (keeps.number_is b))
            (subst (λ (h : List BoardEntry). FitsBoard config h x) (sym (board_mapped l b.number)) f.1),
      )

  -- the nested entries of a board entry owe the same
  owed_mapped : (l : List Entry) (n : ℕ) → map owed_by (filter (belongs_to n) (map g l)) ≡ map owed_by (filter (belongs_to n) l)
  owed_mapped l n =
      ap (λ (xs : List Entry). map owed_by xs) (filter_mapped g (belongs_to n) (belongs_to n) l (belongs_same n))
      ∙ twice (filter (belongs_to n) l)
      ∙ same_map (λ (e : Entry). owed_by (g e)) owed_by (filter (belongs_to n) l)
      (λ e i. keeps.same_owed e (both (is_nested e.event) (e.board == n) (filtered (belongs_to n) l i).1).0)
    where
      twice : (xs : List Entry) → map owed_by (map g xs) ≡ map (λ (e : Entry). owed_by (g e)) xs
      twice [] = refl
      twice (x ∷ xs) = ap (λ (ys : List _). owed_by (g x) ∷ ys) (twice xs)

  scripted_mapped : (config : Config) (l : List Entry) → Orderly config l → (b : Entry) (x : BoardEntry) → In b l → (g b).place ≡ 0
      → board_entry (g b) ≡ Some x
      → map owed_by (filter (belongs_to (g b).number) (map g l)) ≡ script config (board_history (map g l) (g b).number) x
  scripted_mapped config l o b x i p h =
      ap (λ (n : ℕ). map owed_by (filter (belongs_to n) (map g l))) (keeps.number_is b)
      ∙ owed_mapped l b.number
      ∙ o.scripted b x i (sym (keeps.place_is b) ∙ p) (sym (keeps.same_board b) ∙ h)
      ∙ ap (λ (k : List BoardEntry). script config k x) (sym (board_mapped l b.number))
      ∙ ap (λ (n : ℕ). script config (board_history (map g l) n) x) (sym (keeps.number_is b))

  abbrev BoardIn : List Entry → Entry → Type 0
  BoardIn l e = (b : Entry) × In b l × (b.place ≡ 0) × (b.number ≡ e.board) × ((x : BoardEntry) × (board_entry b ≡ Some x))

  nested_mapped : (config : Config) (l : List Entry) → Orderly config l → (e : Entry) → In e l → is_nested (g e).event ≡ true → BoardIn (map g l) (g e)
  nested_mapped config l o e i t =
      let b = o.nested e i (sym (keeps.same_nested e) ∙ t) in
      (g b.0, maps g l b.1, keeps.place_is b.0 ∙ b.2, keeps.number_is b.0 ∙ b.3 ∙ sym (keeps.board_is e), (b.4.0, keeps.same_board b.0 ∙ b.4.1))

  abbrev InOrder : List Entry → Entry → Entry → Type 0
  InOrder l e f = (e.board < f.board) ⊎ ((e.board ≡ f.board) × Before e f l)

  order_case : (l : List Entry) (e f : Entry) → InOrder l e f → InOrder (map g l) (g e) (g f)
  order_case l e f (inl k) = inl (let a = keeps.board_is e in let b = keeps.board_is f in omega (arith, k, a, b))
  order_case l e f (inr k) = inr (keeps.board_is e ∙ k.0 ∙ sym (keeps.board_is f), before_mapped g l k.1)

  ordered_mapped : (config : Config) (l : List Entry) → Orderly config l → (e f : Entry) → In e l → In f l → is_nested (g e).event ≡ true
      → is_nested (g f).event ≡ true → (g e).place ≡ (g f).place → (g e).number < (g f).number → InOrder (map g l) (g e) (g f)
  ordered_mapped config l o e f i j x y p k =
      order_case l e f
      (o.ordered e f i j (sym (keeps.same_nested e) ∙ x) (sym (keeps.same_nested f) ∙ y) (sym (keeps.place_is e) ∙ p ∙ keeps.place_is f)
      (let a = keeps.number_is e in let b = keeps.number_is f in omega (arith, k, a, b)))

  pub orderly_mapped : (config : Config) (l : List Entry) → Orderly config l → Orderly config (map g l)
  orderly_mapped config l o = record {
    numbered = λ e i.
        let m = mapped g l i in
        subst (λ (x : Entry). length (filter (is_at x.place x.number) (map g l)) ≡ 1) m.makes (numbered_mapped config l o m.from m.is_in);
    board_fits = λ b x i h.
        let m = mapped g l i in
        subst (λ (y : Entry). (y.place ≡ 0) × FitsBoard config (board_history (map g l) y.number) x) m.makes
        (fits_mapped config l o m.from x m.is_in (ap (λ (y : Entry). board_entry y) m.makes ∙ h));
    scripted = λ b x i p h.
        let m = mapped g l i in
        subst (λ (y : Entry). map owed_by (filter (belongs_to y.number) (map g l)) ≡ script config (board_history (map g l) y.number) x) m.makes
        (scripted_mapped config l o m.from x m.is_in (ap (λ (y : Entry). y.place) m.makes ∙ p) (ap (λ (y : Entry). board_entry y) m.makes ∙ h));
    nested = λ e i t.
        let m = mapped g l i in
        subst (λ (y : Entry). BoardIn (map g l) y) m.makes (nested_mapped config l o m.from m.is_in (ap (λ (y : Entry). is_nested y.event) m.makes ∙ t));
    ordered = λ e f i j x y p k.
        let m = mapped g l i in
        let n = mapped g l j in
        subst (λ (a : Entry). InOrder (map g l) a f) m.makes
        (subst (λ (b : Entry). InOrder (map g l) (g m.from) b) n.makes
        (ordered_mapped config l o m.from n.from m.is_in n.is_in (ap (λ (a : Entry). is_nested a.event) m.makes ∙ x)
        (ap (λ (b : Entry). is_nested b.event) n.makes ∙ y)
        (ap (λ (a : Entry). a.place) m.makes ∙ p ∙ ap (λ (b : Entry). b.place) (sym n.makes))
        (let a = ap (λ (z : Entry). z.number) m.makes in let b = ap (λ (z : Entry). z.number) n.makes in omega (arith, k, a, b))));
  }

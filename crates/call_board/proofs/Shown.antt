-- What a board that shows a view keeps of its live calls.
use Rattle.std.proofs.Common.{◌≡◌, refl, ap, subst, sym, ◌∙◌, ℕ, zero, suc, ◌<◌, Bool, true, false, cond, List, [], ◌∷◌, length, map, filter, Option, Some, None, arith, get_or}
use Rattle.std.specs.Prelude.{◌||◌, ◌==◌, is_some, position, slice_get}
use Rattle.std.specs.List.{list_any}
use Rattle.std.specs.Str.{bytes_eq}
use Rattle.std.proofs.lemmas.List.Quantifiers.{position-Some}
use Rattle.relay_outside.specs.declared.settings.Config.{Config}
use Rattle.histories.specs.Words.{first}
use Rattle.offer_answer.specs.Rounds.{Round}
use Rattle.offer_answer.specs.Dialogs.{DialogFor}
use Rattle.offer_answer.specs.declared.dialog.Dialog.{Dialog}
use Rattle.call_board.proofs.Placed.{any-position}
use Rattle.call_board.specs.declared.live_call.LiveCall.{LiveCall}
use Rattle.call_board.specs.Views.{CallView, View, is_of_id, is_call_numbered, call_numbered}
use Rattle.call_board.specs.Boards.{CallFor, CallsFor, CallMatches}

pub calls_count : (config : Config) (calls : List LiveCall) (cs : List CallView) → CallsFor config calls cs → length calls ≡ length cs
calls_count config [] [] s = refl
calls_count config [] (c ∷ cs) s = elim s [ ]
calls_count config (call ∷ calls) [] s = elim s [ ]
calls_count config (call ∷ calls) (c ∷ cs) s = ap suc (calls_count config calls cs s.1)

pub numbered_at : (config : Config) (calls : List LiveCall) (cs : List CallView) (i : ℕ) (d : LiveCall) → CallsFor config calls cs → i < length calls →
    slice_get (map (λ (c : CallView). c.of.number) cs) i ≡ Some (get_or calls i d).number
numbered_at config [] cs i d s below = absurd (omega (arith, below))
numbered_at config (call ∷ calls) [] i d s below = elim s [ ]
numbered_at config (call ∷ calls) (c ∷ cs) zero d s below = ap Some (sym s.0.number_is)
numbered_at config (call ∷ calls) (c ∷ cs) (suc i) d s below = numbered_at config calls cs i d s.1 (omega (arith, below))

pub cell_at : (config : Config) (calls : List LiveCall) (cs : List CallView) (i : ℕ) (d : LiveCall) → CallsFor config calls cs → i < length calls →
    slice_get (map (λ (c : CallView). c.of.cell) cs) i ≡ Some (get_or calls i d).cell
cell_at config [] cs i d s below = absurd (omega (arith, below))
cell_at config (call ∷ calls) [] i d s below = elim s [ ]
cell_at config (call ∷ calls) (c ∷ cs) zero d s below = ap Some (sym s.0.cell_is)
cell_at config (call ∷ calls) (c ∷ cs) (suc i) d s below = cell_at config calls cs i d s.1 (omega (arith, below))

pub id_at : (config : Config) (calls : List LiveCall) (cs : List CallView) (i : ℕ) (d : LiveCall) → CallsFor config calls cs → i < length calls →
    slice_get (map (λ (c : CallView). c.of.id) cs) i ≡ Some (get_or calls i d).id.list
id_at config [] cs i d s below = absurd (omega (arith, below))
id_at config (call ∷ calls) [] i d s below = elim s [ ]
id_at config (call ∷ calls) (c ∷ cs) zero d s below = ap Some (sym s.0.id_is)
id_at config (call ∷ calls) (c ∷ cs) (suc i) d s below = id_at config calls cs i d s.1 (omega (arith, below))

-- the call-ids are those that are kept
pub ids_are : (config : Config) (calls : List LiveCall) (cs : List CallView) → CallsFor config calls cs → map (λ (call : LiveCall). call.id.list) calls ≡ map (λ (c : CallView). c.of.id) cs
ids_are config [] [] s = refl
ids_are config [] (c ∷ cs) s = elim s [ ]
ids_are config (call ∷ calls) [] s = elim s [ ]
ids_are config (call ∷ calls) (c ∷ cs) s = λ i. s.0.id_is i ∷ ids_are config calls cs s.1 i

-- a question to a live call, and the same one to what is kept of it
pub record Asks (config : Config) (p : LiveCall → Bool) (q : CallView → Bool) : Type 0 where
  pub alike : (call : LiveCall) (c : CallView) → CallFor config call c → p call ≡ q c

pub asks_id : (config : Config) (id : List ℕ) → Asks config (λ call. bytes_eq call.id.list id) (is_of_id id)
asks_id config id = record { alike = λ call c for_it. ap (λ text. bytes_eq text id) for_it.id_is }

pub asks_number : (config : Config) (number : ℕ) → Asks config (λ call. call.number == number) (is_call_numbered number)
asks_number config number = record { alike = λ call c for_it. ap (λ n. n == number) for_it.number_is }

-- the first call that passes
pub record IsFirst (config : Config) (q : CallView → Bool) (cs : List CallView) (call : LiveCall) : Type 0 where
  pub of : CallView
  pub found : first (filter q cs) ≡ Some of
  pub call_for : CallFor config call of

first_call : (config : Config) (p : LiveCall → Bool) (q : CallView → Bool) (calls : List LiveCall) (cs : List CallView) (i : ℕ) (d : LiveCall) → Asks config p q → CallsFor config calls cs →
    i < length calls → p (get_or calls i d) ≡ true → ((k : ℕ) → k < i → p (get_or calls k d) ≡ false) → IsFirst config q cs (get_or calls i d)
first_call config p q [] cs i d alike s below is_so is_not = absurd (omega (arith, below))
first_call config p q (call ∷ calls) [] i d alike s below is_so is_not = elim s [ ]
first_call config p q (call ∷ calls) (c ∷ cs) zero d alike s below is_so is_not = record {
  of = c;
  found = ap (λ (b : Bool). first (cond b (c ∷ filter q cs) (filter q cs))) (sym (alike.alike call c s.0) ∙ is_so);
  call_for = s.0;
}
first_call config p q (call ∷ calls) (c ∷ cs) (suc i) d alike s below is_so is_not =
    let more = first_call config p q calls cs i d alike s.1 (omega (arith, below)) is_so (λ k lt. is_not (suc k) (omega (arith, lt))) in record {
      of = more.of;
      found = ap (λ (b : Bool). first (cond b (c ∷ filter q cs) (filter q cs))) (sym (alike.alike call c s.0) ∙ is_not zero (omega arith)) ∙ more.found;
      call_for = more.call_for;
    }

pub call_at_place : (config : Config) (p : LiveCall → Bool) (q : CallView → Bool) (calls : List LiveCall) (cs : List CallView) (i : ℕ) (d : LiveCall) → Asks config p q → CallsFor config calls cs →
    position p calls ≡ Some i → IsFirst config q cs (get_or calls i d)
call_at_place config p q calls cs i d alike s e =
    let f = position-Some p calls i d e in first_call config p q calls cs i d alike s f.0 f.1 f.2

or_one : (a b : Bool) → (a || b) ≡ false → a ≡ false
or_one true b q = absurd (let f = q in cc)
or_one false b q = refl

or_two : (a b : Bool) → (a || b) ≡ false → b ≡ false
or_two true b q = absurd (let f = q in cc)
or_two false b q = q

pub none_first : (config : Config) (p : LiveCall → Bool) (q : CallView → Bool) (calls : List LiveCall) (cs : List CallView) → Asks config p q → CallsFor config calls cs →
    list_any p calls ≡ false → first (filter q cs) ≡ None
none_first config p q [] [] alike s e = refl
none_first config p q [] (c ∷ cs) alike s e = elim s [ ]
none_first config p q (call ∷ calls) [] alike s e = elim s [ ]
none_first config p q (call ∷ calls) (c ∷ cs) alike s e =
    ap (λ (b : Bool). first (cond b (c ∷ filter q cs) (filter q cs))) (sym (alike.alike call c s.0) ∙ or_one (p call) (list_any p calls) e)
    ∙ none_first config p q calls cs alike s.1 (or_two (p call) (list_any p calls) e)

pub no_call_found : (config : Config) (p : LiveCall → Bool) (q : CallView → Bool) (calls : List LiveCall) (cs : List CallView) → Asks config p q → CallsFor config calls cs →
    position p calls ≡ None → first (filter q cs) ≡ None
no_call_found config p q calls cs alike s e =
    none_first config p q calls cs alike s (any-position p calls ∙ ap is_some e)

has_case : {C : Type 0} (a b : Bool) (c : C) (cs : List C) (rest : Bool) → a ≡ b → first (cond b (c ∷ cs) cs) ≡ None → (first cs ≡ None → rest ≡ false) → (a || rest) ≡ false
has_case a true c cs rest same none more = absurd (let f = none in cc)
has_case a false c cs rest same none more = ap (λ b. b || rest) same ∙ more none

pub none_has : (config : Config) (p : LiveCall → Bool) (q : CallView → Bool) (calls : List LiveCall) (cs : List CallView) → Asks config p q → CallsFor config calls cs →
    first (filter q cs) ≡ None → list_any p calls ≡ false
none_has config p q [] [] alike s none = refl
none_has config p q [] (c ∷ cs) alike s none = elim s [ ]
none_has config p q (call ∷ calls) [] alike s none = elim s [ ]
none_has config p q (call ∷ calls) (c ∷ cs) alike s none =
    has_case (p call) (q c) c (filter q cs) (list_any p calls) (alike.alike call c s.0) none (none_has config p q calls cs alike s.1)

-- a live call has a place
pub live_has_place : (calls : List LiveCall) (number : ℕ) → list_any (λ (call : LiveCall). call.number == number) calls ≡ true →
    position (λ (call : LiveCall). call.number == number) calls ≡ None → ⊥
live_has_place calls number live none =
    let f : true ≡ false = sym live ∙ any-position (λ (call : LiveCall). call.number == number) calls ∙ ap is_some none in cc

-- what is kept of a live call, in its place
pub shown_call : (config : Config) (v : View) (calls : List LiveCall) (number i : ℕ) (d : LiveCall) → CallsFor config calls v.calls →
    position (λ (call : LiveCall). call.number == number) calls ≡ Some i → CallMatches config v number (get_or calls i d)
shown_call config v calls number i d s e =
    let f = call_at_place config (λ (call : LiveCall). call.number == number) (is_call_numbered number) calls v.calls i d (asks_number config number) s e in
    record { of = f.of; found = f.found; call_for = f.call_for }

pub same_one : {A : Type 0} {o : Option A} {x y : A} → o ≡ Some x → o ≡ Some y → x ≡ y
same_one {A} {o} {x} {y} e f = let q : Some x ≡ Some y = sym e ∙ f in cc

-- the call that is shown is that of this number
pub shown_is : (config : Config) (v : View) (number : ℕ) (call : LiveCall) (c : CallView) → CallMatches config v number call → call_numbered v number ≡ Some c → CallFor config call c
shown_is config v number call c shown e = subst (λ (of : CallView). CallFor config call of) (same_one shown.found e) shown.call_for

-- a dialog that a box lends stands for what the box's does
pub lent_for : {config : Config} {rounds : List Round} {dialog lent : Dialog} → lent ≡ dialog → DialogFor config dialog rounds → DialogFor config lent rounds
lent_for {config} {rounds} {dialog} {lent} is stands = subst (λ (d : Dialog). DialogFor config d rounds) (sym is) stands

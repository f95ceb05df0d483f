-- The live call that a board finds by a call-id.
use Rattle.std.proofs.Common.{◌≡◌, ◌∙◌, refl, sym, ap, subst, ℕ, List, Option, Some, None}
use Rattle.std.specs.Prelude.{option_map, filter}
use Rattle.std.specs.Str.{bytes_eq}
use Rattle.relay_outside.specs.declared.settings.Config.{Config}
use Rattle.histories.specs.Words.{In}
use Rattle.histories.proofs.Lists.{filtered, first_is_in}
use Rattle.call_board.specs.Acts.{Call, BoardEntry}
use Rattle.call_board.specs.Calls.{live, find_call}
use Rattle.call_board.specs.Fits.{IsFitting}
use Rattle.call_board.specs.Views.{CallView, call_view, view_of, view_at_moment, call_of_id, call_numbered}
use Rattle.call_board.proofs.Found.{found_by_id, found_by_number}

-- the live call of this call-id has this number
pub record IsFoundCall (h : List BoardEntry) (id : List ℕ) (call : ℕ) : Type 0 where
  pub of : Call
  pub is : find_call h id ≡ Some of
  pub alive : In of (live h)
  pub number_is : of.number ≡ call

found_case : (h : List BoardEntry) (id : List ℕ) (call : ℕ) (o : Option Call) → find_call h id ≡ o
    → Some call ≡ option_map (λ (c : CallView). c.of.number) (option_map (call_view h) o) → IsFoundCall h id call
found_case h id call None is finds = absurd (let none : Some call ≡ None = finds in cc)
found_case h id call (Some of) is finds = record {
  of = of;
  is = is;
  alive = (filtered (λ (c : Call). bytes_eq c.id id) (live h) (first_is_in (filter (λ (c : Call). bytes_eq c.id id) (live h)) is)).0;
  number_is = let same : Some call ≡ Some of.number = finds in cc;
}

-- the number that the board finds by a call-id
abbrev pub number_by_id : Config → List BoardEntry → ℕ → List ℕ → Option ℕ
number_by_id config h moment id = option_map (λ (c : CallView). c.of.number) (call_of_id (view_at_moment (view_of config h) moment) id)

number_is : (config : Config) (h : List BoardEntry) (moment : ℕ) (said id : List ℕ) → said ≡ id
    → number_by_id config h moment said ≡ option_map (λ (c : CallView). c.of.number) (option_map (call_view h) (find_call h id))
number_is config h moment said id is =
    ap (number_by_id config h moment) is ∙ ap (option_map (λ (c : CallView). c.of.number)) (found_by_id config h id)

-- a call that the board finds
pub found_call : (config : Config) (h : List BoardEntry) (moment : ℕ) (said id : List ℕ) (call : ℕ) (answer : Option ℕ)
    → answer ≡ number_by_id config h moment said → said ≡ id → answer ≡ Some call → IsFoundCall h id call
found_call config h moment said id call answer finds is some =
    found_case h id call (find_call h id) refl (sym some ∙ finds ∙ number_is config h moment said id is)

-- it is found by its number
pub called : (config : Config) (h : List BoardEntry) (moment : ℕ) (id : List ℕ) (call : ℕ) → IsFitting config h → (f : IsFoundCall h id call)
    → call_numbered (view_at_moment (view_of config h) moment) call ≡ Some (call_view h f.of)
called config h moment id call fits f =
    subst (λ (k : ℕ). call_numbered (view_of config h) k ≡ Some (call_view h f.of)) f.number_is (found_by_number config h f.of fits f.alive)

none_case : (h : List BoardEntry) (o : Option Call) → None ≡ option_map (λ (c : CallView). c.of.number) (option_map (call_view h) o) → o ≡ None
none_case h None finds = refl
none_case h (Some of) finds = absurd (let none : None ≡ Some of.number = finds in cc)

-- the board finds none
pub no_call : (config : Config) (h : List BoardEntry) (moment : ℕ) (said id : List ℕ) (answer : Option ℕ)
    → answer ≡ number_by_id config h moment said → said ≡ id → answer ≡ None → find_call h id ≡ None
no_call config h moment said id answer finds is none =
    none_case h (find_call h id) (sym none ∙ finds ∙ number_is config h moment said id is)

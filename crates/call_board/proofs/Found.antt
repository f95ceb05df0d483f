-- Which live call is found, by its number or by its call-id, and what holds of the live calls that a board keeps.
use Rattle.std.proofs.Common.{◌≡◌, ◌∙◌, refl, sym, ap, subst, ℕ, ◌≤◌, List, [], ◌∷◌, map, filter, Bool, true, false, cond, not, ◌==◌, Option, Some, None}
use Rattle.std.specs.Prelude.{option_map}
use Rattle.std.specs.List.{list_any}
use Rattle.relay_outside.specs.declared.settings.Config.{Config}
use Rattle.histories.specs.Words.{In, here, there, first, has}
use Rattle.histories.proofs.Lists.{filtered, keeps, maps, mapped, equal, equal_if, first_is_in}
use Rattle.offer_answer.specs.Sides.{is_begun}
use Rattle.call_board.specs.declared.board.Board.{Board}
use Rattle.call_board.specs.declared.live_call.LiveCall.{LiveCall}
use Rattle.call_board.specs.Acts.{Call, BoardEntry}
use Rattle.call_board.specs.Calls.{live, find_call, rounds}
use Rattle.call_board.specs.Fits.{IsFitting}
use Rattle.call_board.specs.Views.{View, CallView, call_view, view_of, is_of_id, is_call_numbered, call_of_id, call_numbered}
use Rattle.call_board.specs.Boards.{BoardMatches, IsLive, CellsApart}
use Rattle.call_board.specs.Whole.{with_ended}
use Rattle.call_board.proofs.Once.{Once, once_equal, once_filtered}
use Rattle.call_board.proofs.Sieves.{is_out}
use Rattle.call_board.proofs.Calls.{live_begun}
use Rattle.call_board.proofs.Cells.{live_cells_once, live_cell}
use Rattle.call_board.proofs.Shown.{asks_number, none_first}
use Rattle.call_board.proofs.FreeAfter.{live_once}
use Rattle.call_board.proofs.CallsAfter.{Views, rounds_had, cleared, cleared_map}
use Rattle.call_board.proofs.Entries.{ended_are}

-- The first of a list.

filter_case : {A B : Type 0} (f : A → B) (p : B → Bool) (x : A) (xs : List A) → filter p (map f xs) ≡ map f (filter (λ y. p (f y)) xs) → (b : Bool) →
    cond b (f x ∷ filter p (map f xs)) (filter p (map f xs)) ≡ map f (cond b (x ∷ filter (λ y. p (f y)) xs) (filter (λ y. p (f y)) xs))
filter_case f p x xs rest true = ap (λ ys. f x ∷ ys) rest
filter_case f p x xs rest false = rest

pub filter_map_is : {A B : Type 0} (f : A → B) (p : B → Bool) (xs : List A) → filter p (map f xs) ≡ map f (filter (λ x. p (f x)) xs)
filter_map_is f p [] = refl
filter_map_is f p (x ∷ xs) = filter_case f p x xs (filter_map_is f p xs) (p (f x))

first_map : {A B : Type 0} (f : A → B) (xs : List A) → first (map f xs) ≡ option_map f (first xs)
first_map f [] = refl
first_map f (x ∷ xs) = refl

first_found : {A B : Type 0} (f : A → B) (p : B → Bool) (xs : List A) → first (filter p (map f xs)) ≡ option_map f (first (filter (λ x. p (f x)) xs))
first_found f p xs = ap first (filter_map_is f p xs) ∙ first_map f (filter (λ x. p (f x)) xs)

-- By a call-id.

-- the board finds the call that the history finds
pub found_by_id : (config : Config) (h : List BoardEntry) (id : List ℕ) → call_of_id (view_of config h) id ≡ option_map (call_view h) (find_call h id)
found_by_id config h id = first_found (call_view h) (is_of_id id) (live h)

-- By a number.

none_in : {A : Type 0} {x : A} (xs : List A) → first xs ≡ None → In x xs → ⊥
none_in [] none i = elim i [ ]
none_in (y ∷ ys) none i = let e = none in cc

number_case : (calls : List Call) (c : Call) → Once (map (λ (d : Call). d.number) calls) → In c calls → (o : Option Call) → first (filter (λ (d : Call). d.number == c.number) calls) ≡ o → o ≡ Some c
number_case calls c once i None is = absurd (none_in (filter (λ (d : Call). d.number == c.number) calls) is (keeps (λ (d : Call). d.number == c.number) calls i (equal c.number c.number refl)))
number_case calls c once i (Some d) is =
    let f = filtered (λ (d : Call). d.number == c.number) calls (first_is_in (filter (λ (d : Call). d.number == c.number) calls) is) in
    ap Some (once_equal (λ (d : Call). d.number) calls once f.0 i (equal_if d.number c.number f.1))

-- a call of a list in which each number stands once is found by its number
pub found_in : (h : List BoardEntry) (calls : List Call) (c : Call) → Once (map (λ (d : Call). d.number) calls) → In c calls →
    first (filter (is_call_numbered c.number) (map (call_view h) calls)) ≡ Some (call_view h c)
found_in h calls c once i =
    first_found (call_view h) (is_call_numbered c.number) calls
    ∙ ap (option_map (call_view h)) (number_case calls c once i (first (filter (λ (d : Call). d.number == c.number) calls)) refl)

-- a live call is found by its number
pub found_by_number : (config : Config) (h : List BoardEntry) (c : Call) → IsFitting config h → In c (live h) → call_numbered (view_of config h) c.number ≡ Some (call_view h c)
found_by_number config h c fits i = found_in h (live h) c (live_once config h fits) i

-- it has rounds
pub live_is_begun : (h : List BoardEntry) (c : Call) → In c (live h) → is_begun (rounds h c.number) ≡ true
live_is_begun h c i = (rounds_had h c (live_begun h c i)).0

-- On the board.

live_case : (config : Config) (board : Board) (v : View) (number : ℕ) (c : CallView) → BoardMatches config board v → call_numbered v number ≡ Some c → (b : Bool) →
    list_any (λ (call : LiveCall). call.number == number) board.calls.list ≡ b → b ≡ true
live_case config board v number c s found true is = refl
live_case config board v number c s found false is =
    let none = none_first config (λ (call : LiveCall). call.number == number) (is_call_numbered number) board.calls.list v.calls (asks_number config number) s.calls_for is in
    let wrong : None ≡ Some c = sym none ∙ found in absurd (cc)

-- a call that is found is live on the board
pub found_is_live : (config : Config) (board : Board) (v : View) (number : ℕ) (c : CallView) → BoardMatches config board v → call_numbered v number ≡ Some c → IsLive board number
found_is_live config board v number c s found = live_case config board v number c s found (list_any (λ (call : LiveCall). call.number == number) board.calls.list) refl

-- The cells.

abbrev cell_of : Call → ℕ
cell_of c = c.cell

cell_free : (h : List BoardEntry) (c : Call) (calls : List Call) → (In c.cell (map cell_of calls) → ⊥) → has (map (λ (d : CallView). d.of.cell) (map (call_view h) calls)) c.cell ≡ false
cell_free h c calls out =
    is_out c.cell (map (λ (d : CallView). d.of.cell) (map (call_view h) calls))
    (λ i. let m = mapped (λ (d : CallView). d.of.cell) (map (call_view h) calls) i in
    let n = mapped (call_view h) calls m.is_in in
    let cell : n.from.cell ≡ c.cell = ap (λ (d : CallView). d.of.cell) n.makes ∙ m.makes in
    out (subst (λ k. In k (map cell_of calls)) cell (maps cell_of calls n.is_in)))

apart_in : (h : List BoardEntry) (calls : List Call) → Once (map cell_of calls) → ((c : Call) → In c calls → 1 ≤ c.cell) → CellsApart (map (call_view h) calls)
apart_in h [] once positive = tt
apart_in h (c ∷ calls) once positive = (cell_free h c calls once.0, positive c (here refl), apart_in h calls once.1 (λ d i. positive d (there i)))

-- no two live calls have one cell
pub live_cells_apart : (config : Config) (h : List BoardEntry) → IsFitting config h → CellsApart (map (call_view h) (live h))
live_cells_apart config h fits = apart_in h (live h) (live_cells_once config h fits) (λ c i. (live_cell config h c fits i).0)

-- nor any two of some live calls
pub cells_apart : (config : Config) (h : List BoardEntry) (p : Call → Bool) → IsFitting config h → CellsApart (map (call_view h) (filter p (live h)))
cells_apart config h p fits =
    apart_in h (filter p (live h)) (once_filtered cell_of p (live h) (live_cells_once config h fits)) (λ c i. (live_cell config h c fits (filtered p (live h) i).0).0)

-- While calls end, one after the other.

abbrev pub not_among : List Call → Call → Bool
not_among gone c = not (has (map (λ (d : Call). d.number) gone) c.number)

abbrev sees : (h : List BoardEntry) → Views (call_view h)
sees h = record { of_is = λ c. refl }

-- the live calls without those that have ended
pub ended_calls : (config : Config) (h : List BoardEntry) (e : BoardEntry) (gone : List Call) (v : View) → IsFitting config h → v.calls ≡ map (call_view h) (live h) →
    (with_ended h e gone v).calls ≡ map (call_view h) (filter (not_among gone) (live h))
ended_calls config h e gone v fits is =
    ap (λ (w : View). w.calls) (ended_are h e gone v) ∙ ap (cleared gone) is ∙ cleared_map (call_view h) gone (live h) (sees h) (live_once config h fits)

-- a live call is found while others end
pub found_while_ending : (config : Config) (h : List BoardEntry) (e : BoardEntry) (gone : List Call) (v : View) (c : Call) → IsFitting config h → v.calls ≡ map (call_view h) (live h) →
    In c (live h) → (In c.number (map (λ (d : Call). d.number) gone) → ⊥) → call_numbered (with_ended h e gone v) c.number ≡ Some (call_view h c)
found_while_ending config h e gone v c fits is i out =
    ap (λ (cs : List CallView). first (filter (is_call_numbered c.number) cs)) (ended_calls config h e gone v fits is)
    ∙ found_in h (filter (not_among gone) (live h)) c (once_filtered (λ (d : Call). d.number) (not_among gone) (live h) (live_once config h fits))
    (keeps (not_among gone) (live h) i (ap not (is_out c.number (map (λ (d : Call). d.number) gone) out)))

-- and no two of those that have not ended have one cell
pub cells_while_ending : (config : Config) (h : List BoardEntry) (e : BoardEntry) (gone : List Call) (v : View) → IsFitting config h → v.calls ≡ map (call_view h) (live h) →
    CellsApart (with_ended h e gone v).calls
cells_while_ending config h e gone v fits is = subst CellsApart (sym (ended_calls config h e gone v fits is)) (cells_apart config h (not_among gone) fits)

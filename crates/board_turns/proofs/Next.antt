-- The next call may be ended, while calls end one after the other in a turn of the board.
use Rattle.std.proofs.Common.{◌≡◌, ◌∙◌, refl, sym, ap, subst, ℕ, List, ◌++◌, map, arith}
use Rattle.std.specs.List.{filter_map, flat_map}
use Rattle.relay_outside.specs.declared.settings.Config.{Config}
use Rattle.histories.specs.Words.{In, here, there}
use Rattle.histories.proofs.Lists.{in_left, maps, mapped, spread}
use Rattle.port_pool.specs.declared.holder.Holder.{Holder}
use Rattle.call_cell.specs.Cells.{since_end, legs}
use Rattle.call_cell.specs.Numbers.{BringsNewKeys}
use Rattle.call_board.specs.Acts.{Call, BoardEntry}
use Rattle.call_board.specs.Calls.{live, ended_by}
use Rattle.call_board.specs.Pairs.{closed_of}
use Rattle.call_board.specs.Fits.{IsFitting}
use Rattle.call_board.specs.declared.board.Board.{Board}
use Rattle.call_board.specs.Views.{View, call_view}
use Rattle.call_board.specs.Boards.{BoardMatches}
use Rattle.call_board.specs.Whole.{with_ended}
use Rattle.call_board.proofs.Cells.{live_cells, live_cell}
use Rattle.call_board.proofs.Held.{closed_of_held}
use Rattle.call_board.proofs.Found.{found_while_ending, cells_while_ending}
use Rattle.relay_core.specs.Entries.{Entry, cell_entry, board_history, box_of}
use Rattle.relay_core.specs.Scripts.{Owed, owed_by, closing, ending}
use Rattle.relay_core.specs.Legal.{Orderly}
use Rattle.relay_core.specs.Turns.{IsAbove}
use Rattle.relay_core.proofs.Histories.{good_history}
use Rattle.relay_core.proofs.Shut.{same_history, closed_apart}
use Rattle.relay_core.proofs.LegsHeld.{ended_closes}
use Rattle.relay_core.proofs.KeysOnce.{keys_once}
use Rattle.board_turns.specs.CallEnds.{IsCallOf}
use Rattle.board_turns.proofs.Closed.{placed_by}

abbrev numbers_of : List Call → List ℕ
numbers_of calls = map (λ (c : Call). c.number) calls

-- What the ends of other calls leave.

pub cell_case : (config : Config) (h : List BoardEntry) (e : BoardEntry) (gone : List Call) (of d : Call) → IsFitting config h → In of (live h) → In d gone → In d (live h) →
    (In of.number (numbers_of gone) → ⊥) → (w : Owed) → In w (ending config h e d) → w.place ≡ of.cell → ⊥
cell_case config h e gone of d fits alive i living out w (here q) at =
    let cell : d.cell ≡ of.cell = sym (ap (λ (v : Owed). v.place) q) ∙ at in
    let one = live_cells config h d of fits living alive cell in
    out (subst (λ (c : Call). In c.number (numbers_of gone)) one (maps (λ (c : Call). c.number) gone i))
cell_case config h e gone of d fits alive i living out w (there j) at =
    let m = mapped (closing config) (closed_of h e d) j in
    let place : box_of config m.from.pair ≡ of.cell = ap (λ (v : Owed). v.place) m.makes ∙ at in
    let high = (live_cell config h of fits alive).1 in omega (arith, place, high)

pub box_case : (config : Config) (l : List Entry) → Orderly config l → (n : ℕ) (e : BoardEntry) (gone : List Call) (of d : Call) (leg : Holder) → In d gone →
    In d (live (board_history l n)) → (In of.number (numbers_of gone) → ⊥) → In leg (closed_of (board_history l n) e of) → (w : Owed) → In w (ending config (board_history l n) e d) →
    w.place ≡ box_of config leg.pair → ⊥
box_case config l o n e gone of d leg i living out k w (here q) at =
    let cell : d.cell ≡ box_of config leg.pair = sym (ap (λ (v : Owed). v.place) q) ∙ at in
    let high = (live_cell config (board_history l n) d (good_history config l o n) living).1 in omega (arith, cell, high)
box_case config l o n e gone of d leg i living out k w (there j) at =
    let m = mapped (closing config) (closed_of (board_history l n) e d) j in
    let place : box_of config m.from.pair ≡ box_of config leg.pair = ap (λ (v : Owed). v.place) m.makes ∙ at in
    let same = closed_apart config l o n e d of m.from leg m.is_in k place in
    let one : d.number ≡ of.number = sym (closed_of_held (board_history l n) e d m.from m.is_in).1 ∙ ap (λ (x : Holder). x.call) same ∙ (closed_of_held (board_history l n) e of leg k).1 in
    out (subst (λ (number : ℕ). In number (numbers_of gone)) one (maps (λ (c : Call). c.number) gone i))

-- Calls end one after the other in the turn of the entry, which the list did not have before: these have ended. Where what came meanwhile
-- stands elsewhere, the next one may be ended
pub next_among : (config : Config) (l ns : List Entry) → Orderly config l → (n : ℕ) (e : BoardEntry) (gone : List Call) (of : Call) (board : Board) →
    IsAbove l 0 n → In of (live (board_history l n)) → In of (ended_by e) → (In of.number (numbers_of gone) → ⊥) →
    ((x : Entry) → In x ns → x.place ≡ of.cell → ⊥) →
    (v : View) → v.calls ≡ map (call_view (board_history l n)) (live (board_history l n)) →
    BoardMatches config board (with_ended (board_history l n) e gone v) →
    IsCallOf config (l ++ ns) board of.number of (closed_of (board_history l n) e of)
next_among config l ns o n e gone of board above alive ends out cell_apart v calls_are shows =
    let h = board_history l n in
    let fits = good_history config l o n in
    let cell = live_cell config h of fits alive in
    let same_cell = λ (m : ℕ). ap (filter_map cell_entry) (same_history l ns of.cell m cell_apart) in
    let before = λ (place m : ℕ) (a : IsAbove (l ++ ns) place m). let b : IsAbove l place m = (λ x i p. a x (in_left l ns i) p) in b in
    record {
      view = with_ended h e gone v;
      shows = shows;
      apart = cells_while_ending config h e gone v fits calls_are;
      seen = call_view h of;
      found = found_while_ending config h e gone v of fits calls_are alive out;
      of_is = refl;
      low = cell.0;
      high = cell.1;
      keys = λ m a. subst BringsNewKeys (sym (same_cell m)) (keys_once config l o of.cell m);
      legs_are = λ m a. ap (λ s. legs (since_end s)) (same_cell m) ∙ sym (ended_closes config l o n m e of above (before of.cell m a) alive ends);
    }

-- the same where the calls that have ended are in the list with their closings, and nothing else is
pub next_can : (config : Config) (l ns : List Entry) → Orderly config l → (n : ℕ) (e : BoardEntry) (gone : List Call) (of : Call) (board : Board) →
    IsAbove l 0 n → In of (live (board_history l n)) → In of (ended_by e) → (In of.number (numbers_of gone) → ⊥) → ((d : Call) → In d gone → In d (live (board_history l n))) →
    map owed_by ns ≡ flat_map (ending config (board_history l n) e) gone →
    (v : View) → v.calls ≡ map (call_view (board_history l n)) (live (board_history l n)) →
    BoardMatches config board (with_ended (board_history l n) e gone v) →
    IsCallOf config (l ++ ns) board of.number of (closed_of (board_history l n) e of)
next_can config l ns o n e gone of board above alive ends out living owes v calls_are shows =
    let h = board_history l n in
    let fits = good_history config l o n in
    next_among config l ns o n e gone of board above alive ends out
    (placed_by (flat_map (ending config h e) gone) ns of.cell owes
    (λ w i. let s = spread (ending config h e) gone i in cell_case config h e gone of s.from fits alive s.is_in (living s.from s.is_in) out w s.has_it))
    v calls_are shows

-- The entry of a turn of the board fits the board's whole history before it.
use Rattle.std.proofs.Common.{◌≡◌, ◌∙◌, sym, ap, subst, refl, ℕ, List, [], ◌∷◌, ◌++◌, map, Some}
use Rattle.relay_outside.specs.declared.settings.Config.{Config}
use Rattle.histories.specs.Words.{In, here}
use Rattle.histories.proofs.Lists.{in_right}
use Rattle.call_board.specs.Acts.{BoardEntry}
use Rattle.call_board.specs.Fits.{FitsBoard}
use Rattle.relay_core.specs.Entries.{Event, Board, Cell, Box, Entry, board_at}
use Rattle.relay_core.specs.Scripts.{owed_by, script}
use Rattle.board_turns.specs.Between.{board_of}
use Rattle.board_turns.proofs.Betweens.{whole_board}
use Rattle.replay_steps.specs.Steps.{TurnsBoard}

entry_once : (x y : BoardEntry) → Some x ≡ Some y → x ≡ y
entry_once x y e = cc

-- the entry that turned, and the history before it
pub turn_entry : (config : Config) (l : List Entry) (e : BoardEntry) (new : List Entry) → (t : TurnsBoard config l e new) → t.turn.entry ≡ e
turn_entry config l e new t = entry_once t.turn.entry e (sym t.turn.is ∙ t.is)

pub turn_fits : (config : Config) (l : List Entry) (e : BoardEntry) (new : List Entry) → TurnsBoard config l e new → FitsBoard config (board_of l) e
turn_fits config l e new t =
    subst (λ (x : BoardEntry). FitsBoard config (board_of l) x) (turn_entry config l e new t)
    (subst (λ (h : List BoardEntry). FitsBoard config h t.turn.entry) (whole_board l t.last.number t.turn.at_front) t.turn.fits)

board_event : (moment : ℕ) (v : Event) (x : BoardEntry) → board_at moment v ≡ Some x → v ≡ Board x.event
board_event moment (Board b) x is = let e : Some (record { moment = moment; event = b }) ≡ Some x = is in ap (λ (y : BoardEntry). Board y.event) (entry_once (record { moment = moment; event = b }) x e)
board_event moment (Cell c) x is = absurd (let e = is in cc)
board_event moment (Box b) x is = absurd (let e = is in cc)

-- its event stands in the list after it
pub turn_event : (config : Config) (l : List Entry) (e : BoardEntry) (new : List Entry) → (t : TurnsBoard config l e new) → In t.last new × (t.last.event ≡ Board e.event)
turn_event config l e new t = (
  subst (λ (k : List Entry). In t.last k) (sym t.list_is) (in_right (l ++ t.nested) (t.last ∷ []) (here refl)),
  board_event t.last.moment t.last.event e t.is,
)

-- and what it owes was made
pub turn_owes : (config : Config) (l : List Entry) (e : BoardEntry) (new : List Entry) → (t : TurnsBoard config l e new)
    → map owed_by t.nested ≡ script config (board_of l) e
turn_owes config l e new t =
    t.turn.owes ∙ ap (λ (h : List BoardEntry). script config h t.turn.entry) (whole_board l t.last.number t.turn.at_front)
    ∙ ap (script config (board_of l)) (turn_entry config l e new t)

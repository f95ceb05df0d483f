-- The first turn of the board of a relay.
use Rattle.std.proofs.Common.{◌≡◌, ◌∙◌, refl, sym, subst, ℕ, ◌≤◌, List, [], Option, Some, None, arith, slice_get}
use Rattle.relay_outside.specs.declared.ports.PortCall.{PortCall}
use Rattle.relay_outside.specs.declared.settings.Config.{Config}
use Rattle.turn_table.specs.declared.hands.Turns.{Turns}
use Rattle.turn_table.specs.declared.hands.Hand.{Hand}
use Rattle.turn_table.specs.Hands.{starts}
use Rattle.relay_outside.specs.declared.address.Addr.{Addr}
use Rattle.cookie_cache.specs.Keepings.{kept}
use Rattle.call_board.specs.declared.board.Board.{Board}
use Rattle.call_board.specs.Boards.{BoardMatches, BoardFor}
use Rattle.call_board.specs.Pairs.{held}
use Rattle.call_board.specs.Views.{view_of, view_at_moment, board_last_moment}
use Rattle.call_board.specs.Shapes.{board_shape}
use Rattle.call_shapes.specs.WholeRelay.{AreWhole}
use Rattle.relay_core.specs.declared.part.Part.{Part}
use Rattle.relay_core.specs.declared.part.Part.TheVariants as part
use Rattle.relay_core.specs.KeptAfter.{cell_shape_after, holder_after}
use Rattle.relay_core.specs.Entries.{Entry, board_history}
use Rattle.relay_core.specs.Records.{Made}
use Rattle.relay_core.specs.Turns.{IsAbove, made_by}
use Rattle.media_ports.specs.OpenPorts.{LogsHeld}
use Rattle.board_turns.specs.declared.board_turn.BoardEntryId.{BoardEntryId}
use Rattle.board_turns.specs.Acts.{InTurn}
use Rattle.board_turns.specs.Between.{IsBetween}
use Rattle.board_turns.specs.CallEnds.{leg_pairs}
use Rattle.board_turns.proofs.Firsts.{none_open}

abbrev pub at_first : BoardEntryId
at_first = record { number = 0; moment = 0 }

none_above : (l : List Entry) → l ≡ [] → IsAbove l 0 0
none_above l none = subst (λ (k : List Entry). IsAbove k 0 0) (sym none) (λ e i. elim i [ ])

one_board : {I O : Type 0} (a b : Board) (o : Option (Part I O)) → o ≡ Some (part.Board a) → o ≡ Some (part.Board b) → a ≡ b
one_board a b o p q = let r = sym p ∙ q in cc

module _ {M I O T : Type 0} {g : _} where
  pub in_first : (config : Config) (turns : Turns M (Part I O) Made T) (hand : Hand M (Part I O) Made T g) (board : Board) (calls : Option (List PortCall))
      → IsBetween config turns hand → made_by hand ≡ [] → slice_get (starts hand) 0 ≡ Some (part.Board board) → BoardFor config board [] → calls ≡ Some []
      → InTurn config turns hand at_first board calls
  in_first config turns hand board calls b none at for nothing = record {
    may = record { of_table = b.of_table; main = b.main; alone = λ k has. absurd (has (b.idle k)); parts = b.parts; whole_parts = b.whole_parts; numbered = b.numbered };
    above = none_above (made_by hand) none;
    low = omega arith;
    orderly = b.orderly;
    timely = subst (λ (l : List Entry). board_last_moment (board_history l 0) ≤ 0) (sym none) (omega arith);
    shows = subst (λ (l : List Entry). BoardMatches config board (view_at_moment (view_of config (board_history l 0)) 0)) (sym none) for;
    opens = subst (λ (l : List Entry). LogsHeld config calls (leg_pairs (held (board_history l 0)))) (sym none)
        (subst (λ (t : Option (List PortCall)). LogsHeld config t []) (sym nothing) (none_open config));
    whole = subst (λ (l : List Entry). AreWhole config (board_shape board) (cell_shape_after config (starts hand) l) (holder_after config (starts hand) l)) (sym none)
        (subst (λ (kept : Board). AreWhole config (board_shape kept) (cell_shape_after config (starts hand) []) (holder_after config (starts hand) []))
        (one_board b.whole_parts.board board (slice_get (starts hand) 0) b.whole_parts.board_is at) b.whole_parts.whole);
  }

-- nothing is kept before the first datagram
pub none_kept : (source : Addr) (cookie : List ℕ) (now : ℕ) → kept [] source cookie now ≡ None
unfolding kept
none_kept source cookie now = refl

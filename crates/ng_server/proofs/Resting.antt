-- The main hand rests again after a turn, as its server says it.
use Rattle.std.proofs.Common.{ℕ, List, Option, subst}
use Rattle.relay_outside.specs.declared.ports.PortCall.{PortCall}
use Rattle.call_board.specs.Pairs.{held}
use Rattle.media_ports.specs.OpenPorts.{LogsHeld}
use Rattle.relay_core.specs.Turns.{made_by}
use Rattle.board_turns.specs.declared.board_turn.Between.{Between}
use Rattle.board_turns.specs.Between.{IsBetween, board_of}
use Rattle.board_turns.specs.BoardTurns.{RestsAgain}
use Rattle.board_turns.specs.CallEnds.{leg_pairs}

module _ {P I O : Type 0} {g : _} (log : P → Option (List PortCall)) (faults : P → ℕ) where
  -- it is between the turns of the table that it had
  pub rested_between : (old new : Between P I O g) → RestsAgain log faults old new → IsBetween old.config.now old.turns.now new.hand.now
  rested_between old new rests =
      subst (λ turns. IsBetween old.config.now turns.now new.hand.now) rests.turns_are
      (subst (λ config. IsBetween config.now new.turns.now new.hand.now) rests.config_is rests.rests.between)

  -- just the ports of the pairs that are held then are open
  pub rested_opens : (old new : Between P I O g) → RestsAgain log faults old new
      → LogsHeld old.config.now (log new.ports.now) (leg_pairs (held (board_of (made_by new.hand.now))))
  rested_opens old new rests =
      subst (λ config. LogsHeld config.now (log new.ports.now) (leg_pairs (held (board_of (made_by new.hand.now))))) rests.config_is rests.rests.opens

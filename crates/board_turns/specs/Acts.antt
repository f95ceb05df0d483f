-- What a command does in the board's turn: between the look for a kept reply, which it finds none of, and the keeping of its own.
use Rattle.std.specs.Prelude.{◌≤◌, ◌<◌, ◌^◌, ℕ, List, ◌∷◌, Option, map, length, if◌then◌else◌}
use Rattle.relay_outside.specs.declared.ports.PortCall.{PortCall}
use Rattle.relay_outside.specs.declared.settings.Config.{Config}
use Rattle.turn_table.specs.declared.hands.Turns.{Turns}
use Rattle.turn_table.specs.declared.hands.Hand.{Hand}
use Rattle.offer_answer.specs.Rounds as round
use Rattle.call_board.specs.declared.board.Board.{Board}
use Rattle.call_board.specs.Acts.{Lease, Offer, Act, Repeated, OutOfMemory, Failed, Undone, Offered, Answered, Deleted, Delayed, Queried, Told, BoardEntry, act}
use Rattle.call_board.specs.Calls.{due_after}
use Rattle.call_board.specs.Pairs.{held}
use Rattle.call_board.specs.Boards.{BoardMatches}
use Rattle.call_board.specs.Shapes.{board_shape}
use Rattle.call_board.specs.Views.{View, view_of, board_last_moment, view_at_moment, with_leases, with_returned, without_call}
use Rattle.call_board.specs.Whole.{with_draws, with_closed, with_more, with_first, with_due_call}
use Rattle.relay_core.specs.Entries.{board_history}
use Rattle.relay_core.specs.KeptAfter.{IsWholeWith}
use Rattle.relay_core.specs.Legal.{Orderly}
use Rattle.relay_core.specs.Records.{Made}
use Rattle.relay_core.specs.Scripts.{script}
use Rattle.relay_core.specs.Turns.{GainsNested, IsAbove, made_by}
use Rattle.relay_core.specs.declared.part.Part.{Part}
use Rattle.media_ports.specs.OpenPorts.{LogsHeld}
use Rattle.board_turns.specs.declared.board_turn.BoardEntryId.{BoardEntryId}
use Rattle.board_turns.specs.NestedSteps.{MayNest}
use Rattle.board_turns.specs.CallEnds.{leg_pairs}

-- What an act makes of what the board keeps, but for the reply that is kept.

-- an offer that was undone leased its pairs and drew its keys, and gave the pairs back
abbrev pub acted_undone : List Lease → List (List ℕ) → View → View
acted_undone leases draws v =
    with_returned (with_draws (with_leases v (map (λ (lease : Lease). lease.pair) leases)) (length draws)) (map (λ (lease : Lease). lease.pair) leases)

-- an accepted offer leased its pairs and drew its keys, was taken in, and gave back the pairs that it dropped
abbrev pub acted_offer : List BoardEntry → BoardEntry → Offer → View → View
acted_offer h e o v =
    let made : round.Round = round.Offered o.ask o.legs o.keys in
    let leased = with_draws (with_leases v (leg_pairs o.legs)) (length o.keys) in
    let taken = if o.begins then with_first o.of made e.moment leased else with_more o.of made e.moment leased in
    with_closed h e o.of taken

abbrev pub acted : List BoardEntry → BoardEntry → Act → View → View
acted h e Repeated v = v
acted h e OutOfMemory v = v
acted h e (Failed code) v = v
acted h e (Undone code leases draws) v = acted_undone leases draws v
acted h e (Offered o) v = acted_offer h e o v
acted h e (Answered a) v = with_closed h e a.of (with_more a.of (round.Answered a.ask) e.moment v)
acted h e (Deleted of) v = with_closed h e of (without_call v of.number)
acted h e (Delayed of seconds) v = with_due_call of.number (due_after e.moment seconds) v
acted h e (Queried of) v = v
acted h e Told v = v

-- The turn.

module _ {M I O T : Type 0} {g : _} where
  -- The main hand has the board's turn of this number and has made no step in it: the board stands for the history that the hand's
  -- list has of it, at the moment of the turn, and, where the port maker tells, just the ports of the held pairs are open
  pub record InTurn (config : Config) (turns : Turns M (Part I O) Made T) (hand : Hand M (Part I O) Made T g) (entry_id : BoardEntryId) (board : Board) (log : Option (List PortCall)) : Type 0 where
    pub may : MayNest config turns hand
    pub above : IsAbove (made_by hand) 0 entry_id.number
    pub low : entry_id.number < 2 ^ 56
    pub orderly : Orderly config (made_by hand)
    pub timely : board_last_moment (board_history (made_by hand) entry_id.number) ≤ entry_id.moment
    pub shows : BoardMatches config board (view_at_moment (view_of config (board_history (made_by hand) entry_id.number)) entry_id.moment)
    pub opens : LogsHeld config log (leg_pairs (held (board_history (made_by hand) entry_id.number)))
    -- what the board, the cells and the boxes keep goes together
    pub whole : IsWholeWith config hand (board_shape board)

  -- The turn did what the entry owes: the hand's list gained its nested entries, the board keeps what the entry's act makes, and
  -- just the ports of the pairs that are held then are open
  pub record DoesAct (config : Config) (old new : Hand M (Part I O) Made T g) (entry_id : BoardEntryId) (e : BoardEntry) (board : Board) (log : Option (List PortCall)) : Type 0 where
    pub gained : GainsNested entry_id.number entry_id.moment (script config (board_history (made_by old) entry_id.number) e) old new
    pub shows : BoardMatches config board (acted (board_history (made_by old) entry_id.number) e (act e) (view_at_moment (view_of config (board_history (made_by old) entry_id.number)) entry_id.moment))
    pub opens : LogsHeld config log (leg_pairs (held (e ∷ board_history (made_by old) entry_id.number)))

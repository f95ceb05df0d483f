use Rattle.std.proofs.Common.{◌∙◌, refl, sym, ap, subst, ℕ, List, ◌∷◌}
use Rattle.histories.specs.Words.{In, here}
use Rattle.call_board.specs.Acts.{Call}
use Rattle.call_board.specs.Boards.{BoardMatches}
use Rattle.call_board.specs.Pairs.{held, closed_of}
use Rattle.call_board.specs.Views.{View, view_of, view_at_moment}
use Rattle.call_board.proofs.Found.{found_is_live, live_cells_apart}
use Rattle.relay_core.specs.Entries.{board_history}
use Rattle.relay_core.specs.Scripts.{Owed}
use Rattle.relay_core.specs.Turns.{GainsNested, made_by}
use Rattle.relay_core.proofs.Histories.{good_history}
use Rattle.board_turns.specs.Closings.{pairs_left}
use Rattle.board_turns.specs.CallEnds.{IsCallOf, leg_pairs, with_call_ended}
use Rattle.board_turns.specs.Stops.{stop_entry}
use Rattle.board_turns.proofs.Lefts.{told_alike}
use Rattle.board_turns.proofs.Deleted.{ends_one, deleted_call, may_delete, deleted_held, deleted_owes, deleted_acts}
use Rattle.board_turns.proofs.delete.delete_call.Goals as goal

pub end_call-requires-clause-can : goal.end_call-requires-clause-can
end_call-requires-clause-can g c =
    let turn = c.args.turn.now in
    let config = turn.main.config.now in
    let l = made_by turn.main.hand.now in
    let h = board_history l turn.main.entry_id.number in
    let of : Call = c.requires.live.0 in
    let log = g.P.PortMaker.log turn.ports.now in
    let is = subst (λ (k : ℕ). IsCallOf config l turn.board.now k of (closed_of h (stop_entry h) of)) c.requires.live.2
    (deleted_call config turn.main.turns.now turn.main.hand.now turn.main.entry_id turn.board.now log (stop_entry h) of c.requires.begins.in_turn c.requires.live.1 c.requires.live.1) in
    may_delete config turn.main.turns.now turn.main.hand.now turn.main.entry_id turn.board.now log c.args.call c.requires.begins.in_turn
    (found_is_live config turn.board.now is.view c.args.call is.seen is.shows is.found)

pub returns-clause-closes : goal.returns-clause-closes
returns-clause-closes g c = c.end_call.ensures.none

pub returns-clause-does : goal.returns-clause-does
returns-clause-does g c e of is number alive moment =
    let config = c.args.turn.now.main.config.now in
    let h = board_history (made_by c.args.turn.now.main.hand.now) c.args.turn.now.main.entry_id.number in
    let v = view_at_moment (view_of config h) c.args.turn.now.main.entry_id.moment in
    let log = g.P.PortMaker.log c.args.turn.now.ports.now in
    let legs = closed_of h e of in
    let ends = subst (λ (calls : List Call). In of calls) (sym (ends_one e of is).ends) (here (refl {a = of})) in
    let can = deleted_call config c.args.turn.now.main.turns.now c.args.turn.now.main.hand.now c.args.turn.now.main.entry_id c.args.turn.now.board.now log e of c.requires.begins.in_turn alive ends in
    let can_call = subst (λ (k : ℕ). IsCallOf config (made_by c.args.turn.now.main.hand.now) c.args.turn.now.board.now k of legs) number can in
    let fits = good_history config (made_by c.args.turn.now.main.hand.now) c.requires.begins.in_turn.orderly c.args.turn.now.main.entry_id.number in
    record {
      gained = subst (λ (owed : List Owed). GainsNested c.args.turn.now.main.entry_id.number c.args.turn.now.main.entry_id.moment owed c.args.turn.now.main.hand.now c.end_call.new.turn.main.hand.now) (sym (deleted_owes config h e of is))
          (c.end_call.ensures.gained of legs can_call);
      shows = subst (λ (w : View). BoardMatches config c.end_call.new.turn.board.now w)
          (ap (λ (k : ℕ). with_call_ended v k legs) (sym number) ∙ sym (deleted_acts h e of v is))
          (c.end_call.ensures.ended of legs can_call config v c.requires.begins.in_turn.shows (live_cells_apart config h fits));
      opens = told_alike config (g.P.PortMaker.log c.end_call.new.turn.ports.now) (pairs_left (leg_pairs legs) (leg_pairs (held h))) (leg_pairs (held (e ∷ h)))
          (deleted_held config h e of fits is)
          (c.end_call.ensures.«open» of legs can_call (leg_pairs (held h)) c.requires.begins.in_turn.opens);
    }

pub end_call-requires-clause-may : goal.end_call-requires-clause-may
end_call-requires-clause-may g c =
    c.requires.begins.in_turn.may

pub end_call-requires-clause-empty : goal.end_call-requires-clause-empty
end_call-requires-clause-empty g c =
    c.requires.begins.empty

pub returns-clause-works : goal.returns-clause-works
returns-clause-works g c =
    c.end_call.ensures.works

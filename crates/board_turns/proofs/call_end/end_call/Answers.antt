use Rattle.std.proofs.Common.{◌≡◌, ◌∙◌, ◌+◌, refl, ap, subst, ℕ, List, [], ◌∷◌, sym, length}
use Rattle.relay_outside.specs.declared.ports.PortCall.{PortCall}
use Rattle.relay_outside.specs.declared.settings.Config.{Config}
use Rattle.relay_outside.specs.DeviceLogs.{Gained, WhereLogged}
use Rattle.relay_outside.proofs.Telling.{gained_less}
use Rattle.turn_table.specs.Hands.{entries}
use Rattle.call_cell.specs.Cells.{End}
use Rattle.call_board.specs.Boards.{BoardMatches, pairs_in}
use Rattle.call_board.specs.Shapes.{board_shape, live_shapes}
use Rattle.call_board.specs.Views.{with_returned, without_call}
use Rattle.relay_core.specs.Entries.{Cell}
use Rattle.relay_core.specs.Scripts.{Owed}
use Rattle.relay_core.specs.PlaceHistories.{GoneHome}
use Rattle.relay_core.specs.KeptAfter.{IsWholeWith}
use Rattle.relay_core.specs.Turns.{made_by}
use Rattle.board_turns.specs.Ties.{TiesTakes}
use Rattle.media_ports.specs.OpenPorts.{OpensHeld}
use Rattle.board_turns.specs.InCells.{in_cell_of, HasNewKeys}
use Rattle.board_turns.proofs.Nesting.{above_rows}
use Rattle.board_turns.proofs.Staying.{may_again, same_config, nests_both, makes_both}
use Rattle.board_turns.specs.BoardTurns.{MakesNested}
use Rattle.board_turns.specs.Closings.{CanClose, ClosesLegs, closings_of, leases_of_legs, pairs_left}
use Rattle.board_turns.specs.CallEnds.{ClosesTheirs, HoldsOpen, ending_of}
use Rattle.board_turns.proofs.KeptEnds.{end_keeps_whole}
use Rattle.board_turns.proofs.Ended.{cell_is, went_are, pairs_are, closings_are}
use Rattle.board_turns.proofs.HeldPorts.{ended_fewer, holds_ended}
use Rattle.board_turns.proofs.WholeCalls.{found_live, ending_cell, ended_can, out_leased}
use Rattle.board_turns.proofs.Tying.{legs_leave, ties_gone}
use Rattle.board_turns.proofs.Unopened.{gone_open_none}
use Rattle.board_turns.proofs.call_end.end_call.Goals as goal

pub end_call-cell-requires : goal.end_call-cell-requires
end_call-cell-requires g c = found_live c.args.turn.now.board.now c.args.call c.requires.can.live c.requires.can.found

pub end_cell-requires-clause-may : goal.end_cell-requires-clause-may
end_cell-requires-clause-may g c =
    c.requires.may

pub end_cell-requires-clause-cell : goal.end_cell-requires-clause-cell
end_cell-requires-clause-cell g c =
    let turn = c.args.turn.now in
    let ends = ending_cell turn.main.config.now turn.main.hand.now turn.board.now c.end_call-cell.new.self (g.P.PortMaker.log turn.ports.now) c.args.call c.end_call-cell.result
    c.requires.can c.end_call-cell.ensures.shape in
    (ends.0, ends.1)

pub end_cell-requires-clause-small : goal.end_cell-requires-clause-small
end_cell-requires-clause-small g c =
    let turn = c.args.turn.now in
    (ending_cell turn.main.config.now turn.main.hand.now turn.board.now c.end_call-cell.new.self (g.P.PortMaker.log turn.ports.now) c.args.call c.end_call-cell.result
    c.requires.can c.end_call-cell.ensures.shape).2

pub end_cell-requires-clause-empty : goal.end_cell-requires-clause-empty
end_cell-requires-clause-empty g c =
    c.requires.empty

pub close_legs-requires-clause-may : goal.close_legs-requires-clause-may
close_legs-requires-clause-may g c =
    may_again c.args.turn.now.main c.end_cell.new.main c.end_cell.ensures.nests

pub close_legs-requires-clause-can : goal.close_legs-requires-clause-can
close_legs-requires-clause-can g c =
    let main = c.args.turn.now.main in
    let mid = c.end_cell.new.main in
    let log = g.P.PortMaker.log c.args.turn.now.ports.now in
    subst (λ (k : Config). CanClose k mid.hand.now c.end_call-cell.new.self log c.end_cell.new.gone) (sym (same_config main mid c.end_cell.ensures.nests))
    (ended_can main.config.now main.entry_id.number main.entry_id.moment main.hand.now mid.hand.now c.args.turn.now.board.now c.end_call-cell.new.self log c.args.call
    c.end_call-cell.result c.end_cell.new.gone c.requires.can c.end_call-cell.ensures.shape c.end_cell.ensures.nests.same.1 c.end_cell.ensures.gained c.end_cell.ensures.left)

pub close_legs-requires-clause-home : goal.close_legs-requires-clause-home
close_legs-requires-clause-home g c =
    subst (λ (k : Config). GoneHome g.P.Out.OutEnd.log k c.end_cell.new.gone) (sym (same_config c.args.turn.now.main c.end_cell.new.main c.end_cell.ensures.nests))
    c.end_cell.ensures.home

pub returns-clause-gained : goal.returns-clause-gained
returns-clause-gained g c of legs can =
    let config = c.args.turn.now.main.config.now in
    let log = g.P.PortMaker.log c.args.turn.now.ports.now in
    let l = made_by c.args.turn.now.main.hand.now in
    let cell = c.end_call-cell.result in
    let gone = c.end_cell.new.gone in
    let is = cell_is config l c.args.turn.now.board.now c.args.call of legs cell can c.end_call-cell.ensures.cell in
    let keys = subst (λ (k : ℕ). HasNewKeys l k) (sym is) can.keys in
    let was = (c.end_cell.ensures.ended keys).was in
    let are = went_are config l c.args.turn.now.board.now c.args.call of legs cell was.number gone can is (c.end_cell.ensures.went keys)
    (above_rows (entries c.args.turn.now.main.hand.now) cell was.number was.given.above) in
    let main = c.args.turn.now.main in
    let mid = c.end_cell.new.main in
    let new = c.close_legs.new.turn.main in
    let all = makes_both (in_cell_of cell End ∷ []) (closings_of config gone) main mid new c.end_cell.ensures.nests c.end_cell.ensures.gained
    (subst (λ (k : Config). MakesNested (closings_of k gone) mid new) (same_config main mid c.end_cell.ensures.nests) c.close_legs.ensures.gained) in
    let same : in_cell_of cell End ∷ closings_of config gone ≡ ending_of config of legs
    = ap (λ (k : ℕ). in_cell_of k End ∷ closings_of config gone) is
    ∙ ap (λ (ws : List Owed). in_cell_of of.cell End ∷ ws) (closings_are config gone legs are) in
    subst (λ (ws : List Owed). MakesNested ws main new) same all

pub returns-clause-ended : goal.returns-clause-ended
returns-clause-ended g c of legs can other v shows apart =
    let config = c.args.turn.now.main.config.now in
    let log = g.P.PortMaker.log c.args.turn.now.ports.now in
    let l = made_by c.args.turn.now.main.hand.now in
    let cell = c.end_call-cell.result in
    let gone = c.end_cell.new.gone in
    let is = cell_is config l c.args.turn.now.board.now c.args.call of legs cell can c.end_call-cell.ensures.cell in
    let keys = subst (λ (k : ℕ). HasNewKeys l k) (sym is) can.keys in
    let was = (c.end_cell.ensures.ended keys).was in
    let are = went_are config l c.args.turn.now.board.now c.args.call of legs cell was.number gone can is (c.end_cell.ensures.went keys)
    (above_rows (entries c.args.turn.now.main.hand.now) cell was.number was.given.above) in
    subst (λ (ps : List ℕ). BoardMatches other c.close_legs.new.turn.board.now (with_returned (without_call v c.args.call) ps)) (pairs_are config gone legs are)
    (c.close_legs.ensures.returned other (without_call v c.args.call) (c.end_call-cell.ensures.shows other v shows apart))

pub returns-clause-closes : goal.returns-clause-closes
returns-clause-closes g c of legs can =
    let config = c.args.turn.now.main.config.now in
    let log = g.P.PortMaker.log c.args.turn.now.ports.now in
    let l = made_by c.args.turn.now.main.hand.now in
    let cell = c.end_call-cell.result in
    let gone = c.end_cell.new.gone in
    let is = cell_is config l c.args.turn.now.board.now c.args.call of legs cell can c.end_call-cell.ensures.cell in
    let keys = subst (λ (k : ℕ). HasNewKeys l k) (sym is) can.keys in
    let was = (c.end_cell.ensures.ended keys).was in
    let are = went_are config l c.args.turn.now.board.now c.args.call of legs cell was.number gone can is (c.end_cell.ensures.went keys)
    (above_rows (entries c.args.turn.now.main.hand.now) cell was.number was.given.above) in
    let same = same_config c.args.turn.now.main c.end_cell.new.main c.end_cell.ensures.nests in
    let after = g.P.PortMaker.log c.close_legs.new.turn.ports.now in
    gained_less log after (ClosesLegs g.P.Out.OutEnd.log config gone)
    (ClosesTheirs g.P.Out.OutEnd.log config legs) (λ calls closes. (gone, are, closes))
    (subst (λ (k : Config). Gained log after (ClosesLegs g.P.Out.OutEnd.log k gone)) same c.close_legs.ensures.closes)

pub returns-clause-open : goal.returns-clause-open
returns-clause-open g c of legs can held opens =
    let config = c.args.turn.now.main.config.now in
    let log = g.P.PortMaker.log c.args.turn.now.ports.now in
    let l = made_by c.args.turn.now.main.hand.now in
    let cell = c.end_call-cell.result in
    let gone = c.end_cell.new.gone in
    let is = cell_is config l c.args.turn.now.board.now c.args.call of legs cell can c.end_call-cell.ensures.cell in
    let keys = subst (λ (k : ℕ). HasNewKeys l k) (sym is) can.keys in
    let was = (c.end_cell.ensures.ended keys).was in
    let are = went_are config l c.args.turn.now.board.now c.args.call of legs cell was.number gone can is (c.end_cell.ensures.went keys)
    (above_rows (entries c.args.turn.now.main.hand.now) cell was.number was.given.above) in
    let same = same_config c.args.turn.now.main c.end_cell.new.main c.end_cell.ensures.nests in
    let after = g.P.PortMaker.log c.close_legs.new.turn.ports.now in
    let closed = subst (λ (k : Config). WhereLogged log (λ (calls : List PortCall). OpensHeld k calls held)
    → WhereLogged after (λ (calls : List PortCall). OpensHeld k calls (pairs_left (pairs_in (leases_of_legs gone)) held))) same (c.close_legs.ensures.«open» held) opens in
    subst (λ (ps : List ℕ). WhereLogged after (λ (calls : List PortCall). OpensHeld config calls (pairs_left ps held)))
    (pairs_are config gone legs are) closed

pub returns-clause-works : goal.returns-clause-works
returns-clause-works g c =
    let config = c.args.turn.now.main.config.now in
    let log = g.P.PortMaker.log c.args.turn.now.ports.now in
    let cell = c.end_call-cell.result in
    let gone = c.end_cell.new.gone in
    let same = same_config c.args.turn.now.main c.end_cell.new.main c.end_cell.ensures.nests in
    let after = g.P.PortMaker.log c.close_legs.new.turn.ports.now in
    let main = c.args.turn.now.main in
    let mid = c.end_cell.new.main in
    let new = c.close_legs.new.turn.main in
    let closed = c.close_legs.ensures.stays in
    let sent = g.P.Out.OutEnd.log in
    let nests = nests_both main mid new c.end_cell.ensures.nests closed.nests in
    let gains = makes_both (in_cell_of cell End ∷ []) (closings_of config gone) main mid new c.end_cell.ensures.nests c.end_cell.ensures.gained
    (subst (λ (k : Config). MakesNested (closings_of k gone) mid new) same c.close_legs.ensures.gained) in
    let closable = ended_can config main.entry_id.number main.entry_id.moment main.hand.now mid.hand.now c.args.turn.now.board.now c.end_call-cell.new.self log c.args.call
    cell gone c.requires.can c.end_call-cell.ensures.shape c.end_cell.ensures.nests.same.1 c.end_cell.ensures.gained c.end_cell.ensures.left in
    record {
      stays = record {
        nests = nests;
        devices = record { board_is = closed.devices.board_is; ports_are = closed.devices.ports_are; gone_is = closed.devices.gone_is };
        replies = closed.replies ∙ c.end_call-cell.ensures.replies;
        later = closed.later;
      };
      ties = ties_gone sent config log after (entries main.hand.now) (entries mid.hand.now) (entries new.hand.now) gone
          c.requires.may.whole_parts.whole.families (out_leased config c.end_call-cell.new.self.pool (leases_of_legs gone) closable.out closable.of_range) (legs_leave sent gone cell (Cell End) main.hand.now mid.hand.now refl c.end_cell.ensures.row)
          (subst (λ (k : Config). TiesTakes k log after (entries mid.hand.now) (entries new.hand.now)) same c.close_legs.ensures.takes)
          (subst (λ (k : Config). Gained log after (ClosesLegs sent k gone)) same c.close_legs.ensures.closes);
      empty = c.close_legs.ensures.empty;
      whole = λ w. subst (λ (k : Config). IsWholeWith k new.hand.now (board_shape c.close_legs.new.turn.board.now)) (sym (same_config main new nests))
          (end_keeps_whole config main.entry_id.number main.entry_id.moment main.hand.now new.hand.now nests.same.1
          (board_shape c.args.turn.now.board.now) (board_shape c.end_call-cell.new.self) (board_shape c.close_legs.new.turn.board.now) c.args.call cell gone c.end_call-cell.ensures.shape gains c.end_cell.ensures.left c.close_legs.ensures.pool w);
    }

pub returns-clause-none : goal.returns-clause-none
returns-clause-none g c =
    gone_open_none g.P.Out.OutEnd.log c.end_cell.new.main.config.now c.end_cell.new.gone (g.P.PortMaker.log c.args.turn.now.ports.now)
    (g.P.PortMaker.log c.close_legs.new.turn.ports.now) c.close_legs.ensures.closes

pub returns-clause-holds : goal.returns-clause-holds
returns-clause-holds g c holds =
    let main = c.args.turn.now.main in
    let mid = c.end_cell.new.main in
    let new = c.close_legs.new.turn.main in
    let config = main.config.now in
    let gone = c.end_cell.new.gone in
    let log = g.P.PortMaker.log c.args.turn.now.ports.now in
    let after = g.P.PortMaker.log c.close_legs.new.turn.ports.now in
    let same = same_config main mid c.end_cell.ensures.nests in
    let nests = nests_both main mid new c.end_cell.ensures.nests c.close_legs.ensures.stays.nests in
    let gains = makes_both (in_cell_of c.end_call-cell.result End ∷ []) (closings_of config gone) main mid new c.end_cell.ensures.nests c.end_cell.ensures.gained
    (subst (λ (k : Config). MakesNested (closings_of k gone) mid new) same c.close_legs.ensures.gained) in
    let closed = subst (λ (k : Config). (held : List ℕ) → WhereLogged log (λ (calls : List PortCall). OpensHeld k calls held)
    → WhereLogged after (λ (calls : List PortCall). OpensHeld k calls (pairs_left (pairs_in (leases_of_legs gone)) held))) same c.close_legs.ensures.«open» in
    subst (λ (k : Config). HoldsOpen k new.hand.now after) (sym (same_config main new nests))
    (holds_ended config main.entry_id.number main.entry_id.moment main.hand.now new.hand.now nests.same.1 log after c.end_call-cell.result gone gains closed holds)

pub returns-clause-fewer : goal.returns-clause-fewer
returns-clause-fewer g c =
    let shorter = ended_fewer c.args.call c.end_call-cell.result (board_shape c.args.turn.now.board.now) (board_shape c.end_call-cell.new.self) c.end_call-cell.ensures.shape in
    shorter ∙ ap (λ (calls : _). length (live_shapes calls.list) + 1) (sym c.close_legs.ensures.calls.calls_are)

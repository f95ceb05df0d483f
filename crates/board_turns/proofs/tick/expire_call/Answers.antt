use Rattle.std.proofs.Common.{◌≡◌, ◌∙◌, ◌+◌, sym, subst, ℕ, Bool, true, false, List, [], ◌∷◌, length, arith}
use Rattle.relay_outside.specs.declared.ports.PortCall.{PortCall}
use Rattle.relay_outside.specs.declared.settings.Config.{Config}
use Rattle.relay_outside.specs.DeviceLogs.{Gained, WhereLogged}
use Rattle.media_ports.specs.OpenPorts.{OpensHeld}
use Rattle.media_ports.specs.Openings.{NoneOpened}
use Rattle.media_ports.proofs.Asked.{gained_no_opening}
use Rattle.port_pool.specs.declared.holder.Holder.{Holder}
use Rattle.call_cell.specs.Cells.{Expire}
use Rattle.call_board.specs.Acts.{Call}
use Rattle.call_board.specs.declared.board.Board.{Board}
use Rattle.call_board.specs.Shapes.{board_shape}
use Rattle.call_board.specs.Boards.{BoardMatches, IsLive}
use Rattle.relay_core.specs.Turns.{made_by}
use Rattle.board_turns.specs.declared.board_turn.BoardTurn.{BoardTurn}
use Rattle.board_turns.specs.InCells.{HasNewKeys, in_cell_of}
use Rattle.board_turns.specs.BoardTurns.{IsTurnCall, MakesNested, MayExpire}
use Rattle.board_turns.specs.Closings.{pairs_left}
use Rattle.board_turns.specs.CallEnds.{HoldsOpen, leg_pairs, with_call_ended}
use Rattle.board_turns.specs.Ticks.{IsDueBy, asking_of}
use Rattle.board_turns.proofs.Staying.{may_again, same_config, works_both}
use Rattle.board_turns.proofs.Expiring.{ask_index, ask_number, ask_cell, number_there, cell_there, overdue_there, due_by_whole}
use Rattle.board_turns.proofs.Overdue.{HasToEnd, works_asked, ends_overdue, ends_timed_out, then_can, then_call, then_gained}
use Rattle.board_turns.proofs.HeldPorts.{holds_asked, holds_question}
use Rattle.board_turns.proofs.WholeCalls.{found_live}
use Rattle.board_turns.proofs.tick.expire_call.Goals as goal
use Rattle.board_turns.proofs.tick.expire_call.Goals.{else-not-overdue-via-then-not-overdue+else-not-expire_cell, else-not-overdue-via-else-not-overdue}

pub call_at-call-requires : goal.call_at-call-requires
call_at-call-requires g c = ask_index c.args.turn.now.board.now c.args.index c.requires.can.live c.requires.can.at

pub cell_at-cell-requires : goal.cell_at-cell-requires
cell_at-cell-requires g c = ask_index c.args.turn.now.board.now c.args.index c.requires.can.live c.requires.can.at

pub is_due-overdue-requires : goal.is_due-overdue-requires
is_due-overdue-requires g c =
    let board = c.args.turn.now.board.now in
    let can = c.requires.can in
    subst (λ (k : ℕ). IsLive board k) (sym (ask_number board c.args.index can.live c.call_at-call.result can.at c.call_at-call.ensures.shape))
    (found_live board can.live.number can.can.live can.can.found)

pub expire_cell-requires-clause-may : goal.expire_cell-requires-clause-may
expire_cell-requires-clause-may g c =
    c.requires.may

pub expire_cell-requires-clause-cell : goal.expire_cell-requires-clause-cell
expire_cell-requires-clause-cell g c =
    let old = c.args.turn.now in
    ask_cell old.main.config.now old.main.hand.now old.board.now (g.P.PortMaker.log old.ports.now) c.args.index c.cell_at-cell.result c.requires.can c.cell_at-cell.ensures.shape

-- The call was asked, and has not timed out.

pub returns-then-not-expire_cell-clause-works : goal.returns-then-not-expire_cell-clause-works
returns-then-not-expire_cell-clause-works g c =
    works_asked g.P.PortMaker.log g.P.PortMaker.faults c.args.turn.now c.expire_cell.new.main c.cell_at-cell.result false c.if-not-expire_cell.ensures.nests
    c.if-not-expire_cell.ensures.gained c.requires.empty

pub returns-then-not-expire_cell-clause-gained : goal.returns-then-not-expire_cell-clause-gained
returns-then-not-expire_cell-clause-gained g c of legs overdue asks =
    let old = c.args.turn.now in
    let config = old.main.config.now in
    let log = g.P.PortMaker.log old.ports.now in
    let l = made_by old.main.hand.now in
    let new = c.expire_cell.new.main in
    let is = cell_there config old.main.hand.now old.board.now log old.main.entry_id.moment c.args.index of legs overdue asks c.cell_at-cell.result c.cell_at-cell.ensures.live in
    let said = overdue_there config old.main.hand.now old.board.now log old.main.entry_id.moment c.args.index of legs overdue asks c.call_at-call.result c.is_due-overdue.result c.call_at-call.ensures.live
    c.is_due-overdue.ensures in
    subst (λ (o : Bool). MakesNested (asking_of config of legs o false) old.main new) (sym c.if-not-overdue.true ∙ said)
    (subst (λ (k : ℕ). MakesNested (in_cell_of k (Expire false) ∷ []) old.main new) is c.if-not-expire_cell.ensures.gained)

pub returns-then-not-expire_cell-clause-overdue : goal.returns-then-not-expire_cell-clause-overdue
returns-then-not-expire_cell-clause-overdue g c of legs overdue asks is_overdue =
    let old = c.args.turn.now in
    let said = overdue_there old.main.config.now old.main.hand.now old.board.now (g.P.PortMaker.log old.ports.now) old.main.entry_id.moment c.args.index of legs overdue asks
    c.call_at-call.result c.is_due-overdue.result c.call_at-call.ensures.live c.is_due-overdue.ensures in
    sym c.if-not-overdue.true ∙ said ∙ is_overdue

pub returns-then-not-expire_cell-clause-timed_out : goal.returns-then-not-expire_cell-clause-timed_out
returns-then-not-expire_cell-clause-timed_out g c of legs overdue asks not_overdue all =
    let old = c.args.turn.now in
    let config = old.main.config.now in
    let l = made_by old.main.hand.now in
    let is = cell_there config old.main.hand.now old.board.now (g.P.PortMaker.log old.ports.now) old.main.entry_id.moment c.args.index of legs overdue asks c.cell_at-cell.result c.cell_at-cell.ensures.live in
    let low = asks.is_call.low in
    let high = asks.is_call.high in
    let may = c.requires.may in
    subst (λ (k : ℕ). IsDueBy config l k old.main.entry_id.moment false) is
    (due_by_whole g.P.In.InEnd.log g.P.In.InEnd.faults g.P.Out.OutEnd.log g.P.Out.OutEnd.faults config old.main.hand.now c.cell_at-cell.result old.main.entry_id.moment false may.parts
    may.numbered (omega (arith, is, low)) (omega (arith, is, high)) (subst (λ (k : ℕ). HasNewKeys l k) (sym is) asks.is_call.keys) all
    (c.if-not-expire_cell.ensures.asked (subst (λ (k : ℕ). HasNewKeys l k) (sym is) asks.is_call.keys)))

pub returns-then-not-expire_cell-clause-closes : goal.returns-then-not-expire_cell-clause-closes
returns-then-not-expire_cell-clause-closes g c = gained_no_opening (g.P.PortMaker.log c.args.turn.now.ports.now)

pub returns-then-not-expire_cell-clause-holds : goal.returns-then-not-expire_cell-clause-holds
returns-then-not-expire_cell-clause-holds g c holds =
    let main = c.args.turn.now.main in
    let new = c.expire_cell.new.main in
    let log = g.P.PortMaker.log c.args.turn.now.ports.now in
    subst (λ (k : Config). HoldsOpen k new.hand.now log) (sym (same_config main new c.if-not-expire_cell.ensures.nests))
    (holds_asked main.config.now main.entry_id.number main.entry_id.moment main.hand.now new.hand.now c.if-not-expire_cell.ensures.nests.same.1 log c.cell_at-cell.result false
    c.if-not-expire_cell.ensures.gained holds)

pub returns-then-not-expire_cell-clause-fewer : goal.returns-then-not-expire_cell-clause-fewer
returns-then-not-expire_cell-clause-fewer g c =
    let n = length (board_shape c.args.turn.now.board.now).calls in
    omega arith

-- The call has to end.

pub end_call-requires : goal.end_call-requires
end_call-requires g c =
    let old = c.args.turn.now in
    let now = c.else-not-overdue.turn in
    let log = g.P.PortMaker.log in
    let faults = g.P.PortMaker.faults in
    let it = g.P.In.InEnd.log in
    let ic = g.P.In.InEnd.faults in
    let ot = g.P.Out.OutEnd.log in
    let oc = g.P.Out.OutEnd.faults in
    let cell = c.cell_at-cell.result in
    let can = c.requires.can in
    let ends : HasToEnd log faults it ic ot oc old now cell c.is_due-overdue.result =
    elim c.else-not-overdue.branch [
      | else-not-overdue-via-then-not-overdue+else-not-expire_cell w ↦ subst (λ (said : Bool). HasToEnd log faults it ic ot oc old now cell said) (sym w.if-not-overdue.true)
          (subst (λ (turn : BoardTurn _ _ _ _). HasToEnd log faults it ic ot oc old turn cell false) (sym w.turn-is)
          (ends_timed_out log faults it ic ot oc old w.expire_cell.new.main cell w.if-not-expire_cell.ensures.nests w.if-not-expire_cell.ensures.gained c.requires.empty
          w.if-not-expire_cell.ensures.asked))
      | else-not-overdue-via-else-not-overdue w ↦ subst (λ (said : Bool). HasToEnd log faults it ic ot oc old now cell said) (sym w.if-not-overdue.false)
          (subst (λ (turn : BoardTurn _ _ _ _). HasToEnd log faults it ic ot oc old turn cell true) (sym w.turn-is)
          (ends_overdue log faults it ic ot oc old cell c.requires.may c.requires.empty))
    ] in
    record {
      may = may_again old.main now.main ends.works.stays.nests;
      can = then_can log faults it ic ot oc old now cell c.is_due-overdue.result ends can.live.number c.call_at-call.result can.can
          (ask_number old.board.now c.args.index can.live c.call_at-call.result can.at c.call_at-call.ensures.shape);
      empty = ends.works.empty;
    }

reached : (g : _) (c : goal.After-end_call g) → HasToEnd g.P.PortMaker.log g.P.PortMaker.faults g.P.In.InEnd.log g.P.In.InEnd.faults g.P.Out.OutEnd.log g.P.Out.OutEnd.faults c.args.turn.now c.else-not-overdue.turn c.cell_at-cell.result c.is_due-overdue.result
reached g c =
    let old = c.args.turn.now in
    let now = c.else-not-overdue.turn in
    let log = g.P.PortMaker.log in
    let faults = g.P.PortMaker.faults in
    let it = g.P.In.InEnd.log in
    let ic = g.P.In.InEnd.faults in
    let ot = g.P.Out.OutEnd.log in
    let oc = g.P.Out.OutEnd.faults in
    let cell = c.cell_at-cell.result in
    elim c.else-not-overdue.branch [
      | else-not-overdue-via-then-not-overdue+else-not-expire_cell w ↦ subst (λ (said : Bool). HasToEnd log faults it ic ot oc old now cell said) (sym w.if-not-overdue.true)
          (subst (λ (turn : BoardTurn _ _ _ _). HasToEnd log faults it ic ot oc old turn cell false) (sym w.turn-is)
          (ends_timed_out log faults it ic ot oc old w.expire_cell.new.main cell w.if-not-expire_cell.ensures.nests w.if-not-expire_cell.ensures.gained c.requires.empty
          w.if-not-expire_cell.ensures.asked))
      | else-not-overdue-via-else-not-overdue w ↦ subst (λ (said : Bool). HasToEnd log faults it ic ot oc old now cell said) (sym w.if-not-overdue.false)
          (subst (λ (turn : BoardTurn _ _ _ _). HasToEnd log faults it ic ot oc old turn cell true) (sym w.turn-is)
          (ends_overdue log faults it ic ot oc old cell c.requires.may c.requires.empty))
    ]

ended_call : (g : _) (c : goal.After-end_call g) (of : Call) (legs : List Holder) (overdue : Bool) → MayExpire g.P.PortMaker.log c.args.turn.now c.args.index of legs overdue
    → IsTurnCall c.else-not-overdue.turn c.call_at-call.result of legs
ended_call g c of legs overdue asks =
    let old = c.args.turn.now in
    let config = old.main.config.now in
    let l = made_by old.main.hand.now in
    let log = g.P.PortMaker.log in
    let call_is = number_there config old.main.hand.now old.board.now (log old.ports.now) old.main.entry_id.moment c.args.index of legs overdue asks c.call_at-call.result c.call_at-call.ensures.live in
    let is = cell_there config old.main.hand.now old.board.now (log old.ports.now) old.main.entry_id.moment c.args.index of legs overdue asks c.cell_at-cell.result c.cell_at-cell.ensures.live in
    then_call log g.P.PortMaker.faults g.P.In.InEnd.log g.P.In.InEnd.faults g.P.Out.OutEnd.log g.P.Out.OutEnd.faults old c.else-not-overdue.turn c.cell_at-cell.result
    c.is_due-overdue.result (reached g c) of legs is c.call_at-call.result asks.is_call call_is

pub returns-clause-works : goal.returns-clause-works
returns-clause-works g c =
    works_both g.P.PortMaker.log g.P.PortMaker.faults c.args.turn.now c.else-not-overdue.turn c.end_call.new.turn (reached g c).works c.end_call.ensures.works

pub returns-clause-gained : goal.returns-clause-gained
returns-clause-gained g c of legs overdue asks =
    let old = c.args.turn.now in
    let config = old.main.config.now in
    let l = made_by old.main.hand.now in
    let log = g.P.PortMaker.log in
    let is = cell_there config old.main.hand.now old.board.now (log old.ports.now) old.main.entry_id.moment c.args.index of legs overdue asks c.cell_at-cell.result c.cell_at-cell.ensures.live in
    let said = overdue_there config old.main.hand.now old.board.now (log old.ports.now) old.main.entry_id.moment c.args.index of legs overdue asks c.call_at-call.result c.is_due-overdue.result
    c.call_at-call.ensures.live c.is_due-overdue.ensures in
    then_gained log g.P.PortMaker.faults g.P.In.InEnd.log g.P.In.InEnd.faults g.P.Out.OutEnd.log g.P.Out.OutEnd.faults old c.else-not-overdue.turn c.cell_at-cell.result
    c.is_due-overdue.result (reached g c) of legs is c.end_call.new.turn.main overdue said (c.end_call.ensures.gained of legs (ended_call g c of legs overdue asks))

pub returns-clause-asked : goal.returns-clause-asked
returns-clause-asked g c of legs overdue asks other v shows apart =
    let old = c.args.turn.now in
    let call_is = number_there old.main.config.now old.main.hand.now old.board.now (g.P.PortMaker.log old.ports.now) old.main.entry_id.moment c.args.index of legs overdue asks
    c.call_at-call.result c.call_at-call.ensures.live in
    subst (λ (k : ℕ). BoardMatches other c.end_call.new.turn.board.now (with_call_ended v k legs)) call_is
    (c.end_call.ensures.ended of legs (ended_call g c of legs overdue asks) other v (subst (λ (board : Board). BoardMatches other board v) (sym (reached g c).board_is) shows) apart)

pub returns-clause-open : goal.returns-clause-open
returns-clause-open g c of legs overdue asks held opens =
    let old = c.args.turn.now in
    let now = c.else-not-overdue.turn in
    let log = g.P.PortMaker.log in
    subst (λ (k : Config). WhereLogged (log now.ports.now) (λ (calls : List PortCall). OpensHeld k calls held)
    → WhereLogged (log c.end_call.new.turn.ports.now) (λ (calls : List PortCall). OpensHeld k calls (pairs_left (leg_pairs legs) held)))
    (same_config old.main now.main (reached g c).works.stays.nests) (c.end_call.ensures.«open» of legs (ended_call g c of legs overdue asks) held)
    (subst (λ (ports : _). WhereLogged (log ports) (λ (calls : List PortCall). OpensHeld old.main.config.now calls held)) (sym (reached g c).ports_are) opens)

pub returns-clause-timed_out : goal.returns-clause-timed_out
returns-clause-timed_out g c of legs overdue asks not_overdue all =
    let old = c.args.turn.now in
    let config = old.main.config.now in
    let l = made_by old.main.hand.now in
    let log = g.P.PortMaker.log old.ports.now in
    let is = cell_there config old.main.hand.now old.board.now log old.main.entry_id.moment c.args.index of legs overdue asks c.cell_at-cell.result c.cell_at-cell.ensures.live in
    let said = overdue_there config old.main.hand.now old.board.now log old.main.entry_id.moment c.args.index of legs overdue asks c.call_at-call.result c.is_due-overdue.result c.call_at-call.ensures.live
    c.is_due-overdue.ensures in
    let low = asks.is_call.low in
    let high = asks.is_call.high in
    let may = c.requires.may in
    subst (λ (k : ℕ). IsDueBy config l k old.main.entry_id.moment true) is
    (due_by_whole g.P.In.InEnd.log g.P.In.InEnd.faults g.P.Out.OutEnd.log g.P.Out.OutEnd.faults config old.main.hand.now c.cell_at-cell.result old.main.entry_id.moment true may.parts
    may.numbered (omega (arith, is, low)) (omega (arith, is, high)) (subst (λ (k : ℕ). HasNewKeys l k) (sym is) asks.is_call.keys) all
    ((reached g c).timed_out (said ∙ not_overdue) (subst (λ (k : ℕ). HasNewKeys l k) (sym is) asks.is_call.keys)))

pub returns-clause-closes : goal.returns-clause-closes
returns-clause-closes g c =
    let log = g.P.PortMaker.log in
    subst (λ (ports : _). Gained (log ports) (log c.end_call.new.turn.ports.now) NoneOpened) (reached g c).ports_are c.end_call.ensures.none

pub returns-clause-holds : goal.returns-clause-holds
returns-clause-holds g c holds =
    let old = c.args.turn.now in
    let now = c.else-not-overdue.turn in
    let log = g.P.PortMaker.log in
    let ends = reached g c in
    let same = same_config old.main now.main ends.works.stays.nests in
    c.end_call.ensures.holds
    (subst (λ (k : Config). HoldsOpen k now.main.hand.now (log now.ports.now)) (sym same)
    (subst (λ (ports : _). HoldsOpen old.main.config.now now.main.hand.now (log ports)) (sym ends.ports_are)
    (holds_question old.main.config.now old.main.entry_id.number old.main.entry_id.moment old.main.hand.now now.main.hand.now ends.works.stays.nests.same.1 (log old.ports.now)
    c.cell_at-cell.result c.is_due-overdue.result ends.gained holds)))

pub returns-clause-fewer : goal.returns-clause-fewer
returns-clause-fewer g c =
    subst (λ (board : Board). length (board_shape board).calls ≡ length (board_shape c.end_call.new.turn.board.now).calls + 1) (reached g c).board_is c.end_call.ensures.fewer

use Rattle.std.proofs.Common.{◌≡◌, ◌+◌, ℕ, List, map}
use Rattle.port_pool.specs.Ports.{pair_count}
use Rattle.port_pool.specs.Pools.{AreFree}
use Rattle.port_pool.specs.Signals.{NewKey}
use Rattle.call_cell.specs.Preparations.{IsReady, PrepareFor, added, parts_added, leg_room, key_room}
use Rattle.media_ports.specs.Addresses.{pairs_of_leases}
use Rattle.media_ports.specs.Ends.{ArePairsOpened}
use Rattle.relay_core.specs.Scripts.{open_owed}
use Rattle.relay_core.specs.Turns.{made_by}
use Rattle.board_turns.specs.BoardTurns.{MakesNested, Nests}
use Rattle.offer_command.specs.LegBoxes.{AreShut, IsBoxOpened}
use Rattle.offer_command.proofs.LegsOpened.{AreDone}
use Rattle.offer_command.proofs.legs.open_legs.Given as goal

abbrev pub invariant-loop-index : goal.invariant-loop-index
invariant-loop-index g l =
    let old = l.initial.main in
    let config = old.config.now in
    record {
      nests : Nests old l.main;
      gained : MakesNested (map (open_owed config) (added l.prepare)) old l.main;
      done : AreDone l.plan.plan l.plan.call l.plan.cell (IsBoxOpened g.I.InEnd.log g.I.InEnd.faults g.O.OutEnd.log g.O.OutEnd.faults config old.entry_id.number old.entry_id.moment old.hand.now)
          l.initial.leases.list l.leases.list l.initial.opened.list l.opened.list l.index (added l.prepare) (parts_added l.initial.prepare) (parts_added l.prepare);
      leased : AreFree (pair_count config) (pairs_of_leases l.leases.list);
      shut : AreShut config l.main.hand.now (pairs_of_leases l.leases.list);
      opened : ArePairsOpened g.I.InEnd.log g.O.OutEnd.log config l.leases.list l.opened.list;
      stands : (keys : List NewKey) (dropped : List ℕ) → PrepareFor l.initial.prepare keys dropped → PrepareFor l.prepare keys dropped;
      leg_room : leg_room l.prepare + l.index ≡ leg_room l.initial.prepare;
      key_room : key_room l.prepare ≡ key_room l.initial.prepare;
      ready : IsReady l.initial.prepare → IsReady l.prepare;
    }

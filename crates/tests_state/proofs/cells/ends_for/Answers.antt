use Rattle.std.proofs.Common.{◌+◌, subst, sym, List, take, arith}
use Rattle.std.proofs.lemmas.List.{take_all}
use Rattle.relay_outside.specs.declared.address.Addr.{Addr}
use Rattle.call_cell.specs.declared.saved.LegSaved.{LegSaved}
use Rattle.call_cell.specs.GivenEnds.{HasEndsFor}
use Rattle.tests_state.specs.declared.port_ends.PortEnd.{PortEnd}
use Rattle.tests_state.proofs.EndsFor.{more_ends, inserted}
use Rattle.tests_state.proofs.cells.ends_for.Goals as goal

pub loop-index-preserved : goal.loop-index-preserved
loop-index-preserved g c =
    let saved = c.args.saved.now in
    let at = c.leg_address-at.result in
    let end : PortEnd = record { at = at } in
    let ends : Addr × PortEnd × PortEnd = (at, end, end) in
    subst (λ (those : List (Addr × PortEnd × PortEnd)). HasEndsFor saved.config (take (c.loop-index.index + 1) saved.legs.items) those)
    (sym (inserted _ c.loop-index.ends.items c.insert.new.self.items ends _ c.insert.ensures.items c.expect-in-loop-index.ensures))
    (more_ends saved.config saved.legs.items c.loop-index.index c.loop-index.ends.items ends (omega arith) c.leg_address-at.ensures c.loop-index.invariant)

pub returns : goal.returns
returns g c =
    let saved = c.args.saved.now in
    subst (λ (legs : List LegSaved). HasEndsFor saved.config legs c.loop-index.ends.items)
    (take_all c.loop-index.index saved.legs.items (omega arith))
    c.loop-index.invariant

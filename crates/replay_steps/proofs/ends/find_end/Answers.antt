use Rattle.std.proofs.Common.{subst, ◌-◌, ◌<◌, ℕ, ◌/◌, arith}
use Rattle.port_pool.specs.Ports.{first_port, range_pairs}
use Rattle.replay_steps.proofs.PortsOfEnds.{port_within}
use Rattle.replay_steps.proofs.ends.find_end.Goals as goal

-- a port behind those of the range is none
pub returns-then-place-count : goal.returns-then-place-count
returns-then-place-count c e at =
    let within = port_within c.args.config.now e.0 c.args.port e.1 at.in_range at.port_is in
    let first = c.first_port-first.ensures in
    let count = c.range_pairs-count.ensures.count in
    let behind = c.if-place-count.true in
    omega (arith, within, first, count, behind, c.from-port.ensures)

use Rattle.std.proofs.Common.{◌≡◌, false, take}
use Rattle.relay_outside.specs.Ports.{IsOpen}
use Rattle.replay_steps.proofs.open_ports.is_open.Given as goal

abbrev pub invariant-loop-call : goal.invariant-loop-call
invariant-loop-call l = l.opened ≡ false → IsOpen (take l.call-index l.calls) l.at → ⊥

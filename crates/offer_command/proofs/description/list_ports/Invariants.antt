use Rattle.std.proofs.Common.{◌≡◌, take}
use Rattle.std.specs.Prelude.{vec_capacity}
use Rattle.offer_command.specs.Brings.{rtp_ports}
use Rattle.offer_command.proofs.description.list_ports.Given as goal

abbrev pub invariant-loop-index : goal.invariant-loop-index
invariant-loop-index l = record {
  ports : l.numbers.items ≡ rtp_ports (take l.index l.leases.list);
  room : vec_capacity l.numbers ≡ vec_capacity l.initial.numbers;
}

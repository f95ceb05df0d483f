use Rattle.std.proofs.Common.{◌≡◌, take, false}
use Rattle.std.specs.List.{list_any}
use Rattle.std.specs.Str.{bytes_eq}
use Rattle.state_reads.specs.Calls.{saved_ids}
use Rattle.state_reads.proofs.call_orders.has_id.Given as goal

abbrev pub invariant-loop-call : goal.invariant-loop-call
invariant-loop-call l = list_any (λ other. bytes_eq other l.id) (saved_ids (take l.call-index l.calls)) ≡ false

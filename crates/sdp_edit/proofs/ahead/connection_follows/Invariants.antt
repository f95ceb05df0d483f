use Rattle.std.proofs.Common.{◌≡◌, drop}
use Rattle.sdp_edit.specs.Places.{connection_follows}
use Rattle.sdp_edit.proofs.ahead.connection_follows.Given as goal

abbrev pub invariant-loop-at : goal.invariant-loop-at
invariant-loop-at l = connection_follows (drop l.at l.sdp) ≡ connection_follows (drop l.fn.index l.sdp)

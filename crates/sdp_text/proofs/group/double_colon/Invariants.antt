use Rattle.std.proofs.Common.{◌≡◌, take, drop}
use Rattle.sdp_text.specs.Hosts.{around_double_colon}
use Rattle.sdp_text.proofs.group.double_colon.Given as goal
use Rattle.sdp_text.proofs.Colons.{behind}

-- no `::` begins before this byte
abbrev pub invariant-loop-i : goal.invariant-loop-i
invariant-loop-i l = around_double_colon l.text ≡ behind (take l.i l.text) (around_double_colon (drop l.i l.text))

use Rattle.std.proofs.Common.{◌≡◌, ◌+◌, drop}
use Rattle.sdp_text.specs.Parts.{first_connection}
use Rattle.sdp_text.proofs.part.session_connection.Given as goal

-- no line so far is an `m=` or `c=` line
abbrev pub invariant-loop-role : goal.invariant-loop-role
invariant-loop-role l = record {
  number : l.number ≡ l.role-index + 1;
  none : first_connection 1 l.roles ≡ first_connection (l.role-index + 1) (drop l.role-index l.roles);
}

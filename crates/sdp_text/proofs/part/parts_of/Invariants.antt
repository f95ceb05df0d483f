use Rattle.std.proofs.Common.{◌≡◌, ◌+◌, ◌≤◌, length, drop, reverse}
use Rattle.sdp_text.specs.Parts.{first_connection, first_rtcp, holds_mux, parts_from}
use Rattle.sdp_text.proofs.part.parts_of.Given as goal

-- the sections that begin after line `number`, the last one first, and the lines before the first of them
abbrev pub invariant-loop-number : goal.invariant-loop-number
invariant-loop-number l = record {
  within : l.number ≤ length l.roles;
  few : length l.parts.items + l.number ≤ length l.roles;
  connection : l.connection ≡ first_connection (l.number + 1) (drop l.number l.roles);
  rtcp : l.rtcp ≡ first_rtcp (l.number + 1) (drop l.number l.roles);
  mux : l.mux ≡ holds_mux (drop l.number l.roles);
  parts : reverse l.parts.items ≡ parts_from l.session (l.number + 1) (drop l.number l.roles);
}

abbrev pub decreases-loop-number : goal.decreases-loop-number
decreases-loop-number l = l.number

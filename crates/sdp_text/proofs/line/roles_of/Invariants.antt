use Rattle.std.proofs.Common.{◌≡◌, map, take}
use Rattle.sdp_text.specs.Roles.{role}
use Rattle.sdp_text.proofs.line.roles_of.Given as goal

abbrev pub invariant-loop-line : goal.invariant-loop-line
invariant-loop-line l = l.roles.items ≡ map role (map (λ x. x.now) (take l.line-index l.lines))

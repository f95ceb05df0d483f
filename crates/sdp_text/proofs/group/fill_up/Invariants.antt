use Rattle.std.proofs.Common.{◌≡◌, ◌++◌, replicate, take}
use Rattle.sdp_text.proofs.group.fill_up.Given as goal

-- that many groups of zero stand after the left ones
abbrev pub invariant-loop : goal.invariant-loop
invariant-loop l = l.all ≡ l.fn.left ++ replicate l.counter 0

-- and after these the first right ones
abbrev pub invariant-loop-group : goal.invariant-loop-group
invariant-loop-group l = l.all ≡ (l.fn.left ++ replicate l.missing 0) ++ take l.group-index l.group-items

use Rattle.std.proofs.Common.{◌≡◌, drop}
use Rattle.ng_bencode.specs.Lookup.{is_same_key}
use Rattle.ng_bencode.proofs.find.same_key.Given as goal

-- what is left to compare decides
abbrev pub invariant-loop-i : goal.invariant-loop-i
invariant-loop-i l = is_same_key l.a l.b ≡ is_same_key (drop l.i l.a) (drop l.i l.b)

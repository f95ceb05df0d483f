use Rattle.std.proofs.Common.{◌≡◌, drop}
use Rattle.ng_bencode.specs.Tree.{pairs_of}
use Rattle.ng_bencode.specs.Lookup.{value_at}
use Rattle.ng_bencode.proofs.find.lookup.Given as goal

-- no pair so far has the key, so what is left has the answer
abbrev pub invariant-loop-pair : goal.invariant-loop-pair
invariant-loop-pair l = value_at (pairs_of l.pair-items) l.key ≡ value_at (pairs_of (drop l.pair-index l.pair-items)) l.key

use Rattle.ng_json.proofs.Places.{PairGoesPast}
use Rattle.ng_json.proofs.decode.place_of.Given as goal

-- each of the pairs so far has a smaller key
abbrev pub invariant-loop-i : goal.invariant-loop-i
invariant-loop-i l = PairGoesPast l.key l.pairs l.i

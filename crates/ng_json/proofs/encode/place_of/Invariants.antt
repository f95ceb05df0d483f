use Rattle.ng_json.proofs.Places.{GoesPast}
use Rattle.ng_json.proofs.encode.place_of.Given as goal

-- none of the members so far has a greater key
abbrev pub invariant-loop-i : goal.invariant-loop-i
invariant-loop-i l = GoesPast l.key l.members l.i

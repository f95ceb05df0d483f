use Rattle.std.proofs.Common.{◌≡◌, ℕ, ◌<◌, get_or, eqb, false}
use Rattle.sdp_text.proofs.piece.place_of.Given as goal

-- no byte before this one is a stop
abbrev pub invariant-loop-i : goal.invariant-loop-i
invariant-loop-i l = (k : ℕ) → k < l.i → eqb (get_or l.text k 0) l.stop ≡ false

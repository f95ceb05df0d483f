use Rattle.std.proofs.Common.{ℕ, ◌<◌, ◌≡◌, true, false, get_or}
use Rattle.whole_records.proofs.pairs.are_marked.Given as goal

abbrev pub invariant-loop-mark : goal.invariant-loop-mark
invariant-loop-mark l = (k : ℕ) → k < l.mark-index → get_or l.marks k false ≡ true

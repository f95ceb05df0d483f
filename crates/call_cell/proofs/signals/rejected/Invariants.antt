use Rattle.std.proofs.Common.{◌≡◌, ℕ, ◌<◌, false, get_or, length}
use Rattle.port_pool.specs.Signals.{is_rejected}
use Rattle.call_cell.proofs.signals.rejected.Given as goal

abbrev pub invariant-loop-section : goal.invariant-loop-section
invariant-loop-section l = (length l.flags ≡ 8) × ((k : ℕ) → k < l.section → get_or l.flags k false ≡ is_rejected l.signal k)

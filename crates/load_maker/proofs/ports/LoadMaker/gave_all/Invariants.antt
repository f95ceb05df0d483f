use Rattle.std.proofs.Common.{◌≡◌, ◌<◌, ℕ, slice_index_or}
use Rattle.load_maker.specs.declared.ports.ClosedEnd.{ClosedEnd}
use Rattle.load_maker.specs.Ports.{end_at}
use Rattle.load_maker.proofs.ports.LoadMaker.gave_all.Given as goal

abbrev pub invariant-loop-number : goal.invariant-loop-number
invariant-loop-number l = record {
  ends : (n : ℕ) (d : ClosedEnd) → n < l.number → slice_index_or l.self.closed n d ≡ end_at l.host l.first l.packets n;
}

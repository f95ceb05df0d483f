-- What an offer brings to a call, as an event of its cell.
use Rattle.std.specs.Prelude.{ℕ}
use Rattle.call_cell.specs.declared.prepare.Prepare as prepared
use Rattle.call_cell.specs.Cells.{CellEvent, Prepare}
use Rattle.call_cell.specs.Preparations.{added, prepared_keys, drops_of}

abbrev pub brings : {O : Type 0} → (call : ℕ) → prepared.Prepare O → CellEvent
brings call signal = Prepare call (added signal) (prepared_keys signal) (drops_of signal)

use Rattle.std.proofs.Common.{◌≡◌, ◌++◌, drop}
use Rattle.relay_outside.specs.declared.settings.Config.{Config}
use Rattle.call_shapes.specs.Turns.{pairs_held}
use Rattle.whole_records.specs.Records.{saved_held_legs}
use Rattle.whole_records.proofs.pairs.put_held.Given as goal

-- what is put, with what is left, is the whole list
abbrev pub invariant-loop-call : goal.invariant-loop-call
invariant-loop-call l = (config : Config) →
    l.pairs.items ++ pairs_held (saved_held_legs config (drop l.call-index l.calls) l.cells) ≡ l.initial.pairs.items ++ pairs_held (saved_held_legs config l.calls l.cells)

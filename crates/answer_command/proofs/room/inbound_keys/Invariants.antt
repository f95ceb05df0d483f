use Rattle.std.proofs.Common.{◌≡◌, ◌+◌, drop}
use Rattle.call_cell.specs.Commits.{inbound_keys}
use Rattle.answer_command.proofs.room.inbound_keys.Given as goal

-- the keys of the sections so far, and those of the sections that are left
abbrev pub invariant-loop-index : goal.invariant-loop-index
invariant-loop-index l = l.keys + inbound_keys (drop l.index l.signal) ≡ inbound_keys l.signal

use Rattle.std.proofs.Common.{◌≡◌, ◌↔◌, drop}
use Rattle.check_scripts.specs.Output.{text_of_lines}
use Rattle.check_scripts.proofs.playback.first_difference.Given as goal

abbrev pub invariant-loop-index : goal.invariant-loop-index
invariant-loop-index l = (text_of_lines l.calls ≡ l.prints) ↔ (text_of_lines (drop l.index l.calls) ≡ l.rest)

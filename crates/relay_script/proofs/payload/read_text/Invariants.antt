use Rattle.std.proofs.Common.{List, ℕ, ◌≤◌, length}
use Rattle.relay_script.specs.Fields.{IsText}
use Rattle.relay_script.proofs.Payloads.{TextBefore, SomeText}
use Rattle.relay_script.proofs.payload.read_text.Given as goal

-- the pieces so far are read, and what the whole stands for goes on in the rest
abbrev pub invariant-loop-rest : goal.invariant-loop-rest
invariant-loop-rest l = record {
  before : TextBefore l.text l.bytes.list l.rest;
  left : (all : List ℕ) → IsText l.text all → SomeText l.rest;
  room : length l.rest ≤ l.bytes.spare;
}

abbrev pub decreases-loop-rest : goal.decreases-loop-rest
decreases-loop-rest l = length l.rest

use Rattle.std.proofs.Common.{List, ℕ, ◌≤◌, ◌+◌, ◌*◌, length}
use Rattle.relay_script.specs.Fields.{IsHex}
use Rattle.relay_script.proofs.Payloads.{HexBefore, SomeHex}
use Rattle.relay_script.proofs.payload.read_hex.Given as goal

-- the digits so far are read, and what the whole writes goes on in the rest
abbrev pub invariant-loop-rest : goal.invariant-loop-rest
invariant-loop-rest l = record {
  before : HexBefore l.digits l.bytes.list l.rest;
  left : (all : List ℕ) → IsHex l.digits all → SomeHex l.rest;
  room : length l.rest ≤ 2 * l.bytes.spare + 1;
}

abbrev pub decreases-loop-rest : goal.decreases-loop-rest
decreases-loop-rest l = length l.rest

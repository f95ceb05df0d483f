-- Calls to come that are to fail: for each, which call from now it is, from 1. Of a call that came the number is 0.
use Rattle.std.specs.Prelude.{ℕ, ◌-◌, Bool, true, false, ◌==◌, List, map}
use Rattle.std.specs.List.{list_any}
use Rattle.relay_outside.specs.Failures.{next_count}
use Rattle.ng_bencode.specs.Room.{Room}

-- whether the next call fails
abbrev pub next_counted_fails : List ℕ → Bool
next_counted_fails numbers = list_any (λ n. n == 1) numbers

-- the numbers after the next call, whether it failed or not
abbrev pub counted_down : List ℕ → List ℕ
counted_down numbers = map (λ n. n - 1) numbers

-- the same, with the room for more of them
abbrev pub counted_room : Room ℕ → Room ℕ
counted_room numbers = record { list = counted_down numbers.list; spare = numbers.spare }

-- the count of faults after a call that returned Ok or failed
abbrev pub faults_after : (done : Bool) → ℕ → ℕ
faults_after true faults = faults
faults_after false faults = next_count faults

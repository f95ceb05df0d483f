-- Which calls of a device in memory fail: those whose number, from 1, stands in its list.
use Rattle.std.specs.Prelude.{ℕ, ◌+◌, ◌-◌, ◌^◌, min, Bool, ◌==◌, if◌then◌else◌, List}
use Rattle.std.specs.List.{list_any}

-- the numbers of the calls that fail, how many calls were made, how many of them failed
pub record Failures : Type 0 where
  pub numbers : List ℕ
  pub calls : ℕ
  pub faults : ℕ

-- one more, up to the end of the type
abbrev pub next_count : ℕ → ℕ
next_count n = min (n + 1) (2 ^ 64 - 1)

-- whether the next call fails
abbrev pub next_fails : Failures → Bool
next_fails failures = list_any (λ n. n == next_count failures.calls) failures.numbers

-- after the next call
abbrev pub after_call : Failures → Failures
after_call failures = record {
  numbers = failures.numbers;
  calls = next_count failures.calls;
  faults = if next_fails failures then next_count failures.faults else failures.faults;
}

-- a device that was not called yet, whose calls with these numbers fail
abbrev pub uncalled : List ℕ → Failures
uncalled numbers = record { numbers = numbers; calls = 0; faults = 0 }

-- after one more fault, of a call that was counted before
abbrev pub after_fault : Failures → Failures
after_fault failures = record {
  numbers = failures.numbers;
  calls = failures.calls;
  faults = next_count failures.faults;
}

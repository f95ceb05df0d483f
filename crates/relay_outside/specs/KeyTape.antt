-- What the key sources in memory give.
use Rattle.std.specs.Prelude.{◌≡◌, ℕ, Bool, true, Option, List, [], ◌∷◌, ◌++◌, replicate}
use Rattle.std.specs.Int.{to_le_bytes, w64}
use Rattle.relay_outside.specs.declared.keys.KeyCall.{KeyCall}
use Rattle.relay_outside.specs.Failures.{Failures, next_count, next_fails, after_call}

-- a key source in memory that numbers its draws: its log, and the number of its next draw
pub record KeyTape : Type 0 where
  pub log : Option (List KeyCall)
  pub number : ℕ

-- the eight bytes of the number, lowest first, and 22 zero bytes
abbrev pub numbered_key : ℕ → List ℕ
numbered_key number = to_le_bytes w64 number ++ replicate 22 0

-- a key source in memory that has a list of keys: its log, the keys that are left, which draws fail
pub record KeyState : Type 0 where
  pub log : Option (List KeyCall)
  pub keys : List (List ℕ)
  pub failures : Failures

-- whether the next draw fails, where these keys are left: by its number, and always where none is left
abbrev pub draw_fails : List (List ℕ) → Failures → Bool
draw_fails [] failures = true
draw_fails (key ∷ keys) failures = next_fails failures

-- after the next draw, where these keys are left: one more call, and one more fault where it failed
abbrev pub after_draw : List (List ℕ) → Failures → Failures
after_draw [] failures = record {
  numbers = failures.numbers;
  calls = next_count failures.calls;
  faults = next_count failures.faults;
}
after_draw (key ∷ keys) failures = after_call failures

-- a draw gives the front of the list
abbrev pub GivesKey : List (List ℕ) → List (List ℕ) → List ℕ → Type 0
GivesKey [] left key = ⊥
GivesKey (front ∷ keys) left key = (key ≡ front) × (left ≡ keys)

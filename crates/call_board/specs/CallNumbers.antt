-- Calls in the order of their numbers.
use Rattle.std.specs.Prelude.{ℕ, ◌<◌, ◌≤◌, ◌+◌, List, [], ◌∷◌, length, slice_index_or}
use Rattle.std.specs.Coded.{×_prop, le_prop}
use Rattle.call_board.specs.declared.live_call.LiveCall.{LiveCall}

-- the numbers of the calls rise
abbrev pub NumbersRise : List LiveCall → Type 0
NumbersRise calls = (i j : ℕ) (d : LiveCall) → i < j → j < length calls → (slice_index_or calls i d).number < (slice_index_or calls j d).number

-- they rise from the first of these numbers on, and stay below the other
abbrev pub AreBelow : ℕ → List LiveCall → ℕ → Type 0
AreBelow from [] below = from ≤ below
AreBelow from (call ∷ calls) below = (from ≤ call.number) × AreBelow (call.number + 1) calls below

pub AreBelow-prop : (from : ℕ) (calls : List LiveCall) (below : ℕ) → IsProp (AreBelow from calls below)
AreBelow-prop from [] below = le_prop
AreBelow-prop from (call ∷ calls) below = ×_prop le_prop (AreBelow-prop (call.number + 1) calls below)

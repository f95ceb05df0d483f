-- Which steps the events are.
use Rattle.std.specs.Prelude.{◌≡◌, ℕ, ◌+◌, ◌%◌, ◌^◌, List, Option, Some, None, slice_get}
use Rattle.turn_example.specs.declared.machine.Part.{Part}
use Rattle.turn_example.specs.declared.machine.Part.TheVariants.{Board, Port}
use Rattle.turn_example.specs.declared.machine.Event.{Event}
use Rattle.turn_example.specs.declared.machine.Event.TheVariants.{Planned, Opened, Took}
use Rattle.turn_example.specs.declared.machine.Outcome.{Outcome}
use Rattle.turn_example.specs.declared.machine.Outcome.TheVariants.{Done, Shut, Gave}

module _ {I : Type 0} (gives : I → Option ℕ → I → Type 0) where
  -- the board counts, a box that is opened has an end, and a box gives what its end gives
  abbrev pub ExampleSteps : Part I → Event → Outcome → Part I → Type 0
  ExampleSteps (Board n) (Planned k) Done (Board m) = m ≡ (n + 1) % 2 ^ 64
  ExampleSteps (Port p) (Opened n) Done (Port (Some i)) = Unit {0}
  ExampleSteps (Port None) Took Shut (Port None) = Unit {0}
  ExampleSteps (Port (Some i)) Took (Gave x) (Port (Some j)) = gives i x j
  ExampleSteps _ _ _ _ = ⊥

-- all but the takes are the main hand's
abbrev pub IsMainEvent : Event → Type 0
IsMainEvent Took = ⊥
IsMainEvent _ = Unit {0}

module _ {I : Type 0} where
  abbrev pub IsBoard : Part I → Type 0
  IsBoard (Board n) = Unit {0}
  IsBoard _ = ⊥

  abbrev pub IsExampleBox : Part I → Type 0
  IsExampleBox (Port p) = Unit {0}
  IsExampleBox _ = ⊥

  -- the place k begins as a board, as a box
  abbrev pub BeginsAsBoard : List (Part I) → ℕ → Type 0
  BeginsAsBoard starts k = (x : Part I) → slice_get starts k ≡ Some x → IsBoard x

  abbrev pub BeginsAsBox : List (Part I) → ℕ → Type 0
  BeginsAsBox starts k = (x : Part I) → slice_get starts k ≡ Some x → IsExampleBox x

-- A board stays a board, and a box a box.
use Rattle.std.proofs.Common.{ℕ, List, [], ◌∷◌, Option, Some, None, subst}
use Rattle.turn_table.specs.declared.machine.Entry.{Entry}
use Rattle.turn_table.specs.declared.view.View.{View}
use Rattle.turn_table.specs.Histories.{Leaves}
use Rattle.turn_table.specs.Steps.{GivenView}
use Rattle.turn_example.specs.declared.machine.Part.{Part}
use Rattle.turn_example.specs.declared.machine.Part.TheVariants.{Board, Port}
use Rattle.turn_example.specs.declared.machine.Event.{Event}
use Rattle.turn_example.specs.declared.machine.Event.TheVariants.{Planned, Opened, Took}
use Rattle.turn_example.specs.declared.machine.Outcome.{Outcome}
use Rattle.turn_example.specs.declared.machine.Outcome.TheVariants.{Done, Shut, Gave}
use Rattle.turn_example.specs.Parts.{ExampleSteps, IsMainEvent, IsBoard, IsExampleBox, BeginsAsBoard, BeginsAsBox}

module _ {I : Type 0} (gives : I → Option ℕ → I → Type 0) where
  box_step : (a : Part I) (e : Event) (o : Outcome) (b : Part I) → ExampleSteps gives a e o b → IsExampleBox a → IsExampleBox b
  box_step (Board n) e o b s is = absurd is
  box_step (Port p) (Opened n) Done (Port (Some i)) s is = tt
  box_step (Port None) Took Shut (Port None) s is = tt
  box_step (Port (Some i)) Took (Gave x) (Port (Some j)) s is = tt
  box_step _ _ _ _ s is = absurd s

  board_step : (a : Part I) (e : Event) (o : Outcome) (b : Part I) → ExampleSteps gives a e o b → IsBoard a → IsBoard b
  board_step (Port p) e o b s is = absurd is
  board_step (Board n) (Planned k) Done (Board m) s is = tt
  board_step _ _ _ _ s is = absurd s

  stays : (P : Part I → Type 0) → ((a : Part I) (e : Event) (o : Outcome) (b : Part I) → ExampleSteps gives a e o b → P a → P b) → (a b : Part I) (h : List (Entry Event Outcome)) → Leaves (ExampleSteps gives) a h b → P a → P b
  stays P step a b [] same is = subst P same is
  stays P step a b (e ∷ es) l is = stays P step l.0 b es l.2 (step a e.event e.outcome l.0 l.1 is)

  pub given_box : (k : ℕ) (v : View (Part I) Event Outcome) (n : ℕ) (x : Part I) → GivenView (ExampleSteps gives) IsMainEvent k v n x → BeginsAsBox v.starts k → IsExampleBox x
  given_box k v n x g begins = stays IsExampleBox box_step g.start x g.history g.leaves (begins g.start g.starts)

  pub given_board : (k : ℕ) (v : View (Part I) Event Outcome) (n : ℕ) (x : Part I) → GivenView (ExampleSteps gives) IsMainEvent k v n x → BeginsAsBoard v.starts k → IsBoard x
  given_board k v n x g begins = stays IsBoard board_step g.start x g.history g.leaves (begins g.start g.starts)

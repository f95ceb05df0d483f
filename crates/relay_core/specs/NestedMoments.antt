-- Which moments nested steps are handed.
use Rattle.std.specs.Prelude.{◌≡◌, true, List}
use Rattle.turn_table.specs.declared.machine.Entry as table
use Rattle.turn_table.specs.Histories.{IsMemberOf}
use Rattle.relay_core.specs.Legal.{is_handed_boards}
use Rattle.relay_core.specs.Records.{Made}

module _ {T : Type 0} where
  -- each row that is handed its board entry's moment was handed the moment of the row of that board entry
  abbrev pub IsHanded : List (table.Entry Made T) → Type 0
  IsHanded rows =
      (row : table.Entry Made T) → IsMemberOf row rows → is_handed_boards row.event.event ≡ true → (b : table.Entry Made T) → IsMemberOf b rows → b.place ≡ 0
      → b.number ≡ row.event.board → row.event.handed ≡ b.event.moment

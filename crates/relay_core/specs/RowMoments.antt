-- Which moments the rows of a list have.
use Rattle.std.specs.Prelude.{◌≡◌, List}
use Rattle.turn_table.specs.declared.machine.Entry as table
use Rattle.turn_table.specs.Histories.{IsMemberOf}
use Rattle.relay_core.specs.Legal.{last_moment}
use Rattle.relay_core.specs.Records.{Made, entry_of, list_of, moment_of}

module _ {T : Type 0} where
  -- Each row has the moment that its event makes of the one that it was handed and of the last one of its place before it: so a relay has
  -- the greater of the two
  abbrev pub AreTimed : List (table.Entry Made T) → Type 0
  AreTimed rows =
      (row : table.Entry Made T) → IsMemberOf row rows → row.event.moment ≡ moment_of row.event.event row.event.handed (last_moment (list_of rows) (entry_of row))

-- The main hand while hands of lanes are taken in.
use Rattle.relay_outside.specs.declared.settings.Config.{Config}
use Rattle.turn_table.specs.declared.hands.Turns.{Turns}
use Rattle.turn_table.specs.declared.hands.Hand.{Hand}
use Rattle.turn_table.specs.Hands.{IsHandOf, IsMain, HasNoTurn, starts, entries}
use Rattle.relay_core.specs.declared.part.Part.{Part}
use Rattle.relay_core.specs.Records.{Made}
use Rattle.relay_core.specs.FirstPlaces.{AreParts}
use Rattle.relay_core.specs.WholeParts.{AreWholeParts}
use Rattle.relay_core.specs.KeptAfter.{IsWholeNow}
use Rattle.relay_core.specs.Turns.{Numbered, made_by}
use Rattle.relay_core.specs.Joins.{IsSound}

module _ {M I O T : Type 0} {g : _} where
  -- The main hand of a relay with this configuration holds no turn, and its list is what the board's turns so far have made of it, with
  -- what lanes have. It is what is known of it between the board's turns, but for what a hand without all parts can't see: that each
  -- place and number stands once in the list
  pub record IsBetweenJoins (config : Config) (turns : Turns M (Part I O) Made T) (hand : Hand M (Part I O) Made T g) : Type 0 where
    pub of_table : IsHandOf turns hand
    pub main : IsMain hand
    pub idle : HasNoTurn hand
    pub parts : AreParts config (starts hand)
    pub whole_parts : AreWholeParts config (starts hand)
    pub sound : IsSound config (entries hand)
    pub whole : Numbered (made_by hand) → IsWholeNow config hand

use Rattle.std.proofs.Common.{ℕ}
use Rattle.relay_outside.specs.declared.settings.Config.{Config}
use Rattle.turn_table.specs.declared.hands.Turns.{Turns}
use Rattle.turn_table.specs.declared.hands.Hand.{Hand}
use Rattle.relay_core.specs.declared.part.Part.{Part}
use Rattle.relay_core.specs.Records.{Made}
use Rattle.board_turns.specs.Between.{IsBetween}
use Rattle.board_turns.specs.NestedSteps.{MayNest}
use Rattle.board_turns.proofs.Firsts.{first_between}
use Rattle.tests_turns.proofs.first_relay.begin.Goals as goal

may_nest : {M I O T : Type 0} {g : _} (config : Config) (turns : Turns M (Part I O) Made T) (hand : Hand M (Part I O) Made T g) → IsBetween config turns hand → MayNest config turns hand
may_nest config turns hand between = record {
  of_table = between.of_table;
  main = between.main;
  alone = λ k has. absurd (has (between.idle k));
  parts = between.parts;
  whole_parts = between.whole_parts;
  numbered = between.numbered;
}

pub returns-clause-between : goal.returns-clause-between
returns-clause-between c =
    first_between _ c.in-Ok-start.turns c.in-Ok-start.hand c.in-Ok.states.items c.in-Ok-start.ensures.0 c.in-Ok-start.ensures.1 c.in-Ok.ensures.begins c.in-Ok.ensures.whole

pub returns-clause-may : goal.returns-clause-may
returns-clause-may c =
    may_nest _ c.in-Ok-start.turns c.in-Ok-start.hand
    (first_between _ c.in-Ok-start.turns c.in-Ok-start.hand c.in-Ok.states.items c.in-Ok-start.ensures.0 c.in-Ok-start.ensures.1 c.in-Ok.ensures.begins c.in-Ok.ensures.whole)

-- What stays as it was in a turn stays so over one call after another.
use Rattle.std.proofs.Common.{◌≡◌, ◌∙◌, ◌++◌, refl, sym, ap, subst, ℕ, List, [], Option, arith}
use Rattle.relay_outside.specs.declared.ports.PortCall.{PortCall}
use Rattle.relay_outside.specs.declared.settings.Config.{Config}
use Rattle.turn_table.specs.Hands.{entries}
use Rattle.relay_core.specs.Scripts.{Owed}
use Rattle.relay_core.specs.Turns.{GainsNested}
use Rattle.board_turns.specs.declared.board_turn.BoardEntryId.{BoardEntryId}
use Rattle.board_turns.specs.declared.board_turn.MainHand.{MainHand}
use Rattle.board_turns.specs.declared.board_turn.BoardTurn.{BoardTurn}
use Rattle.board_turns.specs.NestedSteps.{MayNest}
use Rattle.board_turns.specs.Ties.{PortsFollowRows}
use Rattle.board_turns.specs.BoardTurns.{CanNest, Nests, MakesNested, StaysInTurn, Works}
use Rattle.board_turns.proofs.Nesting.{gains_more, same_again}
use Rattle.board_turns.proofs.Tying.{ties_none, ties_both}

module _ {I O : Type 0} {g : _} where
  -- no step was made
  pub nests_none : (main : MainHand I O g) → CanNest main → Nests main main
  nests_none main may = record {
    turns_are = refl;
    config_is = refl;
    entry_is = refl;
    hand_is = refl;
    same = (refl, refl, refl, refl);
    same_turns = λ j. refl;
    may = may;
  }

  -- the configuration is what it was
  pub same_config : (old new : MainHand I O g) → Nests old new → new.config.now ≡ old.config.now
  same_config old new nests = ap (λ config. config.now) nests.config_is

  -- more steps may be made
  pub may_again : (old new : MainHand I O g) → Nests old new → CanNest new
  may_again old new nests =
      subst (λ turns. MayNest new.config.now turns.now new.hand.now) (sym nests.turns_are)
      (subst (λ (config : Config). MayNest config old.turns.now new.hand.now) (sym (same_config old new nests)) nests.may)

  pub nests_both : (old mid new : MainHand I O g) → Nests old mid → Nests mid new → Nests old new
  nests_both old mid new first second = record {
    turns_are = second.turns_are ∙ first.turns_are;
    config_is = second.config_is ∙ first.config_is;
    entry_is = second.entry_is ∙ first.entry_is;
    hand_is = second.hand_is ∙ first.hand_is;
    same = same_again old.hand.now mid.hand.now new.hand.now first.same second.same;
    same_turns = λ j. second.same_turns j ∙ first.same_turns j;
    may = subst (λ turns. MayNest old.config.now turns.now new.hand.now) first.turns_are
        (subst (λ (config : Config). MayNest config mid.turns.now new.hand.now) (same_config old mid first) second.may);
  }

  pub makes_both : (owed more : List Owed) (old mid new : MainHand I O g) → Nests old mid → MakesNested owed old mid → MakesNested more mid new → MakesNested (owed ++ more) old new
  makes_both owed more old mid new nests first second =
      gains_more old.entry_id.number old.entry_id.moment owed more old.hand.now mid.hand.now new.hand.now first
      (subst (λ (id : BoardEntryId). GainsNested id.number id.moment more mid.hand.now new.hand.now) nests.entry_is second)

module _ {P I O : Type 0} {g : _} (log : P → Option (List PortCall)) (faults : P → ℕ) where
  pub stays_none : (turn : BoardTurn P I O g) → CanNest turn.main → StaysInTurn log faults turn turn
  stays_none turn may = record {
    nests = nests_none turn.main may;
    devices = record { board_is = refl; ports_are = refl; gone_is = refl };
    replies = refl;
    later = omega arith;
  }

  pub stays_both : (old mid new : BoardTurn P I O g) → StaysInTurn log faults old mid → StaysInTurn log faults mid new → StaysInTurn log faults old new
  stays_both old mid new first second =
      let early = first.later in
      let late = second.later in
      record {
        nests = nests_both old.main mid.main new.main first.nests second.nests;
        devices = record {
          board_is = second.devices.board_is ∙ first.devices.board_is;
          ports_are = second.devices.ports_are ∙ first.devices.ports_are;
          gone_is = second.devices.gone_is ∙ first.devices.gone_is;
        };
        replies = second.replies ∙ first.replies;
        later = omega (arith, early, late);
      }

  pub works_none : (turn : BoardTurn P I O g) → CanNest turn.main → turn.gone.now ≡ [] → Works log faults turn turn
  works_none turn may empty = record {
    stays = stays_none turn may;
    ties = ties_none turn.main.config.now (log turn.ports.now) (entries turn.main.hand.now);
    empty = empty;
    whole = λ w. w;
  }

  pub works_both : (old mid new : BoardTurn P I O g) → Works log faults old mid → Works log faults mid new → Works log faults old new
  works_both old mid new first second = record {
    stays = stays_both old mid new first.stays second.stays;
    ties = ties_both old.main.config.now (log old.ports.now) (log mid.ports.now) (log new.ports.now) (entries old.main.hand.now) (entries mid.main.hand.now)
        (entries new.main.hand.now) first.ties
        (subst (λ (config : Config). PortsFollowRows config (log mid.ports.now) (log new.ports.now) (entries mid.main.hand.now) (entries new.main.hand.now))
        (same_config old.main mid.main first.stays.nests) second.ties);
    empty = second.empty;
    whole = λ w. second.whole (first.whole w);
  }

use Rattle.std.proofs.Common.{◌≡◌, ◌<◌, ℕ, List, [], map, length, slice_index_or}
use Rattle.relay_outside.specs.declared.settings.Config.{Config}
use Rattle.port_pool.specs.Signals.{NewKey}
use Rattle.offer_answer.specs.Rounds.{Round, OfferAsk}
use Rattle.offer_answer.specs.Demands.{new_legs}
use Rattle.offer_answer.specs.Dialogs.{no_state}
use Rattle.offer_answer.specs.Offers.{leg_asked}
use Rattle.offer_answer.specs.Nexts.{SectionNext}
use Rattle.offer_answer.specs.Shapes.{shape_in, shape_with_new}
use Rattle.offer_answer.proofs.ports_and_keys.sections_with_ports.Given as goal

-- the sections so far have their new ports
abbrev pub invariant-loop-index : goal.invariant-loop-index
invariant-loop-index l = record {
  full : length l.sections ≡ 8;
  done : (config : Config) (rounds : List Round) (ask : OfferAsk) (keys : List NewKey) → map leg_asked l.legs ≡ new_legs rounds ask →
      ((section : ℕ) → section < 8 → SectionNext config rounds ask [] keys section (slice_index_or l.kept section no_state)) →
      (section : ℕ) → section < l.index → SectionNext config rounds ask l.ports keys section (slice_index_or l.sections section no_state);
  shapes : (section : ℕ) → section < l.index → shape_in l.sections section ≡ shape_with_new (map leg_asked l.legs) l.ports [] section (shape_in l.kept section);
}

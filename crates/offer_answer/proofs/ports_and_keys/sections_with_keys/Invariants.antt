use Rattle.std.proofs.Common.{◌≡◌, ◌<◌, ℕ, List, [], map, length, slice_index_or}
use Rattle.relay_outside.specs.declared.settings.Config.{Config}
use Rattle.offer_answer.specs.Rounds.{Round, OfferAsk}
use Rattle.offer_answer.specs.Dialogs.{no_state}
use Rattle.offer_answer.specs.Offers.{key_asked}
use Rattle.offer_answer.specs.Nexts.{SectionNext, numbered_keys}
use Rattle.offer_answer.specs.Shapes.{shape_in, shape_with_new}
use Rattle.offer_answer.proofs.ports_and_keys.sections_with_keys.Given as goal

-- the sections so far have their new keys
abbrev pub invariant-loop-index : goal.invariant-loop-index
invariant-loop-index l = record {
  full : length l.sections ≡ 8;
  done : (config : Config) (rounds : List Round) (ask : OfferAsk) (ports : List ℕ) →
      ((section : ℕ) → section < 8 → SectionNext config rounds ask ports [] section (slice_index_or l.kept section no_state)) →
      (section : ℕ) → section < l.index →
      SectionNext config rounds ask ports (numbered_keys l.first_key l.keys (map key_asked l.places)) section (slice_index_or l.sections section no_state);
  shapes : (section : ℕ) → section < l.index → shape_in l.sections section ≡ shape_with_new [] [] (numbered_keys l.first_key l.keys (map key_asked l.places)) section (shape_in l.kept section);
}

use Rattle.std.proofs.Common.{◌≡◌, ◌<◌, ℕ, List, length, slice_index_or}
use Rattle.relay_outside.specs.declared.settings.Config.{Config}
use Rattle.port_pool.specs.Signals.{NewKey, other_side}
use Rattle.offer_answer.specs.Rounds.{Round, OfferAsk}
use Rattle.offer_answer.specs.Sides.{offerer}
use Rattle.offer_answer.specs.Dialogs.{no_state}
use Rattle.offer_answer.specs.LastOffers.{MadeFor, no_made}
use Rattle.offer_answer.specs.Widths.{SameMade}
use Rattle.offer_answer.specs.Nexts.{MadeNext, SectionNext}
use Rattle.offer_answer.proofs.ports_and_keys.sections_with_lines.Given as goal

-- the sections so far have their lines
abbrev pub invariant-loop-index : goal.invariant-loop-index
invariant-loop-index l = record {
  full : length l.made ≡ 8;
  same : (section : ℕ) → section < l.index → SameMade (slice_index_or l.offered section no_made) (slice_index_or l.made section no_made);
  done : (config : Config) (rounds : List Round) (ask : OfferAsk) (ports : List ℕ) (keys : List NewKey) → l.side ≡ other_side (offerer rounds ask) →
      ((section : ℕ) → section < 8 → MadeNext rounds ask section (slice_index_or l.offered section no_made)) →
      ((section : ℕ) → section < 8 → SectionNext config rounds ask ports keys section (slice_index_or l.sections section no_state)) →
      (section : ℕ) → section < l.index →
      MadeFor (record { ask = ask; keys = keys; before = rounds }) section (slice_index_or l.made section no_made);
}

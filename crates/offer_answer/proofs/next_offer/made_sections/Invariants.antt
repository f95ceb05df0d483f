use Rattle.std.proofs.Common.{◌≡◌, ◌<◌, ℕ, List, length, slice_index_or}
use Rattle.relay_outside.specs.declared.settings.Config.{Config}
use Rattle.offer_answer.specs.Rounds.{Round, OfferAsk}
use Rattle.offer_answer.specs.Sides.{offerer}
use Rattle.offer_answer.specs.Dialogs.{DialogFor}
use Rattle.offer_answer.specs.LastOffers.{no_made}
use Rattle.offer_answer.specs.Offers.{ReadsOffer}
use Rattle.offer_answer.specs.Nexts.{MadeNext}
use Rattle.offer_answer.proofs.next_offer.made_sections.Given as goal

-- the sections so far are as they are kept
abbrev pub invariant-loop-index : goal.invariant-loop-index
invariant-loop-index l = record {
  full : length l.sections ≡ 8;
  done : (config : Config) (rounds : List Round) (ask : OfferAsk) → DialogFor config l.fn.dialog rounds → ReadsOffer l.fn.sdp ask →
      l.fn.transport ≡ ask.options.transport → l.fn.maker ≡ offerer rounds ask →
      (section : ℕ) → section < l.index → MadeNext rounds ask section (slice_index_or l.sections section no_made);
}

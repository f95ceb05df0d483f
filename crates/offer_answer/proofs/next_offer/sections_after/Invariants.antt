use Rattle.std.proofs.Common.{◌≡◌, ◌<◌, ℕ, List, [], length, slice_index_or}
use Rattle.relay_outside.specs.declared.settings.Config.{Config}
use Rattle.offer_answer.specs.Rounds.{Round, OfferAsk}
use Rattle.offer_answer.specs.Sides.{offerer}
use Rattle.offer_answer.specs.Dialogs.{DialogFor, no_state}
use Rattle.offer_answer.specs.Offers.{ReadsOffer}
use Rattle.offer_answer.specs.Shapes.{shape_in, shape_of, is_active_at, shape_after}
use Rattle.offer_answer.specs.Nexts.{SectionNext}
use Rattle.offer_answer.proofs.next_offer.sections_after.Given as goal

-- the sections so far are as after the offer
abbrev pub invariant-loop-index : goal.invariant-loop-index
invariant-loop-index l = record {
  full : length l.sections ≡ 8;
  done : (config : Config) (rounds : List Round) (ask : OfferAsk) → DialogFor config l.fn.dialog rounds → ReadsOffer l.fn.sdp ask →
      l.fn.options ≡ ask.options → l.fn.maker ≡ offerer rounds ask →
      (section : ℕ) → section < l.index → SectionNext config rounds ask [] [] section (slice_index_or l.sections section no_state);
  shapes : (section : ℕ) → section < l.index → shape_in l.sections section ≡ shape_after (is_active_at l.fn.sdp section) (shape_of l.fn.dialog section);
}

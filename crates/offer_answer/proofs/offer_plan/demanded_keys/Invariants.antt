use Rattle.std.proofs.Common.{◌≡◌, ◌++◌, List, map}
use Rattle.relay_outside.specs.declared.settings.Config.{Config}
use Rattle.offer_answer.specs.Rounds.{Round, OfferAsk}
use Rattle.offer_answer.specs.Sides.{offerer}
use Rattle.offer_answer.specs.Sections.{section_count}
use Rattle.offer_answer.specs.Demands.{new_keys}
use Rattle.offer_answer.specs.Dialogs.{DialogFor}
use Rattle.offer_answer.specs.Offers.{ReadsOffer, key_asked}
use Rattle.offer_answer.specs.OfferPlaces.{AsksKey}
use Rattle.offer_answer.proofs.Offering.{keys_left}
use Rattle.offer_answer.proofs.Places.{KeysSoFar}
use Rattle.offer_answer.proofs.offer_plan.demanded_keys.Given as goal

-- the keys, with those that are left, are all
abbrev pub invariant-loop-index : goal.invariant-loop-index
invariant-loop-index l = record {
  keys : (config : Config) (rounds : List Round) (ask : OfferAsk) → DialogFor config l.fn.dialog rounds → ReadsOffer l.fn.sdp ask →
      l.fn.transport ≡ ask.options.transport → l.fn.side ≡ offerer rounds ask →
      map key_asked l.keys.items ++ keys_left rounds ask l.index (section_count ask.sdp) ≡ new_keys rounds ask;
  places : KeysSoFar (AsksKey l.fn.sdp l.fn.dialog) l.index l.keys.items;
}

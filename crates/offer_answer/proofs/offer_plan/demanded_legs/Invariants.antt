use Rattle.std.proofs.Common.{◌≡◌, ◌++◌, ◌&&◌, List, map, not}
use Rattle.relay_outside.specs.declared.settings.Config.{Config}
use Rattle.offer_answer.specs.Rounds.{Round, OfferAsk}
use Rattle.offer_answer.specs.Sides.{offerer}
use Rattle.offer_answer.specs.Sections.{section_count}
use Rattle.offer_answer.specs.Demands.{new_legs}
use Rattle.offer_answer.specs.Dialogs.{DialogFor}
use Rattle.offer_answer.specs.Offers.{ReadsOffer, leg_asked}
use Rattle.offer_answer.specs.Shapes.{shape_of, is_active_at}
use Rattle.offer_answer.proofs.Offering.{legs_left}
use Rattle.offer_answer.proofs.Shapes.{DemandedSoFar}
use Rattle.offer_answer.proofs.Places.{LegsSoFar}
use Rattle.offer_answer.proofs.offer_plan.demanded_legs.Given as goal

-- the legs, with those that are left, are all
abbrev pub invariant-loop-index : goal.invariant-loop-index
invariant-loop-index l = record {
  legs : (config : Config) (rounds : List Round) (ask : OfferAsk) → DialogFor config l.fn.dialog rounds → ReadsOffer l.fn.sdp ask →
      l.fn.options ≡ ask.options → l.fn.side ≡ offerer rounds ask → map leg_asked l.legs.items ++ legs_left rounds ask l.index (section_count ask.sdp) ≡ new_legs rounds ask;
  sections : DemandedSoFar (λ section. is_active_at l.fn.sdp section && not (shape_of l.fn.dialog section).has_pairs) l.index l.legs.items;
  pairs : LegsSoFar l.index l.legs.items;
}

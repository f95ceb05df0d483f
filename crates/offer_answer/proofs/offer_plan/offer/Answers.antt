use Rattle.std.proofs.Common.{ap, sym, ◌∙◌, refl}
use Rattle.offer_answer.specs.Plan.{demand}
use Rattle.offer_answer.proofs.Shapes.{after-left}
use Rattle.offer_answer.proofs.Places.{offer-places}
use Rattle.offer_answer.proofs.offer_plan.offer.Goals as goal

pub returns-in-Some-clause-answered : goal.returns-in-Some-clause-answered
returns-in-Some-clause-answered c = λ rounds ask s a differs. c.in-Some.ensures.fault c.args.config.now rounds ask s a

pub returns-clause-answered : goal.returns-clause-answered
unfolding demand
returns-clause-answered c = λ rounds ask s a.
    let side = c.offerer-side.ensures c.args.config.now rounds ask s (a.from_tag_is ∙ sym c.as_slice.ensures) in (
      c.in_default.ensures.fault c.args.config.now rounds ask s a,
      record {
        demands = record {
          pairs_are = c.in_ok-legs.ensures.legs c.args.config.now rounds ask s a.hears (sym a.options_are) side;
          keys_are = c.in_ok-key_places.ensures.keys c.args.config.now rounds ask s a.hears (ap (λ o. o.transport) (sym a.options_are)) side;
          drops_are = c.dropped.ensures.dropped c.args.config.now rounds ask s a.hears;
        };
        next_for = c.in_ok-next.ensures.next c.args.config.now rounds ask s a side;
        config_is = refl;
      },
    )

pub returns-clause-shapes : goal.returns-clause-shapes
returns-clause-shapes c = λ section below.
    c.in_ok-next.ensures.shapes section below
    ∙ after-left _ _ _ _ _ _ _ (c.in_ok-legs.ensures.sections section) (c.dropped.ensures.shapes section below)

pub returns-clause-places : goal.returns-clause-places
returns-clause-places c =
    offer-places _ c.args.dialog.now c.args.sdp.now c.in_ok-legs.ensures.pairs c.in_ok-legs.ensures.sections c.dropped.ensures.shapes c.dropped.ensures.within
    c.in_ok-key_places.ensures.places c.in_ok-key_places.ensures.asked c.in_ok-next.ensures.count c.in_ok-next.ensures.few c.in_default.ensures.enough refl

use Rattle.std.proofs.Common.{map, sym, ap, ◌∙◌, subst}
use Rattle.std.proofs.lemmas.List.{length-map}
use Rattle.offer_answer.specs.Offers.{key_asked}
use Rattle.offer_answer.specs.PortsAndKeys.{FilledFor}
use Rattle.offer_answer.specs.Widths.{SameOffer}
use Rattle.offer_answer.specs.Shapes.{shape_in}
use Rattle.offer_answer.specs.Nexts.{numbered_keys}
use Rattle.offer_answer.proofs.Nexts.{numbered-places}
use Rattle.offer_answer.proofs.last_offer.OfferedNext.put_keys.Goals as goal

pub returns-clause-filled : goal.returns-clause-filled
returns-clause-filled c = λ config rounds ask ports n asked.
    subst (λ places. FilledFor config rounds ask ports (numbered_keys c.args.first_key c.args.keys.now places) c.put_lines.new.self) asked
    (c.put_lines.ensures.filled config rounds ask ports (numbered_keys c.args.first_key c.args.keys.now (map key_asked c.args.places.now))
    (c.put_drawn.ensures.next config rounds ask ports n)
    (numbered-places c.args.first_key c.args.keys.now (map key_asked c.args.places.now) (sym (length-map c.args.places.now key_asked ∙ c.requires.same)) ∙ asked))

pub returns-clause-same : goal.returns-clause-same
returns-clause-same c = subst (λ last. SameOffer last c.put_lines.new.self.last) c.put_drawn.ensures.last c.put_lines.ensures.same

pub returns-clause-shapes : goal.returns-clause-shapes
returns-clause-shapes c = λ section below.
    ap (λ sections. shape_in sections section) c.put_lines.ensures.sections ∙ c.put_drawn.ensures.shapes section below

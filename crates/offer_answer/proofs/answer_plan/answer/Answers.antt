use Rattle.std.proofs.Common.{◌≤◌, Option, None, Some, refl, map, ap, sym, ◌∙◌, subst}
use Rattle.std.proofs.lemmas.Result.{err_from_is_err_and}
use Rattle.offer_answer.specs.Offers.{leg_asked, key_asked}
use Rattle.offer_answer.specs.declared.last_offer.LastOffer.{LastOffer}
use Rattle.offer_answer.proofs.Kept.{none-set}
use Rattle.offer_answer.proofs.AnswerShapes.{answers}
use Rattle.offer_answer.proofs.answer_plan.answer.Goals as goal

pub returns-in_err-last-clause-answered : goal.returns-in_err-last-clause-answered
returns-in_err-last-clause-answered c =
    let p = err_from_is_err_and c.from_residual.result c.from_residual.ensures.1 in
    rw (p.1, p.2) (λ rounds ask s a memory. c.in_err-last.ensures.fault c.args.config.now rounds ask s a)

pub returns-clause-answered : goal.returns-clause-answered
returns-clause-answered c = λ rounds ask s a.
    let last = c.in_ok-last.ensures.offer c.args.config.now rounds ask s a in
    let offer = last.1.0 in
    let is = last.1.1 in (
      last.0,
      record {
        demands = record {
          pairs_are = ap (map leg_asked) c.new.ensures.items;
          keys_are = ap (map key_asked) c.new-2.ensures.items;
          drops_are = none-set 8;
        };
        next_for = c.in_ok-next.ensures.next c.args.config.now rounds offer ask s is a;
        signal_is = c.in_ok-signal.ensures.signal c.args.config.now rounds offer ask s is a.hears a.options_are;
        text_is = c.in_ok-edit.ensures.text rounds offer ask s is.offer_is is.kept is.kept.heard a.options_are a.hears.lines_are;
      },
    )

pub returns-clause-shapes : goal.returns-clause-shapes
returns-clause-shapes c =
    answers c.args.dialog.now c.in_ok-last.last.now c.args.sdp.now c.in_ok-next.next.sections c.in_ok-signal.signal
    c.in_ok-next.ensures.shapes c.in_ok-signal.ensures.count c.in_ok-signal.ensures.shapes

pub returns-clause-counts : goal.returns-clause-counts
returns-clause-counts c =
    let same = c.in_ok-last.ensures.same in
    let offered = sym (ap (λ (o : Option LastOffer). elim o [ None ↦ 0 | Some last ↦ last.count ]) c.in_ok-last.ensures.kept) in
    record {
      signal_is = c.in_ok-signal.ensures.count ∙ same.count_is ∙ offered;
      most = subst (λ n. n ≤ 8) offered same.most;
      offered_is = refl;
      committed_is = c.in_ok-next.ensures.count ∙ offered;
    }

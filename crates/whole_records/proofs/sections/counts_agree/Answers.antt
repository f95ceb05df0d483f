use Rattle.std.proofs.Common.{◌∙◌, sym, refl, subst, get_or, arith}
use Rattle.std.proofs.lemmas.Bool.{false≢true}
use Rattle.offer_answer.specs.Dialogs.{no_state}
use Rattle.offer_answer.specs.Shapes.{section_shape}
use Rattle.whole_records.specs.RecordParts.{IsAmong}
use Rattle.whole_records.proofs.Sides.{among_all, among_one}
use Rattle.whole_records.proofs.sections.counts_agree.Goals as goal

pub returns-then-not-is_among : goal.returns-then-not-is_among
returns-then-not-is_among c = (
  λ t. absurd (false≢true t),
  λ h.
      let dialog = c.args.dialog.now in
      let place = c.loop-place.place in
      let one = among_one dialog h place c.loop-place-test.true in
      let own =
      subst (λ n. IsAmong (section_shape (get_or dialog.sections place no_state)) place n dialog.committed_count)
      (sym c.offered_count-offered.ensures) one in
      sym c.if-not-is_among.true ∙ c.is_among.ensures.1 own,
)

pub returns : goal.returns
returns c =
    let dialog = c.args.dialog.now in
    let offered = c.offered_count-offered.ensures in (
      λ t. among_all dialog (omega (arith, offered, c.if-offered-gt-MOST_SECTIONS.false)) (omega (arith, offered, c.if-committed-offered.false))
          (λ section below. subst (λ n. IsAmong (section_shape (get_or dialog.sections section no_state)) section n dialog.committed_count) offered
          (c.loop-place.invariant section (omega (arith, below, c.loop-place-test.false)))),
      λ h. refl,
    )

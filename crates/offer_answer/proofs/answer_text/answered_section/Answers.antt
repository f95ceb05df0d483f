use Rattle.std.proofs.Common.{ℕ, Bool, not, ◌&&◌, ◌∷◌, [], None, refl, sym, ap, ◌∙◌, subst, if◌then◌else◌, option_and_then, slice_index_or}
use Rattle.offer_answer.specs.Keys.{no_lines}
use Rattle.offer_answer.specs.Profiles.{is_srtp}
use Rattle.offer_answer.specs.Dialogs.{leg_at, no_state}
use Rattle.offer_answer.specs.Texts.{written_host}
use Rattle.offer_answer.specs.LastOffers.{MadeFor}
use Rattle.offer_answer.specs.Edits.{line_back}
use Rattle.offer_answer.specs.declared.leg.Leg.{Leg}
use Rattle.offer_answer.specs.declared.leg.DialogSection.{DialogSection}
use Rattle.offer_answer.specs.declared.last_offer.MadeSection.{MadeSection}
use Rattle.offer_answer.proofs.Written.{section-is}
use Rattle.offer_answer.proofs.AnswerParts.{section-answered}
use Rattle.offer_answer.proofs.WrittenBack.{section-back}
use Rattle.offer_answer.proofs.answer_text.answered_section.Goals as goal

pub returns-clause-edit : goal.returns-clause-edit
returns-clause-edit c = λ rounds offer ask d o m heard l.
    let section : ℕ = c.args.section in
    let made : MadeSection = c.made_at-made.result in
    let kept : DialogSection = slice_index_or c.args.dialog.now.sections section no_state in
    let r : Bool = c.is_rejected-is_rejected.result in
    let port = c.port_back-port.ensures ∙ ap (λ (g : Leg). if r then 0 else g.port) c.makers_leg-leg.ensures in
    let lines = c.lines_back.ensures.lines
    ∙ ap (λ (g : Leg). if not r && is_srtp made.section.proto then option_and_then (line_back g) made.line ∷ None ∷ [] else no_lines) c.makers_leg-leg.ensures in
    let host = c.written_host.ensures.host ∙ ap (λ p. written_host c.args.config.now p c.makers_leg-leg.result.family) port
    ∙ ap (λ (g : Leg). written_host c.args.config.now (if r then 0 else (leg_at kept c.args.last.now.maker).port) g.family) c.makers_leg-leg.ensures in
    section-is port refl host lines c.answered_mux.ensures
    ∙ section-back c.args.config.now rounds offer ask section made kept c.args.last.now.maker r c.section_in-answered.result c.args.last.now.options
    (subst (MadeFor offer section) (sym c.made_at-made.ensures) (m.sections_are section c.requires))
    (d.sections_are section c.requires)
    m.maker_is heard (c.is_rejected-is_rejected.ensures.rejected c.args.config.now rounds offer ask d (record { offer_is = o; kept = m }) l)
    (c.section_in-answered.ensures ∙ section-answered c.args.sdp.now ask.sdp section l) m.options_are

use Rattle.std.proofs.Common.{sym, subst, ◌∙◌}
use Rattle.offer_answer.specs.LastOffers.{MadeFor}
use Rattle.offer_answer.proofs.AnswerParts.{lines-last}
use Rattle.offer_answer.proofs.HeardLines.{lines-none}
use Rattle.offer_answer.proofs.dialog.Dialog.last_lines.Goals as goal

pub returns-in-Some : goal.returns-in-Some
returns-in-Some c = λ config rounds s.
    let last = c.in-Some.ensures.stands config rounds s in
    let made = subst (MadeFor last.0 c.args.section) (sym c.made_section.ensures) (last.1.kept.sections_are c.args.section c.requires) in
    made.lines_are ∙ lines-last rounds last.0 c.args.section last.1.offer_is

pub returns-in-None : goal.returns-in-None
returns-in-None c = λ config rounds s. lines-none rounds c.args.section (c.in-None.ensures.stands config rounds s)

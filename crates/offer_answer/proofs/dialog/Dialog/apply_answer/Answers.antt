use Rattle.std.proofs.Common.{◌∷◌, true, sym, subst}
use Rattle.offer_answer.specs.Rounds.{Answered}
use Rattle.offer_answer.specs.Dialogs.{DialogFor}
use Rattle.offer_answer.specs.declared.dialog.Dialog.{Dialog}
use Rattle.offer_answer.proofs.AnswerSteps.{dialog-answered}
use Rattle.offer_answer.proofs.dialog.Dialog.apply_answer.Goals as goal

pub returns-clause-stands : goal.returns-clause-stands
returns-clause-stands c = λ config rounds ask s n.
    subst (λ (d : Dialog). DialogFor config (record d { has_answer = true; committed_count = c.args.next.count; sections = c.args.next.sections }) (Answered ask ∷ rounds))
    (sym c.name_answerer.ensures) (dialog-answered config rounds ask c.args.self.now c.args.next s n)

use Rattle.std.proofs.Common.{Some, sym, ap, ◌∙◌}
use Rattle.offer_answer.proofs.Dialogs.{begun_tag, no_tag}
use Rattle.offer_answer.proofs.dialog.Dialog.first_offerer.Goals as goal

pub returns-then-self : goal.returns-then-self
returns-then-self c = λ config rounds s. begun_tag config c.args.self.now rounds s c.if-self.true ∙ ap Some (sym c.as_slice.ensures)

pub returns-else-self : goal.returns-else-self
returns-else-self c = λ config rounds s. no_tag config c.args.self.now rounds s c.if-self.false

use Rattle.std.proofs.Common.{◌∙◌, sym, subst}
use Rattle.offer_answer.specs.Dialogs.{Awaits}
use Rattle.offer_answer.specs.declared.dialog.Dialog.{Dialog}
use Rattle.call_board.proofs.Shown.{lent_for}
use Rattle.call_board.proofs.offer_plan.new_call.Goals as goal

pub returns : goal.returns
returns c = λ config. record {
  id_is = c.in-Ok.ensures ∙ c.as_slice.ensures;
  dialog_for = lent_for c.in_ok-dialog.ensures.ok (c.in_ok-fresh.ensures.stands config);
  awaits = subst (λ (dialog : Dialog). Awaits dialog c.args.from_tag.now.list) (sym c.in_ok-dialog.ensures.ok) c.in_ok-fresh.ensures.awaits;
}

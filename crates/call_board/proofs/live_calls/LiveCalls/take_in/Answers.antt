use Rattle.std.proofs.Common.{sym, subst, refl, Option}
use Rattle.std.specs.Prelude.{IfSome}
use Rattle.offer_answer.specs.declared.dialog.Dialog.{Dialog}
use Rattle.offer_answer.specs.SavedDialogs.{DialogSaves}
use Rattle.call_board.specs.declared.live_call.LiveCall.{LiveCall}
use Rattle.call_board.proofs.SavedLoading.{gains}
use Rattle.call_board.proofs.live_calls.LiveCalls.take_in.Goals as goal

pub returns : goal.returns
returns c =
    let saved = c.args.saved in
    let call : LiveCall = record {
      number = saved.number;
      cell = saved.cell;
      id = saved.id;
      dialog = c.in_ok-dialog-2.dialog;
      first_moment = saved.first_moment;
      last_moment = saved.last_moment;
      due_moment = saved.due_moment;
    } in
    let loaded : DialogSaves c.in-Some.dialog saved.dialog = subst (λ (o : Option Dialog). IfSome o (λ given. DialogSaves given saved.dialog)) c.in-Some.is c.in_ok-dialog.ensures.loaded in
    let held : DialogSaves c.in_ok-dialog-2.dialog.value saved.dialog = subst (λ (d : Dialog). DialogSaves d saved.dialog) (sym c.in_ok-dialog-2.ensures.ok) loaded in (
      call,
      record { number_is = refl; cell_is = refl; id_is = refl; dialog_is = held; first_is = refl; last_is = refl; due_is = refl },
      gains c.args.self.now.list c.reserve.new.self.list c.push.new.self.list call saved.id.list refl c.push.ensures c.in_ok-reserve.ensures.list c.requires,
    )

use Rattle.std.proofs.Common.{refl, subst}
use Rattle.call_board.proofs.Shown.{lent_for}
use Rattle.call_board.proofs.Applies.{applied, begun_awaits}
use Rattle.offer_answer.specs.declared.dialog.Dialog.{Dialog}
use Rattle.call_board.specs.Shapes.{DialogApplies}
use Rattle.call_board.proofs.live_call.LiveCall.go_on.Goals as goal

pub returns-clause-taken : goal.returns-clause-taken
returns-clause-taken c = λ config of round s begun p.
    let stands = lent_for c.deref_mut.ensures.value s.dialog_for in record {
      number_is = s.number_is;
      cell_is = s.cell_is;
      id_is = s.id_is;
      dialog_for = applied config c.deref_mut.result.now c.apply.new.self c.args.plan of.rounds round c.apply.ensures.offered c.apply.ensures.answered stands
          (begun_awaits config c.deref_mut.result.now of.rounds round stands begun) p;
      first_is = s.first_is;
      last_is = refl;
      due_is = s.due_is;
    }

pub returns-clause-applies : goal.returns-clause-applies
returns-clause-applies c =
    subst (λ (old : Dialog). DialogApplies c.args.plan old c.apply.new.self) c.deref_mut.ensures.value (record {
      offered = c.apply.ensures.shapes;
      answered = c.apply.ensures.answered_shapes;
      counts = c.apply.ensures.counts;
    })

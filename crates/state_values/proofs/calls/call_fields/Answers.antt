use Rattle.state_values.proofs.KeyedTrees.{opened, after, refused}
use Rattle.state_values.proofs.calls.call_fields.Goals as goal

pub returns-in_err-id-clause-none : goal.returns-in_err-id-clause-none
returns-in_err-id-clause-none c = refused c.from_residual-in_err-id.ensures (λ saved fits same.
    c.in_err-id.ensures.none _ _ (opened c.in_ok-pairs.ensures.some same))

pub returns-in_err-cell-clause-none : goal.returns-in_err-cell-clause-none
returns-in_err-cell-clause-none c = refused c.from_residual-in_err-cell.ensures (λ saved fits same.
    c.in_err-cell.ensures.none _ _ (after c.in_ok-id.ensures.some (opened c.in_ok-pairs.ensures.some same)))

pub returns-in_err-dialog-clause-none : goal.returns-in_err-dialog-clause-none
returns-in_err-dialog-clause-none c = refused c.from_residual-in_err-dialog.ensures (λ saved fits same.
    c.in_err-dialog.ensures.none _ _ (after c.in_ok-cell.ensures.some (after c.in_ok-id.ensures.some (opened c.in_ok-pairs.ensures.some same))))

pub returns-in_err-due-clause-none : goal.returns-in_err-due-clause-none
returns-in_err-due-clause-none c = refused c.from_residual-in_err-due.ensures (λ saved fits same.
    c.in_err-due.ensures.none _ _ (after c.in_ok-dialog.ensures.some (after c.in_ok-cell.ensures.some (after c.in_ok-id.ensures.some (opened c.in_ok-pairs.ensures.some same)))))

pub returns-in_err-first-clause-none : goal.returns-in_err-first-clause-none
returns-in_err-first-clause-none c = refused c.from_residual-in_err-first.ensures (λ saved fits same.
    c.in_err-first.ensures.none _ _ (after c.in_ok-due.ensures.some (after c.in_ok-dialog.ensures.some (after c.in_ok-cell.ensures.some (after c.in_ok-id.ensures.some (opened c.in_ok-pairs.ensures.some same))))))

pub returns-in_err-last-clause-none : goal.returns-in_err-last-clause-none
returns-in_err-last-clause-none c = refused c.from_residual-in_err-last.ensures (λ saved fits same.
    c.in_err-last.ensures.none _ _ (after c.in_ok-first.ensures.some (after c.in_ok-due.ensures.some (after c.in_ok-dialog.ensures.some (after c.in_ok-cell.ensures.some (after c.in_ok-id.ensures.some (opened c.in_ok-pairs.ensures.some same)))))))

pub returns-in_err-number-clause-none : goal.returns-in_err-number-clause-none
returns-in_err-number-clause-none c = refused c.from_residual-in_err-number.ensures (λ saved fits same.
    c.in_err-number.ensures.none _ _ (after c.in_ok-last.ensures.some (after c.in_ok-first.ensures.some (after c.in_ok-due.ensures.some (after c.in_ok-dialog.ensures.some (after c.in_ok-cell.ensures.some (after c.in_ok-id.ensures.some (opened c.in_ok-pairs.ensures.some same))))))))

use Rattle.std.proofs.Common.{◌∙◌, sym}
use Rattle.state_values.specs.CellLegTrees.{report_block_tree}
use Rattle.state_values.proofs.KeyedTrees.{opened, after, same_value, refused}
use Rattle.state_values.proofs.RecordTrees.{whole, field}
use Rattle.state_values.proofs.cell_leg_parts.read_report.Goals as goal

pub returns-in_err-next_field-clause-none : goal.returns-in_err-next_field-clause-none
unfolding report_block_tree
returns-in_err-next_field-clause-none c = refused c.from_residual-in_err-next_field.ensures (λ saved fits same.
    c.in_err-next_field.ensures.none _ _ (opened c.in_ok-pairs.ensures.some same))

pub returns-in_err-fraction-clause-none : goal.returns-in_err-fraction-clause-none
unfolding report_block_tree
returns-in_err-fraction-clause-none c = refused c.from_residual-in_err-fraction.ensures (λ saved fits same.
    c.in_err-fraction.ensures.none saved.fraction (fits.fraction) (same_value (sym c.in_ok-next_field.ensures.some ∙ opened c.in_ok-pairs.ensures.some same)))

pub returns-in_err-next_field-2-clause-none : goal.returns-in_err-next_field-2-clause-none
unfolding report_block_tree
returns-in_err-next_field-2-clause-none c = refused c.from_residual-in_err-next_field-2.ensures (λ saved fits same.
    c.in_err-next_field-2.ensures.none _ _ (after c.in_ok-next_field.ensures.some (opened c.in_ok-pairs.ensures.some same)))

pub returns-in_err-highest-clause-none : goal.returns-in_err-highest-clause-none
unfolding report_block_tree
returns-in_err-highest-clause-none c = refused c.from_residual-in_err-highest.ensures (λ saved fits same.
    c.in_err-highest.ensures.none saved.highest (fits.highest) (same_value (sym c.in_ok-next_field-2.ensures.some ∙ after c.in_ok-next_field.ensures.some (opened c.in_ok-pairs.ensures.some same))))

pub returns-in_err-next_field-3-clause-none : goal.returns-in_err-next_field-3-clause-none
unfolding report_block_tree
returns-in_err-next_field-3-clause-none c = refused c.from_residual-in_err-next_field-3.ensures (λ saved fits same.
    c.in_err-next_field-3.ensures.none _ _ (after c.in_ok-next_field-2.ensures.some (after c.in_ok-next_field.ensures.some (opened c.in_ok-pairs.ensures.some same))))

pub returns-in_err-jitter-clause-none : goal.returns-in_err-jitter-clause-none
unfolding report_block_tree
returns-in_err-jitter-clause-none c = refused c.from_residual-in_err-jitter.ensures (λ saved fits same.
    c.in_err-jitter.ensures.none saved.jitter (fits.jitter) (same_value (sym c.in_ok-next_field-3.ensures.some ∙ after c.in_ok-next_field-2.ensures.some (after c.in_ok-next_field.ensures.some (opened c.in_ok-pairs.ensures.some same)))))

pub returns-in_err-next_field-4-clause-none : goal.returns-in_err-next_field-4-clause-none
unfolding report_block_tree
returns-in_err-next_field-4-clause-none c = refused c.from_residual-in_err-next_field-4.ensures (λ saved fits same.
    c.in_err-next_field-4.ensures.none _ _ (after c.in_ok-next_field-3.ensures.some (after c.in_ok-next_field-2.ensures.some (after c.in_ok-next_field.ensures.some (opened c.in_ok-pairs.ensures.some same)))))

pub returns-in_err-lost-clause-none : goal.returns-in_err-lost-clause-none
unfolding report_block_tree
returns-in_err-lost-clause-none c = refused c.from_residual-in_err-lost.ensures (λ saved fits same.
    c.in_err-lost.ensures.none saved.lost (fits.lost) (same_value (sym c.in_ok-next_field-4.ensures.some ∙ after c.in_ok-next_field-3.ensures.some (after c.in_ok-next_field-2.ensures.some (after c.in_ok-next_field.ensures.some (opened c.in_ok-pairs.ensures.some same))))))

pub returns-in_err-next_field-5-clause-none : goal.returns-in_err-next_field-5-clause-none
unfolding report_block_tree
returns-in_err-next_field-5-clause-none c = refused c.from_residual-in_err-next_field-5.ensures (λ saved fits same.
    c.in_err-next_field-5.ensures.none _ _ (after c.in_ok-next_field-4.ensures.some (after c.in_ok-next_field-3.ensures.some (after c.in_ok-next_field-2.ensures.some (after c.in_ok-next_field.ensures.some (opened c.in_ok-pairs.ensures.some same))))))

pub returns-in_err-ssrc-clause-none : goal.returns-in_err-ssrc-clause-none
unfolding report_block_tree
returns-in_err-ssrc-clause-none c = refused c.from_residual-in_err-ssrc.ensures (λ saved fits same.
    c.in_err-ssrc.ensures.none saved.ssrc (fits.ssrc) (same_value (sym c.in_ok-next_field-5.ensures.some ∙ after c.in_ok-next_field-4.ensures.some (after c.in_ok-next_field-3.ensures.some (after c.in_ok-next_field-2.ensures.some (after c.in_ok-next_field.ensures.some (opened c.in_ok-pairs.ensures.some same)))))))

pub returns-in_err-none_left-clause-none : goal.returns-in_err-none_left-clause-none
unfolding report_block_tree
returns-in_err-none_left-clause-none c = refused c.from_residual-in_err-none_left.ensures (λ saved fits same.
    c.in_err-none_left.ensures.none (after c.in_ok-next_field-5.ensures.some (after c.in_ok-next_field-4.ensures.some (after c.in_ok-next_field-3.ensures.some (after c.in_ok-next_field-2.ensures.some (after c.in_ok-next_field.ensures.some (opened c.in_ok-pairs.ensures.some same)))))))

use Rattle.state_values.proofs.KeyedTrees.{opened, after, refused}
use Rattle.state_values.proofs.dialogs.dialog_fields.Goals as goal

pub returns-in_err-answering_tag-clause-none : goal.returns-in_err-answering_tag-clause-none
returns-in_err-answering_tag-clause-none c = refused c.from_residual-in_err-answering_tag.ensures (λ saved fits same.
    c.in_err-answering_tag.ensures.none _ _ (opened c.in_ok-pairs.ensures.some same))

pub returns-in_err-committed_count-clause-none : goal.returns-in_err-committed_count-clause-none
returns-in_err-committed_count-clause-none c = refused c.from_residual-in_err-committed_count.ensures (λ saved fits same.
    c.in_err-committed_count.ensures.none _ _ (after c.in_ok-answering_tag.ensures.some (opened c.in_ok-pairs.ensures.some same)))

pub returns-in_err-first_tag-clause-none : goal.returns-in_err-first_tag-clause-none
returns-in_err-first_tag-clause-none c = refused c.from_residual-in_err-first_tag.ensures (λ saved fits same.
    c.in_err-first_tag.ensures.none _ _ (after c.in_ok-committed_count.ensures.some (after c.in_ok-answering_tag.ensures.some (opened c.in_ok-pairs.ensures.some same))))

pub returns-in_err-has_answer-clause-none : goal.returns-in_err-has_answer-clause-none
returns-in_err-has_answer-clause-none c = refused c.from_residual-in_err-has_answer.ensures (λ saved fits same.
    c.in_err-has_answer.ensures.none _ _ (after c.in_ok-first_tag.ensures.some (after c.in_ok-committed_count.ensures.some (after c.in_ok-answering_tag.ensures.some (opened c.in_ok-pairs.ensures.some same)))))

pub returns-in_err-is_begun-clause-none : goal.returns-in_err-is_begun-clause-none
returns-in_err-is_begun-clause-none c = refused c.from_residual-in_err-is_begun.ensures (λ saved fits same.
    c.in_err-is_begun.ensures.none _ _ (after c.in_ok-has_answer.ensures.some (after c.in_ok-first_tag.ensures.some (after c.in_ok-committed_count.ensures.some (after c.in_ok-answering_tag.ensures.some (opened c.in_ok-pairs.ensures.some same))))))

pub returns-in_err-is_settled-clause-none : goal.returns-in_err-is_settled-clause-none
returns-in_err-is_settled-clause-none c = refused c.from_residual-in_err-is_settled.ensures (λ saved fits same.
    c.in_err-is_settled.ensures.none _ _ (after c.in_ok-is_begun.ensures.some (after c.in_ok-has_answer.ensures.some (after c.in_ok-first_tag.ensures.some (after c.in_ok-committed_count.ensures.some (after c.in_ok-answering_tag.ensures.some (opened c.in_ok-pairs.ensures.some same)))))))

pub returns-in_err-last_offer-clause-none : goal.returns-in_err-last_offer-clause-none
returns-in_err-last_offer-clause-none c = refused c.from_residual-in_err-last_offer.ensures (λ saved fits same.
    c.in_err-last_offer.ensures.none _ _ (after c.in_ok-is_settled.ensures.some (after c.in_ok-is_begun.ensures.some (after c.in_ok-has_answer.ensures.some (after c.in_ok-first_tag.ensures.some (after c.in_ok-committed_count.ensures.some (after c.in_ok-answering_tag.ensures.some (opened c.in_ok-pairs.ensures.some same))))))))

pub returns-in_err-sections-clause-none : goal.returns-in_err-sections-clause-none
returns-in_err-sections-clause-none c = refused c.from_residual-in_err-sections.ensures (λ saved fits same.
    c.in_err-sections.ensures.none _ _ (after c.in_ok-last_offer.ensures.some (after c.in_ok-is_settled.ensures.some (after c.in_ok-is_begun.ensures.some (after c.in_ok-has_answer.ensures.some (after c.in_ok-first_tag.ensures.some (after c.in_ok-committed_count.ensures.some (after c.in_ok-answering_tag.ensures.some (opened c.in_ok-pairs.ensures.some same)))))))))

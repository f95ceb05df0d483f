use Rattle.std.proofs.Common.{◌≡◌, sym, subst, IfOk}
use Rattle.ng_bencode.specs.Tree.{Dict, Entries, tree_of}
use Rattle.port_pool.specs.declared.holder.Side.TheVariants.{A, B}
use Rattle.offer_answer.specs.Plan as plan
use Rattle.call_board.specs.Reports.{side_value}
use Rattle.call_report.proofs.Ordered.{a_first, b_first}
use Rattle.call_report.proofs.report.tags_value.Goals as goal

pub returns-in-A : goal.returns-in-A
returns-in-A c = λ config report d same.
    subst (λ (pairs : Entries). IfOk c.tags_from.result (λ value. tree_of value ≡ Dict pairs))
    (a_first (plan.tag report.rounds A) (plan.tag report.rounds B) (side_value report A) (side_value report B) (sym (c.in-A.ensures config report.rounds d)))
    (c.tags_from.ensures config report d same)

pub returns-in-B : goal.returns-in-B
returns-in-B c = λ config report d same.
    subst (λ (pairs : Entries). IfOk c.tags_from-in-B.result (λ value. tree_of value ≡ Dict pairs))
    (b_first (plan.tag report.rounds A) (plan.tag report.rounds B) (side_value report A) (side_value report B) (sym (c.in-B.ensures config report.rounds d)))
    (c.tags_from-in-B.ensures config report d same)

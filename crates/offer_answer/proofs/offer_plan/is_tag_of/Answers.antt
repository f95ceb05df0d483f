use Rattle.std.proofs.Common.{◌≡◌, ℕ, List, Option, None, Some, MatchOption, Bor, sym, ◌∙◌, subst}
use Rattle.offer_answer.specs.Plan as plan
use Rattle.offer_answer.proofs.Dialogs.{tag-is, no_tag-is}
use Rattle.offer_answer.proofs.offer_plan.is_tag_of.Goals as goal

pub returns-in-Some : goal.returns-in-Some
returns-in-Some c = λ config rounds s.
    let own : plan.tag rounds c.args.side ≡ Some c.in-Some.own.now =
    subst (λ (r : Option (Bor (List ℕ))). MatchOption r (plan.tag rounds c.args.side ≡ None) (λ tag. plan.tag rounds c.args.side ≡ Some tag.now)) c.in-Some.is
    (c.tag.ensures config rounds s) in
    c.eq.ensures ∙ sym (tag-is rounds c.args.side c.in-Some.own.now c.args.tag.now own)

pub returns-in-None : goal.returns-in-None
returns-in-None c = λ config rounds s.
    let none : plan.tag rounds c.args.side ≡ None =
    subst (λ (r : Option (Bor (List ℕ))). MatchOption r (plan.tag rounds c.args.side ≡ None) (λ tag. plan.tag rounds c.args.side ≡ Some tag.now)) c.in-None.is
    (c.tag.ensures config rounds s) in
    sym (no_tag-is rounds c.args.side c.args.tag.now none)

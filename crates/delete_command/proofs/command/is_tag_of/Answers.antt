use Rattle.std.proofs.Common.{◌≡◌, ℕ, List, Option, None, Some, MatchOption, Bor, sym, ap, ◌∙◌, subst}
use Rattle.std.specs.Str.{bytes_eq}
use Rattle.offer_answer.specs.Plan as plan
use Rattle.offer_answer.proofs.Dialogs.{tag-is, no_tag-is}
use Rattle.delete_command.proofs.command.is_tag_of.Goals as goal

pub returns-in-Some : goal.returns-in-Some
returns-in-Some c config v of shows found =
    let own : plan.tag of.rounds c.args.side ≡ Some c.in-Some.own.now =
    subst (λ (r : Option (Bor (List ℕ))). MatchOption r (plan.tag of.rounds c.args.side ≡ None) (λ tag. plan.tag of.rounds c.args.side ≡ Some tag.now)) c.in-Some.is
    (c.tag.ensures config v of shows found) in
    c.eq.ensures ∙ ap (bytes_eq c.in-Some.own.now) c.as_slice.ensures ∙ sym (tag-is of.rounds c.args.side c.in-Some.own.now c.args.tag.now.list own)

pub returns-in-None : goal.returns-in-None
returns-in-None c config v of shows found =
    let none : plan.tag of.rounds c.args.side ≡ None =
    subst (λ (r : Option (Bor (List ℕ))). MatchOption r (plan.tag of.rounds c.args.side ≡ None) (λ tag. plan.tag of.rounds c.args.side ≡ Some tag.now)) c.in-None.is
    (c.tag.ensures config v of shows found) in
    sym (no_tag-is of.rounds c.args.side c.args.tag.now.list none)

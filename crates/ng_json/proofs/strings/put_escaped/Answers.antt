use Rattle.std.proofs.Common.{[], ◌∷◌, ◌++◌, sym, ap, ◌∙◌, append_assoc}
use Rattle.ng_json.proofs.Texts.{short_escape, long_escape, no_escape}
use Rattle.ng_json.proofs.strings.put_escaped.Goals as goal

pub returns-in-Some-clause-list : goal.returns-in-Some-clause-list
returns-in-Some-clause-list c =
    c.push-in-Some.ensures.list ∙ ap (λ t. t ++ c.in-Some.letter ∷ []) c.push.ensures.list ∙ append_assoc c.args.out.now.list (92 ∷ []) (c.in-Some.letter ∷ [])
    ∙ ap (λ t. c.args.out.now.list ++ t) (sym (short_escape c.args.byte c.in-Some.letter c.in-Some.ensures.0 c.in-Some.ensures.1))

pub returns-then-byte-lt32-clause-list : goal.returns-then-byte-lt32-clause-list
returns-then-byte-lt32-clause-list c =
    let a = c.extend.ensures.list in
    let b = c.push-then-byte-lt32.ensures.list in
    let d = c.push-then-byte-lt32-2.ensures.list in
    let high = c.digit.ensures in
    let low = c.digit-then-byte-lt32.ensures in
    let escape = long_escape c.args.byte c.in_default.ensures c.if-byte-lt32.true in
    rw (d, b, a, high, low, escape) (append_assoc (c.args.out.now.list ++ _) (_ ∷ []) _ ∙ append_assoc c.args.out.now.list _ _)

pub returns-else-byte-lt32-clause-list : goal.returns-else-byte-lt32-clause-list
returns-else-byte-lt32-clause-list c =
    c.push-else-byte-lt32.ensures.list ∙ ap (λ t. c.args.out.now.list ++ t) (sym (no_escape c.args.byte c.in_default.ensures c.if-byte-lt32.false))

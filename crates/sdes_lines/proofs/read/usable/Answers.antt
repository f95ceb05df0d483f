use Rattle.std.proofs.Common.{codes, sym, ◌∙◌, subst}
use Rattle.std.proofs.lemmas.List.{append_cancel_left}
use Rattle.sdes_lines.specs.CryptoLine.{IsLineEnd}
use Rattle.sdes_lines.proofs.Lines.{line_parts, attribute_read, line_read}
use Rattle.sdes_lines.proofs.read.usable.Goals as goal

pub returns-in_err-rest-clause-complete : goal.returns-in_err-rest-clause-complete
returns-in_err-rest-clause-complete c = λ tag suite key usable.
    absurd (c.in_err-rest.ensures _ (usable.line_is ∙ line_parts tag suite key usable.end))

pub returns-in_err-tag-clause-complete : goal.returns-in_err-tag-clause-complete
returns-in_err-tag-clause-complete c = λ tag suite key usable.
    let r1 = attribute_read c.args.line.now c.in_ok-rest.rest.now tag suite key c.in_ok-rest.ensures usable in
    absurd (c.in_err-tag.ensures.complete tag _ usable.is_tag r1)

pub returns-in_err-rest-2-clause-complete : goal.returns-in_err-rest-2-clause-complete
returns-in_err-rest-2-clause-complete c = λ tag suite key usable.
    let r1 = attribute_read c.args.line.now c.in_ok-rest.rest.now tag suite key c.in_ok-rest.ensures usable in
    let r2 = c.in_ok-tag.ensures.complete tag _ usable.is_tag r1 in
    absurd (c.in_err-rest-2.ensures _ r2.1)

pub returns-in_err-suite-clause-complete : goal.returns-in_err-suite-clause-complete
returns-in_err-suite-clause-complete c = λ tag suite key usable.
    let r1 = attribute_read c.args.line.now c.in_ok-rest.rest.now tag suite key c.in_ok-rest.ensures usable in
    let r2 = c.in_ok-tag.ensures.complete tag _ usable.is_tag r1 in
    let r3 = append_cancel_left (codes " ") c.in_ok-rest-2.rest.now _ (sym c.in_ok-rest-2.ensures ∙ r2.1) in
    absurd (c.in_err-suite.ensures.complete suite _ r3)

pub returns-in_err-rest-3-clause-complete : goal.returns-in_err-rest-3-clause-complete
returns-in_err-rest-3-clause-complete c = λ tag suite key usable.
    let r1 = attribute_read c.args.line.now c.in_ok-rest.rest.now tag suite key c.in_ok-rest.ensures usable in
    let r2 = c.in_ok-tag.ensures.complete tag _ usable.is_tag r1 in
    let r3 = append_cancel_left (codes " ") c.in_ok-rest-2.rest.now _ (sym c.in_ok-rest-2.ensures ∙ r2.1) in
    let r4 = c.in_ok-suite.ensures.complete suite _ r3 in
    absurd (c.in_err-rest-3.ensures _ r4.1)

pub returns-in_err-key-clause-complete : goal.returns-in_err-key-clause-complete
returns-in_err-key-clause-complete c = λ tag suite key usable.
    let r1 = attribute_read c.args.line.now c.in_ok-rest.rest.now tag suite key c.in_ok-rest.ensures usable in
    let r2 = c.in_ok-tag.ensures.complete tag _ usable.is_tag r1 in
    let r3 = append_cancel_left (codes " ") c.in_ok-rest-2.rest.now _ (sym c.in_ok-rest-2.ensures ∙ r2.1) in
    let r4 = c.in_ok-suite.ensures.complete suite _ r3 in
    let r5 = append_cancel_left (codes " inline:") c.in_ok-rest-3.rest.now _ (sym c.in_ok-rest-3.ensures ∙ r4.1) in
    absurd (c.in_err-key.ensures.complete key _ usable.is_key r5)

pub returns-then-is_line_end-clause-sound : goal.returns-then-is_line_end-clause-sound
returns-then-is_line_end-clause-sound c =
    line_read c.args.line.now _ _ _ _ _ c.in_ok-key.end.now c.in_ok-tag.tag c.in_ok-suite.suite c.in_ok-key.key
    c.in_ok-rest.ensures c.in_ok-tag.ensures.sound.0 c.in_ok-rest-2.ensures c.in_ok-suite.ensures.sound c.in_ok-rest-3.ensures
    c.in_ok-key.ensures.sound.0 c.in_ok-tag.ensures.sound.1 c.in_ok-key.ensures.sound.1 (c.is_line_end.ensures.0 c.if-is_line_end.true)

pub returns-then-is_line_end-clause-complete : goal.returns-then-is_line_end-clause-complete
returns-then-is_line_end-clause-complete c = λ tag suite key usable.
    let r1 = attribute_read c.args.line.now c.in_ok-rest.rest.now tag suite key c.in_ok-rest.ensures usable in
    let r2 = c.in_ok-tag.ensures.complete tag _ usable.is_tag r1 in
    let r3 = append_cancel_left (codes " ") c.in_ok-rest-2.rest.now _ (sym c.in_ok-rest-2.ensures ∙ r2.1) in
    let r4 = c.in_ok-suite.ensures.complete suite _ r3 in
    let r5 = append_cancel_left (codes " inline:") c.in_ok-rest-3.rest.now _ (sym c.in_ok-rest-3.ensures ∙ r4.1) in
    let r6 = c.in_ok-key.ensures.complete key _ usable.is_key r5 in
    cc (r2.0, r4.0, r6.0)

pub returns-else-is_line_end-clause-complete : goal.returns-else-is_line_end-clause-complete
returns-else-is_line_end-clause-complete c = λ tag suite key usable.
    let r1 = attribute_read c.args.line.now c.in_ok-rest.rest.now tag suite key c.in_ok-rest.ensures usable in
    let r2 = c.in_ok-tag.ensures.complete tag _ usable.is_tag r1 in
    let r3 = append_cancel_left (codes " ") c.in_ok-rest-2.rest.now _ (sym c.in_ok-rest-2.ensures ∙ r2.1) in
    let r4 = c.in_ok-suite.ensures.complete suite _ r3 in
    let r5 = append_cancel_left (codes " inline:") c.in_ok-rest-3.rest.now _ (sym c.in_ok-rest-3.ensures ∙ r4.1) in
    let r6 = c.in_ok-key.ensures.complete key _ usable.is_key r5 in
    let yes = c.is_line_end.ensures.1 (subst IsLineEnd (sym r6.1) usable.is_end) in
    cc (yes, c.if-is_line_end.false)

use Rattle.std.proofs.Common.{◌≡◌, ap, sym, ◌∙◌, true, false, take, Option}
use Rattle.std.specs.Prelude.{not}
use Rattle.std.proofs.lemmas.Result.{err_from_is_err_and}
use Rattle.endpoint_learn.specs.Lessons.{is_wrong_source}
use Rattle.endpoint_learn.specs.declared.learner.Learner.{Learner}
use Rattle.call_cell.specs.Heads.{half_of}
use Rattle.call_cell.specs.Parts.{is_wrong_for}
use Rattle.call_cell.proofs.HeadLemmas.{packet_of}
use Rattle.call_cell.proofs.Accepting.{accepts, stops, wrongly_sent}
use Rattle.call_cell.proofs.receiver.Receiving.accept.Goals as goal

pub returns-then-is_wrong_source-clause-accepts : goal.returns-then-is_wrong_source-clause-accepts
returns-then-is_wrong_source-clause-accepts c known notes for =
    let bytes = take c.args.len c.args.buf.now in
    let wrong : is_wrong_source c.args.signal.now.flags (known c.args.half) c.args.source ≡ true
    = sym (c.is_wrong_source.ensures ∙ ap (λ (o : Option Learner). is_wrong_for o c.args.source) (c.learner.ensures ∙ for.learned c.args.half))
    ∙ c.if-is_wrong_source.true in
    wrongly_sent c.args.signal.now c.args.half (half_of c.args.head) c.args.source bytes known notes c.args.self.now c.args.buf.now
    (packet_of c.args.head bytes c.requires.head) wrong

pub returns-in_err-size-clause-accepts : goal.returns-in_err-size-clause-accepts
returns-in_err-size-clause-accepts c known notes for =
    let bytes = take c.args.len c.args.buf.now in
    let right : is_wrong_source c.args.signal.now.flags (known c.args.half) c.args.source ≡ false
    = sym (c.is_wrong_source.ensures ∙ ap (λ (o : Option Learner). is_wrong_for o c.args.source) (c.learner.ensures ∙ for.learned c.args.half))
    ∙ c.if-is_wrong_source.false in
    let p = err_from_is_err_and c.from_residual.result c.from_residual.ensures.1 in
    rw (p.1, p.2)
    (stops c.args.signal.now c.args.half (half_of c.args.head) c.args.source bytes known notes c.args.self.now c.open.new.inbound c.open.new.buf c.in_err-size.field-0.0
    (packet_of c.args.head bytes c.requires.head) right
    (c.in_err-size.ensures.opens c.args.signal.now.inbound notes for.inbound))

pub returns-clause-accepts : goal.returns-clause-accepts
returns-clause-accepts c known notes for =
    let bytes = take c.args.len c.args.buf.now in
    let right : is_wrong_source c.args.signal.now.flags (known c.args.half) c.args.source ≡ false
    = sym (c.is_wrong_source.ensures ∙ ap (λ (o : Option Learner). is_wrong_for o c.args.source) (c.learner.ensures ∙ for.learned c.args.half))
    ∙ c.if-is_wrong_source.false in
    accepts c.args.signal.now c.args.half (half_of c.args.head) c.args.source bytes known notes c.args.self.now c.learn.new.self c.open.new.inbound c.open.new.buf
    c.in_ok-size.size for (ap not (packet_of c.args.head bytes c.requires.head)) right
    (c.in_ok-size.ensures.opens c.args.signal.now.inbound notes for.inbound)
    (λ l. c.learn.ensures c.args.signal.now known l)

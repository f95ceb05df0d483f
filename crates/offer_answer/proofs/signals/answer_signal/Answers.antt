use Rattle.std.proofs.Common.{◌<◌, ◌≤◌, ℕ, [], ◌∷◌, length, length-append, sym, ap, ◌∙◌, arith}
use Rattle.offer_answer.specs.Sections.{section_count}
use Rattle.offer_answer.specs.Shapes.{shape_of}
use Rattle.offer_answer.specs.AnswerShapes.{refuses_section, SignalShape}
use Rattle.offer_answer.proofs.AnswerShapes.{one-pushed}
use Rattle.offer_answer.proofs.AnswerParts.{count-answered, signal-next, signal-end, signal-is}
use Rattle.offer_answer.proofs.signals.answer_signal.Goals as goal

pub loop-index-preserved : goal.loop-index-preserved
loop-index-preserved c = record {
  count = omega (arith, c.loop-index.invariant.count, ap length c.push.ensures, length-append c.loop-index.signal (c.section_signal.result ∷ []));
  most = omega (arith, c.loop-index-test.true, c.section_count-index-end.ensures.count);
  whole = λ config rounds offer ask s i h e.
      let k : ℕ = c.loop-index.index in
      let n : ℕ = section_count ask.sdp in
      let below : k < n = omega (arith, c.loop-index-test.true, c.section_count-index-end.ensures.count, count-answered c.args.sdp.now rounds ask h) in
      signal-next rounds offer ask k n c.loop-index.signal c.push.new.self c.section_signal.result below (c.section_signal.ensures.signal config rounds offer ask s i h e) c.push.ensures
      ∙ c.loop-index.invariant.whole config rounds offer ask s i h e;
  shapes = λ section none below.
      one-pushed (λ section s. SignalShape (refuses_section c.args.last.now c.args.sdp.now section (shape_of c.args.dialog.now section)) c.args.dialog.now c.args.last.now c.args.sdp.now section s)
      c.loop-index.index c.loop-index.signal c.push.new.self c.section_signal.result c.loop-index.invariant.count c.push.ensures
      c.loop-index.invariant.shapes c.section_signal.ensures.shape section none below;
}

pub returns-clause-signal : goal.returns-clause-signal
returns-clause-signal c = λ config rounds offer ask s i h e.
    let k : ℕ = c.loop-index.index in
    let n : ℕ = section_count ask.sdp in
    let past : n ≤ k = omega (arith, c.loop-index-test.false, c.section_count-index-end.ensures.count, count-answered c.args.sdp.now rounds ask h) in
    sym (signal-end rounds offer ask k n c.loop-index.signal past) ∙ c.loop-index.invariant.whole config rounds offer ask s i h e ∙ sym (signal-is rounds offer ask i.offer_is)

pub returns-clause-count : goal.returns-clause-count
returns-clause-count c =
    omega (arith, c.loop-index.invariant.count, c.loop-index-test.false, c.loop-index.invariant.most, c.section_count-index-end.ensures.count)

pub returns-clause-shapes : goal.returns-clause-shapes
returns-clause-shapes c = λ section none below. c.loop-index.invariant.shapes section none (omega (arith, below, c.loop-index.invariant.count))

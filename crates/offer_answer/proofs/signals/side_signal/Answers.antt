use Rattle.std.proofs.Common.{ap, sym, ◌∙◌}
use Rattle.offer_answer.proofs.AnswerParts.{own-signal, others-signal}
use Rattle.port_pool.specs.declared.holder.Side.TheVariants.{A}
use Rattle.port_pool.specs.declared.signal.LegSignal.{LegSignal}
use Rattle.offer_answer.proofs.AnswerShapes.{signals-leg}
use Rattle.offer_answer.proofs.signals.side_signal.Goals as goal

pub returns-then-is_same-clause-signal : goal.returns-then-is_same-clause-signal
returns-then-is_same-clause-signal c = λ config rounds offer ask section a i e.
    c.leg_signal.ensures section c.args.side
    ∙ own-signal config rounds offer ask section c.args.answered.now c.args.last.now c.args.side c.committed_line-line.result c.committed_key-key.result c.mux_back-mux.result a i
    (sym c.is_same.ensures ∙ c.if-is_same.true) c.committed_line-line.ensures c.committed_key-key.ensures c.mux_back-mux.ensures

pub returns-else-is_same-clause-signal : goal.returns-else-is_same-clause-signal
returns-else-is_same-clause-signal c = λ config rounds offer ask section a i e.
    c.leg_signal-else-is_same.ensures section c.args.side
    ∙ others-signal config rounds offer ask section c.args.answered.now c.args.last.now c.args.options.now c.args.side c.committed_line-line.result c.committed_key-key.result c.mux_taken-mux.result a i e
    (sym c.is_same.ensures ∙ c.if-is_same.false) c.committed_line-line.ensures c.committed_key-key.ensures c.mux_taken-mux.ensures

pub returns-then-is_same-clause-keys : goal.returns-then-is_same-clause-keys
returns-then-is_same-clause-keys c =
    signals-leg c.args.answered.now c.args.last.now.maker c.args.side c.committed_line-line.result c.committed_key-key.result c.leg_signal.result
    (ap (λ (s : LegSignal). s.inbound) (c.leg_signal.ensures 0 A)) (ap (λ (s : LegSignal). s.outbound) (c.leg_signal.ensures 0 A)) c.committed_line-line.ensures c.committed_key-key.ensures

pub returns-else-is_same-clause-keys : goal.returns-else-is_same-clause-keys
returns-else-is_same-clause-keys c =
    signals-leg c.args.answered.now c.args.last.now.maker c.args.side c.committed_line-line.result c.committed_key-key.result c.leg_signal-else-is_same.result
    (ap (λ (s : LegSignal). s.inbound) (c.leg_signal-else-is_same.ensures 0 A)) (ap (λ (s : LegSignal). s.outbound) (c.leg_signal-else-is_same.ensures 0 A)) c.committed_line-line.ensures c.committed_key-key.ensures

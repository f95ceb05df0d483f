use Rattle.std.proofs.Common.{eqb, arith, eq-eqb}
use Rattle.std.proofs.lemmas.List.Sums.{position_or_len_is}
use Rattle.std.proofs.Common.{sym}
use Rattle.sdp_text.proofs.piece.place_of.Goals as goal

pub returns-then-byte-stop-clause-place : goal.returns-then-byte-stop-clause-place
returns-then-byte-stop-clause-place c =
    sym (position_or_len_is (λ b. eqb b c.args.stop) c.args.text.now c.loop-i.i 0 (omega arith) c.loop-i.invariant (λ _. eq-eqb _ _ c.if-byte-stop.true))

pub returns-clause-place : goal.returns-clause-place
returns-clause-place c =
    sym (position_or_len_is (λ b. eqb b c.args.stop) c.args.text.now _ 0 (omega arith) (λ k h. c.loop-i.invariant k (omega arith)) (λ h. absurd (omega arith)))

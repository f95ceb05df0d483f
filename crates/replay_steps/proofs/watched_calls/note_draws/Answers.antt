use Rattle.std.proofs.Common.{◌∙◌, refl, sym, ap, subst, ℕ, List, take, arith}
use Rattle.std.proofs.Math.Seq.{take-suc, take-length}
use Rattle.relay_outside.specs.declared.keys.KeyCall.{KeyCall}
use Rattle.replay_steps.specs.Steps.{DrawsAsked}
use Rattle.replay_steps.specs.WatchNotes.{Watches}
use Rattle.replay_steps.proofs.Holdings.{next}
use Rattle.replay_steps.proofs.Watchings.{draws_watched}
use Rattle.replay_steps.proofs.watched_calls.note_draws.Goals as goal

pub loop-call-init : goal.loop-call-init
loop-call-init c config seed past s = (past, refl, s)

pub loop-call-preserved : goal.loop-call-preserved
loop-call-preserved c config seed =
    let calls = c.args.calls.now in
    let i = c.loop-call.call-index in
    subst (λ (xs : List KeyCall). Watches config seed c.args.watch.now c.note_draw.new.watch (DrawsAsked seed xs))
    (sym (take-suc calls i _ c.loop-call-test.true) ∙ ap (λ (n : ℕ). take n calls) (next i))
    (draws_watched config seed (take i calls) _ c.args.watch.now c.loop-call.watch c.note_draw.new.watch (c.loop-call.invariant config seed) (c.note_draw.ensures c.if-not-note_draw.false config seed))

pub returns : goal.returns
returns c sent config seed =
    let calls = c.args.calls.now in
    let most = c.loop-call.auto.call-index-end in
    let least = c.loop-call-test.false in
    subst (λ (xs : List KeyCall). Watches config seed c.args.watch.now c.loop-call.watch (DrawsAsked seed xs))
    (ap (λ (n : ℕ). take n calls) (omega (arith, most, least)) ∙ take-length calls) (c.loop-call.invariant config seed)

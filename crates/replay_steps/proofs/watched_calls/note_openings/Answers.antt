use Rattle.std.proofs.Common.{◌∙◌, refl, sym, ap, subst, ℕ, List, [], ◌∷◌, ◌++◌, ◌≡◌, ◌+◌, take, arith}
use Rattle.std.proofs.Math.Seq.{take-suc, take-length}
use Rattle.relay_outside.specs.declared.ports.PortCall.{PortCall}
use Rattle.replay_steps.specs.Steps.{OpensAsked}
use Rattle.replay_steps.specs.WatchNotes.{Watches}
use Rattle.replay_steps.proofs.Holdings.{next}
use Rattle.replay_steps.proofs.Watchings.{openings_watched}
use Rattle.replay_steps.proofs.watched_calls.note_openings.Goals as goal

pub loop-call-init : goal.loop-call-init
loop-call-init c seed past s = (past, refl, s)

pub loop-call-preserved : goal.loop-call-preserved
loop-call-preserved c seed =
    let calls = c.args.calls.now in
    let i = c.loop-call.call-index in
    let x = c.call-item.result in
    let more : take i calls ++ x ∷ [] ≡ take (i + 1) calls =
    ap (λ (y : PortCall). take i calls ++ y ∷ []) c.call-item.is ∙ sym (take-suc calls i x c.loop-call-test.true) ∙ ap (λ (n : ℕ). take n calls) (next i) in
    subst (λ (xs : List PortCall). Watches c.args.config.now seed c.args.watch.now c.note_opening.new.watch (OpensAsked c.args.config.now xs)) more
    (openings_watched c.args.config.now seed (take i calls) x c.args.watch.now c.loop-call.watch c.note_opening.new.watch (c.loop-call.invariant seed) (c.note_opening.ensures c.if-not-note_opening.false seed))

pub returns : goal.returns
returns c sent seed =
    let calls = c.args.calls.now in
    let most = c.loop-call.auto.call-index-end in
    let least = c.loop-call-test.false in
    subst (λ (xs : List PortCall). Watches c.args.config.now seed c.args.watch.now c.loop-call.watch (OpensAsked c.args.config.now xs))
    (ap (λ (n : ℕ). take n calls) (omega (arith, most, least)) ∙ take-length calls) (c.loop-call.invariant seed)

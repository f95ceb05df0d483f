use Rattle.std.proofs.Common.{◌≡◌, ◌∙◌, ◌+◌, sym, ap, subst, ℕ, List, [], ◌∷◌, ◌++◌, take, arith}
use Rattle.std.proofs.Math.Seq.{take-suc, take-length}
use Rattle.relay_outside.specs.declared.ports.PortCall.{PortCall}
use Rattle.relay_outside.specs.Ports.{IsOpen}
use Rattle.media_ports.proofs.Opened.{none_at_first}
use Rattle.replay_steps.proofs.Holdings.{next}
use Rattle.replay_steps.proofs.open_ports.is_open.Goals as goal

pub loop-call-init : goal.loop-call-init
loop-call-init c none is_open = none_at_first c.args.at is_open

pub loop-call-preserved : goal.loop-call-preserved
loop-call-preserved c none =
    let calls = c.args.calls.now in
    let i = c.loop-call.call-index in
    let x = c.call-item.result in
    let more : take i calls ++ x ∷ [] ≡ take (i + 1) calls =
    ap (λ (y : PortCall). take i calls ++ y ∷ []) c.call-item.is ∙ sym (take-suc calls i x c.loop-call-test.true) ∙ ap (λ (n : ℕ). take n calls) (next i) in
    subst (λ (xs : List PortCall). IsOpen xs c.args.at → ⊥) more (c.is_open_after-opened.ensures (take i calls) c.loop-call.invariant none)

pub returns : goal.returns
returns c none =
    let calls = c.args.calls.now in
    let most = c.loop-call.auto.call-index-end in
    let least = c.loop-call-test.false in
    subst (λ (xs : List PortCall). IsOpen xs c.args.at → ⊥) (ap (λ (n : ℕ). take n calls) (omega (arith, most, least)) ∙ take-length calls) (c.loop-call.invariant none)

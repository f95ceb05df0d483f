use Rattle.std.proofs.Common.{rules, ◌≡◌, ◌+◌, ◌∷◌, List, drop, arith}
use Rattle.std.proofs.lemmas.Bool.{false≢true}
use Rattle.std.proofs.lemmas.List.{drop_more}
use Rattle.call_board.specs.declared.saved_board.CallSaved.{CallSaved}
use Rattle.state_reads.proofs.Rising.{first_rises}
use Rattle.state_reads.proofs.call_orders.numbers_rise.Goals as goal
use Rattle.state_reads.proofs.call_orders.numbers_rise.Goals.{then-call-next-via-then-call-next, then-call-next-via-else-call-next+then-call-begun}

pub returns-then-call-next : goal.returns-then-call-next
returns-then-call-next c = (
  λ t. absurd (false≢true t),
  λ rise.
      let calls : List CallSaved = c.args.calls.now in
      let i = c.loop-call.call-index in
      let step : drop i calls ≡ c.call-item.result ∷ drop (i + 1) calls = search (rules, drop_more) in
      let one = first_rises c.loop-call.next (drop i calls) c.call-item.result (drop (i + 1) calls) c.args.begun step (c.loop-call.invariant.rest rise) in
      elim c.then-call-next.branch [
        | then-call-next-via-then-call-next w ↦ absurd (omega (arith, one.0, w.if-call-next.true))
        | then-call-next-via-else-call-next+then-call-begun w ↦ absurd (omega (arith, one.1, w.if-call-begun.true))
      ],
)

use Rattle.std.proofs.Common.{◌≡◌, ◌∙◌, ℕ, List, true, sym, ap, subst}
use Rattle.std.specs.Str.{bytes_eq}
use Rattle.call_board.specs.declared.saved_board.CallSaved.{CallSaved}
use Rattle.state_reads.proofs.Ids.{has_at}
use Rattle.state_reads.proofs.call_orders.has_id.Goals as goal

pub returns-then-eq : goal.returns-then-eq
returns-then-eq c =
    let id = c.args.id.now in
    let calls : List CallSaved = c.args.calls.now in
    let at = c.loop-call.call-index in
    let one = ap (λ (other : List ℕ). bytes_eq other id) (sym c.as_slice.ensures) ∙ sym c.eq.ensures ∙ c.if-eq.true in
    sym (has_at (λ (other : List ℕ). bytes_eq other id) calls at c.call-item.result c.loop-call-test.true
    (subst (λ (it : CallSaved). bytes_eq it.id.list id ≡ true) c.call-item.is one))

use Rattle.std.proofs.Common.{rules, arith, ◌≡◌, ◌∙◌, ◌+◌, ◌-◌, take, length, ◌∷◌, ℕ, List, drop, false, sym, ap}
use Rattle.std.specs.List.{list_any}
use Rattle.std.specs.Str.{bytes_eq}
use Rattle.std.proofs.lemmas.List.{drop_more, take_all, length-drop}
use Rattle.call_board.specs.declared.saved_board.CallSaved.{CallSaved}
use Rattle.state_reads.specs.Calls.{saved_ids}
use Rattle.state_reads.proofs.Ids.{apart_more, apart_rest}
use Rattle.state_reads.proofs.call_orders.ids_apart.Goals as goal

pub calls-preserved : goal.calls-preserved
calls-preserved c =
    let calls : List CallSaved = c.args.calls.now in
    let i = c.calls.at in
    let one : CallSaved = c.index-calls-at.result in
    let step : drop i calls ≡ one ∷ drop (i + 1) calls = search (rules, drop_more) in
    let rest : List CallSaved = drop (i + 1) calls in
    let whole : take (length calls - (i + 1)) rest ≡ rest = take_all (length calls - (i + 1)) rest (omega (arith, length-drop (i + 1) calls)) in
    let told : c.has_id.result ≡ list_any (λ other. bytes_eq other c.as_slice.result.now) (saved_ids (take (length calls - (i + 1)) rest)) = c.has_id.ensures in
    let same : c.as_slice.result.now ≡ one.id.list = c.as_slice.ensures ∙ ap (λ (it : CallSaved). it.id.list) (sym c.index-calls-at.is) in
    let out : list_any (λ other. bytes_eq other one.id.list) (saved_ids (drop (i + 1) calls)) ≡ false =
    ap (λ (id : List ℕ). list_any (λ other. bytes_eq other id) (saved_ids rest)) (sym same)
    ∙ ap (λ (l : List CallSaved). list_any (λ other. bytes_eq other c.as_slice.result.now) (saved_ids l)) (sym whole) ∙ sym told ∙ c.if-has_id.false in
    record {
      whole = λ apart. c.calls.invariant.whole (apart_more (drop i calls) one (drop (i + 1) calls) step out apart);
      rest = λ apart. apart_rest (drop i calls) one (drop (i + 1) calls) step (c.calls.invariant.rest apart);
    }

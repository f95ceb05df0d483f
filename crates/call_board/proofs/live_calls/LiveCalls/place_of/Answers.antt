use Rattle.std.proofs.Common.{◌∙◌, ap, sym, subst, rules}
use Rattle.std.specs.Map.{values_of}
use Rattle.std.specs.Result.{result_ok}
use Rattle.std.proofs.lemmas.List.Sorted.{answers_always}
use Rattle.ng_bencode.specs.Room.{Room}
use Rattle.call_board.specs.declared.live_call.LiveCall.{LiveCall}
use Rattle.call_board.specs.CallNumbers.{NumbersRise}
use Rattle.call_board.proofs.Numbered.{found}
use Rattle.call_board.proofs.live_calls.LiveCalls.place_of.Goals as goal

pub returns-in-Ok-clause-place : goal.returns-in-Ok-clause-place
returns-in-Ok-clause-place c =
    let facts = c.binary_search_by_key.ensures in
    let rise = subst (λ (calls : Room LiveCall). NumbersRise calls.list) (sym c.self.view_is) c.requires in
    let answers = facts.position (λ (call : LiveCall). call.number) (answers_always _ _ _ (λ f a r g called. search rules)) in
    rw (← c.self.view_is) (ap result_ok (sym c.in-Ok.is)
    ∙ found (values_of c.self.inside.calls.entries) c.as_slice-calls.result.now c.args.number c.binary_search_by_key.result (c.as_slice-calls.ensures ∙ c.values.ensures.rest) rise facts.bound answers)

pub returns-in-Err-clause-place : goal.returns-in-Err-clause-place
returns-in-Err-clause-place c =
    let facts = c.binary_search_by_key.ensures in
    let rise = subst (λ (calls : Room LiveCall). NumbersRise calls.list) (sym c.self.view_is) c.requires in
    let answers = facts.position (λ (call : LiveCall). call.number) (answers_always _ _ _ (λ f a r g called. search rules)) in
    rw (← c.self.view_is) (ap result_ok (sym c.in-Err.is)
    ∙ found (values_of c.self.inside.calls.entries) c.as_slice-calls.result.now c.args.number c.binary_search_by_key.result (c.as_slice-calls.ensures ∙ c.values.ensures.rest) rise facts.bound answers)

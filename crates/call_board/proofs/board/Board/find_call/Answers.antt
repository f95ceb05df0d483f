use Rattle.std.proofs.Common.{◌∙◌, ap, sym, Some}
use Rattle.std.specs.Option.{option_map}
use Rattle.std.specs.Str.{bytes_eq}
use Rattle.call_board.specs.declared.live_call.LiveCall.{LiveCall}
use Rattle.call_board.specs.Views.{CallView, is_of_id}
use Rattle.call_board.proofs.Shown.{call_at_place, no_call_found, asks_id}
use Rattle.call_board.proofs.board.Board.find_call.Goals as goal

pub returns-in_default : goal.returns-in_default
returns-in_default c = λ config v s.
    let id = c.args.call_id.now in
    let none = no_call_found config (λ (call : LiveCall). bytes_eq call.id.list id) (is_of_id id) c.args.self.now.calls.list v.calls
    (asks_id config id) s.calls_for (sym c.place_of_id.ensures.place ∙ c.in_default.is) in
    sym (ap (option_map (λ (of : CallView). of.of.number)) none)

pub returns : goal.returns
returns c = λ config v s.
    let id = c.args.call_id.now in
    let there = call_at_place config (λ (call : LiveCall). bytes_eq call.id.list id) (is_of_id id) c.args.self.now.calls.list v.calls
    c.in-Some.place c.at.result.now (asks_id config id) s.calls_for (sym c.place_of_id.ensures.place ∙ c.in-Some.is) in
    ap (λ (call : LiveCall). Some call.number) c.at.ensures ∙ ap Some there.call_for.number_is ∙ sym (ap (option_map (λ (of : CallView). of.of.number)) there.found)

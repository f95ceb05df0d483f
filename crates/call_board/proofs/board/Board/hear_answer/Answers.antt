use Rattle.std.proofs.Common.{◌≡◌, ◌∙◌, sym, subst, None, Some}
use Rattle.std.specs.Str.{bytes_eq}
use Rattle.call_board.specs.declared.live_call.LiveCall.{LiveCall}
use Rattle.call_board.specs.Views.{CallView, is_of_id, call_of_id}
use Rattle.call_board.specs.Boards.{CallFor}
use Rattle.call_board.proofs.Shown.{IsFirst, call_at_place, no_call_found, asks_id, same_one, lent_for}
use Rattle.call_board.proofs.board.Board.hear_answer.Goals as goal

pub returns-in-None-clause-heard : goal.returns-in-None-clause-heard
returns-in-None-clause-heard c = λ config v of ask s e read is.
    let id = c.args.call_id.now in
    let none : call_of_id v id ≡ None = no_call_found config (λ (call : LiveCall). bytes_eq call.id.list id) (is_of_id id) c.args.self.now.calls.list v.calls
    (asks_id config id) s.calls_for (sym c.place_of_id.ensures.place ∙ c.in-None.is) in
    let both : None ≡ Some of = sym none ∙ e in
    absurd (cc)

pub returns-in-Some-clause-heard : goal.returns-in-Some-clause-heard
returns-in-Some-clause-heard c = λ config v of ask s e read is.
    let id = c.args.call_id.now in
    let f = subst (λ (call : LiveCall). IsFirst config (is_of_id id) v.calls call) (sym c.at.ensures)
    (call_at_place config (λ (call : LiveCall). bytes_eq call.id.list id) (is_of_id id) c.args.self.now.calls.list v.calls c.in-Some.place c.at.result.now
    (asks_id config id) s.calls_for (sym c.place_of_id.ensures.place ∙ c.in-Some.is)) in
    let kept = subst (λ (o : CallView). CallFor config c.at.result.now o) (same_one f.found e) f.call_for in
    c.hear.ensures config of.rounds ask (lent_for c.deref.ensures kept.dialog_for) read is

pub returns-in-Some-clause-nothing : goal.returns-in-Some-clause-nothing
returns-in-Some-clause-nothing c = λ config v s e.
    let id = c.args.call_id.now in
    let f = call_at_place config (λ (call : LiveCall). bytes_eq call.id.list id) (is_of_id id) c.args.self.now.calls.list v.calls c.in-Some.place c.at.result.now
    (asks_id config id) s.calls_for (sym c.place_of_id.ensures.place ∙ c.in-Some.is) in
    let both : None ≡ Some f.of = sym e ∙ f.found in
    absurd (cc)

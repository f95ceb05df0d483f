use Rattle.std.proofs.Common.{◌∙◌, ap, sym, refl, ℕ, List}
use Rattle.std.specs.Str.{bytes_eq}
use Rattle.std.specs.Prelude.{position}
use Rattle.call_board.specs.declared.live_call.LiveCall.{LiveCall}
use Rattle.call_board.proofs.Keyed.{one_more_where_none, none_more_where_some}
use Rattle.call_board.proofs.live_calls.LiveCalls.push.Goals as goal

pub returns-in-Some : goal.returns-in-Some
returns-in-Some c =
    let id = c.as_slice.ensures.value ∙ c.requires.key in
    none_more_where_some (λ (live : LiveCall). bytes_eq live.id.list c.args.call.id.list) c.args.self.now.list c.args.self.now.list c.args.call _
    (sym (ap (λ (bytes : List ℕ). position (λ (live : LiveCall). bytes_eq live.id.list bytes) c.args.self.now.list) id) ∙ sym c.place_of_id.ensures.place ∙ c.in-Some.is) refl

pub returns-in-None : goal.returns-in-None
returns-in-None c =
    let id = c.as_slice.ensures.value ∙ c.requires.key in
    one_more_where_none (λ (live : LiveCall). bytes_eq live.id.list c.args.call.id.list) c.args.self.now.list c.append.new.self.list c.args.call
    (sym (ap (λ (bytes : List ℕ). position (λ (live : LiveCall). bytes_eq live.id.list bytes) c.args.self.now.list) id) ∙ sym c.place_of_id.ensures.place ∙ c.in-None.is) c.append.ensures

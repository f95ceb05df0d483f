use Rattle.std.proofs.Common.{◌≡◌, ◌≢◌, ◌∙◌, sym, ap, ℕ, List, position, arith}
use Rattle.std.specs.Prelude.{is_some, not}
use Rattle.std.specs.List.{list_any}
use Rattle.std.specs.Str.{bytes_eq}
use Rattle.call_board.specs.declared.live_call.LiveCall.{LiveCall}
use Rattle.call_board.proofs.Placed.{any-position}
use Rattle.call_board.proofs.SavedLoading.{not_false}
use Rattle.call_board.proofs.saved_board.may_follow.Goals as goal

pub returns : goal.returns
returns c =
    let saved = c.args.saved.now in
    let calls = c.args.calls.now.list in
    let any : list_any (λ (live : LiveCall). bytes_eq live.id.list saved.id.list) calls ≡ is_some c.place_of_id.result =
    any-position (λ (live : LiveCall). bytes_eq live.id.list saved.id.list) calls
    ∙ ap (λ (id : List ℕ). is_some (position (λ (live : LiveCall). bytes_eq live.id.list id) calls)) (sym c.as_slice.ensures) ∙ ap is_some (sym c.place_of_id.ensures.place) in
    let apart : saved.cell ≢ 0 = c.if-cell-eq0.false in (
      λ yes. record {
        later = c.if-saved-next.false;
        earlier = c.if-saved-begun.false;
        low = omega (arith, apart);
        high = c.if-cell-taken.false;
        free = c.if-taken-cell.false;
        new = any ∙ c.is_none.ensures ∙ ap not yes;
      },
      λ follows. not_false c.is_none.result (sym c.is_none.ensures ∙ sym any ∙ follows.new),
    )

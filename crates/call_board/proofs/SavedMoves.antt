-- What a saved board stood for, its record gives back.
use Rattle.std.proofs.Common.{◌≡◌, ◌∙◌, sym, ap, subst, refl, ℕ, ◌+◌, List, [], ◌∷◌, map}
use Rattle.histories.specs.Words.{has}
use Rattle.relay_outside.specs.declared.settings.Config.{Config}
use Rattle.port_pool.specs.Pools.{Pairs, PoolStandsFor}
use Rattle.offer_answer.proofs.SavedDialogs.{dialog_moves}
use Rattle.call_board.specs.declared.live_call.LiveCall.{LiveCall}
use Rattle.call_board.specs.declared.board.Board.{Board}
use Rattle.call_board.specs.declared.saved_board.CallSaved.{CallSaved}
use Rattle.call_board.specs.declared.saved_board.BoardSaved.{BoardSaved}
use Rattle.call_board.specs.Views.{CallView, View}
use Rattle.call_board.specs.Boards.{CallFor, CallsFor, BoardMatches}
use Rattle.call_board.specs.SavedBoards.{CallSaves, CallsSave, BoardSaves, cells_of_live, WholeBoard}

call_moves : (config : Config) (old new : LiveCall) (saved : CallSaved) (c : CallView) → CallSaves old saved → CallSaves new saved → CallFor config old c → CallFor config new c
call_moves config old new saved c from to is = record {
  number_is = to.number_is ∙ sym from.number_is ∙ is.number_is;
  cell_is = to.cell_is ∙ sym from.cell_is ∙ is.cell_is;
  id_is = to.id_is ∙ sym from.id_is ∙ is.id_is;
  dialog_for = dialog_moves config old.dialog.value new.dialog.value saved.dialog c.rounds from.dialog_is to.dialog_is is.dialog_for;
  first_is = to.first_is ∙ sym from.first_is ∙ is.first_is;
  last_is = to.last_is ∙ sym from.last_is ∙ is.last_is;
  due_is = to.due_is ∙ sym from.due_is ∙ is.due_is;
}

calls_move : (config : Config) (old new : List LiveCall) (saved : List CallSaved) (cs : List CallView) → CallsSave old saved → CallsSave new saved → CallsFor config old cs → CallsFor config new cs
calls_move config [] [] [] [] from to is = tt
calls_move config [] [] [] (c ∷ cs) from to is = absurd is
calls_move config [] [] (s ∷ saved) cs from to is = absurd from
calls_move config [] (call ∷ new) [] cs from to is = absurd to
calls_move config [] (call ∷ new) (s ∷ saved) cs from to is = absurd from
calls_move config (one ∷ old) new [] cs from to is = absurd from
calls_move config (one ∷ old) [] (s ∷ saved) cs from to is = absurd to
calls_move config (one ∷ old) (call ∷ new) (s ∷ saved) [] from to is = absurd is
calls_move config (one ∷ old) (call ∷ new) (s ∷ saved) (c ∷ cs) from to is =
    (call_moves config one call s c from.0 to.0 is.0, calls_move config old new saved cs from.1 to.1 is.1)

pub cells_shown : (config : Config) (calls : List LiveCall) (cs : List CallView) → CallsFor config calls cs → cells_of_live calls ≡ map (λ (c : CallView). c.of.cell) cs
cells_shown config [] [] is = refl
cells_shown config [] (c ∷ cs) is = absurd is
cells_shown config (call ∷ calls) [] is = absurd is
cells_shown config (call ∷ calls) (c ∷ cs) is = λ i. is.0.cell_is i ∷ cells_shown config calls cs is.1 i

pub board_moves_lem : (config : Config) (old new : Board) (saved : BoardSaved) (v : View) → WholeBoard new
    → BoardSaves old saved → BoardSaves new saved → BoardMatches config old v → BoardMatches config new v
board_moves_lem config old new saved v whole from to is =
    let configured : new.config ≡ config = to.config_is ∙ sym from.config_is ∙ is.config_is in
    let calls_for : CallsFor config new.calls.list v.calls = calls_move config old.calls.list new.calls.list saved.calls.items v.calls from.calls_are to.calls_are is.calls_for in
    record {
      config_is = configured;
      moment_is = to.moment_is ∙ sym from.moment_is ∙ is.moment_is;
      begun_is = to.begun_is ∙ sym from.begun_is ∙ is.begun_is;
      drawn_is = to.drawn_is ∙ sym from.drawn_is ∙ is.drawn_is;
      calls_for = calls_for;
      cells_for = record {
        count_is = whole.marks.count_is ∙ ap (λ (c : Config). c.max_sessions) configured;
        taken_are = λ k d below. whole.marks.marks_are k d below ∙ ap (λ (cells : List ℕ). has cells (1 + k)) (cells_shown config new.calls.list v.calls calls_for);
      };
      pool_for = subst (λ (pool : Pairs). PoolStandsFor config v.free v.leases pool) (from.pool_is ∙ sym to.pool_is) is.pool_for;
      replies_for = record {
        entries_are = to.replies_are.kept ∙ sym from.replies_are.kept ∙ is.replies_for.entries_are;
        count_is = to.replies_are.count ∙ sym from.replies_are.count ∙ is.replies_for.count_is;
        moment_is = to.replies_are.last_moment ∙ sym from.replies_are.last_moment ∙ is.replies_for.moment_is;
        next_key_is = whole.replies.next_key;
        in_time = is.replies_for.in_time;
        from_sources = is.replies_for.from_sources;
      };
    }

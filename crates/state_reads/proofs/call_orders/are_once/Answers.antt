use Rattle.std.proofs.Common.{◌≡◌, ◌∙◌, ◌+◌, ◌<◌, ◌∷◌, [], ◌++◌, ℕ, List, true, false, get_or, take, length-set, sym, ap, subst, arith}
use Rattle.std.proofs.lemmas.Bool.{false≢true}
use Rattle.std.proofs.lemmas.List.{take_more, get_or_read}
use Rattle.histories.specs.Words.{has}
use Rattle.port_pool.specs.Pools.{AreFree, AreFrom}
use Rattle.port_pool.proofs.Queue.{one_behind, later_behind}
use Rattle.port_pool.proofs.SavedQueues.{free_at, from_at, marked_more}
use Rattle.state_reads.proofs.call_orders.are_once.Goals as goal
use Rattle.state_reads.proofs.call_orders.are_once.Goals.{then-cell-lt1-via-then-cell-lt1, then-cell-lt1-via-else-cell-lt1+then-cell-end, then-cell-lt1-via-else-cell-lt1+else-cell-end+then-index}

pub returns-then-cell-lt1 : goal.returns-then-cell-lt1
returns-then-cell-lt1 c =
    let pairs = c.args.cells.now in
    let i = c.cells.it-index in
    let p = get_or pairs i 0 in
    let size = c.cells.invariant.size in (
      λ t. absurd (false≢true t),
      λ are.
          let at = free_at c.args.end pairs i are.0 c.cells-test.true in
          let from = from_at 1 pairs i are.1 c.cells-test.true in
          elim c.then-cell-lt1.branch [
            | then-cell-lt1-via-then-cell-lt1 w ↦ absurd (omega (arith, from, w.if-cell-lt1.true))
            | then-cell-lt1-via-else-cell-lt1+then-cell-end w ↦ absurd (omega (arith, at.0, w.if-cell-end.true))
            | then-cell-lt1-via-else-cell-lt1+else-cell-end+then-index w ↦
                let read = get_or_read c.cells.marks.items p w.index.result.now (omega (arith, size, at.0)) w.index.ensures false in
                sym at.1 ∙ sym (c.cells.invariant.marked p) ∙ sym read ∙ w.if-index.true
          ],
    )

pub cells-preserved : goal.cells-preserved
cells-preserved c =
    let pairs = c.args.cells.now in
    let i = c.cells.it-index in
    let p = get_or pairs i 0 in
    let v = c.cells.invariant in
    let within : p < c.args.end = omega (arith, c.if-cell-end.false) in
    let read = get_or_read c.cells.marks.items p c.index.result.now (omega (arith, v.size, within)) c.index.ensures false in
    let out : has (take i pairs) p ≡ false = sym (v.marked p) ∙ sym read ∙ c.if-index.false in
    let more : take (i + 1) pairs ≡ take i pairs ++ p ∷ [] = take_more pairs i 0 c.cells-test.true in
    record {
      free = subst (AreFree c.args.end) (sym more) (one_behind c.args.end (take i pairs) p v.free within out);
      later = subst (AreFrom 1) (sym more) (later_behind 1 (take i pairs) p v.later c.if-cell-lt1.false);
      size = length-set c.cells.marks.items p true ∙ v.size;
      marked = λ k. marked_more c.cells.marks.items (take i pairs) p (omega (arith, v.size, within)) v.marked k ∙ ap (λ (s : List ℕ). has s k) (sym more);
    }

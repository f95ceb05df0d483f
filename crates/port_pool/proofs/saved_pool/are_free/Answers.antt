use Rattle.std.proofs.Common.{◌≡◌, ◌∙◌, ◌+◌, ◌<◌, ◌∷◌, [], ◌++◌, ℕ, List, true, false, get_or, take, length-set, sym, ap, subst, arith}
use Rattle.std.proofs.lemmas.Bool.{false≢true}
use Rattle.std.proofs.lemmas.List.{take_more, get_or_read}
use Rattle.histories.specs.Words.{has}
use Rattle.port_pool.specs.Pools.{AreFree, AreFrom}
use Rattle.port_pool.proofs.Queue.{one_behind, later_behind}
use Rattle.port_pool.proofs.SavedQueues.{free_at, from_at, marked_more}
use Rattle.port_pool.proofs.saved_pool.are_free.Goals as goal
use Rattle.port_pool.proofs.saved_pool.are_free.Goals.{then-pair-first-via-then-pair-first, then-pair-first-via-else-pair-first+then-pair-end, then-pair-first-via-else-pair-first+else-pair-end+then-index}

pub returns-then-pair-first : goal.returns-then-pair-first
returns-then-pair-first c =
    let pairs = c.args.pairs.now in
    let i = c.pairs.it-index in
    let p = get_or pairs i 0 in
    let size = c.pairs.invariant.size in (
      λ t. absurd (false≢true t),
      λ are.
          let at = free_at c.args.end pairs i are.0 c.pairs-test.true in
          let from = from_at c.args.first pairs i are.1 c.pairs-test.true in
          elim c.then-pair-first.branch [
            | then-pair-first-via-then-pair-first w ↦ absurd (omega (arith, from, w.if-pair-first.true))
            | then-pair-first-via-else-pair-first+then-pair-end w ↦ absurd (omega (arith, at.0, w.if-pair-end.true))
            | then-pair-first-via-else-pair-first+else-pair-end+then-index w ↦
                let read = get_or_read c.pairs.marks.items p w.index.result.now (omega (arith, size, at.0)) w.index.ensures false in
                sym at.1 ∙ sym (c.pairs.invariant.marked p) ∙ sym read ∙ w.if-index.true
          ],
    )

pub pairs-preserved : goal.pairs-preserved
pairs-preserved c =
    let pairs = c.args.pairs.now in
    let i = c.pairs.it-index in
    let p = get_or pairs i 0 in
    let v = c.pairs.invariant in
    let within : p < c.args.end = omega (arith, c.if-pair-end.false) in
    let read = get_or_read c.pairs.marks.items p c.index.result.now (omega (arith, v.size, within)) c.index.ensures false in
    let out : has (take i pairs) p ≡ false = sym (v.marked p) ∙ sym read ∙ c.if-index.false in
    let more : take (i + 1) pairs ≡ take i pairs ++ p ∷ [] = take_more pairs i 0 c.pairs-test.true in
    record {
      free = subst (AreFree c.args.end) (sym more) (one_behind c.args.end (take i pairs) p v.free within out);
      later = subst (AreFrom c.args.first) (sym more) (later_behind c.args.first (take i pairs) p v.later c.if-pair-first.false);
      size = length-set c.pairs.marks.items p true ∙ v.size;
      marked = λ k. marked_more c.pairs.marks.items (take i pairs) p (omega (arith, v.size, within)) v.marked k ∙ ap (λ (s : List ℕ). has s k) (sym more);
    }

use Rattle.std.proofs.Common.{◌≡◌, ◌∙◌, ◌+◌, ◌<◌, ◌∷◌, [], ◌++◌, ℕ, List, Bool, true, false, length, get_or, take, length-set, sym, ap, subst, arith}
use Rattle.std.proofs.lemmas.Bool.{false≢true}
use Rattle.std.proofs.lemmas.List.{take_more, take_all}
use Rattle.histories.specs.Words.{has}
use Rattle.port_pool.specs.Pools.{AreFree}
use Rattle.port_pool.proofs.Queue.{one_behind}
use Rattle.port_pool.proofs.SavedQueues.{free_at, marked_more}
use Rattle.whole_records.proofs.pairs.stand_once.Goals as goal

pub returns-then-not-may_stand : goal.returns-then-not-may_stand
returns-then-not-may_stand c =
    let pairs = c.args.pairs.now in
    let i = c.pairs.it-index in
    let p = get_or pairs i 0 in
    let v = c.pairs.invariant in
    let same = λ (k : ℕ). ap (λ (l : List Bool). get_or l k false) c.deref.ensures.value in
    let long : length c.deref.result.now ≡ length c.pairs.marks.items = ap (λ (l : List Bool). length l) c.deref.ensures.value in (
      λ t. absurd (false≢true t),
      λ once.
          let at = free_at c.args.count pairs i once.free c.pairs-test.true in
          sym c.if-not-may_stand.true ∙ c.may_stand.ensures.1 (omega (arith, v.size, long, at.0), same p ∙ v.marked p ∙ at.1),
    )

pub pairs-preserved : goal.pairs-preserved
pairs-preserved c =
    let pairs = c.args.pairs.now in
    let i = c.pairs.it-index in
    let p = get_or pairs i 0 in
    let v = c.pairs.invariant in
    let same = λ (k : ℕ). ap (λ (l : List Bool). get_or l k false) c.deref.ensures.value in
    let long : length c.deref.result.now ≡ length c.pairs.marks.items = ap (λ (l : List Bool). length l) c.deref.ensures.value in
    let may = c.may_stand.ensures.0 c.if-not-may_stand.false in
    let within : p < c.args.count = omega (arith, v.size, long, may.0) in
    let out : has (take i pairs) p ≡ false = sym (v.marked p) ∙ sym (same p) ∙ may.1 in
    let more : take (i + 1) pairs ≡ take i pairs ++ p ∷ [] = take_more pairs i 0 c.pairs-test.true in
    record {
      free = subst (AreFree c.args.count) (sym more) (one_behind c.args.count (take i pairs) p v.free within out);
      size = length-set c.pairs.marks.items p true ∙ v.size;
      marked = λ k. marked_more c.pairs.marks.items (take i pairs) p (omega (arith, v.size, within)) v.marked k ∙ ap (λ (s : List ℕ). has s k) (sym more);
    }

pub returns : goal.returns
returns c =
    let pairs = c.args.pairs.now in
    let v = c.pairs.invariant in
    let all : take c.pairs.it-index pairs ≡ pairs = take_all c.pairs.it-index pairs c.pairs-test.false in
    let same = λ (k : ℕ). ap (λ (l : List Bool). get_or l k false) c.deref-2.ensures.value in
    let long : length c.deref-2.result.now ≡ length c.pairs.marks.items = ap (λ (l : List Bool). length l) c.deref-2.ensures.value in
    let marked = λ (k : ℕ). v.marked k ∙ ap (λ (s : List ℕ). has s k) all in (
      λ t. record {
        free = subst (AreFree c.args.count) all v.free;
        all = λ pair below. sym (marked pair) ∙ sym (same pair) ∙ c.are_marked.ensures.0 t pair (omega (arith, v.size, long, below));
      },
      λ once. c.are_marked.ensures.1 (λ k below. same k ∙ marked k ∙ once.all k (omega (arith, v.size, long, below))),
    )

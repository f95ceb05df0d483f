use Rattle.std.proofs.Common.{ℕ, ◌<◌, refl, get_or, arith}
use Rattle.std.proofs.lemmas.Bool.{false≢true}
use Rattle.whole_records.proofs.Each.{in_at, each_more, each_all, each_none}
use Rattle.whole_records.proofs.pairs.are_below.Goals as goal

pub loop-pair-init : goal.loop-pair-init
loop-pair-init c = each_none (λ (pair : ℕ). pair < c.args.limit) c.args.pairs.now

pub loop-pair-preserved : goal.loop-pair-preserved
loop-pair-preserved c =
    each_more (λ (pair : ℕ). pair < c.args.limit) c.args.pairs.now c.loop-pair.pair-index 0 (get_or c.args.pairs.now c.loop-pair.pair-index 0) c.loop-pair-test.true refl
    c.loop-pair.invariant (omega arith)

pub returns-then-pair-limit : goal.returns-then-pair-limit
returns-then-pair-limit c = (
  λ t. absurd (false≢true t),
  λ all. absurd (let one = all (get_or c.args.pairs.now c.loop-pair.pair-index 0) (in_at c.args.pairs.now c.loop-pair.pair-index 0 c.loop-pair-test.true) in omega (arith, one)),
)

pub returns : goal.returns
returns c = (λ t. each_all (λ (pair : ℕ). pair < c.args.limit) c.args.pairs.now c.loop-pair.pair-index c.loop-pair-test.false c.loop-pair.invariant, λ all. refl)

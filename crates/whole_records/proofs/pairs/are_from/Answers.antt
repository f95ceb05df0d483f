use Rattle.std.proofs.Common.{sym, subst, refl, take, get_or, arith}
use Rattle.std.proofs.lemmas.Bool.{false≢true}
use Rattle.std.proofs.lemmas.List.{take_more, take_all}
use Rattle.port_pool.specs.Pools.{AreFrom}
use Rattle.port_pool.proofs.Queue.{later_behind}
use Rattle.port_pool.proofs.SavedQueues.{from_at}
use Rattle.whole_records.proofs.pairs.are_from.Goals as goal

pub loop-pair-preserved : goal.loop-pair-preserved
loop-pair-preserved c =
    let pairs = c.args.pairs.now in
    let i = c.loop-pair.pair-index in
    subst (AreFrom c.args.first) (sym (take_more pairs i 0 c.loop-pair-test.true))
    (later_behind c.args.first (take i pairs) (get_or pairs i 0) c.loop-pair.invariant (omega arith))

pub returns-then-pair-first : goal.returns-then-pair-first
returns-then-pair-first c = (
  λ t. absurd (false≢true t),
  λ all. absurd (let one = from_at c.args.first c.args.pairs.now c.loop-pair.pair-index all c.loop-pair-test.true in omega (arith, one)),
)

pub returns : goal.returns
returns c = (λ t. subst (AreFrom c.args.first) (take_all c.loop-pair.pair-index c.args.pairs.now c.loop-pair-test.false) c.loop-pair.invariant, λ all. refl)

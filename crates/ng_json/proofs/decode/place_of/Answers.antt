use Rattle.std.proofs.Common.{◌≡◌, length, refl, subst, arith}
use Rattle.std.specs.Cmp.Lexicographic.{slice_cmp}
use Rattle.std.specs.Ordering.{nat_cmp}
use Rattle.std.specs.declared.cmp.Ordering.TheVariants.{Less, Greater}
use Rattle.ng_json.proofs.Places.{PairGoesPast, pair_goes_on, pair_goes_before, pair_goes_last}
use Rattle.ng_json.proofs.decode.place_of.Goals as goal

pub returns-in-Less-clause-place : goal.returns-in-Less-clause-place
returns-in-Less-clause-place c =
    let p = c.index-pairs-i.result in
    let a = c.as_slice.ensures in
    let b = c.cmp.ensures in
    let d = c.in-Less.is in
    let less : slice_cmp nat_cmp c.args.key.now p.0.list ≡ Less = cc in
    pair_goes_before c.args.key.now c.args.pairs.now c.loop-i.i p (omega arith) c.index-pairs-i.is c.loop-i.invariant less

pub loop-i-preserved : goal.loop-i-preserved
loop-i-preserved c =
    let p = c.index-pairs-i.result in
    let a = c.as_slice.ensures in
    let b = c.cmp.ensures in
    let d = c.in-Greater.is in
    let greater : slice_cmp nat_cmp c.args.key.now p.0.list ≡ Greater = cc in
    pair_goes_on c.args.key.now c.args.pairs.now c.loop-i.i p (omega arith) c.index-pairs-i.is c.loop-i.invariant greater

pub returns-clause-place : goal.returns-clause-place
returns-clause-place c =
    let all = c.args.pairs.now in
    let end : c.loop-i.i ≡ length all = omega arith in
    pair_goes_last c.args.key.now all (length all) refl (subst (λ i. PairGoesPast c.args.key.now all i) end c.loop-i.invariant)

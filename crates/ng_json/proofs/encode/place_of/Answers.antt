use Rattle.std.proofs.Common.{◌≡◌, length, refl, ◌∙◌, subst, arith}
use Rattle.std.specs.Cmp.Lexicographic.{slice_cmp}
use Rattle.std.specs.Ordering.{nat_cmp}
use Rattle.std.specs.declared.cmp.Ordering.TheVariants.{Less}
use Rattle.ng_json.proofs.Places.{GoesPast, goes_on, goes_before, goes_last}
use Rattle.ng_json.proofs.encode.place_of.Goals as goal

pub returns-in-Less-clause-place : goal.returns-in-Less-clause-place
returns-in-Less-clause-place c =
    let m = c.index-members-i.result in
    let a = c.as_slice.ensures in
    let b = c.cmp.ensures in
    let d = c.in-Less.is in
    let less : slice_cmp nat_cmp c.args.key.now m.0.list ≡ Less = cc in
    goes_before c.args.key.now c.args.members.now c.loop-i.i m (omega arith) c.index-members-i.is less c.loop-i.invariant

pub loop-i-preserved : goal.loop-i-preserved
loop-i-preserved c =
    let m = c.index-members-i.result in
    goes_on c.args.key.now c.args.members.now c.loop-i.i m (omega arith) c.index-members-i.is
    (λ e. c.in_default.not-Less (c.cmp.ensures ∙ (let a = c.as_slice.ensures in cc))) c.loop-i.invariant

pub returns-clause-place : goal.returns-clause-place
returns-clause-place c =
    let all = c.args.members.now in
    let end : c.loop-i.i ≡ length all = omega arith in
    goes_last c.args.key.now all (length all) refl (subst (λ i. GoesPast c.args.key.now all i) end c.loop-i.invariant)

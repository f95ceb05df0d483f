use Rattle.std.proofs.Common.{◌≡◌, ◌∙◌, ap, List, ℕ, arith}
use Rattle.std.specs.Prelude.{FitsSigned}
use Rattle.std.specs.Int.{w64}
use Rattle.std.proofs.Common.{rules}
use Rattle.std.proofs.lemmas.Int.{ints}
use Rattle.ng_bencode.specs.Tree.{tree_of, Bytes}
use Rattle.state_values.proofs.NumberTrees.{int_is, neither, pos_tree, large_some, large_none}
use Rattle.state_values.proofs.numbers.read_number.Goals as goal

pub returns-then-small-lt0-clause-none : goal.returns-then-small-lt0-clause-none
returns-then-small-lt0-clause-none c = λ n fits same.
    let e = int_is (tree_of c.args.value.now) c.in-Some.small n c.in-Some.ensures same in
    absurd (omega (arith, ints))

pub returns-in-Some-clause-some : goal.returns-in-Some-clause-some
returns-in-Some-clause-some c =
    let fits : FitsSigned w64 c.in-Some.small = search rules in
    c.in-Some.ensures ∙ pos_tree c.in-Some.small fits (omega (arith, ints))

pub returns-in_default-as_bytes-clause-none : goal.returns-in_default-as_bytes-clause-none
returns-in_default-as_bytes-clause-none c = λ n fits same. neither (tree_of c.args.value.now) n c.in_default.ensures c.in_default-as_bytes.ensures same

pub returns-clause-some : goal.returns-clause-some
returns-clause-some c =
    large_some (tree_of c.args.value.now) c.as_slice.result.now c.large_number.result
    (c.in-Some-as_bytes.ensures ∙ ap (λ (b : List ℕ). Bytes b) (let e : c.in-Some-as_bytes.bytes.now.list ≡ c.as_slice.result.now = cc in e)) c.large_number.ensures.some

pub returns-clause-none : goal.returns-clause-none
returns-clause-none c =
    large_none (tree_of c.args.value.now) c.as_slice.result.now c.large_number.result
    (c.in-Some-as_bytes.ensures ∙ ap (λ (b : List ℕ). Bytes b) (let e : c.in-Some-as_bytes.bytes.now.list ≡ c.as_slice.result.now = cc in e)) c.large_number.ensures.none

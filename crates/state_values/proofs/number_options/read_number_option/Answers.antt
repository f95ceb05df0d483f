use Rattle.std.proofs.Common.{◌<◌, ◌^◌, ℕ, Bor}
use Rattle.ng_bencode.specs.declared.value.Value.{Value}
use Rattle.ng_bencode.specs.Tree.{tree_of}
use Rattle.state_values.specs.Numbers.{number_tree}
use Rattle.state_values.proofs.KeyedTrees.{refused}
use Rattle.state_values.proofs.MissingTrees.{no_option, none_in}
use Rattle.state_values.proofs.number_options.read_number_option.Goals as goal

pub returns-in_err-read_option-clause-none : goal.returns-in_err-read_option-clause-none
returns-in_err-read_option-clause-none c = refused c.from_residual.ensures (λ one fits same.
    no_option number_tree (tree_of c.args.value.now) c.in_err-read_option.ensures.none one same)

pub returns-in_err-read_number-in-Some-clause-none : goal.returns-in_err-read_number-in-Some-clause-none
returns-in_err-read_number-in-Some-clause-none c = refused c.from_residual-in_err-read_number-in-Some.ensures (λ o fits same.
    none_in number_tree (λ (v : Bor Value). tree_of v.now) (λ (n : ℕ). n < 2 ^ 64) (tree_of c.args.value.now) c.in_ok-read_option.field-0 c.in-Some.one
    c.in_ok-read_option.ensures.some c.in-Some.is c.in_err-read_number-in-Some.ensures.none o fits same)

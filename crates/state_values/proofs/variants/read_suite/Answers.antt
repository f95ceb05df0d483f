use Rattle.std.proofs.Common.{◌≡◌, arith}
use Rattle.ng_bencode.specs.Tree.{tree_of}
use Rattle.state_values.specs.Forms.{suite_number}
use Rattle.state_values.proofs.FormTrees.{few_suites, number_is}
use Rattle.state_values.proofs.variants.read_suite.Goals as goal

pub returns-in_default-clause-none : goal.returns-in_default-clause-none
returns-in_default-clause-none c = λ suite same.
    let number = c.in_ok-read_number.field-0 in
    let is : number ≡ suite_number suite = number_is (tree_of c.args.value.now) number (suite_number suite) (omega arith) (omega (arith, few_suites suite)) c.in_ok-read_number.ensures.some same in
    absurd (omega (arith, is, few_suites suite, c.in_default))

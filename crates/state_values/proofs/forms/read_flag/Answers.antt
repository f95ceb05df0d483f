use Rattle.std.proofs.Common.{◌≡◌, arith}
use Rattle.ng_bencode.specs.Tree.{tree_of}
use Rattle.state_values.specs.Forms.{flag_number}
use Rattle.state_values.proofs.FormTrees.{few_flags, number_is}
use Rattle.state_values.proofs.forms.read_flag.Goals as goal

pub returns-in_default-clause-none : goal.returns-in_default-clause-none
returns-in_default-clause-none c = λ flag same.
    let number = c.in_ok-read_number.field-0 in
    let is : number ≡ flag_number flag = number_is (tree_of c.args.value.now) number (flag_number flag) (omega arith) (omega (arith, few_flags flag)) c.in_ok-read_number.ensures.some same in
    absurd (omega (arith, is, few_flags flag, c.in_default))

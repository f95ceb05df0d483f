use Rattle.std.proofs.Common.{◌≡◌, arith}
use Rattle.ng_bencode.specs.Tree.{tree_of}
use Rattle.state_values.specs.Forms.{side_number}
use Rattle.state_values.proofs.FormTrees.{few_sides, number_is}
use Rattle.state_values.proofs.variants.read_side.Goals as goal

pub returns-in_default-clause-none : goal.returns-in_default-clause-none
returns-in_default-clause-none c = λ side same.
    let number = c.in_ok-read_number.field-0 in
    let is : number ≡ side_number side = number_is (tree_of c.args.value.now) number (side_number side) (omega arith) (omega (arith, few_sides side)) c.in_ok-read_number.ensures.some same in
    absurd (omega (arith, is, few_sides side, c.in_default))

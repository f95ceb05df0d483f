use Rattle.std.proofs.Common.{◌≡◌, arith}
use Rattle.ng_bencode.specs.Tree.{tree_of}
use Rattle.state_values.specs.Forms.{family_number}
use Rattle.state_values.proofs.FormTrees.{few_families, number_is}
use Rattle.state_values.proofs.variants.read_family.Goals as goal

pub returns-in_default-clause-none : goal.returns-in_default-clause-none
returns-in_default-clause-none c = λ family same.
    let number = c.in_ok-read_number.field-0 in
    let is : number ≡ family_number family = number_is (tree_of c.args.value.now) number (family_number family) (omega arith) (omega (arith, few_families family)) c.in_ok-read_number.ensures.some same in
    absurd (omega (arith, is, few_families family, c.in_default))

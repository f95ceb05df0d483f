use Rattle.std.proofs.Common.{◌≡◌, arith}
use Rattle.ng_bencode.specs.Tree.{tree_of}
use Rattle.state_values.specs.Forms.{proto_number}
use Rattle.state_values.proofs.FormTrees.{few_protos, number_is}
use Rattle.state_values.proofs.variants.read_proto.Goals as goal

pub returns-in_default-clause-none : goal.returns-in_default-clause-none
returns-in_default-clause-none c = λ proto same.
    let number = c.in_ok-read_number.field-0 in
    let is : number ≡ proto_number proto = number_is (tree_of c.args.value.now) number (proto_number proto) (omega arith) (omega (arith, few_protos proto)) c.in_ok-read_number.ensures.some same in
    absurd (omega (arith, is, few_protos proto, c.in_default))

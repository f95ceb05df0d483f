use Rattle.std.proofs.Common.{ap, ◌/◌, ◌∙◌, arith}
use Rattle.std.proofs.lemmas.Nat.{and_mask}
use Rattle.aes_ctr.specs.Aes.{sub_byte}
use Rattle.aes_ctr.proofs.Columns.{same_word}
use Rattle.aes_ctr.proofs.state.substituted_column.Goals as goal

pub returns : goal.returns
returns c =
    c.column.ensures
    ∙ same_word (c.substitute.ensures ∙ ap sub_byte (omega arith)) (c.substitute-2.ensures ∙ ap sub_byte (and_mask (c.args.b / 65536) 8))
    (c.substitute-3.ensures ∙ ap sub_byte (and_mask (c.args.c / 256) 8)) (c.substitute-4.ensures ∙ ap sub_byte (and_mask c.args.d 8))

use Rattle.std.proofs.Common.{◌/◌, bit_and, get_or, arith}
use Rattle.std.proofs.lemmas.Nat.{and_mask}
use Rattle.aes_ctr.specs.Aes.{sub_byte}
use Rattle.aes_ctr.specs.Columns.{byte_in}
use Rattle.aes_ctr.specs.declared.tables.TheConstants.{FIRST, SECOND, THIRD, FOURTH}
use Rattle.aes_ctr.proofs.TableLemmas.{first_at, second_at, third_at, fourth_at, mixed_of_entries}
use Rattle.aes_ctr.proofs.tables.mixed_column.Goals as goal

pub returns : goal.returns
returns c =
    let a = c.args.a in
    let b = bit_and (c.args.b / 65536) 255 in
    let d = bit_and (c.args.c / 256) 255 in
    let e = bit_and c.args.d 255 in
    mixed_of_entries (get_or FIRST (a / 16777216) 0) (get_or SECOND b 0) (get_or THIRD d 0) (get_or FOURTH e 0)
    (sub_byte (byte_in 0 a)) (sub_byte (byte_in 1 c.args.b)) (sub_byte (byte_in 2 c.args.c)) (sub_byte (byte_in 3 c.args.d))
    (first_at (a / 16777216) (byte_in 0 a) (omega arith) (omega arith)) (second_at b (byte_in 1 c.args.b) (and_mask (c.args.b / 65536) 8) (omega arith))
    (third_at d (byte_in 2 c.args.c) (and_mask (c.args.c / 256) 8) (omega arith)) (fourth_at e (byte_in 3 c.args.d) (and_mask c.args.d 8) (omega arith))

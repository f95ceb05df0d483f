use Rattle.std.proofs.Common.{◌+◌, ◌-◌, length, arith}
use Rattle.std.proofs.lemmas.Slice.{drop-put_mid}
use Rattle.sdes_lines.proofs.write.put.Goals as goal

pub returns-clause-rest : goal.returns-clause-rest
returns-clause-rest c =
    drop-put_mid c.args.start (c.args.start + length c.args.text.now - c.args.start) c.args.out.now c.copy_from_slice.new.self
    (c.args.start + length c.args.text.now) (omega arith) (omega arith) (omega arith)

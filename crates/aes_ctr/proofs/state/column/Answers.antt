use Rattle.aes_ctr.proofs.Columns.{word_bytes-read}
use Rattle.aes_ctr.proofs.state.column.Goals as goal

pub returns : goal.returns
returns c =
    word_bytes-read c.args.a c.args.b c.args.c c.args.d c.from_be_bytes.result c.ranges.a.fits c.ranges.b.fits c.ranges.c.fits c.ranges.d.fits c.from_be_bytes.ensures

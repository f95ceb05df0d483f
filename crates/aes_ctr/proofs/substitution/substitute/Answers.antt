use Rattle.aes_ctr.proofs.SBox.{s_box_at}
use Rattle.aes_ctr.proofs.substitution.substitute.Goals as goal

pub returns : goal.returns
returns c = s_box_at c.args.byte c.ranges.byte.fits

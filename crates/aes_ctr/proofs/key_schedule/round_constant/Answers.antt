use Rattle.aes_ctr.proofs.FieldLemmas.{round_constant_at}
use Rattle.aes_ctr.proofs.key_schedule.round_constant.Goals as goal

pub returns : goal.returns
returns c = round_constant_at c.args.j c.requires

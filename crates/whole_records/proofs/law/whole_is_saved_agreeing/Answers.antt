use Rattle.whole_records.proofs.Wholes.{whole_agreeing}
use Rattle.whole_records.proofs.law.whole_is_saved_agreeing.Goals as goal

pub returns : goal.returns
returns c = whole_agreeing

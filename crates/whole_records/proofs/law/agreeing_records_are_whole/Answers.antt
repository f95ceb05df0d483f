use Rattle.whole_records.proofs.Wholes.{agreeing_whole}
use Rattle.whole_records.proofs.law.agreeing_records_are_whole.Goals as goal

pub returns : goal.returns
returns c = agreeing_whole

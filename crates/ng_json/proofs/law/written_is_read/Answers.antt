use Rattle.ng_json.proofs.Reading.{says_back}
use Rattle.ng_json.proofs.law.written_is_read.Goals as goal

pub returns : goal.returns
returns c = says_back

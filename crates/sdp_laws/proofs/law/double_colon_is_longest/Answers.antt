use Rattle.sdp_laws.proofs.Runs.{longest_is}
use Rattle.sdp_laws.proofs.law.double_colon_is_longest.Goals as goal

pub returns : goal.returns
returns c = longest_is

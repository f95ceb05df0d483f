use Rattle.std.proofs.Common.{refl}
use Rattle.srtcp_context.proofs.Tallying.{none_known}
use Rattle.srtcp_context.proofs.counts.Counts.new.Goals as goal

pub returns : goal.returns
returns c = none_known _ refl

use Rattle.std.proofs.Common.{refl}
use Rattle.srtp_sources.proofs.Tabling.{none_known}
use Rattle.srtp_sources.proofs.sources.Sources.new.Goals as goal

pub returns : goal.returns
returns c half = none_known half _ refl

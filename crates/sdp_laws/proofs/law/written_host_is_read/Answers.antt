use Rattle.sdp_laws.proofs.Hosts.{address_read}
use Rattle.sdp_laws.proofs.law.written_host_is_read.Goals as goal

pub returns : goal.returns
returns c = address_read

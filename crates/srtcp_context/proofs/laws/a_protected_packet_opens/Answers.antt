use Rattle.srtcp_context.proofs.PacketLemmas.{protect-opens}
use Rattle.srtcp_context.proofs.laws.a_protected_packet_opens.Goals as goal

pub returns : goal.returns
returns c = protect-opens

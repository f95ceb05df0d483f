use Rattle.srtcp_context.specs.Packets.{rtcp_keystream}
use Rattle.srtcp_context.proofs.session.RtcpSession.cipher.Goals as goal

pub returns : goal.returns
unfolding rtcp_keystream
returns c master for = cc

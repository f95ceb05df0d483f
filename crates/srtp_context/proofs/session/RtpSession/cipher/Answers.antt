use Rattle.srtp_context.specs.Packets.{packet_keystream}
use Rattle.srtp_context.proofs.session.RtpSession.cipher.Goals as goal

pub returns : goal.returns
unfolding packet_keystream
returns c master suite for = cc

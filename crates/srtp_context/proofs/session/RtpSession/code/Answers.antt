use Rattle.srtp_context.specs.Packets.{rtp_code}
use Rattle.srtp_context.proofs.session.RtpSession.code.Goals as goal

pub returns : goal.returns
unfolding rtp_code
returns c master suite for = cc

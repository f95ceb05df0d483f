use Rattle.rtp_packet.specs.declared.head.Half.TheVariants.{Rtcp}
use Rattle.srtcp_context.proofs.inbound.InRtcp.new.Goals as goal

pub returns : goal.returns
returns c = record { session = c.new.ensures; sources = c.new-2.ensures Rtcp }

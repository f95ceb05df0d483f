use Rattle.rtp_packet.specs.declared.head.Half.TheVariants.{Rtp}
use Rattle.srtp_context.proofs.inbound.InRtp.new.Goals as goal

pub returns : goal.returns
returns c = record { session = c.new.ensures; sources = c.new-2.ensures Rtp }

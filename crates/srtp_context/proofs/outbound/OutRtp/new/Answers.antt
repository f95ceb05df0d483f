use Rattle.std.proofs.Common.{subst, List, ℕ}
use Rattle.rtp_packet.specs.declared.head.Half.TheVariants.{Rtp}
use Rattle.srtp_context.specs.Sessions.{SessionFor}
use Rattle.srtp_context.proofs.outbound.OutRtp.new.Goals as goal

pub returns : goal.returns
returns c = record {
  session =
      (let P : List ℕ → Type 0 = λ master. SessionFor master c.args.suite c.new.result in
      subst P c.into_bytes.ensures c.new.ensures);
  sources = c.new-2.ensures Rtp;
}

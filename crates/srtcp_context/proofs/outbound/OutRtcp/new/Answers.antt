use Rattle.std.proofs.Common.{subst, List, ℕ}
use Rattle.srtcp_context.specs.Sessions.{RtcpSessionFor}
use Rattle.srtcp_context.proofs.outbound.OutRtcp.new.Goals as goal

pub returns : goal.returns
returns c = record {
  session =
      (let P : List ℕ → Type 0 = λ master. RtcpSessionFor master c.new.result in
      subst P c.into_bytes.ensures c.new.ensures);
  counts = c.new-2.ensures;
}

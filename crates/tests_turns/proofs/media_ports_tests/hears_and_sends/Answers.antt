use Rattle.std.proofs.Common.{◌∙◌}
use Rattle.tests_turns.proofs.media_ports_tests.hears_and_sends.Goals as goal

pub returns : goal.returns
returns c lease are = (
  record { rtp_at = c.take-rtp.ensures.log.same ∙ are.0.rtp_at; rtcp_at = c.take-rtcp.ensures.log.same ∙ are.0.rtcp_at },
  record { rtp_at = c.send-sent.ensures.log.same ∙ are.1.rtp_at; rtcp_at = are.1.rtcp_at },
)

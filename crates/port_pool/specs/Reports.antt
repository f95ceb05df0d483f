-- Reports of legs whose counts are integers of 64 bits with a sign too.
use Rattle.std.specs.Prelude.{◌<◌, ◌^◌}
use Rattle.port_pool.specs.declared.reports.LegReport.{LegReport}

-- each count of the report is below 2 ^ 63
pub record CountsFit (report : LegReport) : Type 0 where
  pub rtp_accepted : report.rtp_accepted < 2 ^ 63
  pub rtp_sent : report.rtp_sent < 2 ^ 63
  pub rtcp_accepted : report.rtcp_accepted < 2 ^ 63
  pub rtcp_sent : report.rtcp_sent < 2 ^ 63

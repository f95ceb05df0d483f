use Rattle.std.proofs.Common.{sym}
use Rattle.srtcp_context.proofs.Tallying.{not_found}
use Rattle.srtcp_context.proofs.counts.Counts.next.Goals as goal

pub returns-in-None : goal.returns-in-None
returns-in-None c notes for = not_found c.args.self.now c.args.sender.ssrc notes for (sym c.in-None.ensures.first)

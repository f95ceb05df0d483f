use Rattle.std.proofs.Common.{rules}
use Rattle.srtcp_context.proofs.Tallying.{stands_there}
use Rattle.srtcp_context.proofs.counts.Counts.place.Goals as goal

pub returns-clause-found : goal.returns-clause-found
returns-clause-found c = stands_there c.args.self.now c.args.sender (search rules) (search rules) c.requires

use Rattle.std.proofs.Common.{rules}
use Rattle.srtp_sources.proofs.Tabling.{stands_there}
use Rattle.srtp_sources.proofs.sources.Sources.place.Goals as goal

pub returns-clause-found : goal.returns-clause-found
returns-clause-found c = stands_there c.args.self.now c.args.source (search rules) (search rules) c.requires

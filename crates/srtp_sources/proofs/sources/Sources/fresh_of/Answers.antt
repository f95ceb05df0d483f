use Rattle.std.proofs.Common.{sym}
use Rattle.srtp_sources.proofs.Tabling.{not_found, fresh_nothing}
use Rattle.srtp_sources.proofs.sources.Sources.fresh_of.Goals as goal

pub returns-in-None : goal.returns-in-None
returns-in-None c half notes for =
    fresh_nothing half c.args.source.ssrc c.args.index notes (not_found half c.args.self.now c.args.source.ssrc notes for (sym c.in-None.ensures.first))

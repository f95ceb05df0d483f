use Rattle.std.proofs.Common.{◌∙◌, sym, ap}
use Rattle.replay_window.specs.declared.answers.Near.TheVariants.{At}
use Rattle.srtp_sources.proofs.Tabling.{not_found, near_nothing}
use Rattle.srtp_sources.proofs.sources.Sources.near_of.Goals as goal

pub returns-in-None-clause-nearest : goal.returns-in-None-clause-nearest
returns-in-None-clause-nearest c half notes for =
    ap At c.from.ensures
    ∙ near_nothing half c.args.source.ssrc c.args.seq notes (not_found half c.args.self.now c.args.source.ssrc notes for (sym c.in-None.ensures.first))

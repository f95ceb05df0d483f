use Rattle.std.proofs.Common.{sym, ◌∙◌}
use Rattle.sdp_text.proofs.Cuts.{count_cut}
use Rattle.sdp_text.proofs.role.read_media_port.Goals as goal

pub returns-then-is_some : goal.returns-then-is_some
returns-then-is_some c = sym (count_cut c.args.field.now c.cut.result.0.now c.cut-2.result.0.now c.cut.result.1 c.cut-2.result.1 c.in-Some-after_first.rest c.cut.ensures.pieces c.in-Some-after_first.is c.cut-2.ensures.pieces (sym c.is_some.ensures ∙ c.if-is_some.true))

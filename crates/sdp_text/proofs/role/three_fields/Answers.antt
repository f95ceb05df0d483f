use Rattle.std.proofs.Common.{sym, ◌∙◌}
use Rattle.sdp_text.proofs.Cuts.{three_cut}
use Rattle.sdp_text.proofs.role.three_fields.Goals as goal

pub returns-then-is_some : goal.returns-then-is_some
returns-then-is_some c = three_cut c.args.text.now c.cut.result.0.now c.cut-2.result.0.now c.cut-3.result.0.now c.cut.result.1 c.cut-2.result.1 c.cut-3.result.1 c.in-Some.rest c.in-Some-after_second.rest c.cut.ensures.pieces c.in-Some.is c.cut-2.ensures.pieces c.in-Some-after_second.is c.cut-3.ensures.pieces (sym c.is_some.ensures ∙ c.if-is_some.true)

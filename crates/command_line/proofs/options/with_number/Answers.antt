use Rattle.std.proofs.Common.{refl}
use Rattle.std.proofs.lemmas.Result.{IfOk-weaker}
use Rattle.command_line.proofs.Chains.{added}
use Rattle.command_line.proofs.options.with_number.Goals as goal

pub returns : goal.returns
returns c = IfOk-weaker c.arg.result _ _ (λ r adds. added _ _ _ _ _ adds refl c.number.ensures.local c.number.ensures.rule) c.arg.ensures

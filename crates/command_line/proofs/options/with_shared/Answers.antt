use Rattle.std.proofs.lemmas.Result.{IfOk-weaker}
use Rattle.command_line.proofs.Chains.{next}
use Rattle.command_line.proofs.options.with_shared.Goals as goal

pub returns : goal.returns
returns c =
    let two = next _ _ _ _ c.in_ok-two.ensures c.in_ok-one.ensures in
    let three = next _ _ _ _ c.in_ok-three.ensures two in
    let four = next _ _ _ _ c.in_ok-four.ensures three in
    IfOk-weaker c.with_number-5.result _ _ (λ r is. next _ _ _ _ is four) c.with_number-5.ensures

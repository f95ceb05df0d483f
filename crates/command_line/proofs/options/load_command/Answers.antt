use Rattle.std.proofs.Common.{◌≡◌, [], codes, rules}
use Rattle.std.proofs.lemmas.Result.{IfOk-weaker}
use Rattle.clap.specs.Words.{app_of}
use Rattle.command_line.specs.Commands.{app_of_rules, load_app}
use Rattle.command_line.proofs.Chains.{next}
use Rattle.command_line.proofs.options.load_command.Goals as goal

pub returns : goal.returns
unfolding load_app
returns c =
    let begun : app_of c.no_binary_name-begun.result ≡ app_of_rules (codes "rtpengine load") [] = search rules in
    let one = next _ _ _ _ c.in_ok-one.ensures begun in
    let two = next _ _ _ _ c.in_ok-two.ensures one in
    let three = next _ _ _ _ c.in_ok-three.ensures two in
    IfOk-weaker c.with_seed.result _ _ (λ r is. next _ _ _ _ is three) c.with_seed.ensures

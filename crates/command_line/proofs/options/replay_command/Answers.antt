use Rattle.std.proofs.Common.{◌≡◌, ◌∙◌, ap, [], codes, rules}
use Rattle.std.proofs.lemmas.Result.{IfOk-weaker}
use Rattle.clap.specs.Words.{App, app_of}
use Rattle.command_line.specs.Commands.{app_of_rules, replay_app, shared_rules, with_rules}
use Rattle.command_line.proofs.Chains.{added, next}
use Rattle.command_line.proofs.options.replay_command.Goals as goal

pub returns : goal.returns
unfolding replay_app
returns c =
    let begun : app_of c.no_binary_name.result ≡ app_of_rules (codes "rtpengine replay") [] = search rules in
    let one = added _ _ _ _ _ c.in_ok-begun.ensures begun c.with_default-interface.ensures.local c.with_default-interface.ensures.rule in
    let both = added _ _ _ _ _ c.in_ok-both.ensures one c.optional-interface6.ensures.local c.optional-interface6.ensures.rule in
    let shared = c.in_ok-shared.ensures ∙ ap (λ (app : App). with_rules app shared_rules) both in
    IfOk-weaker c.with_seed.result _ _ (λ r is. next _ _ _ _ is shared) c.with_seed.ensures

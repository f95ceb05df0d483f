use Rattle.std.proofs.Common.{◌≡◌, ◌∙◌, ap, [], codes, rules}
use Rattle.std.proofs.lemmas.Result.{IfOk-weaker}
use Rattle.clap.specs.Words.{App, app_of}
use Rattle.command_line.specs.Commands.{app_of_rules, serve_app, shared_rules, with_rules}
use Rattle.command_line.proofs.Chains.{added, next}
use Rattle.command_line.proofs.options.serve_command.Goals as goal

pub returns : goal.returns
unfolding serve_app
returns c =
    let begun : app_of c.no_binary_name.result ≡ app_of_rules (codes "rtpengine serve") [] = search rules in
    let one = added _ _ _ _ _ c.in_ok-begun.ensures begun c.required-interface.ensures.local c.required-interface.ensures.rule in
    let both = added _ _ _ _ _ c.in_ok-both.ensures one c.optional-interface6.ensures.local c.optional-interface6.ensures.rule in
    let two = added _ _ _ _ _ c.in_ok-listened.ensures both c.with_default-listen.ensures.local c.with_default-listen.ensures.rule in
    let shared = c.in_ok-shared.ensures ∙ ap (λ (app : App). with_rules app shared_rules) two in
    let three = next _ _ _ _ c.in_ok-turned.ensures shared in
    IfOk-weaker c.with_number-2.result _ _ (λ r is. next _ _ _ _ is three) c.with_number-2.ensures

-- A command to which options are added one by one.
use Rattle.std.proofs.Common.{◌≡◌, ◌∙◌, ap, ap₂, false}
use Rattle.clap.specs.Words.{AddsArg, App, Rule, app_of, rule_of, with_rule}
use Rattle.clap.specs.declared.builder.arg.Arg.{Arg}
use Rattle.clap.specs.declared.builder.command.Command.{Command}

pub added : (old new : Command) (a : Arg) (app : App) (rule : Rule) → AddsArg old a new → app_of old ≡ app → a.global ≡ false → rule_of a ≡ rule
    → app_of new ≡ with_rule app rule
added old new a app rule adds before local is = adds.shape local ∙ ap₂ with_rule before is

pub next : (app old new : App) (rule : Rule) → new ≡ with_rule old rule → old ≡ app → new ≡ with_rule app rule
next app old new rule is before = is ∙ ap (λ (it : App). with_rule it rule) before

use Rattle.std.proofs.Common.{rules, ◌≡◌, None, Some, map, true, false, codes}
use Rattle.std.specs.Str.{bytes_eq}
use Rattle.std.proofs.lemmas.Result.{err_from_is_err_and}
use Rattle.command_line.proofs.Refused.{refused_as}
use Rattle.command_line.proofs.Tasks.{loads, none_of_them, replays, serves}
use Rattle.command_line.proofs.read.read_task.Goals as goal

pub returns-then-eq-clause-value : goal.returns-then-eq-clause-value
returns-then-eq-clause-value c =
    let named : bytes_eq c.args.command.now (codes "serve") ≡ true = search rules in
    serves c.args.command.now (map (λ word. word.now) c.args.options.now) (Some c.in_ok-settings.settings) named c.in_ok-settings.ensures.value

pub returns-in_err-settings-clause-value : goal.returns-in_err-settings-clause-value
returns-in_err-settings-clause-value c =
    let named : bytes_eq c.args.command.now (codes "serve") ≡ true = search rules in
    let p = err_from_is_err_and c.from_residual.result c.from_residual.ensures.1 in
    rw (p.1, p.2) (refused_as _ _ c.in_err-settings.field-0.0 (λ none. serves c.args.command.now (map (λ word. word.now) c.args.options.now) None named none) c.in_err-settings.ensures.value)

pub returns-then-eq-2-clause-value : goal.returns-then-eq-2-clause-value
returns-then-eq-2-clause-value c =
    let other : bytes_eq c.args.command.now (codes "serve") ≡ false = search rules in
    let named : bytes_eq c.args.command.now (codes "replay") ≡ true = search rules in
    replays c.args.command.now (map (λ word. word.now) c.args.options.now) (Some c.in_ok-settings-2.settings) other named c.in_ok-settings-2.ensures.value

pub returns-in_err-settings-2-clause-value : goal.returns-in_err-settings-2-clause-value
returns-in_err-settings-2-clause-value c =
    let other : bytes_eq c.args.command.now (codes "serve") ≡ false = search rules in
    let named : bytes_eq c.args.command.now (codes "replay") ≡ true = search rules in
    let p = err_from_is_err_and c.from_residual-in_err-settings-2.result c.from_residual-in_err-settings-2.ensures.1 in
    rw (p.1, p.2) (refused_as _ _ c.in_err-settings-2.field-0.0 (λ none. replays c.args.command.now (map (λ word. word.now) c.args.options.now) None other named none) c.in_err-settings-2.ensures.value)

pub returns-then-eq-3-clause-value : goal.returns-then-eq-3-clause-value
returns-then-eq-3-clause-value c =
    let first : bytes_eq c.args.command.now (codes "serve") ≡ false = search rules in
    let second : bytes_eq c.args.command.now (codes "replay") ≡ false = search rules in
    let named : bytes_eq c.args.command.now (codes "load") ≡ true = search rules in
    loads c.args.command.now (map (λ word. word.now) c.args.options.now) (Some c.in_ok-settings-3.settings) first second named c.in_ok-settings-3.ensures.value

pub returns-in_err-settings-3-clause-value : goal.returns-in_err-settings-3-clause-value
returns-in_err-settings-3-clause-value c =
    let first : bytes_eq c.args.command.now (codes "serve") ≡ false = search rules in
    let second : bytes_eq c.args.command.now (codes "replay") ≡ false = search rules in
    let named : bytes_eq c.args.command.now (codes "load") ≡ true = search rules in
    let p = err_from_is_err_and c.from_residual-in_err-settings-3.result c.from_residual-in_err-settings-3.ensures.1 in
    rw (p.1, p.2) (refused_as _ _ c.in_err-settings-3.field-0.0 (λ none. loads c.args.command.now (map (λ word. word.now) c.args.options.now) None first second named none) c.in_err-settings-3.ensures.value)

pub returns-clause-value : goal.returns-clause-value
returns-clause-value c =
    let first : bytes_eq c.args.command.now (codes "serve") ≡ false = search rules in
    let second : bytes_eq c.args.command.now (codes "replay") ≡ false = search rules in
    let third : bytes_eq c.args.command.now (codes "load") ≡ false = search rules in
    refused_as _ _ c.refuse.result (λ _. none_of_them c.args.command.now (map (λ word. word.now) c.args.options.now) first second third) c.refuse.ensures

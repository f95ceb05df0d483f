use Rattle.std.proofs.Common.{◌≡◌, ◌∙◌, ap, None, inl, inr, rules}
use Rattle.std.specs.Prelude.{option_and_then}
use Rattle.std.specs.Str.Parse.{ParsesUnsigned, ExplainsUnsignedError, HasUnsignedDigitsIfOk}
use Rattle.clap.specs.Words.{found_of, one_text}
use Rattle.clap.proofs.WalkLemmas.{one_text-rows}
use Rattle.command_line.specs.Words.{number_in}
use Rattle.command_line.proofs.NumberReads.{unread, within, outside}
use Rattle.command_line.proofs.values.find_number.Goals as goal
use Rattle.command_line.proofs.values.find_number.Goals.{else-limits-number-via-then-limits-number+else-number-limits, else-limits-number-via-else-limits-number}

pub returns-in_err-number-clause-value : goal.returns-in_err-number-clause-value
returns-in_err-number-clause-value c =
    let none : c.from_residual.result ≡ None = search rules in
    let rows = ap (option_and_then (number_in c.args.limits.least c.args.limits.most)) (one_text-rows (found_of c.args.matches.now) c.args.name.now) in
    none ∙ unread _ (λ bs r. ParsesUnsigned 64 10 bs r × ExplainsUnsignedError 10 bs r × HasUnsignedDigitsIfOk bs r) (λ u x g. g.0) (one_text (found_of c.args.matches.now) c.args.name.now) c.get_one.result
    c.get_one.ensures.none c.get_one.ensures.value c.args.limits.least c.args.limits.most (search rules) ∙ rows

pub returns-then-number-limits-clause-value : goal.returns-then-number-limits-clause-value
returns-then-number-limits-clause-value c =
    let rows = ap (option_and_then (number_in c.args.limits.least c.args.limits.most)) (one_text-rows (found_of c.args.matches.now) c.args.name.now) in
    within _ (λ bs r. ParsesUnsigned 64 10 bs r × ExplainsUnsignedError 10 bs r × HasUnsignedDigitsIfOk bs r) (λ u x g. g.0) (one_text (found_of c.args.matches.now) c.args.name.now) c.get_one.result
    c.get_one.ensures.none c.get_one.ensures.value c.args.limits.least c.args.limits.most c.in_ok-number.number (search rules) (search rules) (search rules) ∙ rows

pub returns-else-limits-number-clause-value : goal.returns-else-limits-number-clause-value
returns-else-limits-number-clause-value c =
    let rows = ap (option_and_then (number_in c.args.limits.least c.args.limits.most)) (one_text-rows (found_of c.args.matches.now) c.args.name.now) in
    let out = outside _ (λ bs r. ParsesUnsigned 64 10 bs r × ExplainsUnsignedError 10 bs r × HasUnsignedDigitsIfOk bs r) (λ u x g. g.0) (one_text (found_of c.args.matches.now) c.args.name.now) c.get_one.result
    c.get_one.ensures.none c.get_one.ensures.value c.args.limits.least c.args.limits.most c.in_ok-number.number (search rules) in
    elim c.else-limits-number.branch [
      | else-limits-number-via-then-limits-number+else-number-limits w ↦ out (inr (search rules)) ∙ rows
      | else-limits-number-via-else-limits-number w ↦ out (inl (search rules)) ∙ rows
    ]

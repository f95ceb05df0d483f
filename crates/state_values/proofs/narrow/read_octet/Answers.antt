use Rattle.std.proofs.Common.{◌≡◌, ◌<◌, ◌^◌, ◌∙◌, sym, arith}
use Rattle.state_values.proofs.NumberTrees.{same_number}
use Rattle.state_values.proofs.narrow.read_octet.Goals as goal

pub returns-else-number-lt256-clause-none : goal.returns-else-number-lt256-clause-none
returns-else-number-lt256-clause-none c = λ n fits same.
    let within : c.in_ok-number.number < 2 ^ 64 = omega arith in
    let e : c.in_ok-number.number ≡ n = same_number c.in_ok-number.number n within (omega arith) (sym c.in_ok-number.ensures.some ∙ same) in
    absurd (omega arith)

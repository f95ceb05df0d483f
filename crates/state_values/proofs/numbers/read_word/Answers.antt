use Rattle.std.proofs.Common.{◌≡◌, ◌<◌, ◌^◌, ◌∙◌, sym, arith}
use Rattle.state_values.proofs.NumberTrees.{same_number}
use Rattle.state_values.proofs.numbers.read_word.Goals as goal

pub returns-else-number-lt4294967296-clause-none : goal.returns-else-number-lt4294967296-clause-none
returns-else-number-lt4294967296-clause-none c = λ n fits same.
    let within : c.in-Some.number < 2 ^ 64 = omega arith in
    let e : c.in-Some.number ≡ n = same_number c.in-Some.number n within (omega arith) (sym c.in-Some.ensures.some ∙ same) in
    absurd (omega arith)

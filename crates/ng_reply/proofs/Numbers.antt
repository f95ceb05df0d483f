-- The numbers that stand in every reply.
use Rattle.std.proofs.Common.{◌≡◌, [], ◌∷◌, ◌++◌, decimal, ap, ◌∙◌, arith}
use Rattle.std.proofs.lemmas.Fmt.{decimal_digit, decimal_step}

pub two : decimal 2 ≡ 50 ∷ []
two = decimal_digit 2 (omega arith)

pub three : decimal 3 ≡ 51 ∷ []
three = decimal_digit 3 (omega arith)

pub five : decimal 5 ≡ 53 ∷ []
five = decimal_digit 5 (omega arith)

pub six : decimal 6 ≡ 54 ∷ []
six = decimal_digit 6 (omega arith)

one : decimal 1 ≡ 49 ∷ []
one = decimal_digit 1 (omega arith)

pub twelve : decimal 12 ≡ 49 ∷ 50 ∷ []
twelve = decimal_step 12 (omega arith) (omega arith) ∙ ap (λ front. front ++ 50 ∷ []) one

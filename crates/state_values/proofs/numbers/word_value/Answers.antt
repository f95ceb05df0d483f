use Rattle.std.proofs.Common.{ℤ, pos, to_z, of_z, ◌<◌, ◌^◌, ◌∙◌, sym, ap, arith}
use Rattle.std.specs.Prelude.{FitsSigned}
use Rattle.std.specs.Int.{w64}
use Rattle.std.proofs.lemmas.Int.{to_z-of_z}
use Rattle.ng_bencode.specs.Tree.{Int}
use Rattle.state_values.proofs.NumberTrees.{small_tree}
use Rattle.state_values.proofs.numbers.word_value.Goals as goal

pub returns : goal.returns
returns c =
    let low : c.args.number < 2 ^ 63 = omega arith in
    let fits : FitsSigned w64 (pos c.args.number) = record { sfits = low } in
    c.int.ensures ∙ ap (λ (z : ℤ). Int (to_z w64 (of_z w64 z))) c.from.ensures ∙ ap (λ (z : ℤ). Int z) (to_z-of_z w64 (pos c.args.number) fits) ∙ sym (small_tree c.args.number low)

use Rattle.std.proofs.Common.{ℕ, List, ℤ, ◌∙◌, sym, ap, arith}
use Rattle.std.specs.Int.{w64}
use Rattle.std.proofs.lemmas.Int.{to_z_pos}
use Rattle.ng_bencode.specs.Tree.{Int, Bytes}
use Rattle.state_values.proofs.NumberTrees.{small_tree, large_tree}
use Rattle.state_values.proofs.numbers.number_value.Goals as goal

pub returns-then-number-lt9223372036854775808 : goal.returns-then-number-lt9223372036854775808
returns-then-number-lt9223372036854775808 c =
    c.int.ensures ∙ ap (λ (z : ℤ). Int z) (to_z_pos w64 c.args.number (omega arith)) ∙ sym (small_tree c.args.number (omega arith))

pub returns : goal.returns
returns c =
    c.bytes.ensures ∙ ap (λ (b : List ℕ). Bytes b) (c.in-Ok.ensures ∙ c.to_be_bytes.ensures) ∙ sym (large_tree c.args.number (omega arith))

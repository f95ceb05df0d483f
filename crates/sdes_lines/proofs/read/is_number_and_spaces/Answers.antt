use Rattle.std.proofs.Common.{◌≡◌, ◌<◌, ◌∙◌, ℕ, List, length, take, sym, ap, arith}
use Rattle.std.proofs.lemmas.Bool.{eqb-true, eqb-false}
use Rattle.std.specs.List.{prefix_len}
use Rattle.std.specs.Char.{is_ascii_digit}
use Rattle.sdes_lines.proofs.Digits.{count_is}
use Rattle.sdes_lines.proofs.LineEnds.{number_from_parts, parts_of_number}
use Rattle.sdes_lines.proofs.read.is_number_and_spaces.Goals as goal

pub returns-then-not-is_empty : goal.returns-then-not-is_empty
returns-then-not-is_empty c =
    let text : List ℕ = c.args.text.now in
    let n : ℕ = c.digit_count.result in
    let is : n ≡ prefix_len is_ascii_digit text = c.digit_count.ensures ∙ count_is text in
    let not_none = eqb-false (length c.split_at.result.0.now) 0 (sym c.if-not-is_empty.ensures) in
    let front : length c.split_at.result.0.now ≡ length (take n text) = ap length c.split_at.ensures.front in
    let some : 0 < length (take n text) = omega arith in (
      λ spaces. number_from_parts text n is some (rw c.split_at.ensures.back at (c.is_spaces.ensures.0 spaces)),
      λ number.
          let parts = parts_of_number text n is number in
          c.is_spaces.ensures.1 (rw c.split_at.ensures.back parts.spaces),
    )

pub returns-else-not-is_empty : goal.returns-else-not-is_empty
returns-else-not-is_empty c =
    let text : List ℕ = c.args.text.now in
    let n : ℕ = c.digit_count.result in
    let is : n ≡ prefix_len is_ascii_digit text = c.digit_count.ensures ∙ count_is text in
    let none = eqb-true (length c.split_at.result.0.now) 0 (sym c.if-not-is_empty.ensures) in
    let front : length c.split_at.result.0.now ≡ length (take n text) = ap length c.split_at.ensures.front in (
      λ yes. cc yes,
      λ number.
          let parts = parts_of_number text n is number in
          absurd (omega (arith, parts.some)),
    )

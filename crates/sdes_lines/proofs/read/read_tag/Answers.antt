use Rattle.std.proofs.Common.{◌≡◌, ◌∙◌}
use Rattle.std.specs.List.{prefix_len}
use Rattle.std.specs.Char.{is_ascii_digit}
use Rattle.sdes_lines.proofs.Digits.{count_is, front_digits}
use Rattle.sdes_lines.proofs.Tags.{tag_in_front}
use Rattle.sdes_lines.proofs.read.read_tag.Goals as goal

pub tag_number-requires : goal.tag_number-requires
tag_number-requires c =
    let is : c.digit_count.result ≡ prefix_len is_ascii_digit c.args.text.now = c.digit_count.ensures ∙ count_is c.args.text.now in
    rw (c.split_at.ensures.front, is) (front_digits c.args.text.now)

pub returns-in_err-tag-clause-complete : goal.returns-in_err-tag-clause-complete
returns-in_err-tag-clause-complete c = λ tag rest is_tag is.
    let count : c.digit_count.result ≡ prefix_len is_ascii_digit c.args.text.now = c.digit_count.ensures ∙ count_is c.args.text.now in
    let front = tag_in_front c.args.text.now c.digit_count.result tag rest count is_tag is in
    let none = c.in_err-tag.ensures.complete tag is_tag (c.split_at.ensures.front ∙ front.digits) in
    cc none

pub returns-clause-complete : goal.returns-clause-complete
returns-clause-complete c = λ tag rest is_tag is.
    let count : c.digit_count.result ≡ prefix_len is_ascii_digit c.args.text.now = c.digit_count.ensures ∙ count_is c.args.text.now in
    let front = tag_in_front c.args.text.now c.digit_count.result tag rest count is_tag is in
    let some = c.in_ok-tag.ensures.complete tag is_tag (c.split_at.ensures.front ∙ front.digits) in
    (cc some, c.split_at.ensures.back ∙ front.rest_is)

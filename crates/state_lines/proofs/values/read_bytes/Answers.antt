use Rattle.std.proofs.Common.{◌≡◌, ◌∙◌, ap, sym, subst, ◌++◌, ◌+◌, ◌-◌, ◌<◌, ◌≤◌, [], ◌∷◌, min, ℕ, List, length, map, arith}
use Rattle.std.proofs.lemmas.Result.{err_from_is_err_and}
use Rattle.std.proofs.lemmas.List.{length-append}
use Rattle.hex.specs.Hex.{IsBytes, encode_lower}
use Rattle.relay_outside.specs.DeviceLogs.{Gained}
use Rattle.state_lines.specs.LineReads.{text_read}
use Rattle.state_lines.specs.StateLines.{digit_lines}
use Rattle.state_lines.proofs.ByteLists.{bytes_append}
use Rattle.state_lines.proofs.DigitLines.{digits_more}
use Rattle.state_lines.proofs.ToldReads.{told_digits, told_no_digits, told_short}
use Rattle.state_lines.proofs.values.read_bytes.Goals as goal

pub returns-in_err-bytes-clause-read : goal.returns-in_err-bytes-clause-read
returns-in_err-bytes-clause-read g c =
    let p = err_from_is_err_and c.from_residual.result c.from_residual.ensures.1 in
    let ok = c.lines.text.ok in
    let size = c.len.ensures in
    let again = c.len-in-lines.ensures in
    let least = c.min-count.ensures in
    let part : length c.lines.text.items < c.args.len = omega (arith, size, ok, c.lines-test.true) in
    rw (p.1, p.2)
    (told_no_digits (g.S.LineSource.log c.args.source.now) (g.S.LineSource.log c.lines.source) (g.S.LineSource.log c.read_digits.new.source) c.args.len c.lines.text.items c.lines.invariant.read
    _ c.args.asked.now c.lines.asked c.read_digits.new.asked c.min-count.result (c.lines.invariant.whole part) part c.ranges.len.fits c.lines.invariant.bytes (omega (arith, least, again, ok)) c.lines.invariant.number
    c.in_err-bytes.ensures.number c.in_err-bytes.ensures.one c.in_err-bytes.ensures.read)

pub returns-in_err-keep-clause-read : goal.returns-in_err-keep-clause-read
returns-in_err-keep-clause-read g c =
    let p = err_from_is_err_and c.from_residual-in_err-keep.result c.from_residual-in_err-keep.ensures.1 in
    let ok = c.lines.text.ok in
    let size = c.len.ensures in
    let part : length c.lines.text.items < c.args.len = omega (arith, size, ok, c.lines-test.true) in
    rw (p.1, p.2, c.in_err-keep.ensures.short)
    (told_short (g.S.LineSource.log c.args.source.now) (g.S.LineSource.log c.lines.source) (g.S.LineSource.log c.read_digits.new.source) c.args.len c.lines.text.items c.lines.invariant.read
    c.args.asked.now c.in_ok-bytes.bytes.items (c.lines.invariant.whole part) part c.ranges.len.fits c.lines.invariant.bytes c.in_ok-bytes.ensures.read)

pub lines-preserved : goal.lines-preserved
lines-preserved g c =
    let bytes = c.in_ok-bytes.bytes.items in
    let ok = c.lines.text.ok in
    let size = c.len.ensures in
    let again = c.len-in-lines.ensures in
    let least = c.min-count.ensures in
    let count = c.in_ok-bytes.ensures.count in
    let part : length c.lines.text.items < c.args.len = omega (arith, size, ok, c.lines-test.true) in
    let room : c.min-count.result ≡ min (c.args.len - length c.lines.text.items) 8000 = omega (arith, least, again, ok) in
    let whole = c.lines.invariant.whole part in
    let some : 0 < length bytes = omega (arith, room, count, part) in
    let short : length bytes ≤ 8000 = omega (arith, room, count) in
    let kept : c.keep.new.text.items ≡ c.lines.text.items ++ bytes = c.in_ok-keep.ensures.kept ∙ ap (λ (b : List ℕ). c.lines.text.items ++ b) c.as_slice.ensures.value in
    let long : length c.keep.new.text.items ≡ length c.lines.text.items + length bytes = ap length kept ∙ length-append c.lines.text.items bytes in
    let more : digit_lines (c.lines.text.items ++ bytes) ≡ digit_lines c.lines.text.items ++ encode_lower bytes ∷ [] = digits_more c.lines.text.items bytes whole some short in
    let lines : length (digit_lines c.keep.new.text.items) ≡ length (digit_lines c.lines.text.items) + 1 =
    ap (λ (t : List ℕ). length (digit_lines t)) kept ∙ ap length more ∙ length-append (digit_lines c.lines.text.items) (encode_lower bytes ∷ []) in
    record {
      room = omega (arith, c.lines.invariant.room);
      within = omega (arith, long, count, room, part);
      whole = λ left. omega (arith, long, count, room, left, whole);
      bytes = subst IsBytes (sym kept) (bytes_append c.lines.text.items bytes c.lines.invariant.bytes c.in_ok-bytes.ensures.bytes);
      read = subst (λ (t : List ℕ). Gained (g.S.LineSource.log c.args.source.now) (g.S.LineSource.log c.read_digits.new.source) (λ calls. calls ≡ map text_read (digit_lines t))) (sym kept)
          (told_digits (g.S.LineSource.log c.args.source.now) (g.S.LineSource.log c.lines.source) (g.S.LineSource.log c.read_digits.new.source) c.args.len c.lines.text.items c.lines.invariant.read
          bytes whole some short c.in_ok-bytes.ensures.read);
      number = omega (arith, lines, c.lines.invariant.number, c.in_ok-bytes.ensures.number);
      later = omega (arith, c.lines.invariant.later, c.in_ok-bytes.ensures.later);
    }

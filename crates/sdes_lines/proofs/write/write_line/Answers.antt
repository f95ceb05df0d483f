use Rattle.std.proofs.Common.{◌≡◌, ◌≤◌, length, take, drop, refl, sym, ap, ◌∙◌, arith}
use Rattle.std.specs.Fmt.{decimal}
use Rattle.std.proofs.lemmas.Fmt.{length-decimal-le}
use Rattle.std.proofs.lemmas.List.{take-append-drop, length-take-le}
use Rattle.sdes_lines.specs.CryptoLine.{line_text}
use Rattle.sdes_lines.proofs.Lines.{length-suite_name, rest_left}
use Rattle.sdes_lines.proofs.write.write_line.Goals as goal

-- where each write ended
ends : (c : goal.After-put) → c.put.result ≤ 90
ends c =
    let digits = length-decimal-le 9 c.args.line.now.tag (omega arith) (omega arith) (omega arith) in
    let digits_are : length c.as_bytes.result.now ≡ length (decimal c.args.line.now.tag) = ap length (c.as_bytes.ensures.value ∙ c.format.ensures.text) in
    let name : length c.name.result.now ≡ 23 = ap length c.name.ensures ∙ length-suite_name c.args.line.now.suite in
    omega arith

-- what was written
front : (c : goal.After-put) → take c.put.result c.put.new.out ≡ line_text c.args.line.now.tag c.args.line.now.suite c.args.line.now.key
unfolding line_text
front c =
    rw (
      c.put.ensures.written,
      c.put-end-5.ensures.written,
      c.put-end-4.ensures.written,
      c.put-end-3.ensures.written,
      c.put-end-2.ensures.written,
      c.put-end.ensures.written,
      c.encode_key.ensures,
      c.name.ensures,
      c.as_bytes.ensures.value,
      c.format.ensures.text,
    ) refl

-- what was left
back : (c : goal.After-put) → drop c.put.result c.put.new.out ≡ drop c.put.result c.args.out.now
back c =
    let fifth = rest_left c.put-end-5.new.out c.put-end-4.new.out c.put-end-5.result c.put.result c.put-end-5.ensures.rest (omega arith) in
    let fourth = rest_left c.put-end-4.new.out c.put-end-3.new.out c.put-end-4.result c.put.result c.put-end-4.ensures.rest (omega arith) in
    let third = rest_left c.put-end-3.new.out c.put-end-2.new.out c.put-end-3.result c.put.result c.put-end-3.ensures.rest (omega arith) in
    let second = rest_left c.put-end-2.new.out c.put-end.new.out c.put-end-2.result c.put.result c.put-end-2.ensures.rest (omega arith) in
    let first = rest_left c.put-end.new.out c.args.out.now c.put-end.result c.put.result c.put-end.ensures.rest (omega arith) in
    c.put.ensures.rest ∙ fifth ∙ fourth ∙ third ∙ second ∙ first

pub returns-clause-written : goal.returns-clause-written
returns-clause-written c =
    sym (take-append-drop c.put.result c.put.new.out) ∙ rw (front c, back c) refl

pub returns-clause-len : goal.returns-clause-len
returns-clause-len c =
    let short = ends c in
    sym (length-take-le c.put.result c.put.new.out (omega arith)) ∙ ap length (front c)

pub returns-clause-short : goal.returns-clause-short
returns-clause-short c = ends c

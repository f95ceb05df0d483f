use Rattle.std.proofs.Common.{◌≡◌, false, decimal, sym, ◌∙◌, ap}
use Rattle.std.proofs.lemmas.Fmt.{parse-decimal}
use Rattle.std.proofs.lemmas.Slice.Eq.{slice_eq-Decides}
use Rattle.std.proofs.lemmas.Bool.Decides.{Decides-eqb}
use Rattle.ng_bencode.proofs.Numbers.{false_true, decimal_is_text}
use Rattle.ng_bencode.proofs.scan.read_decimal.Goals as goal

pub returns-in_default : goal.returns-in_default
returns-in_default c n small e = c.in_default.ensures.cases.0 (decimal_is_text n c.args.digits.now small e)

pub returns-in_default-parse : goal.returns-in_default-parse
returns-in_default-parse c n small e =
    c.in_default-parse.not-Ok n (parse-decimal 64 n c.in-Ok.text.now c.parse.result small small (c.in-Ok.ensures.cases.0 ∙ e) c.parse.ensures.value.0)

pub returns-else-eq : goal.returns-else-eq
returns-else-eq c n small e =
    let read = parse-decimal 64 n c.in-Ok.text.now c.parse.result small small (c.in-Ok.ensures.cases.0 ∙ e) c.parse.ensures.value.0 in
    let shown = c.in-Ok-parse.is in
    let number : c.in-Ok-parse.value ≡ n = cc in
    let written = c.format.ensures.text in
    false_true ((slice_eq-Decides Decides-eqb c.as_bytes.result.now c.args.digits.now false c.if-eq.ensures).1
    (c.as_bytes.ensures.value ∙ written ∙ ap decimal number ∙ sym e))

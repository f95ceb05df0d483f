use Rattle.std.proofs.Common.{◌≡◌, ℕ, ℤ, List, false, sym, ◌∙◌, ap, to_z, of_z}
use Rattle.std.proofs.lemmas.Int.{to_z-of_z}
use Rattle.std.specs.Int.{w64}
use Rattle.std.specs.Fmt.{signed_decimal}
use Rattle.std.proofs.lemmas.Fmt.{parse-signed_decimal}
use Rattle.std.proofs.lemmas.Slice.Eq.{slice_eq-Decides}
use Rattle.std.proofs.lemmas.Bool.Decides.{Decides-eqb}
use Rattle.ng_bencode.proofs.Numbers.{false_true, signed_is_text}
use Rattle.ng_bencode.proofs.scan.read_signed.Goals as goal

pub returns-in_default-clause-number : goal.returns-in_default-clause-number
returns-in_default-clause-number c z fits e = c.in_default.ensures.cases.0 (signed_is_text z c.args.digits.now fits e)

pub returns-in_default-parse-clause-number : goal.returns-in_default-parse-clause-number
returns-in_default-parse-clause-number c z fits e =
    c.in_default-parse.not-Ok z (parse-signed_decimal w64 z c.in-Ok.text.now c.parse.result fits fits.sfits (c.in-Ok.ensures.cases.0 ∙ e) c.parse.ensures.value.0)

pub returns-else-eq-clause-number : goal.returns-else-eq-clause-number
returns-else-eq-clause-number c z fits e =
    let read = parse-signed_decimal w64 z c.in-Ok.text.now c.parse.result fits fits.sfits (c.in-Ok.ensures.cases.0 ∙ e) c.parse.ensures.value.0 in
    let shown = c.in-Ok-parse.is in
    let number : c.in-Ok-parse.number ≡ z = cc in
    let again : ℤ → List ℕ = λ m. signed_decimal (to_z w64 (of_z w64 m)) in
    let written = c.format.ensures.text in
    false_true ((slice_eq-Decides Decides-eqb c.as_bytes.result.now c.args.digits.now false c.if-eq.ensures).1
    (c.as_bytes.ensures.value ∙ written ∙ ap again number ∙ ap signed_decimal (to_z-of_z w64 z fits) ∙ sym e))

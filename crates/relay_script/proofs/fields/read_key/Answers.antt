use Rattle.std.proofs.Common.{false, true, refl, sym, ◌∙◌, ap, arith, length}
use Rattle.std.proofs.lemmas.Slice.Eq.{slice_eq-Decides}
use Rattle.std.proofs.lemmas.Bool.Decides.{Decides-eqb}
use Rattle.hex.specs.Hex.{encode_lower}
use Rattle.ng_bencode.proofs.Numbers.{false_true}
use Rattle.relay_script.proofs.Digits.{decodes, decoded, encoded}
use Rattle.relay_script.proofs.fields.read_key.Goals as goal

pub returns-in_default : goal.returns-in_default
returns-in_default c bytes is =
    c.in_default.not-Ok tt (decodes c.args.digits.now bytes 30 c.decode_to_slice.result c.decode_to_slice.new.out is.len is.hex.fit is.hex.spelled c.decode_to_slice.ensures.value).0

pub returns-then-eq : goal.returns-then-eq
returns-then-eq c =
    let known = decoded c.args.digits.now 30 c.decode_to_slice.result c.decode_to_slice.new.out c.in-Ok.field-0 c.in-Ok.is c.decode_to_slice.ensures.value in
    let out = encoded c.decode_to_slice.new.out c.encode_to_slice.new.output 60 c.encode_to_slice.result c.encode_to_slice.ensures.fits c.encode_to_slice.ensures.written (omega (arith, known.0)) in
    let same = (slice_eq-Decides Decides-eqb c.as_slice.result.now c.args.digits.now true c.if-eq.ensures).0 refl in
    record { hex = record { spelled = sym same ∙ c.as_slice.ensures ∙ out; fit = known.1 }; len = known.0 }

pub returns-else-eq : goal.returns-else-eq
returns-else-eq c bytes is =
    let known = decodes c.args.digits.now bytes 30 c.decode_to_slice.result c.decode_to_slice.new.out is.len is.hex.fit is.hex.spelled c.decode_to_slice.ensures.value in
    let out = encoded c.decode_to_slice.new.out c.encode_to_slice.new.output 60 c.encode_to_slice.result c.encode_to_slice.ensures.fits c.encode_to_slice.ensures.written (omega (arith, ap length known.1, is.len)) in
    false_true ((slice_eq-Decides Decides-eqb c.as_slice.result.now c.args.digits.now false c.if-eq.ensures).1
    (c.as_slice.ensures ∙ out ∙ ap encode_lower known.1 ∙ sym is.hex.spelled))

use Rattle.std.proofs.Common.{◌∷◌, [], false, true, refl, sym, ◌∙◌, ap, arith, length}
use Rattle.std.proofs.lemmas.Slice.Eq.{slice_eq-Decides}
use Rattle.std.proofs.lemmas.Bool.Decides.{Decides-eqb}
use Rattle.hex.specs.Hex.{encode_lower}
use Rattle.ng_bencode.proofs.Numbers.{false_true}
use Rattle.relay_script.proofs.Digits.{decodes, decoded, encoded, single}
use Rattle.relay_script.proofs.Payloads.{one_byte}
use Rattle.relay_script.proofs.payload.read_pair.Goals as goal

pub returns-in_default : goal.returns-in_default
returns-in_default c byte small e =
    c.in_default.not-Ok tt (decodes (c.args.high ∷ c.args.low ∷ []) (byte ∷ []) 1 c.decode_to_slice.result c.decode_to_slice.new.out refl (one_byte byte small) e c.decode_to_slice.ensures.value).0

pub returns-then-eq : goal.returns-then-eq
returns-then-eq c =
    let known = decoded (c.args.high ∷ c.args.low ∷ []) 1 c.decode_to_slice.result c.decode_to_slice.new.out c.in-Ok.field-0 c.in-Ok.is c.decode_to_slice.ensures.value in
    let out = encoded c.decode_to_slice.new.out c.encode_to_slice.new.output 2 c.encode_to_slice.result c.encode_to_slice.ensures.fits c.encode_to_slice.ensures.written (omega (arith, known.0)) in
    let same = (slice_eq-Decides Decides-eqb c.encode_to_slice.new.output (c.args.high ∷ c.args.low ∷ []) true c.if-eq.ensures).0 refl in
    sym same ∙ out ∙ ap encode_lower (single c.decode_to_slice.new.out known.0)

pub returns-else-eq : goal.returns-else-eq
returns-else-eq c byte small e =
    let known = decodes (c.args.high ∷ c.args.low ∷ []) (byte ∷ []) 1 c.decode_to_slice.result c.decode_to_slice.new.out refl (one_byte byte small) e c.decode_to_slice.ensures.value in
    let out = encoded c.decode_to_slice.new.out c.encode_to_slice.new.output 2 c.encode_to_slice.result c.encode_to_slice.ensures.fits c.encode_to_slice.ensures.written (omega (arith, ap length known.1)) in
    false_true ((slice_eq-Decides Decides-eqb c.encode_to_slice.new.output (c.args.high ∷ c.args.low ∷ []) false c.if-eq.ensures).1
    (out ∙ ap encode_lower known.1 ∙ sym e))

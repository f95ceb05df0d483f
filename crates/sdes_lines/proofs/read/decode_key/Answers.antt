use Rattle.std.proofs.Common.{◌≡◌, length, ℕ, List, sym, ◌∙◌, subst, arith, refl}
use Rattle.base64.specs.GeneralPurpose.{IsBytes}
use Rattle.sdes_lines.proofs.Keys.{encoding_of_decoded, key_is_decoded, decoded_size, decoded_key, key_has_room}
use Rattle.sdes_lines.proofs.read.decode_key.Goals as goal

pub returns-in_default-clause-complete : goal.returns-in_default-clause-complete
returns-in_default-clause-complete c = λ key is_key encoded.
    let decoded = key_is_decoded c.args.characters.now key is_key encoded in
    let size : length c.args.characters.now ≡ 40 = omega arith in
    absurd (key_has_room c.args.characters.now key c.in_default.field-0 is_key size decoded (sym c.decode_slice.ensures.value ∙ c.in_default.is))

pub returns-then-decoded-eq30-clause-sound : goal.returns-then-decoded-eq30-clause-sound
returns-then-decoded-eq30-clause-sound c =
    let new : List ℕ = c.decode_slice.new.output in
    let size : length new ≡ 30 = omega arith in
    let key = decoded_key c.args.characters.now _ new c.in-Ok.decoded refl c.if-decoded-eq30.true (sym c.decode_slice.ensures.value ∙ c.in-Ok.is) c.in-Ok.ensures.written in
    let bytes : IsBytes c.args.characters.now = λ i. omega arith in
    (encoding_of_decoded c.args.characters.now new bytes key.0, record { size = size; bytes = subst IsBytes key.1 c.in-Ok.ensures.bytes })

pub returns-then-decoded-eq30-clause-complete : goal.returns-then-decoded-eq30-clause-complete
returns-then-decoded-eq30-clause-complete c = λ key is_key encoded.
    let new : List ℕ = c.decode_slice.new.output in
    let read = decoded_key c.args.characters.now _ new c.in-Ok.decoded refl c.if-decoded-eq30.true (sym c.decode_slice.ensures.value ∙ c.in-Ok.is) c.in-Ok.ensures.written in
    let decoded = key_is_decoded c.args.characters.now key is_key encoded in
    cc (read.0, decoded)

pub returns-else-decoded-eq30-clause-complete : goal.returns-else-decoded-eq30-clause-complete
returns-else-decoded-eq30-clause-complete c = λ key is_key encoded.
    let decoded = key_is_decoded c.args.characters.now key is_key encoded in
    let thirty = decoded_size c.args.characters.now key c.in-Ok.decoded 30 is_key decoded (sym c.decode_slice.ensures.value ∙ c.in-Ok.is) in
    absurd (c.if-decoded-eq30.false thirty)

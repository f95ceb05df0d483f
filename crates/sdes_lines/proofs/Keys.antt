-- The 40 characters of a key of 30 bytes.
use Rattle.std.proofs.Common.{◌≡◌, ℕ, ◌*◌, ◌/◌, ◌≤◌, nat_lt, Bool, true, false, cond, List, [], ◌++◌, length, take, drop, refl, sym, ap, ◌∙◌, arith}
use Rattle.std.proofs.lemmas.List.{take_at, drop_at, drop_all, append-nil, length-append}
use Rattle.std.specs.declared.option.Option.{Option}
use Rattle.std.specs.declared.option.Option.TheVariants.{None, Some}
use Rattle.std.specs.declared.result.Result.TheVariants.{Ok, Err}
use Rattle.base64.specs.declared.decode.DecodeError.{DecodeError}
use Rattle.base64.specs.declared.decode.DecodeSliceError.{DecodeSliceError}
use Rattle.base64.specs.declared.decode.DecodeSliceError.TheVariants.{OutputSliceTooSmall}
use Rattle.base64.specs.declared.engine.DecodePaddingMode.TheVariants.{RequireCanonical}
use Rattle.base64.specs.Decode.{or_error, or_else, decode_outcome, decode_error, lone_error, groups_error, suffix_error, groups_before_last}
use Rattle.base64.specs.Engines.{standard}
use Rattle.base64.specs.GeneralPurpose.{encode_of, decode_of, decode_slice_of, decoded_bytes_of, IsBytes}
use Rattle.base64.proofs.EngineFacts.{decode_of_strict, decode_of-encode_of}
use Rattle.base64.proofs.RoundTrip.{length-encode_symbols}
use Rattle.sdes_lines.specs.CryptoLine.{IsKey}

pub length-encoded_key : (key : List ℕ) → IsKey key → length (encode_of standard key) ≡ 40
length-encoded_key key is_key =
    let size = is_key.size in
    let symbols = length-encode_symbols standard.encode_table key in
    rw (length-append, symbols, size) refl

-- characters that decode to these bytes are their encoding
pub encoding_of_decoded : (characters key : List ℕ) → IsBytes characters → decode_of standard characters ≡ Ok key
    → characters ≡ encode_of standard key
encoding_of_decoded characters key bytes decoded = decode_of_strict standard characters key (refl, refl) bytes decoded

-- and the encoding of a key decodes to it
pub key_is_decoded : (characters key : List ℕ) → IsKey key → characters ≡ encode_of standard key
    → decode_of standard characters ≡ Ok key
key_is_decoded characters key is_key encoded = rw encoded (decode_of-encode_of standard key refl is_key.bytes)

-- the parts of a text that begins with a key
pub record HasKeyInFront (text key rest : List ℕ) : Type 0 where
  pub characters : take 40 text ≡ encode_of standard key
  pub rest_is : drop 40 text ≡ rest
  pub fits : 40 ≤ length text

pub key_in_front : (text key rest : List ℕ) → IsKey key → text ≡ encode_of standard key ++ rest → HasKeyInFront text key rest
key_in_front text key rest is_key is =
    let size = length-encoded_key key is_key in record {
      characters = rw is (take_at (encode_of standard key) rest 40 size);
      rest_is = rw is (drop_at (encode_of standard key) rest 40 size);
      fits = rw (is, length-append) (omega arith);
    }

-- a result of `decode_slice` is by its tests: `lone` and `rest` are errors of the input, `small` and `few`
-- say that the output is too short for the groups and for the bytes
answered : (lone rest : Option DecodeError) (small few : Bool) (k n : ℕ)
    → or_error lone (cond small (Err OutputSliceTooSmall) (or_error rest (cond few (Err OutputSliceTooSmall) (Ok k)))) ≡ Ok n
    → (or_else lone rest ≡ None) × (n ≡ k)
answered None None false false k n e = (refl, cc e)
answered None None false true k n e = cc e
answered None (Some x) false few k n e = cc e
answered None rest true few k n e = cc e
answered (Some x) rest small few k n e = cc e

refused : (lone rest : Option DecodeError) (small few : Bool) (k : ℕ) (f : DecodeSliceError)
    → or_error lone (cond small (Err OutputSliceTooSmall) (or_error rest (cond few (Err OutputSliceTooSmall) (Ok k)))) ≡ Err f
    → or_else lone rest ≡ None → small ≡ false → few ≡ false → ⊥
refused None None false false k f e none fits short = cc e
refused None None false true k f e none fits short = cc short
refused None (Some x) small few k f e none fits short = cc none
refused None None true few k f e none fits short = cc fits
refused (Some x) rest small few k f e none fits short = cc none

outcome : (x : Option DecodeError) (bytes key : List ℕ) → decode_outcome x bytes ≡ Ok key → (x ≡ None) × (bytes ≡ key)
outcome None bytes key e = (refl, cc e)
outcome (Some x) bytes key e = cc e

-- the errors of an input of base64: of a last lone byte, and the others
abbrev lone : List ℕ → Option DecodeError
lone s = lone_error standard.decode_table standard.padding.value s

abbrev others : List ℕ → Option DecodeError
others s = or_else (groups_error standard.decode_table s (groups_before_last (length s)))
    (suffix_error standard.decode_table standard.padding.value false RequireCanonical (4 * groups_before_last (length s)) s)

-- an output of `room` bytes is too short for the groups before the last, or for the bytes
abbrev few_groups : List ℕ → ℕ → Bool
few_groups s room = nat_lt (room / 3) (groups_before_last (length s))

abbrev few_bytes : List ℕ → ℕ → Bool
few_bytes s room = nat_lt room (length (decoded_bytes_of standard s))

-- what was decoded into a slice
pub decoded_whole : (characters : List ℕ) (room n : ℕ) → decode_slice_of standard characters room ≡ Ok n
    → (decode_of standard characters ≡ Ok (decoded_bytes_of standard characters)) × (n ≡ length (decoded_bytes_of standard characters))
decoded_whole characters room n said =
    let facts = answered (lone characters) (others characters) (few_groups characters room) (few_bytes characters room)
    (length (decoded_bytes_of standard characters)) n said in
    (rw facts.0 refl, facts.1)

-- what was decoded into 30 bytes, where it is 30 bytes
pub decoded_key : (characters old new : List ℕ) (n : ℕ) → length old ≡ 30 → n ≡ 30
    → decode_slice_of standard characters (length old) ≡ Ok n
    → new ≡ decoded_bytes_of standard characters ++ drop (length (decoded_bytes_of standard characters)) old
    → (decode_of standard characters ≡ Ok new) × (decoded_bytes_of standard characters ≡ new)
decoded_key characters old new n size thirty said written =
    let facts = decoded_whole characters (length old) n said in
    let all = facts.1 in
    let none : drop (length (decoded_bytes_of standard characters)) old ≡ [] = drop_all (length (decoded_bytes_of standard characters)) old (omega arith) in
    let bytes : new ≡ decoded_bytes_of standard characters = written ∙ ap (λ l. decoded_bytes_of standard characters ++ l) none ∙ append-nil (decoded_bytes_of standard characters) in
    (rw bytes facts.0, sym bytes)

-- the bytes of an input that decodes to a key are that key
key_bytes : (characters key : List ℕ) → decode_of standard characters ≡ Ok key
    → (decode_error standard.decode_table standard.padding.value false RequireCanonical characters ≡ None) × (decoded_bytes_of standard characters ≡ key)
key_bytes characters key decoded =
    outcome (decode_error standard.decode_table standard.padding.value false RequireCanonical characters) (decoded_bytes_of standard characters) key decoded

-- as many bytes as a key has were decoded, where they are a key
pub decoded_size : (characters key : List ℕ) (n room : ℕ) → IsKey key → decode_of standard characters ≡ Ok key
    → decode_slice_of standard characters room ≡ Ok n → n ≡ 30
decoded_size characters key n room is_key decoded said =
    let count = (decoded_whole characters room n said).1 in
    let length_is = ap length (key_bytes characters key decoded).1 in
    let size = is_key.size in
    omega arith

-- and 30 bytes have room for a key of 40 characters
pub key_has_room : (characters key : List ℕ) (f : DecodeSliceError) → IsKey key → length characters ≡ 40
    → decode_of standard characters ≡ Ok key → decode_slice_of standard characters 30 ≡ Err f → ⊥
key_has_room characters key f is_key forty decoded said =
    let bytes = key_bytes characters key decoded in
    let length_is = ap length bytes.1 in
    let size = is_key.size in
    refused (lone characters) (others characters) (few_groups characters 30) (few_bytes characters 30) (length (decoded_bytes_of standard characters)) f
    said bytes.0 (rw forty refl) (rw (length_is, size) refl)

-- Texts of hexadecimal digits and of pieces: what they stand for, as they are read from the left.
use Rattle.ng_bencode.proofs.Numbers.{false_true}
use Rattle.std.proofs.Common.{◌≡◌, ◌==◌, Bool, false, ℕ, List, [], ◌∷◌, ◌++◌, ◌+◌, ◌<◌, suc, zero, length, map, refl, sym, ◌∙◌, ap, subst, arith, append_assoc, append-nil, take, get_or, add-one, Ok, Err, Result, MatchResult, inl, inr, Option, Some, None, IfSome, MatchOption}
use Rattle.std.specs.Borrow.{Bor}
use Rattle.std.specs.List.{flat_map}
use Rattle.std.proofs.Math.Seq.{take-suc}
use Rattle.std.proofs.lemmas.Grind.{flat_map-append}
use Rattle.std.proofs.lemmas.List.{map-append, length-append}
use Rattle.hex.specs.Hex.{encode_lower, encode_with, lower_digits, decode_of, IsBytes}
use Rattle.hex.proofs.HexLemmas.{length-encode_with, decode_of-encode_lower, decode_of-same}
use Rattle.relay_script.specs.Fields.{Piece, Plain, Return, Feed, Backslash, Coded, IsPiece, piece_text, piece_byte, ArePieces, IsText, IsHex, IsPayload}
use Rattle.relay_script.specs.LineParts.{BeginsWith, NoPiece, RefusesText}
use Rattle.relay_script.specs.declared.step.ParseFault.{ParseFault}
use Rattle.relay_script.specs.declared.step.ParseFault.TheVariants.{NotInGrammar, OutOfMemory}
use Rattle.ng_bencode.specs.Room.{Room}

-- Lists of bytes.

pub one_byte : (byte : ℕ) → byte < 256 → IsBytes (byte ∷ [])
one_byte byte small zero = small
one_byte byte small (suc i) = omega arith

pub first_byte : (byte : ℕ) (bytes : List ℕ) → IsBytes (byte ∷ bytes) → byte < 256
first_byte byte bytes fit = fit 0

pub more_bytes : (byte : ℕ) (bytes : List ℕ) → IsBytes (byte ∷ bytes) → IsBytes bytes
more_bytes byte bytes fit i = fit (suc i)

pub bytes_cons : (byte : ℕ) (bytes : List ℕ) → byte < 256 → IsBytes bytes → IsBytes (byte ∷ bytes)
bytes_cons byte bytes small fit zero = small
bytes_cons byte bytes small fit (suc i) = fit i

pub bytes_push : (bytes : List ℕ) (byte : ℕ) → IsBytes bytes → byte < 256 → IsBytes (bytes ++ byte ∷ [])
bytes_push [] byte fit small = one_byte byte small
bytes_push (b ∷ bytes) byte fit small = bytes_cons b (bytes ++ byte ∷ []) (fit 0) (bytes_push bytes byte (more_bytes b bytes fit) small)

same_split : (a b x y : List ℕ) → length a ≡ length b → a ++ x ≡ b ++ y → (a ≡ b) × (x ≡ y)
same_split [] [] x y len e = (refl, e)
same_split [] (d ∷ b) x y len e = absurd (omega (arith, len))
same_split (c ∷ a) [] x y len e = absurd (omega (arith, len))
same_split (c ∷ a) (d ∷ b) x y len e =
    let head : c ≡ d = cc in
    let rest : a ++ x ≡ b ++ y = cc in
    let same = same_split a b x y (omega (arith, len)) rest in
    (rw (head, same.0) refl, same.1)

pub heads : (a b : ℕ) (x y : List ℕ) → a ∷ x ≡ b ∷ y → a ≡ b
heads a b x y e = cc

pub tails : (a b : ℕ) (x y : List ℕ) → a ∷ x ≡ b ∷ y → x ≡ y
tails a b x y e = cc

pub some_left : (xs : List ℕ) (b : Bool) → b ≡ (length xs == 0) → b ≡ false → xs ≡ [] → ⊥
some_left xs b is log e = false_true (sym log ∙ is ∙ ap (λ (ys : List ℕ). length ys == 0) e)

-- Digits.

pub encode_cons : (byte : ℕ) (bytes : List ℕ) → encode_lower (byte ∷ bytes) ≡ encode_lower (byte ∷ []) ++ encode_lower bytes
unfolding encode_with
encode_cons byte bytes = refl

pub encode_none : encode_lower [] ≡ []
unfolding encode_with
encode_none = refl

pub encode_append : (a b : List ℕ) → encode_lower (a ++ b) ≡ encode_lower a ++ encode_lower b
encode_append [] b = rw encode_none refl
encode_append (x ∷ a) b =
    encode_cons x (a ++ b) ∙ ap (λ t. encode_lower (x ∷ []) ++ t) (encode_append a b)
    ∙ sym (append_assoc (encode_lower (x ∷ [])) (encode_lower a) (encode_lower b)) ∙ ap (λ t. t ++ encode_lower b) (sym (encode_cons x a))

-- one more byte after a line
pub encode_more : (front bytes old line : List ℕ) (i : ℕ) → i < length bytes → old ≡ front ++ encode_lower (take i bytes) → line ≡ old ++ encode_lower (get_or bytes i 0 ∷ []) → line ≡ front ++ encode_lower (take (i + 1) bytes)
encode_more front bytes old line i low before e =
    let next : take (i + 1) bytes ≡ take i bytes ++ get_or bytes i 0 ∷ [] = rw add-one (take-suc bytes i 0 low) in
    e ∙ ap (λ t. t ++ encode_lower (get_or bytes i 0 ∷ [])) before ∙ append_assoc front (encode_lower (take i bytes)) (encode_lower (get_or bytes i 0 ∷ []))
    ∙ ap (λ t. front ++ t) (sym (encode_append (take i bytes) (get_or bytes i 0 ∷ []))) ∙ ap (λ t. front ++ encode_lower t) (sym next)

pub encode_one_length : (byte : ℕ) → length (encode_lower (byte ∷ [])) ≡ 2
encode_one_length byte = length-encode_with lower_digits (byte ∷ [])

-- digits write one list of bytes
pub same_hex : (a b : List ℕ) → IsBytes a → IsBytes b → encode_lower a ≡ encode_lower b → a ≡ b
same_hex a b fit other e =
    decode_of-same (encode_lower a) a b (decode_of-encode_lower a fit) (ap decode_of e ∙ decode_of-encode_lower b other)

pub same_pair : (a b : ℕ) (x y : List ℕ) → a < 256 → b < 256 → encode_lower (a ∷ []) ++ x ≡ encode_lower (b ∷ []) ++ y → (a ≡ b) × (x ≡ y)
same_pair a b x y low small e =
    let parts = same_split (encode_lower (a ∷ [])) (encode_lower (b ∷ [])) x y (encode_one_length a ∙ sym (encode_one_length b)) e in
    (heads a b [] [] (same_hex (a ∷ []) (b ∷ []) (one_byte a low) (one_byte b small) parts.0), parts.1)

pub no_head : (text : List ℕ) → text ≡ [] → (byte : ℕ) (rest : List ℕ) → byte < 256 → text ≡ encode_lower (byte ∷ []) ++ rest → ⊥
no_head text none byte rest small e = omega (arith, encode_one_length byte, ap length (sym none ∙ e), length-append (encode_lower (byte ∷ [])) rest)

pub no_second : (text : List ℕ) (high : ℕ) (more : List ℕ) → text ≡ high ∷ more → more ≡ [] → (byte : ℕ) (rest : List ℕ) → byte < 256 → text ≡ encode_lower (byte ∷ []) ++ rest → ⊥
no_second text high more parts none byte rest small e =
    omega (arith, encode_one_length byte, ap length (sym parts ∙ e), ap length none, length-append (encode_lower (byte ∷ [])) rest)

pub no_pair : (text : List ℕ) (high low : ℕ) (more after : List ℕ) → text ≡ high ∷ more → more ≡ low ∷ after → ((byte : ℕ) → byte < 256 → high ∷ low ∷ [] ≡ encode_lower (byte ∷ []) → ⊥) → (byte : ℕ) (rest : List ℕ) → byte < 256 → text ≡ encode_lower (byte ∷ []) ++ rest → ⊥
no_pair text high low more after parts then none byte rest small e =
    none byte small (same_split (high ∷ low ∷ []) (encode_lower (byte ∷ [])) after rest (sym (encode_one_length byte)) (ap (λ t. high ∷ t) (sym then) ∙ sym parts ∙ e)).0

-- the digits before this rest write these bytes
pub record HexBefore (digits bytes rest : List ℕ) : Type 0 where
  pub parts : digits ≡ encode_lower bytes ++ rest
  pub fit : IsBytes bytes

pub hex_start : (digits : List ℕ) → HexBefore digits [] digits
hex_start digits = record { parts = rw encode_none refl; fit = λ i. omega arith }

pub hex_more : (digits bytes rest more : List ℕ) (byte : ℕ) → HexBefore digits bytes rest → byte < 256 → rest ≡ encode_lower (byte ∷ []) ++ more → HexBefore digits (bytes ++ byte ∷ []) more
hex_more digits bytes rest more byte before small e = record {
  parts = before.parts ∙ ap (λ t. encode_lower bytes ++ t) e ∙ sym (append_assoc (encode_lower bytes) (encode_lower (byte ∷ [])) more) ∙ ap (λ t. t ++ more) (sym (encode_append bytes (byte ∷ [])));
  fit = bytes_push bytes byte before.fit small;
}

pub hex_longer : (rest more : List ℕ) (byte : ℕ) → rest ≡ encode_lower (byte ∷ []) ++ more → length rest ≡ 2 + length more
hex_longer rest more byte e = omega (arith, ap length e, encode_one_length byte, length-append (encode_lower (byte ∷ [])) more)

-- digits write some bytes
pub record SomeHex (digits : List ℕ) : Type 0 where
  pub all : List ℕ
  pub is : IsHex digits all

pub hex_left : (rest more : List ℕ) (byte : ℕ) → byte < 256 → rest ≡ encode_lower (byte ∷ []) ++ more → (all : List ℕ) → IsHex rest all → SomeHex more
hex_left rest more byte small e [] is = absurd (omega (arith, encode_one_length byte, ap length (sym e ∙ is.spelled ∙ encode_none), length-append (encode_lower (byte ∷ [])) more))
hex_left rest more byte small e (b ∷ all) is =
    let same = same_pair byte b more (encode_lower all) small (first_byte b all is.fit) (sym e ∙ is.spelled ∙ encode_cons b all) in
    record { all = all; is = record { spelled = same.1; fit = more_bytes b all is.fit } }

pub hex_stuck : (rest : List ℕ) → (rest ≡ [] → ⊥) → ((byte : ℕ) (more : List ℕ) → byte < 256 → rest ≡ encode_lower (byte ∷ []) ++ more → ⊥) → (all : List ℕ) → IsHex rest all → ⊥
hex_stuck rest some none [] is = some (is.spelled ∙ encode_none)
hex_stuck rest some none (b ∷ all) is = none b (encode_lower all) (first_byte b all is.fit) (is.spelled ∙ encode_cons b all)

-- Pieces.

-- no piece begins another
pub same_piece : (p q : Piece) (x y : List ℕ) → IsPiece p → IsPiece q → piece_text p ++ x ≡ piece_text q ++ y → (p ≡ q) × (x ≡ y)
same_piece (Plain a) (Plain b) x y ip iq e = (ap Plain (heads a b x y e), tails a b x y e)
same_piece (Plain a) q x y ip iq e = absurd (ip (heads _ _ _ _ e))
same_piece p (Plain b) x y ip iq e = absurd (iq (sym (heads _ _ _ _ e)))
same_piece Return Return x y ip iq e = (refl, tails _ _ _ _ (tails _ _ _ _ e))
same_piece Feed Feed x y ip iq e = (refl, tails _ _ _ _ (tails _ _ _ _ e))
same_piece Backslash Backslash x y ip iq e = (refl, tails _ _ _ _ (tails _ _ _ _ e))
same_piece (Coded a) (Coded b) x y ip iq e =
    let same = same_pair a b x y ip iq (tails _ _ _ _ (tails _ _ _ _ e)) in
    (ap Coded same.0, same.1)
same_piece p q x y ip iq e = absurd (omega (arith, heads _ _ _ _ (tails _ _ _ _ e)))

-- a byte that is no backslash is a piece; and `\x` with two digits is one
pub plain_piece : (text : List ℕ) (first : ℕ) (rest : List ℕ) → text ≡ first ∷ rest → (first ≡ 92 → ⊥) → BeginsWith text first rest
plain_piece text first rest e other = record { piece = Plain first; allowed = other; stands_for = refl; parts = e }

pub coded_piece : (text rest : List ℕ) (byte : ℕ) (more : List ℕ) → text ≡ 92 ∷ 120 ∷ rest → byte < 256 → rest ≡ encode_lower (byte ∷ []) ++ more → BeginsWith text byte more
coded_piece text rest byte more e small digits =
    record { piece = Coded byte; allowed = small; stands_for = refl; parts = e ∙ ap (λ t. 92 ∷ 120 ∷ t) digits }

pub no_coded : (text rest : List ℕ) → text ≡ 92 ∷ 120 ∷ rest → ((byte : ℕ) (more : List ℕ) → byte < 256 → rest ≡ encode_lower (byte ∷ []) ++ more → ⊥) → NoPiece text
no_coded text rest e none (Plain byte) more allowed is = allowed (sym (heads _ _ _ _ (sym e ∙ is)))
no_coded text rest e none (Coded byte) more allowed is = none byte more allowed (tails _ _ _ _ (tails _ _ _ _ (sym e ∙ is)))
no_coded text rest e none piece more allowed is = omega (arith, heads _ _ _ _ (tails _ _ _ _ (sym e ∙ is)))

pub coded_found : (text rest : List ℕ) → text ≡ 92 ∷ 120 ∷ rest → (r : Option (ℕ × Bor (List ℕ))) → IfSome r (λ parts. parts.0 < 256) → MatchOption r ((byte : ℕ) (more : List ℕ) → byte < 256 → rest ≡ encode_lower (byte ∷ []) ++ more → ⊥) (λ parts. rest ≡ encode_lower (parts.0 ∷ []) ++ parts.1.now) → MatchOption r (NoPiece text) (λ parts. BeginsWith text parts.0 parts.1.now)
coded_found text rest e None small log = no_coded text rest e log
coded_found text rest e (Some parts) small log = coded_piece text rest parts.0 parts.1.now e small log

pub piece_some : (p : Piece) → 0 < length (piece_text p)
piece_some (Plain byte) = omega arith
piece_some Return = omega arith
piece_some Feed = omega arith
piece_some Backslash = omega arith
piece_some (Coded byte) = omega arith

pub pieces_push : (pieces : List Piece) (piece : Piece) → ArePieces pieces → IsPiece piece → ArePieces (pieces ++ piece ∷ [])
pieces_push [] piece all is = (is, tt)
pieces_push (p ∷ pieces) piece all is = (all.0, pieces_push pieces piece all.1 is)

-- the text before this rest stands for these bytes
pub record TextBefore (text bytes rest : List ℕ) : Type 0 where
  pub front : List ℕ
  pub parts : text ≡ front ++ rest
  pub is : IsText front bytes

pub text_push : (front bytes : List ℕ) (byte : ℕ) (piece : Piece) → IsText front bytes → IsPiece piece → byte ≡ piece_byte piece → IsText (front ++ piece_text piece) (bytes ++ byte ∷ [])
text_push front bytes byte piece is allowed e = record {
  pieces = is.pieces ++ piece ∷ [];
  allowed = pieces_push is.pieces piece is.allowed allowed;
  spelled = ap (λ t. t ++ piece_text piece) (is.spelled) ∙ ap (λ t. flat_map piece_text is.pieces ++ t) (sym (append-nil (piece_text piece))) ∙ sym (flat_map-append piece_text is.pieces (piece ∷ []));
  stands_for = ap (λ t. t ++ byte ∷ []) is.stands_for ∙ ap (λ (b : ℕ). map piece_byte is.pieces ++ b ∷ []) e ∙ sym (map-append piece_byte is.pieces (piece ∷ []));
}

pub text_more : (text bytes rest more : List ℕ) (byte : ℕ) → TextBefore text bytes rest → BeginsWith rest byte more → TextBefore text (bytes ++ byte ∷ []) more
text_more text bytes rest more byte before begins = record {
  front = before.front ++ piece_text begins.piece;
  parts = before.parts ∙ ap (λ t. before.front ++ t) begins.parts ∙ sym (append_assoc before.front (piece_text begins.piece) more);
  is = text_push before.front bytes byte begins.piece before.is begins.allowed begins.stands_for;
}

-- a text stands for some bytes
pub record SomeText (text : List ℕ) : Type 0 where
  pub all : List ℕ
  pub is : IsText text all

left_at : (rest more : List ℕ) (byte : ℕ) → BeginsWith rest byte more → (pieces : List Piece) → ArePieces pieces → rest ≡ flat_map piece_text pieces → SomeText more
left_at rest more byte begins [] all e =
    absurd (omega (arith, piece_some begins.piece, ap length (sym begins.parts ∙ e), length-append (piece_text begins.piece) more))
left_at rest more byte begins (p ∷ pieces) all e =
    let same = same_piece begins.piece p more (flat_map piece_text pieces) begins.allowed all.0 (sym begins.parts ∙ e) in
    record { all = map piece_byte pieces; is = record { pieces = pieces; allowed = all.1; spelled = same.1; stands_for = refl } }

pub text_left : (rest more : List ℕ) (byte : ℕ) → BeginsWith rest byte more → (all : List ℕ) → IsText rest all → SomeText more
text_left rest more byte begins all is = left_at rest more byte begins is.pieces is.allowed is.spelled

stuck_at : (rest : List ℕ) → (rest ≡ [] → ⊥) → NoPiece rest → (pieces : List Piece) → ArePieces pieces → rest ≡ flat_map piece_text pieces → ⊥
stuck_at rest some none [] all e = some e
stuck_at rest some none (p ∷ pieces) all e = none p (flat_map piece_text pieces) all.0 e

pub text_stuck : (rest : List ℕ) → (rest ≡ [] → ⊥) → NoPiece rest → (all : List ℕ) → IsText rest all → ⊥
text_stuck rest some none all is = stuck_at rest some none is.pieces is.allowed is.spelled

pub piece_shorter : (rest more : List ℕ) (byte : ℕ) → BeginsWith rest byte more → length more < length rest
piece_shorter rest more byte begins = omega (arith, piece_some begins.piece, ap length begins.parts, length-append (piece_text begins.piece) more)

-- a text stands for one list of bytes
same_pieces : (a b : List Piece) → ArePieces a → ArePieces b → flat_map piece_text a ≡ flat_map piece_text b → a ≡ b
same_pieces [] [] ia ib e = refl
same_pieces [] (q ∷ b) ia ib e = absurd (omega (arith, piece_some q, ap length e, length-append (piece_text q) (flat_map piece_text b)))
same_pieces (p ∷ a) [] ia ib e = absurd (omega (arith, piece_some p, ap length e, length-append (piece_text p) (flat_map piece_text a)))
same_pieces (p ∷ a) (q ∷ b) ia ib e =
    let same = same_piece p q (flat_map piece_text a) (flat_map piece_text b) ia.0 ib.0 e in
    let more = same_pieces a b ia.1 ib.1 same.1 in
    rw (same.0, more) refl

pub same_text : (text a b : List ℕ) → IsText text a → IsText text b → a ≡ b
same_text text a b is other =
    is.stands_for ∙ ap (λ ps. map piece_byte ps) (same_pieces is.pieces other.pieces is.allowed other.allowed (sym is.spelled ∙ other.spelled)) ∙ sym other.stands_for

-- Both.

pub hex_payload : (text rest : List ℕ) → text ≡ 120 ∷ 58 ∷ rest → (r : Result (Room ℕ) ParseFault) → MatchResult r (λ bytes. IsHex rest bytes.list) (λ fault. RefusesText fault ((bytes : List ℕ) → IsHex rest bytes → ⊥)) → MatchResult r (λ bytes. IsPayload text bytes.list) (λ fault. RefusesText fault ((bytes : List ℕ) → IsPayload text bytes → ⊥))
hex_payload text rest e (Ok bytes) is = inl (record { digits = rest; parts = e; hex = is })
hex_payload text rest e (Err NotInGrammar) none = λ bytes is.
    elim is [
      | inl h ↦ none bytes (subst (λ t. IsHex t bytes) (sym (tails _ _ _ _ (tails _ _ _ _ (sym e ∙ h.parts)))) h.hex)
      | inr t ↦ omega (arith, heads _ _ _ _ (sym e ∙ t.parts))
    ]
hex_payload text rest e (Err OutOfMemory) none = tt

pub text_payload : (text rest : List ℕ) → text ≡ 116 ∷ 58 ∷ rest → (r : Result (Room ℕ) ParseFault) → MatchResult r (λ bytes. IsText rest bytes.list) (λ fault. RefusesText fault ((bytes : List ℕ) → IsText rest bytes → ⊥)) → MatchResult r (λ bytes. IsPayload text bytes.list) (λ fault. RefusesText fault ((bytes : List ℕ) → IsPayload text bytes → ⊥))
text_payload text rest e (Ok bytes) is = inr (record { shown = rest; parts = e; is_text = is })
text_payload text rest e (Err NotInGrammar) none = λ bytes is.
    elim is [
      | inl h ↦ omega (arith, heads _ _ _ _ (sym e ∙ h.parts))
      | inr t ↦ none bytes (subst (λ x. IsText x bytes) (sym (tails _ _ _ _ (tails _ _ _ _ (sym e ∙ t.parts)))) t.is_text)
    ]
text_payload text rest e (Err OutOfMemory) none = tt

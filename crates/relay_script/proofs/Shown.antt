-- The bytes of a reply, as they are printed, are a text that stands for them.
use Rattle.std.proofs.Common.{◌≡◌, ◌==◌, ℕ, List, [], ◌∷◌, ◌++◌, ◌<◌, ◌&&◌, Bool, true, false, cond, map, nat_le, refl, ◌∙◌, ap}
use Rattle.std.specs.List.{flat_map}
use Rattle.std.proofs.lemmas.Bool.{eqb-true, eqb-false}
use Rattle.hex.specs.Hex.{IsBytes}
use Rattle.relay_script.specs.Fields.{Plain, Backslash, Coded, IsPiece, piece_text, piece_byte, ArePieces, IsText}
use Rattle.relay_script.specs.EventLines.{shown_piece, shown_byte, shown_text}
use Rattle.relay_script.proofs.Payloads.{first_byte, more_bytes}

piece_at : (byte : ℕ) (slash plain : Bool) → (byte == 92) ≡ slash → byte < 256 → IsPiece (cond slash Backslash (cond plain (Plain byte) (Coded byte))) × (byte ≡ piece_byte (cond slash Backslash (cond plain (Plain byte) (Coded byte))))
piece_at byte true plain e small = (tt, eqb-true byte 92 e)
piece_at byte false true e small = (eqb-false byte 92 e, refl)
piece_at byte false false e small = (small, refl)

piece_is : (byte : ℕ) → byte < 256 → IsPiece (shown_piece byte) × (byte ≡ piece_byte (shown_piece byte))
piece_is byte small = piece_at byte (byte == 92) (nat_le 32 byte && nat_le byte 126) refl small

pieces_are : (bytes : List ℕ) → IsBytes bytes → ArePieces (map shown_piece bytes)
pieces_are [] fit = tt
pieces_are (byte ∷ bytes) fit = ((piece_is byte (first_byte byte bytes fit)).0, pieces_are bytes (more_bytes byte bytes fit))

texts_are : (bytes : List ℕ) → shown_text bytes ≡ flat_map piece_text (map shown_piece bytes)
texts_are [] = refl
texts_are (byte ∷ bytes) = ap (λ t. shown_byte byte ++ t) (texts_are bytes)

bytes_are : (bytes : List ℕ) → IsBytes bytes → bytes ≡ map piece_byte (map shown_piece bytes)
bytes_are [] fit = refl
bytes_are (byte ∷ bytes) fit =
    ap (λ (b : ℕ). b ∷ bytes) (piece_is byte (first_byte byte bytes fit)).1
    ∙ ap (λ t. piece_byte (shown_piece byte) ∷ t) (bytes_are bytes (more_bytes byte bytes fit))

pub shown_is_text : (bytes : List ℕ) → IsBytes bytes → IsText (shown_text bytes) bytes
shown_is_text bytes fit = record {
  pieces = map shown_piece bytes;
  allowed = pieces_are bytes fit;
  spelled = texts_are bytes;
  stands_for = bytes_are bytes fit;
}

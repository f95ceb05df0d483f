-- Why a line is no line of digits.
use Rattle.std.proofs.Common.{◌≡◌, ◌≢◌, ◌∙◌, ap, sym, ℕ, List, length, Ok, Err, ◌⊎◌, inl, inr}
use Rattle.hex.specs.Hex.{encode_lower, decode_of}
use Rattle.hex.specs.declared.error.FromHexError.{FromHexError}
use Rattle.hex.specs.declared.error.FromHexError.TheVariants.{OutOfMemory}
use Rattle.hex.proofs.HexLemmas.{decode_of-encode_lower, decode_of-same}
use Rattle.state_lines.specs.declared.faults.Unread.{Unread}
use Rattle.state_lines.specs.declared.faults.Unread.TheVariants as unread
use Rattle.state_lines.specs.OneRead.{IsDigitLine, TellsOf}

decoded : (count : ℕ) (line : List ℕ) (is : IsDigitLine count line) → decode_of line ≡ Ok is.text
decoded count line is = ap decode_of is.line_is ∙ decode_of-encode_lower is.text is.bytes

pub not_decoded : (count : ℕ) (line : List ℕ) (error : FromHexError) (u : Unread) → TellsOf u (error ≢ OutOfMemory) → (error ≡ OutOfMemory) ⊎ (decode_of line ≡ Err error) → TellsOf u (IsDigitLine count line → ⊥)
not_decoded count line error unread.NotOfForm other told = λ is.
    elim told [
      | inl short ↦ other short
      | inr bad ↦ cc (sym (decoded count line is) ∙ bad)
    ]
not_decoded count line error unread.OutOfMemory other told = tt

pub other_count : (count : ℕ) (line bytes : List ℕ) → decode_of line ≡ Ok bytes → (length bytes ≡ count → ⊥) → IsDigitLine count line → ⊥
other_count count line bytes ok other is = other (ap length (decode_of-same line bytes is.text ok (decoded count line is)) ∙ is.length_is)

pub other_digits : (count : ℕ) (line bytes : List ℕ) → decode_of line ≡ Ok bytes → (encode_lower bytes ≡ line → ⊥) → IsDigitLine count line → ⊥
other_digits count line bytes ok other is = other (ap encode_lower (decode_of-same line bytes is.text ok (decoded count line is)) ∙ sym is.line_is)

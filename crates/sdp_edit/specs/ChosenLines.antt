-- The crypto line of a section that is used.
use Rattle.std.specs.Prelude.{◌≡◌, ℕ, zero, suc, List, [], ◌∷◌, ◌⊎◌, Option, Some, None, IsSome, if◌then◌else◌}
use Rattle.sdp_text.specs.Roles.{is_media}
use Rattle.sdes_lines.specs.CryptoLine.{IsUsable}
use Rattle.sdes_lines.specs.declared.crypto_line.CryptoLine.{CryptoLine}
use Rattle.sdp_edit.specs.Places.{up_to_media}

-- the lines of the section with this index, from 0, without its `m=` line
abbrev pub section_lines : ℕ → List (List ℕ) → List (List ℕ)
section_lines index [] = []
section_lines zero (line ∷ more) = if is_media line then up_to_media more else section_lines zero more
section_lines (suc index) (line ∷ more) = if is_media line then section_lines index more else section_lines (suc index) more

-- a usable line whose key passes P
abbrev pub IsLineOf : (CryptoLine → Type 0) → List ℕ → CryptoLine → Type 0
IsLineOf P line key = IsUsable line key.tag key.suite key.key × P key

-- the line is one of P, and this is its key; or it is none
abbrev pub IsChosenKey : (CryptoLine → Type 0) → List ℕ → Option CryptoLine → Type 0
IsChosenKey P line None = (key : CryptoLine) → IsLineOf P line key → ⊥
IsChosenKey P line (Some key) = IsLineOf P line key

-- the key of the first line that is one of P, and none where no line is
abbrev pub IsFirstOf : (CryptoLine → Type 0) → List (List ℕ) → Option CryptoLine → Type 0
IsFirstOf P [] result = result ≡ None
IsFirstOf P (line ∷ more) result =
    (IsChosenKey P line result × IsSome result) ⊎ (IsChosenKey P line None × IsFirstOf P more result)

-- any usable line
abbrev pub IsAny : CryptoLine → Type 0
IsAny key = Unit {0}

-- the key's tag and suite are those of an offered line (RFC 4568 section 5.1.2)
abbrev pub IsOffered : List (Option CryptoLine) → CryptoLine → Type 0
IsOffered [] key = ⊥
IsOffered (None ∷ more) key = IsOffered more key
IsOffered (Some offered ∷ more) key = ((key.tag ≡ offered.tag) × (key.suite ≡ offered.suite)) ⊎ IsOffered more key

-- Which lines are faulty by themselves.
use Rattle.std.specs.Prelude.{ℕ, ◌+◌, List, [], ◌∷◌, length, drop, Bool, false, ◌&&◌, ◌||◌, not, Option, Some, None, nat_le, ◌==◌, if◌then◌else◌, codes, is_none}
use Rattle.std.specs.List.{list_any}
use Rattle.std.specs.Str.{bytes_eq}
use Rattle.sdp_text.specs.Pieces.{fields, are_filled}
use Rattle.sdp_text.specs.Roles.{is_origin, is_connection, is_media, is_rtcp_attribute, media, connection, rtcp}

-- a lower-case letter, `=` and a rest (RFC 8866 section 5)
abbrev pub is_typed : List ℕ → Bool
is_typed [] = false
is_typed (letter ∷ []) = false
is_typed (letter ∷ equals ∷ rest) = nat_le 97 letter && nat_le letter 122 && equals == 61

abbrev pub holds_nul_or_cr : List ℕ → Bool
holds_nul_or_cr line = list_any (λ b. b == 0 || b == 13) line

-- after `o=`: six fields, none of them empty (RFC 8866 section 5.2)
abbrev pub is_origin_whole : List ℕ → Bool
is_origin_whole text = length (fields text) == 6 && are_filled (fields text)

-- the first line is `v=0` (RFC 8866 section 5.1)
abbrev pub is_version_faulty : ℕ → List ℕ → Bool
is_version_faulty number line = number == 1 && not (bytes_eq line (codes "v=0"))

abbrev pub is_origin_faulty : List ℕ → Bool
is_origin_faulty line = is_origin line && not (is_origin_whole (drop 2 line))

abbrev pub is_connection_faulty : List ℕ → Bool
is_connection_faulty line = is_connection line && is_none (connection (drop 2 line))

abbrev pub is_media_faulty : List ℕ → Bool
is_media_faulty line = is_media line && is_none (media (drop 2 line))

abbrev pub is_rtcp_faulty : List ℕ → Bool
is_rtcp_faulty line = is_rtcp_attribute line && is_none (rtcp (drop 7 line))

-- whether the line with this number, from 1, is faulty
abbrev pub is_faulty : ℕ → List ℕ → Bool
is_faulty number line = not (is_typed line) || holds_nul_or_cr line || is_version_faulty number line || is_origin_faulty line || is_connection_faulty line || is_media_faulty line || is_rtcp_faulty line

-- the number of the first faulty line, where the first line has the given number
abbrev pub first_faulty : ℕ → List (List ℕ) → Option ℕ
first_faulty number [] = None
first_faulty number (line ∷ more) = if is_faulty number line then Some number else first_faulty (number + 1) more

-- the same, and an empty text has a faulty first line
abbrev pub faulty_line : List (List ℕ) → Option ℕ
faulty_line [] = Some 1
faulty_line (line ∷ more) = first_faulty 1 (line ∷ more)

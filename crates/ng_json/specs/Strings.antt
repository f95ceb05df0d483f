-- Which bytes a JSON string stands for, and the string by which bytes are written.
use Rattle.std.specs.Prelude.{ℕ, ◌+◌, ◌-◌, ◌*◌, ◌/◌, ◌%◌, ◌==◌, ◌&&◌, nat_le, Bool, false, not, if◌then◌else◌, List, [], ◌∷◌, ◌++◌, drop, flat_map, codes, Option, Some, None, option_and_then, option_map, unwrap_or}
use Rattle.std.specs.Char.{digit_char}
use Rattle.std.specs.Str.{is_utf8}

-- the string begins with `x:`
abbrev pub is_marked : List ℕ → Bool
is_marked [] = false
is_marked (a ∷ []) = false
is_marked (a ∷ b ∷ rest) = (a == 120) && (b == 58)

-- the number that a digit in lower case stands for
abbrev pub value_of_digit : ℕ → Option ℕ
value_of_digit c = if nat_le 48 c && nat_le c 57 then Some (c - 48) else if nat_le 97 c && nat_le c 102 then Some (c - 87) else None

-- the byte that two digits stand for, the high four bits first
abbrev pub byte_of_digits : ℕ → ℕ → Option ℕ
byte_of_digits high low = option_and_then (λ h. option_map (λ l. 16 * h + l) (value_of_digit low)) (value_of_digit high)

-- two hexadecimal digits in lower case for each byte
abbrev pub hex_text : List ℕ → List ℕ
hex_text bytes = flat_map (λ byte. digit_char (byte / 16) ∷ digit_char (byte % 16) ∷ []) bytes

-- the bytes that digits in lower case stand for, where they are an even number of them
unfoldable pub bytes_in_hex : List ℕ → Option (List ℕ)
bytes_in_hex [] = Some []
bytes_in_hex (high ∷ []) = None
bytes_in_hex (high ∷ low ∷ rest) = option_and_then (λ byte. option_map (λ bytes. byte ∷ bytes) (bytes_in_hex rest)) (byte_of_digits high low)

-- A string that is `x:` and an even number of hexadecimal digits in lower case stands for their bytes, and any other for its own
abbrev pub bytes_of_string : List ℕ → List ℕ
bytes_of_string text = if is_marked text then unwrap_or (bytes_in_hex (drop 2 text)) text else text

-- Bytes that are UTF-8 and don't begin with `x:` are written as they are, and all others as `x:` and their digits
unfoldable pub string_of_bytes : List ℕ → List ℕ
string_of_bytes bytes = if is_utf8 bytes && not (is_marked bytes) then bytes else codes "x:" ++ hex_text bytes

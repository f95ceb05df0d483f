-- The fields of a line, and the numbers in them (RFC 8866 section 9).
use Rattle.std.specs.Prelude.{ℕ, ◌+◌, ◌-◌, ◌*◌, List, [], length, Bool, ◌&&◌, Option, Some, None, nat_lt, nat_le, ◌==◌, if◌then◌else◌, fold}
use Rattle.std.specs.List.{slice_split, list_all}

-- a text cut at each byte `stop`; there is always a first piece
abbrev pub pieces : ℕ → List ℕ → List (List ℕ)
pieces stop text = slice_split (λ b. b == stop) text

-- the pieces of what follows a stop, where there was one
abbrev pub pieces_after : ℕ → Option (List ℕ) → List (List ℕ)
pieces_after stop None = []
pieces_after stop (Some rest) = pieces stop rest

-- fields are separated by single spaces
abbrev pub fields : List ℕ → List (List ℕ)
fields text = pieces 32 text

abbrev pub is_filled : List ℕ → Bool
is_filled text = nat_lt 0 (length text)

-- whether none of the fields is empty
abbrev pub are_filled : List (List ℕ) → Bool
are_filled texts = list_all is_filled texts

abbrev pub is_digit : ℕ → Bool
is_digit byte = nat_le 48 byte && nat_le byte 57

-- what decimal digits say
abbrev pub decimal_value : List ℕ → ℕ
decimal_value digits = fold (λ n digit. 10 * n + (digit - 48)) 0 digits

-- a decimal number: one or more digits, leading zeros allowed
abbrev pub number : List ℕ → Option ℕ
number text = if is_filled text && list_all is_digit text then Some (decimal_value text) else None

-- the number, where it is no greater than the limit
abbrev pub at_most : ℕ → Option ℕ → Option ℕ
at_most limit None = None
at_most limit (Some n) = if nat_le n limit then Some n else None

-- a port
abbrev pub port_number : List ℕ → Option ℕ
port_number text = at_most 65535 (number text)

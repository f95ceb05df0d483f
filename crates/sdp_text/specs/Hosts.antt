-- Addresses as texts: IPv4 as four decimal numbers, IPv6 by RFC 4291 section 2.2 without zones and dotted
-- parts, written by RFC 5952 section 4.
use Rattle.std.specs.Prelude.{ℕ, ◌+◌, ◌-◌, ◌*◌, ◌/◌, ◌%◌, List, [], ◌∷◌, ◌++◌, length, take, drop, map, Bool, true, false, ◌&&◌, ◌||◌, Option, Some, None, nat_lt, nat_le, ◌==◌, if◌then◌else◌, fold, replicate, codes}
use Rattle.std.specs.List.{list_all, prefix_len, join_with_byte, flat_map}
use Rattle.std.specs.Option.{option_map}
use Rattle.std.specs.Str.{bytes_eq}
use Rattle.sdp_text.specs.Pieces.{pieces, number, at_most}
use Rattle.sdp_text.specs.declared.host.Host.{Host}
use Rattle.sdp_text.specs.declared.written.Run.{Run}
use Rattle.sdp_text.specs.declared.host.Host.TheVariants.{V4, V6}

-- what all of them have, where each has something
abbrev pub all_some : {X : Type 0} → List (Option X) → Option (List X)
all_some [] = Some []
all_some (None ∷ more) = None
all_some (Some x ∷ more) = option_map (λ xs. x ∷ xs) (all_some more)

-- the list, where it has this length
abbrev pub exactly : ℕ → Option (List ℕ) → Option (List ℕ)
exactly n None = None
exactly n (Some xs) = if length xs == n then Some xs else None

-- a decimal number of at most 255
abbrev pub octet : List ℕ → Option ℕ
octet text = at_most 255 (number text)

-- four decimal numbers of at most 255, joined by dots
abbrev pub ipv4_bytes : List ℕ → Option (List ℕ)
ipv4_bytes text = exactly 4 (all_some (map octet (pieces 46 text)))

abbrev pub ipv4 : List ℕ → Option Host
ipv4 text = option_map V4 (ipv4_bytes text)

abbrev pub is_hex : ℕ → Bool
is_hex byte = (nat_le 48 byte && nat_le byte 57) || (nat_le 65 byte && nat_le byte 70) || (nat_le 97 byte && nat_le byte 102)

-- what a hexadecimal digit says
abbrev pub hex_value : ℕ → ℕ
hex_value byte = if nat_le byte 57 then byte - 48 else if nat_le byte 70 then byte - 55 else byte - 87

-- a group: one to four hexadecimal digits
abbrev pub group : List ℕ → Option ℕ
group text = if nat_lt 0 (length text) && nat_le (length text) 4 && list_all is_hex text then Some (fold (λ n byte. 16 * n + hex_value byte) 0 text) else None

-- groups joined by colons; the empty text has none
abbrev pub groups : List ℕ → Option (List ℕ)
groups [] = Some []
groups (byte ∷ more) = all_some (map group (pieces 58 (byte ∷ more)))

-- what stands before the first `::`, and after it
abbrev pub around_double_colon : List ℕ → Option (List ℕ × List ℕ)
around_double_colon [] = None
around_double_colon (a ∷ []) = None
around_double_colon (a ∷ b ∷ more) = if a == 58 && b == 58 then Some ([], more) else option_map (λ sides. (a ∷ sides.0, sides.1)) (around_double_colon (b ∷ more))

-- eight groups, where `::` stands for at least one group of zero
abbrev pub filled_up : Option (List ℕ) → Option (List ℕ) → Option (List ℕ)
filled_up None right = None
filled_up (Some left) None = None
filled_up (Some left) (Some right) = if nat_lt (length left + length right) 8 then Some (left ++ replicate (8 - (length left + length right)) 0 ++ right) else None

-- eight groups joined by colons, or fewer with one `::`
abbrev pub eight_groups_around : List ℕ → Option (List ℕ × List ℕ) → Option (List ℕ)
eight_groups_around text None = exactly 8 (groups text)
eight_groups_around text (Some sides) = filled_up (groups sides.0) (groups sides.1)

abbrev pub eight_groups : List ℕ → Option (List ℕ)
eight_groups text = eight_groups_around text (around_double_colon text)

-- two bytes for each group, the high one first
abbrev pub bytes_of_groups : List ℕ → List ℕ
bytes_of_groups gs = flat_map (λ g. g / 256 ∷ g % 256 ∷ []) gs

abbrev pub ipv6 : List ℕ → Option Host
ipv6 text = option_map (λ gs. V6 (bytes_of_groups gs)) (eight_groups text)

-- an address of the family that `IP4` or `IP6` names (RFC 8866 section 5.7)
abbrev pub host_of : List ℕ → List ℕ → Option Host
host_of family text = if bytes_eq family (codes "IP4") then ipv4 text else if bytes_eq family (codes "IP6") then ipv6 text else None

-- `0.0.0.0` and `::` mean hold (RFC 3264 section 8.4)
abbrev pub is_unspecified : Host → Bool
is_unspecified (V4 bytes) = list_all (λ b. b == 0) bytes
is_unspecified (V6 bytes) = list_all (λ b. b == 0) bytes

abbrev pub is_v6 : Host → Bool
is_v6 (V4 bytes) = false
is_v6 (V6 bytes) = true

-- a digit of any base up to 16, in lower case
abbrev pub digit_byte : ℕ → ℕ
digit_byte n = if nat_lt n 10 then 48 + n else 87 + n

-- this digit, where the number is so great that it is no leading zero
abbrev pub digit_from : ℕ → ℕ → ℕ → List ℕ
digit_from least n digit = if nat_le least n then digit_byte digit ∷ [] else []

-- a number of at most 255, without leading zeros
abbrev pub octet_text : ℕ → List ℕ
octet_text n = digit_from 100 n (n / 100) ++ digit_from 10 n (n / 10 % 10) ++ (digit_byte (n % 10) ∷ [])

-- a group, in lower case without leading zeros
abbrev pub group_text : ℕ → List ℕ
group_text n = digit_from 4096 n (n / 4096) ++ digit_from 256 n (n / 256 % 16) ++ digit_from 16 n (n / 16 % 16) ++ (digit_byte (n % 16) ∷ [])

abbrev pub joined_groups : List ℕ → List ℕ
joined_groups gs = join_with_byte 58 (map group_text gs)

-- each two bytes as one group
abbrev pub groups_of_bytes : List ℕ → List ℕ
groups_of_bytes [] = []
groups_of_bytes (a ∷ []) = []
groups_of_bytes (a ∷ b ∷ more) = (256 * a + b) ∷ groups_of_bytes more

-- the longer run, and the first one at a tie
abbrev pub longer : Run → Run → Run
longer first second = if nat_lt first.count second.count then second else first

-- the longest run of groups of zero, the first at a tie; the first group has the given place
abbrev pub longest_run : ℕ → List ℕ → Run
longest_run place [] = record { start = place; count = 0 }
longest_run place (g ∷ gs) = longer (record { start = place; count = prefix_len (λ x. x == 0) (g ∷ gs) }) (longest_run (place + 1) gs)

-- the groups, with the run as `::` where it has two groups or more
abbrev pub around_run : List ℕ → Run → List ℕ
around_run gs run = if nat_lt 1 run.count then joined_groups (take run.start gs) ++ (58 ∷ 58 ∷ []) ++ joined_groups (drop (run.start + run.count) gs) else joined_groups gs

-- the one text in which an address is written
abbrev pub text_of : Host → List ℕ
text_of (V4 bytes) = join_with_byte 46 (map octet_text bytes)
text_of (V6 bytes) = around_run (groups_of_bytes bytes) (longest_run 0 (groups_of_bytes bytes))

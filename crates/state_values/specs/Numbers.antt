-- How numbers and lists of them are written.
use Rattle.std.specs.Prelude.{ℕ, pos, ◌^◌, nat_lt, List, map, if◌then◌else◌}
use Rattle.std.specs.Int.{w64, to_be_bytes}
use Rattle.ng_bencode.specs.Tree.{Tree, Int, Bytes, Items, items_of}

-- an integer up to 2 ^ 63 - 1, and above it a byte string of 8 bytes, the highest first
unfoldable pub number_tree : ℕ → Tree
number_tree number = if nat_lt number (2 ^ 63) then Int (pos number) else Bytes (to_be_bytes w64 number)

-- a list of what each of these is written as
abbrev pub list_tree : {T : Type 0} → (T → Tree) → List T → Tree
list_tree written these = Items (items_of (map written these))

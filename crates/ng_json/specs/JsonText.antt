-- The JSON text of a bencoded value.
use Rattle.std.specs.Prelude.{◌≡◌, ℕ, ◌<◌, List, [], ◌∷◌, FitsSigned}
use Rattle.std.specs.Int.{w64}
use Rattle.std.specs.Ordering.{nat_cmp, match_ordering}
use Rattle.std.specs.declared.cmp.Ordering.TheVariants.{Less}
use Rattle.std.specs.Cmp.Lexicographic.{slice_cmp}
use Rattle.serde_json.specs.Data as json
use Rattle.serde_json.specs.Find.{of_integer}
use Rattle.serde_json.specs.Written.{compact_text}
use Rattle.ng_bencode.specs.Tree.{Tree, Int, Bytes, Items, Dict, Trees, no_items, item, Entries, no_entries, entry}
use Rattle.ng_json.specs.Strings.{string_of_bytes}

-- the members with one more, before the first whose key is greater
abbrev pub with_member : List ℕ → json.Data → json.Members → json.Members
with_member key d json.no_members = json.member key d json.no_members
with_member key d (json.member other e rest) = match_ordering (slice_cmp nat_cmp key other)
    (json.member key d (json.member other e rest))
    (json.member other e (with_member key d rest))
    (json.member other e (with_member key d rest))

-- The JSON value: the members of an object stand in the byte order of their keys as they are written, equal ones in the order of the
-- dictionary
abbrev mutual
  pub data_of : Tree → json.Data
  data_of (Int z) = json.number (of_integer z)
  data_of (Bytes bytes) = json.string (string_of_bytes bytes)
  data_of (Items items) = json.array (items_data items)
  data_of (Dict pairs) = json.object (members_data pairs json.no_members)

  pub items_data : Trees → json.Items
  items_data no_items = json.no_items
  items_data (item tree rest) = json.item (data_of tree) (items_data rest)

  -- the members with those of the pairs
  pub members_data : Entries → json.Members → json.Members
  members_data no_entries found = found
  members_data (entry key tree rest) found = members_data rest (with_member (string_of_bytes key) (data_of tree) found)

-- its text, without blanks
unfoldable pub json_text : Tree → List ℕ
json_text tree = compact_text (data_of tree)

-- the key is less than each of these
abbrev pub IsBelow : List ℕ → Entries → Type 0
IsBelow key no_entries = Unit {0}
IsBelow key (entry other tree rest) = (slice_cmp nat_cmp key other ≡ Less) × IsBelow key rest

-- each number of the list is a byte
abbrev pub AreBytes : List ℕ → Type 0
AreBytes [] = Unit {0}
AreBytes (byte ∷ bytes) = (byte < 256) × AreBytes bytes

-- the keys of each dictionary stand in byte order, each once; integers fit an i64, and strings are of bytes, as those of each value
-- that a program holds
abbrev mutual
  pub IsSorted : Tree → Type 0
  IsSorted (Int z) = FitsSigned w64 z
  IsSorted (Bytes bytes) = AreBytes bytes
  IsSorted (Items items) = ItemsAreSorted items
  IsSorted (Dict pairs) = PairsAreSorted pairs

  pub ItemsAreSorted : Trees → Type 0
  ItemsAreSorted no_items = Unit {0}
  ItemsAreSorted (item tree rest) = IsSorted tree × ItemsAreSorted rest

  pub PairsAreSorted : Entries → Type 0
  PairsAreSorted no_entries = Unit {0}
  PairsAreSorted (entry key tree rest) = AreBytes key × IsSorted tree × IsBelow key rest × PairsAreSorted rest

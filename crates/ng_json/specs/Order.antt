-- A bencoded value as JSON, said by what stands where.
use Rattle.std.specs.Prelude.{◌≡◌, ℕ, List, [], ◌∷◌}
use Rattle.std.specs.Ordering.{nat_cmp}
use Rattle.std.specs.Cmp.Lexicographic.{slice_cmp}
use Rattle.std.specs.List.Sorted.{IsPermutation, IsSortedByKey, IsStableByKey}
use Rattle.serde_json.specs.Data as json
use Rattle.serde_json.specs.Find.{of_integer}
use Rattle.serde_json.specs.Written.{compact_text}
use Rattle.ng_bencode.specs.Tree.{Tree, Int, Bytes, Items, Dict, Trees, no_items, item, Entries, no_entries, entry}
use Rattle.ng_json.specs.Strings.{string_of_bytes}
use Rattle.ng_json.specs.JsonText.{json_text}

-- a key and its value
abbrev pub Member : Type 0
Member = List ℕ × json.Data

abbrev pub json_items : List json.Data → json.Items
json_items [] = json.no_items
json_items (d ∷ ds) = json.item d (json_items ds)

abbrev pub members_of : List Member → json.Members
members_of [] = json.no_members
members_of (m ∷ ms) = json.member m.0 m.1 (members_of ms)

-- the same members in the byte order of their keys, those of one key in the order that they had
pub record AreInByteOrder (ms sorted : List Member) : Type 0 where
  pub ascend : IsSortedByKey (λ m. m.0) (slice_cmp nat_cmp) sorted
  pub same : IsPermutation ms sorted
  pub stable : IsStableByKey (λ m. m.0) (slice_cmp nat_cmp) ms sorted

-- An integer is that integer, a byte string the string by which its bytes are written, a list the array of its values, and a
-- dictionary the object that has a member for each of its pairs, in the byte order of their keys as they are written
abbrev mutual
  pub IsWrittenAs : Tree → json.Data → Type 0
  IsWrittenAs (Int z) d = d ≡ json.number (of_integer z)
  IsWrittenAs (Bytes bytes) d = d ≡ json.string (string_of_bytes bytes)
  IsWrittenAs (Items items) d = (ds : List json.Data) × ItemsAreWrittenAs items ds × (d ≡ json.array (json_items ds))
  IsWrittenAs (Dict pairs) d = (ms sorted : List Member) × PairsAreWrittenAs pairs ms × AreInByteOrder ms sorted × (d ≡ json.object (members_of sorted))

  pub ItemsAreWrittenAs : Trees → List json.Data → Type 0
  ItemsAreWrittenAs no_items [] = Unit {0}
  ItemsAreWrittenAs no_items (d ∷ ds) = ⊥
  ItemsAreWrittenAs (item tree rest) [] = ⊥
  ItemsAreWrittenAs (item tree rest) (d ∷ ds) = IsWrittenAs tree d × ItemsAreWrittenAs rest ds

  -- each pair of the dictionary, in its order
  pub PairsAreWrittenAs : Entries → List Member → Type 0
  PairsAreWrittenAs no_entries [] = Unit {0}
  PairsAreWrittenAs no_entries (m ∷ ms) = ⊥
  PairsAreWrittenAs (entry key tree rest) [] = ⊥
  PairsAreWrittenAs (entry key tree rest) (m ∷ ms) = (m.0 ≡ string_of_bytes key) × IsWrittenAs tree m.1 × PairsAreWrittenAs rest ms

-- what is written for it is the text of such a JSON value
pub record IsInByteOrder (tree : Tree) : Type 0 where
  pub value : json.Data
  pub is_written_as : IsWrittenAs tree value
  pub is_text : json_text tree ≡ compact_text value

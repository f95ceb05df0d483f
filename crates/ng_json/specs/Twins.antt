-- The bencoded value that says what a JSON value says: its twin.
use Rattle.std.specs.Prelude.{◌≡◌, ℕ, nat_le, List, Option, Some, None, option_map, option_and_then, if◌then◌else◌, IsUtf8}
use Rattle.std.specs.Ordering.{nat_cmp, match_ordering}
use Rattle.std.specs.Cmp.Lexicographic.{slice_cmp}
use Rattle.serde_json.specs.Data as json
use Rattle.serde_json.specs.Find.{as_i64}
use Rattle.serde_json.specs.Read.{read}
use Rattle.ng_bencode.specs.Tree.{Tree, Int, Bytes, Items, Dict, Trees, no_items, item, Entries, no_entries, entry}
use Rattle.ng_json.specs.Strings.{bytes_of_string}

-- the pairs with one more, at its place in the byte order of their keys; none, where its key is there
abbrev pub with_pair_in_order : List ℕ → Tree → Entries → Option Entries
with_pair_in_order key tree no_entries = Some (entry key tree no_entries)
with_pair_in_order key tree (entry other of_other rest) = match_ordering (slice_cmp nat_cmp key other)
    (Some (entry key tree (entry other of_other rest)))
    None
    (option_map (entry other of_other) (with_pair_in_order key tree rest))

-- An integer that fits an i64 is that integer, a string the bytes that it stands for, an array a list, and an object the dictionary
-- of its members in the byte order of their keys; two keys that stand for the same bytes, and everything else, have no twin
abbrev mutual
  pub tree_in : json.Data → Option Tree
  tree_in json.null = None
  tree_in (json.boolean b) = None
  tree_in (json.number n) = option_map Int (as_i64 n)
  tree_in (json.string text) = Some (Bytes (bytes_of_string text))
  tree_in (json.array ds) = option_map Items (trees_in ds)
  tree_in (json.object ms) = option_map Dict (pairs_in ms no_entries)

  pub trees_in : json.Items → Option Trees
  trees_in json.no_items = Some no_items
  trees_in (json.item d ds) = option_and_then (λ tree. option_map (item tree) (trees_in ds)) (tree_in d)

  -- the pairs with those of the members
  pub pairs_in : json.Members → Entries → Option Entries
  pairs_in json.no_members found = Some found
  pairs_in (json.member text d ms) found =
      option_and_then (λ tree. option_and_then (λ more. pairs_in ms more) (with_pair_in_order (bytes_of_string text) tree found)) (tree_in d)

-- the twin of a value in which at most 16 arrays and objects stand in one another
unfoldable pub twin : json.Data → Option Tree
twin d = if nat_le (json.depth d) 16 then tree_in d else None

-- The text is UTF-8, and the JSON text of this value: of a key that is written twice in one object the last value counts
pub record IsJson (text : List ℕ) (d : json.Data) : Type 0 where
  pub utf8 : IsUtf8 text
  pub is : read text ≡ Some d

-- the text is JSON, and says what this bencoded value says
pub record SaysInJson (text : List ℕ) (tree : Tree) : Type 0 where
  pub value : json.Data
  pub is_json : IsJson text value
  pub is_twin : twin value ≡ Some tree

-- the text is JSON, and no bencoded value says what it says
pub record HasNoTwin (text : List ℕ) : Type 0 where
  pub value : json.Data
  pub is_json : IsJson text value
  pub is_none : twin value ≡ None

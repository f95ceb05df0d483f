-- Bencode: how a tree is written, and which texts are one.
use Rattle.std.specs.Prelude.{◌≡◌, ℕ, List, [], ◌∷◌, ◌++◌, ◌≤◌, length, decimal, FitsSigned}
use Rattle.std.specs.Fmt.{signed_decimal}
use Rattle.std.specs.Int.{w64}
use Rattle.ng_bencode.specs.Tree.{Tree, Int, Bytes, Items, Dict, Trees, no_items, item, Entries, no_entries, entry, depth}

-- a byte string: its length in decimal, a colon, its bytes
abbrev pub string : List ℕ → List ℕ
string bytes = decimal (length bytes) ++ 58 ∷ bytes

-- The one spelling of a tree. An integer stands between `i` and `e`, a list between `l` and `e`,
-- a dictionary between `d` and `e`; a pair is its key as a byte string and then its value.
abbrev mutual
  pub spelling : Tree → List ℕ
  spelling (Int z) = 105 ∷ signed_decimal z ++ 101 ∷ []
  spelling (Bytes bytes) = string bytes
  spelling (Items items) = 108 ∷ spellings items ++ 101 ∷ []
  spelling (Dict pairs) = 100 ∷ entry_spellings pairs ++ 101 ∷ []

  pub spellings : Trees → List ℕ
  spellings no_items = []
  spellings (item tree rest) = spelling tree ++ spellings rest

  pub entry_spellings : Entries → List ℕ
  entry_spellings no_entries = []
  entry_spellings (entry key tree rest) = string key ++ (spelling tree ++ entry_spellings rest)

-- each integer of the tree fits an i64
abbrev mutual
  pub IntsFit : Tree → Type 0
  IntsFit (Int z) = FitsSigned w64 z
  IntsFit (Bytes bytes) = Unit {0}
  IntsFit (Items items) = ItemsIntsFit items
  IntsFit (Dict pairs) = EntriesIntsFit pairs

  pub ItemsIntsFit : Trees → Type 0
  ItemsIntsFit no_items = Unit {0}
  ItemsIntsFit (item tree rest) = IntsFit tree × ItemsIntsFit rest

  pub EntriesIntsFit : Entries → Type 0
  EntriesIntsFit no_entries = Unit {0}
  EntriesIntsFit (entry key tree rest) = IntsFit tree × EntriesIntsFit rest

-- The bytes are bencode, and spell this tree: its integers fit an i64, it is at most 16 lists and
-- dictionaries deep, and the bytes are its spelling and nothing more.
pub record Spells (bytes : List ℕ) (tree : Tree) : Type 0 where
  pub ints : IntsFit tree
  pub deep : depth tree ≤ 16
  pub spelled : bytes ≡ spelling tree

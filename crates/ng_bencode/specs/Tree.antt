-- What a `Value` stands for, as a tree without memory or spare room.
use Rattle.std.specs.Prelude.{ℕ, ℤ, List, [], ◌∷◌, map, ◌+◌, max}
use Rattle.ng_bencode.specs.Room.{Room}
use Rattle.ng_bencode.specs.Row.{list_in}
use Rattle.ng_bencode.specs.declared.value.Value.{Value, fold-Value}
use Rattle.ng_bencode.specs.declared.value.Value.TheOpen.{Value-F}

mutual
  -- an integer, a byte string, a list, or a dictionary
  pub data Tree : Type 0 where
    Int : ℤ → Tree
    Bytes : List ℕ → Tree
    Items : Trees → Tree
    Dict : Entries → Tree

  -- the values of a list
  pub data Trees : Type 0 where
    no_items : Trees
    item : Tree → Trees → Trees

  -- the pairs of a dictionary, in their order; keys may repeat
  pub data Entries : Type 0 where
    no_entries : Entries
    entry : List ℕ → Tree → Entries → Entries

-- how many lists and dictionaries stand around the innermost place, those at it included
abbrev mutual
  pub depth : Tree → ℕ
  depth (Int z) = 0
  depth (Bytes bytes) = 0
  depth (Items items) = 1 + items_depth items
  depth (Dict pairs) = 1 + entries_depth pairs

  pub items_depth : Trees → ℕ
  items_depth no_items = 0
  items_depth (item tree rest) = max (depth tree) (items_depth rest)

  pub entries_depth : Entries → ℕ
  entries_depth no_entries = 0
  entries_depth (entry key tree rest) = max (depth tree) (entries_depth rest)

abbrev pub items_of : List Tree → Trees
items_of [] = no_items
items_of (tree ∷ trees) = item tree (items_of trees)

abbrev pub entries_of : List (Room ℕ × Tree) → Entries
entries_of [] = no_entries
entries_of (pair ∷ pairs) = entry pair.0.list pair.1 (entries_of pairs)

-- one level of a `Value`, whose children are trees already
abbrev pub tree_step : Value-F Tree → Tree
tree_step (Value-F.Int z) = Int z
tree_step (Value-F.Bytes text) = Bytes text.list
tree_step (Value-F.List values) = Items (items_of (list_in values))
tree_step (Value-F.Dict pairs) = Dict (entries_of (list_in pairs))

abbrev pub tree_of : Value → Tree
tree_of = fold-Value Tree tree_step

abbrev pub trees_of : List Value → Trees
trees_of values = items_of (map tree_of values)

abbrev pub pairs_of : List (Room ℕ × Value) → Entries
pairs_of pairs = entries_of (map (λ p. (p.0, tree_of p.1)) pairs)

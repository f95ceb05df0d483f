-- What the reader of one value asks of a tree, at a place where this many lists and dictionaries
-- may still open: as in `Spells`, with the depth counted down.
use Rattle.std.specs.Prelude.{◌≢◌, ℕ, List, [], ◌∷◌, ◌-◌, ◌<◌, ◌^◌, length, FitsSigned}
use Rattle.std.specs.Int.{w64}
use Rattle.ng_bencode.specs.Tree.{Tree, Int, Bytes, Items, Dict, Trees, no_items, item, Entries, no_entries, entry}

abbrev mutual
  pub Fits : ℕ → Tree → Type 0
  Fits depth (Int z) = FitsSigned w64 z
  Fits depth (Bytes bytes) = length bytes < 2 ^ 64
  Fits depth (Items items) = (0 < depth) × ItemsFit (depth - 1) items
  Fits depth (Dict pairs) = (0 < depth) × EntriesFit (depth - 1) pairs

  pub ItemsFit : ℕ → Trees → Type 0
  ItemsFit depth no_items = Unit {0}
  ItemsFit depth (item tree rest) = Fits depth tree × ItemsFit depth rest

  pub EntriesFit : ℕ → Entries → Type 0
  EntriesFit depth no_entries = Unit {0}
  EntriesFit depth (entry key tree rest) = (length key < 2 ^ 64) × Fits depth tree × EntriesFit depth rest

-- this byte is nowhere in the list
abbrev pub IsFreeOf : ℕ → List ℕ → Type 0
IsFreeOf stop [] = Unit {0}
IsFreeOf stop (byte ∷ bytes) = (byte ≢ stop) × IsFreeOf stop bytes

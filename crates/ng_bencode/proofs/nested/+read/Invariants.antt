use Rattle.std.proofs.Common.{◌≡◌, ◌+◌, ◌*◌, ℕ, List, ◌∷◌, ◌++◌, length}
use Rattle.ng_bencode.specs.Row.{list_in}
use Rattle.ng_bencode.specs.Tree.{Trees, Entries, trees_of, pairs_of}
use Rattle.ng_bencode.specs.Spells.{spellings, entry_spellings}
use Rattle.ng_bencode.specs.Fits.{ItemsFit, EntriesFit}
use Rattle.ng_bencode.proofs.nested.+read.Given as goal

abbrev pub decreases-read_value : goal.decreases-read_value
decreases-read_value l = 2 * l.depth

abbrev pub decreases-read_items : goal.decreases-read_items
decreases-read_items l = 2 * l.depth + 1

abbrev pub decreases-read_pairs : goal.decreases-read_pairs
decreases-read_pairs l = 2 * l.depth + 1

-- What was found is what stands before the rest; and whatever spelling of a list stands at the head of the
-- text, there is one of what is left of it at the head of the rest.
abbrev pub invariant-read_items-items : goal.invariant-read_items-items
invariant-read_items-items l = record {
  read : l.bytes ≡ spellings (trees_of (list_in l.found)) ++ l.rest;
  fits : ItemsFit l.depth (trees_of (list_in l.found));
  left : (trees : Trees) (x : List ℕ) → ItemsFit l.depth trees → l.bytes ≡ spellings trees ++ 101 ∷ x → (more : Trees) × ItemsFit l.depth more × (l.rest ≡ spellings more ++ 101 ∷ x);
}

abbrev pub decreases-read_items-items : goal.decreases-read_items-items
decreases-read_items-items l = length l.rest

abbrev pub invariant-read_pairs-pairs : goal.invariant-read_pairs-pairs
invariant-read_pairs-pairs l = record {
  read : l.bytes ≡ entry_spellings (pairs_of (list_in l.found)) ++ l.rest;
  fits : EntriesFit l.depth (pairs_of (list_in l.found));
  left : (pairs : Entries) (x : List ℕ) → EntriesFit l.depth pairs → l.bytes ≡ entry_spellings pairs ++ 101 ∷ x → (more : Entries) × EntriesFit l.depth more × (l.rest ≡ entry_spellings more ++ 101 ∷ x);
}

abbrev pub decreases-read_pairs-pairs : goal.decreases-read_pairs-pairs
decreases-read_pairs-pairs l = length l.rest

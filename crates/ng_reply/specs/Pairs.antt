-- Dictionaries that grow at their end.
use Rattle.std.specs.Prelude.{ℕ, List}
use Rattle.ng_bencode.specs.Tree.{Tree, Entries, no_entries, entry}

-- the pairs with one more appended
abbrev pub with_pair : Entries → List ℕ → Tree → Entries
with_pair no_entries key tree = entry key tree no_entries
with_pair (entry name other rest) key tree = entry name other (with_pair rest key tree)

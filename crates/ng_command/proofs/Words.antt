-- The words of a list, one value after another.
use Rattle.std.proofs.Common.{◌≡◌, ℕ, List, Bool, true, false, ◌||◌, refl}
use Rattle.ng_bencode.specs.Tree.{Tree, Int, Bytes, Items, Dict, Trees, no_items, item}
use Rattle.ng_bencode.specs.Lookup.{is_same_key}
use Rattle.ng_command.specs.Values.{has_word, texts_in}

or_either : (a b : Bool) → (a || b) ≡ ((a || false) || b)
or_either true b = refl
or_either false b = refl

pub next_word : (word : List ℕ) (tree : Tree) (rest : Trees) → has_word word (texts_in (item tree rest)) ≡ (has_word word (texts_in (item tree no_items)) || has_word word (texts_in rest))
next_word word (Int z) rest = refl
next_word word (Bytes text) rest = or_either (is_same_key text word) (has_word word (texts_in rest))
next_word word (Items items) rest = refl
next_word word (Dict pairs) rest = refl

-- One more item, and one more pair after those that stand.
use Rattle.std.proofs.Common.{◌≡◌, ◌∙◌, ℕ, List, [], ◌∷◌, ◌++◌, map, ap}
use Rattle.ng_bencode.specs.Room.{Room}
use Rattle.ng_bencode.specs.declared.value.Value.{Value}
use Rattle.ng_bencode.specs.Tree.{Tree, Entries, entry, no_entries, tree_of, pairs_of}
use Rattle.ng_reply.specs.Pairs.{with_pair}

pub item_pushed : (values : List Value) (value : Value) (tree : Tree) → tree_of value ≡ tree → map tree_of (values ++ value ∷ []) ≡ map tree_of values ++ tree ∷ []
item_pushed [] value tree is = ap (λ (t : Tree). t ∷ []) is
item_pushed (first ∷ values) value tree is = ap (λ (trees : List Tree). tree_of first ∷ trees) (item_pushed values value tree is)

-- a pair appended to those that stand
pub then_pair : (base before now : Entries) (key : List ℕ) (tree value : Tree) → now ≡ with_pair before key value → before ≡ base → value ≡ tree → now ≡ with_pair base key tree
then_pair base before now key tree value put stand is =
    put ∙ ap (λ (pairs : Entries). with_pair pairs key value) stand ∙ ap (with_pair base key) is

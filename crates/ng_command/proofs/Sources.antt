-- A list of another length than two is no address.
use Rattle.std.proofs.Common.{◌≡◌, ◌≢◌, ℕ, List, [], ◌∷◌, Some, None, length, refl}
use Rattle.ng_bencode.specs.Tree.{Tree, Int, Bytes, Items, Dict, Trees, no_items, item, tree_of, trees_of}
use Rattle.ng_bencode.specs.declared.value.Value.{Value}
use Rattle.ng_command.specs.Effects.{ip_of_tree}

one : (first : Tree) → ip_of_tree (Some (Items (item first no_items))) ≡ None
one (Int z) = refl
one (Bytes text) = refl
one (Items items) = refl
one (Dict pairs) = refl

many_after : (text : List ℕ) (second third : Tree) (rest : Trees) → ip_of_tree (Some (Items (item (Bytes text) (item second (item third rest))))) ≡ None
many_after text (Int z) third rest = refl
many_after text (Bytes other) third rest = refl
many_after text (Items items) third rest = refl
many_after text (Dict pairs) third rest = refl

many : (first second third : Tree) (rest : Trees) → ip_of_tree (Some (Items (item first (item second (item third rest))))) ≡ None
many (Int z) second third rest = refl
many (Bytes text) second third rest = many_after text second third rest
many (Items items) second third rest = refl
many (Dict pairs) second third rest = refl

pub not_two : (values : List Value) → length values ≢ 2 → ip_of_tree (Some (Items (trees_of values))) ≡ None
not_two [] other = refl
not_two (first ∷ []) other = one (tree_of first)
not_two (first ∷ second ∷ []) other = absurd (other refl)
not_two (first ∷ second ∷ third ∷ rest) other = many (tree_of first) (tree_of second) (tree_of third) (trees_of rest)

-- One more pair.
use Rattle.std.proofs.Common.{◌≡◌, ℕ, List, [], ◌∷◌, ◌++◌, ap}
use Rattle.ng_bencode.specs.Room.{Room}
use Rattle.ng_bencode.specs.declared.value.Value.{Value}
use Rattle.ng_bencode.specs.Tree.{entry, no_entries, tree_of, pairs_of}
use Rattle.ng_reply.specs.Pairs.{with_pair}

pair_pushed : (pairs : List (Room ℕ × Value)) (key : Room ℕ) (value : Value) (name : List ℕ) → key.list ≡ name →
    pairs_of (pairs ++ (key, value) ∷ []) ≡ with_pair (pairs_of pairs) name (tree_of value)
pair_pushed [] key value name is = ap (λ (n : List ℕ). entry n (tree_of value) no_entries) is
pair_pushed (first ∷ pairs) key value name is = ap (λ rest. entry first.0.list (tree_of first.1) rest) (pair_pushed pairs key value name is)

pub pair_kept : (old reserved new : List (Room ℕ × Value)) (key : Room ℕ) (value : Value) (name : List ℕ) → reserved ≡ old → new ≡ reserved ++ (key, value) ∷ [] →
    key.list ≡ name → pairs_of new ≡ with_pair (pairs_of old) name (tree_of value)
pair_kept old reserved new key value name kept pushed is = rw (pushed, kept) (pair_pushed old key value name is)

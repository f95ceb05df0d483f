-- The call-ids of the live calls, up to a limit.
use Rattle.std.proofs.Common.{◌≡◌, ◌∙◌, ap, sym, ℕ, ◌+◌, List, [], ◌∷◌, ◌++◌, Some, map, take, slice_get}
use Rattle.std.proofs.lemmas.List.{map-append, take_more}
use Rattle.std.proofs.lemmas.Option.{slice_get_within, get_or_from_slice_get}
use Rattle.ng_bencode.specs.Tree.{Tree, Bytes}

one_more : {A : Type 0} (xs : List A) (i : ℕ) (x : A) → slice_get xs i ≡ Some x → take (i + 1) xs ≡ take i xs ++ x ∷ []
one_more xs i x at = take_more xs i x (slice_get_within xs i x at) ∙ ap (λ y. take i xs ++ y ∷ []) (get_or_from_slice_get xs i x x at)

pub id_listed : (ids : List (List ℕ)) (i : ℕ) (id : List ℕ) (trees more : List Tree) → slice_get ids i ≡ Some id → trees ≡ map Bytes (take i ids) →
    more ≡ trees ++ Bytes id ∷ [] → more ≡ map Bytes (take (i + 1) ids)
id_listed ids i id trees more at so_far is =
    is ∙ ap (λ (ts : List Tree). ts ++ Bytes id ∷ []) so_far
    ∙ sym (ap (map Bytes) (one_more ids i id at) ∙ map-append Bytes (take i ids) (id ∷ []))

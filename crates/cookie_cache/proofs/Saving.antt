-- Saved replies and entries of a cache: what a look-up tells of keys that are all different.
use Rattle.std.proofs.Common.{is_some, ◌≡◌, ◌∙◌, refl, sym, ap, List, [], ◌∷◌, ◌++◌, map, Bool, true, false, cond, Option, Some, None, All, Vec, nat_eq, ℕ, true≢false}
use Rattle.std.specs.Cmp.Lexicographic.{pointwise, bytes_decides}
use Rattle.std.specs.List.{IsDistinct, AllByRecursion}
use Rattle.std.specs.Map.{lookup}
use Rattle.std.proofs.lemmas.List.Elements.{All-head, All-tail}
use Rattle.cookie_cache.specs.declared.kept_reply.KeptReply.{KeptReply}
use Rattle.cookie_cache.specs.Entries.{CacheEntry, all_shown}
use Rattle.cookie_cache.proofs.Shown.{has_bytes}

-- what holds of each element holds of one among them
pub among : {X : Type 0} (P : X → Type 0) (xs : List X) (x : X) (ys : List X) → All P (xs ++ x ∷ ys) → P x
among P [] x ys all = All-head P x ys all
among P (y ∷ xs) x ys all = among P xs x ys (All-tail P y (xs ++ x ∷ ys) all)

among_keys : (P : List ℕ → Type 0) (xs : List CacheEntry) (x : CacheEntry) (ys : List CacheEntry) → AllByRecursion P (map (λ entry. entry.key) (xs ++ x ∷ ys)) → P x.key
among_keys P [] x ys all = all.0
among_keys P (y ∷ xs) x ys all = among_keys P xs x ys all.1

absent_case : {A : Type 0} (key : List ℕ) (e : Vec ℕ A × KeptReply) (es : List (Vec ℕ A × KeptReply)) (x : CacheEntry) → x.key ≡ key → pointwise nat_eq e.0.items x.key ≡ false
    → lookup (has_bytes key) es ≡ None → (b : Bool) → has_bytes key e.0 ≡ b → cond b (Some e.1) (lookup (has_bytes key) es) ≡ None
absent_case key e es x is other rest true found =
    let same : e.0.items ≡ x.key = sym ((bytes_decides key e.0.items).0 found) ∙ sym is in
    absurd (true≢false (sym ((bytes_decides e.0.items x.key).1 same) ∙ other))
absent_case key e es x is other rest false found = rest

-- before an entry whose key differs from all others its key is not found
pub absent : {A : Type 0} (key : List ℕ) (es : List (Vec ℕ A × KeptReply)) (x : CacheEntry) (ys : List CacheEntry) → x.key ≡ key
    → IsDistinct (pointwise nat_eq) (map (λ entry. entry.key) (all_shown es ++ x ∷ ys)) → lookup (has_bytes key) es ≡ None
unfolding IsDistinct
absent key [] x ys is distinct = refl
absent key (e ∷ es) x ys is distinct =
    absent_case key e es x is (among_keys (λ k. pointwise nat_eq e.0.items k ≡ false) (all_shown es) x ys distinct.0)
    (absent key es x ys is distinct.1) (has_bytes key e.0) refl

others : {A : Type 0} (e : Vec ℕ A) (es : List (Vec ℕ A × KeptReply)) → AllByRecursion (λ k. pointwise nat_eq e.items k.items ≡ false) (map (λ e. e.0) es)
    → AllByRecursion (λ k. pointwise nat_eq e.items k ≡ false) (map (λ entry. entry.key) (all_shown es))
others e [] all = tt
others e (x ∷ es) all = (all.0, others e es all.1)

-- the keys of a map are different as bytes
pub distinct_shown : {A : Type 0} (es : List (Vec ℕ A × KeptReply)) → IsDistinct (λ x y. pointwise nat_eq x.items y.items) (map (λ e. e.0) es)
    → IsDistinct (pointwise nat_eq) (map (λ entry. entry.key) (all_shown es))
unfolding IsDistinct
distinct_shown [] distinct = tt
distinct_shown (e ∷ es) distinct = (others e.0 es distinct.0, distinct_shown es distinct.1)

-- one element more at the end, before others
pub joined : {X : Type 0} (xs : List X) (x : X) (ys : List X) → (xs ++ x ∷ []) ++ ys ≡ xs ++ x ∷ ys
joined [] x ys = refl
joined (z ∷ xs) x ys = ap (λ l. z ∷ l) (joined xs x ys)

pub mapped : {X Y : Type 0} (f : X → Y) (xs : List X) (x : X) (ys : List Y) → map f (xs ++ x ∷ []) ++ ys ≡ map f xs ++ f x ∷ ys
mapped f [] x ys = refl
mapped f (z ∷ xs) x ys = ap (λ l. f z ∷ l) (mapped f xs x ys)

-- what a test says
pub none_of : {X : Type 0} (r : Option X) → is_some r ≡ false → r ≡ None
none_of None is = refl
none_of (Some x) is = absurd (true≢false is)

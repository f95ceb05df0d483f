-- Entries in order, each key once: what one more entry changes, what an entry at the far end changes, and what a look-up finds.
use Rattle.std.proofs.Common.{◌≡◌, ◌∙◌, refl, sym, ap, ℕ, List, [], ◌∷◌, ◌++◌, reverse, filter, find, Bool, true, false, cond, not, ◌||◌, Option, Some, None, All, nat_eq, true≢false}
use Rattle.std.specs.Cmp.Lexicographic.{pointwise, bytes_decides}
use Rattle.std.specs.List.{list_any}
use Rattle.std.specs.Option.{option_or}
use Rattle.std.proofs.lemmas.List.{reverse-append}
use Rattle.std.proofs.lemmas.List.Folds.{find-append}
use Rattle.std.proofs.lemmas.List.Elements.{filter-append, All-filter, All-push, All-head, All-tail, All-nil}
use Rattle.cookie_cache.specs.Entries.{CacheEntry, has_other_key, first_of_each}

-- ---- filters

filter_one : {X : Type 0} (p : X → Bool) (x : X) (xs : List X) → (b : Bool) →
    reverse (filter p xs) ++ cond b (x ∷ []) [] ≡ reverse (cond b (x ∷ filter p xs) (filter p xs))
filter_one p x xs true = sym (reverse-append (x ∷ []) (filter p xs))
filter_one p x xs false = append_none (reverse (filter p xs))
  where
    append_none : {X : Type 0} (ys : List X) → ys ++ [] ≡ ys
    append_none [] = refl
    append_none (y ∷ ys) = ap (λ zs. y ∷ zs) (append_none ys)

pub filter-reverse : {X : Type 0} (p : X → Bool) (xs : List X) → filter p (reverse xs) ≡ reverse (filter p xs)
filter-reverse p [] = refl
filter-reverse p (x ∷ xs) =
    ap (filter p) (reverse-append (x ∷ []) xs) ∙ filter-append p (reverse xs) (x ∷ [])
    ∙ ap (λ ys. ys ++ filter p (x ∷ [])) (filter-reverse p xs) ∙ filter_one p x xs (p x)

-- what a test finds among those that another keeps
same_case : {X : Type 0} (t p : X → Bool) (x : X) (xs : List X) → (t x ≡ true → p x ≡ true) → find t (filter p xs) ≡ find t xs
    → (a b : Bool) → p x ≡ a → t x ≡ b → find t (cond a (x ∷ filter p xs) (filter p xs)) ≡ cond b (Some x) (find t xs)
same_case t p x xs keeps rest true b is found = ap (λ r. cond r (Some x) (find t (filter p xs))) found ∙ ap (λ r. cond b (Some x) r) rest
same_case t p x xs keeps rest false true is found = absurd (true≢false (sym (keeps found) ∙ is))
same_case t p x xs keeps rest false false is found = rest

pub find-filter_same : {X : Type 0} (t p : X → Bool) → ((x : X) → t x ≡ true → p x ≡ true) → (xs : List X) → find t (filter p xs) ≡ find t xs
find-filter_same t p keeps [] = refl
find-filter_same t p keeps (x ∷ xs) = same_case t p x xs (keeps x) (find-filter_same t p keeps xs) (p x) (t x) refl refl

none_case : {X : Type 0} (t p : X → Bool) (x : X) (xs : List X) → (t x ≡ true → p x ≡ false) → find t (filter p xs) ≡ None
    → (a b : Bool) → p x ≡ a → t x ≡ b → find t (cond a (x ∷ filter p xs) (filter p xs)) ≡ None
none_case t p x xs drops rest true true is found = absurd (true≢false (sym is ∙ drops found))
none_case t p x xs drops rest true false is found = ap (λ r. cond r (Some x) (find t (filter p xs))) found ∙ rest
none_case t p x xs drops rest false b is found = rest

pub find-filter_none : {X : Type 0} (t p : X → Bool) → ((x : X) → t x ≡ true → p x ≡ false) → (xs : List X) → find t (filter p xs) ≡ None
find-filter_none t p drops [] = refl
find-filter_none t p drops (x ∷ xs) = none_case t p x xs (drops x) (find-filter_none t p drops xs) (p x) (t x) refl refl

-- ---- entries in order

abbrev pub in_order : List CacheEntry → List CacheEntry
in_order es = reverse (first_of_each es)

-- one more entry stands last, and an earlier one of its key goes
pub in_order-more : (e : CacheEntry) (es : List CacheEntry) → in_order (e ∷ es) ≡ filter (has_other_key e) (in_order es) ++ e ∷ []
in_order-more e es =
    reverse-append (e ∷ []) (filter (has_other_key e) (first_of_each es))
    ∙ ap (λ xs. xs ++ e ∷ []) (sym (filter-reverse (has_other_key e) (first_of_each es)))

-- what holds of each entry holds of each in order
pub All-in_order : (P : CacheEntry → Type 0) (es : List CacheEntry) → All P es → All P (in_order es)
All-in_order P [] all = All-nil P
All-in_order P (e ∷ es) all =
    rw (in_order-more e es)
    (All-push P (filter (has_other_key e) (in_order es)) e
    (All-filter (has_other_key e) P (in_order es) (All-in_order P es (All-tail P e es all))) (All-head P e es all))

-- whether one of them has this entry's key
abbrev pub has_key : CacheEntry → List CacheEntry → Bool
has_key z es = list_any (λ e. pointwise nat_eq e.key z.key) es

far_case : (e z : CacheEntry) (es : List CacheEntry) → (a b : Bool) → pointwise nat_eq e.key z.key ≡ a →
    filter (has_other_key e) (cond b (in_order es) (z ∷ in_order es)) ++ e ∷ []
    ≡ cond (a || b) (filter (has_other_key e) (in_order es) ++ e ∷ []) (z ∷ (filter (has_other_key e) (in_order es) ++ e ∷ []))
far_case e z es true true is = refl
far_case e z es false true is = refl
far_case e z es true false is =
    ap (λ c. cond (not c) (z ∷ filter (has_other_key e) (in_order es)) (filter (has_other_key e) (in_order es)) ++ e ∷ []) is
far_case e z es false false is =
    ap (λ c. cond (not c) (z ∷ filter (has_other_key e) (in_order es)) (filter (has_other_key e) (in_order es)) ++ e ∷ []) is

-- the entry at the far end stands first, unless a later one has its key
pub in_order-far : (es : List CacheEntry) (z : CacheEntry) → in_order (es ++ z ∷ []) ≡ cond (has_key z es) (in_order es) (z ∷ in_order es)
in_order-far [] z = refl
in_order-far (e ∷ es) z =
    in_order-more e (es ++ z ∷ [])
    ∙ ap (λ xs. filter (has_other_key e) xs ++ e ∷ []) (in_order-far es z)
    ∙ far_case e z es (pointwise nat_eq e.key z.key) (has_key z es) refl
    ∙ ap (λ xs. cond (has_key z (e ∷ es)) xs (z ∷ xs)) (sym (in_order-more e es))

-- ---- look-ups

-- the entry has this key
abbrev pub is_under : List ℕ → CacheEntry → Bool
is_under key e = pointwise nat_eq key e.key

under_two : (key : List ℕ) (e x : CacheEntry) → is_under key x ≡ true → pointwise nat_eq e.key x.key ≡ true → is_under key e ≡ true
under_two key e x under same = (bytes_decides key e.key).1 ((bytes_decides key x.key).0 under ∙ sym ((bytes_decides e.key x.key).0 same))

under_one : (key : List ℕ) (e x : CacheEntry) → is_under key e ≡ true → is_under key x ≡ true → has_other_key e x ≡ false
under_one key e x this other =
    ap not ((bytes_decides e.key x.key).1 (sym ((bytes_decides key e.key).0 this) ∙ (bytes_decides key x.key).0 other))

other_kept : (key : List ℕ) (e x : CacheEntry) → is_under key e ≡ false → is_under key x ≡ true → has_other_key e x ≡ true
other_kept key e x this other = by (pointwise nat_eq e.key x.key) refl
  where
    by : (b : Bool) → pointwise nat_eq e.key x.key ≡ b → not b ≡ true
    by true is = absurd (true≢false (sym (under_two key e x other is) ∙ this))
    by false is = refl

or_none : {X : Type 0} (r : Option X) → option_or r None ≡ r
or_none None = refl
or_none (Some x) = refl

found_case : (key : List ℕ) (e : CacheEntry) (es : List CacheEntry) → find (is_under key) (in_order es) ≡ find (is_under key) es → (b : Bool) → is_under key e ≡ b →
    option_or (find (is_under key) (filter (has_other_key e) (in_order es))) (cond b (Some e) None) ≡ cond b (Some e) (find (is_under key) es)
found_case key e es rest true is =
    ap (λ r. option_or r (Some e)) (find-filter_none (is_under key) (has_other_key e) (λ x. under_one key e x is) (in_order es))
found_case key e es rest false is =
    or_none (find (is_under key) (filter (has_other_key e) (in_order es)))
    ∙ find-filter_same (is_under key) (has_other_key e) (λ x. other_kept key e x is) (in_order es) ∙ rest

-- under each key the entry is found that the list has first
pub find-in_order : (key : List ℕ) (es : List CacheEntry) → find (is_under key) (in_order es) ≡ find (is_under key) es
find-in_order key [] = refl
find-in_order key (e ∷ es) =
    ap (find (is_under key)) (in_order-more e es)
    ∙ find-append (is_under key) (filter (has_other_key e) (in_order es)) (e ∷ [])
    ∙ found_case key e es (find-in_order key es) (is_under key e) refl

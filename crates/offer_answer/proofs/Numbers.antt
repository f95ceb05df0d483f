-- Lists whose elements differ from each other.
use Rattle.std.proofs.Common.{◌≡◌, ℕ, zero, suc, ◌+◌, ◌<◌, ◌≤◌, Bool, true, false, cond, List, [], ◌∷◌, ◌++◌, refl, inl, inr, ◌⊎◌, filter, flat_map, map, sym, subst, arith}
use Rattle.histories.specs.Words.{In, here, there, numbers}
use Rattle.offer_answer.proofs.Members.{in-append}

-- R of each element and each later one
abbrev pub Ordered : {X : Type 0} → (X → X → Type 0) → List X → Type 0
Ordered R [] = Unit {0}
Ordered {X} R (x ∷ xs) = ((y : X) → In y xs → R x y) × Ordered R xs

pub in-numbers : (k n i : ℕ) → In i (numbers k n) → (k ≤ i) × (i < k + n)
in-numbers k zero i j = elim j [ ]
in-numbers k (suc n) i (here e) = (omega (arith, e), omega (arith, e))
in-numbers k (suc n) i (there j) = let s = in-numbers (suc k) n i j in let low = s.0 in let high = s.1 in (omega (arith, low), omega (arith, high))

pub numbers-rise : (k n : ℕ) → Ordered (λ i j. i < j) (numbers k n)
numbers-rise k zero = tt
numbers-rise k (suc n) = ((λ j i. (in-numbers (suc k) n j i).0), numbers-rise (suc k) n)

pub in-filter : {X : Type 0} (test : X → Bool) (xs : List X) (x : X) → In x (filter test xs) → In x xs
in-filter test [] x i = i
in-filter {X} test (y ∷ ys) x i = go (test y) (in-filter test ys x) i
  where
    go : (b : Bool) → (In x (filter test ys) → In x ys) → In x (cond b (y ∷ filter test ys) (filter test ys)) → In x (y ∷ ys)
    go true more (here same) = here same
    go true more (there j) = there (more j)
    go false more j = there (more j)

pub filter-ordered : {X : Type 0} (R : X → X → Type 0) (test : X → Bool) (xs : List X) → Ordered R xs → Ordered R (filter test xs)
filter-ordered R test [] o = tt
filter-ordered {X} R test (x ∷ xs) o = go (test x) (filter-ordered R test xs o.1)
  where
    go : (b : Bool) → Ordered R (filter test xs) → Ordered R (cond b (x ∷ filter test xs) (filter test xs))
    go true rest = ((λ y i. o.0 y (in-filter test xs y i)), rest)
    go false rest = rest

pub append-ordered : {X : Type 0} (R : X → X → Type 0) (xs ys : List X) → Ordered R xs → Ordered R ys →
    ((x y : X) → In x xs → In y ys → R x y) → Ordered R (xs ++ ys)
append-ordered R [] ys o p between = p
append-ordered {X} R (x ∷ xs) ys o p between = (
  (λ y i. elim (in-append xs ys i) [ inl j ↦ o.0 y j | inr j ↦ between x y (here refl) j ]),
  append-ordered R xs ys o.1 p (λ a b i j. between a b (there i) j),
)

-- an element of a sum of lists, with the one that it comes from
pub record ComesFrom {X Y : Type 0} (f : X → List Y) (xs : List X) (y : Y) : Type 0 where
  pub source : X
  pub is_in : In source xs
  pub gives : In y (f source)

pub in-flat_map : {X Y : Type 0} (f : X → List Y) (xs : List X) (y : Y) → In y (flat_map f xs) → ComesFrom f xs y
in-flat_map f [] y i = elim i [ ]
in-flat_map {X} {Y} f (x ∷ xs) y i = go (in-flat_map f xs y) (in-append (f x) (flat_map f xs) i)
  where
    go : (In y (flat_map f xs) → ComesFrom f xs y) → In y (f x) ⊎ In y (flat_map f xs) → ComesFrom f (x ∷ xs) y
    go more (inl j) = record { source = x; is_in = here refl; gives = j }
    go more (inr j) = let c = more j in record { source = c.source; is_in = there c.is_in; gives = c.gives }

pub flat_map-ordered : {X Y : Type 0} (S : X → X → Type 0) (R : Y → Y → Type 0) (f : X → List Y) (xs : List X) →
    Ordered S xs → ((x : X) → Ordered R (f x)) → ((x z : X) (y w : Y) → S x z → In y (f x) → In w (f z) → R y w) → Ordered R (flat_map f xs)
flat_map-ordered S R f [] o each between = tt
flat_map-ordered {X} {Y} S R f (x ∷ xs) o each between =
    append-ordered R (f x) (flat_map f xs) (each x) (flat_map-ordered S R f xs o.1 each between)
    (λ y w i j. let c = in-flat_map f xs w j in between x c.source y w (o.0 c.source c.is_in) i c.gives)

pub in-map : {X Y : Type 0} (f : X → Y) (xs : List X) (y : Y) → In y (map f xs) → (x : X) × In x xs × (y ≡ f x)
in-map f [] y i = elim i [ ]
in-map f (x ∷ xs) y (here e) = (x, here refl, e)
in-map f (x ∷ xs) y (there i) = let c = in-map f xs y i in (c.0, there c.1, c.2)

pub map-ordered : {X Y : Type 0} (S : X → X → Type 0) (R : Y → Y → Type 0) (f : X → Y) (xs : List X) →
    Ordered S xs → ((x z : X) → S x z → R (f x) (f z)) → Ordered R (map f xs)
map-ordered S R f [] o keeps = tt
map-ordered {X} {Y} S R f (x ∷ xs) o keeps =
    ((λ y i. let c = in-map f xs y i in subst (λ w. R (f x) w) (sym c.2) (keeps x c.0 (o.0 c.0 c.1))), map-ordered S R f xs o.1 keeps)

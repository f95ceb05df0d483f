-- Lists of which some elements are taken.
use Rattle.std.proofs.Common.{◌≡◌, ◌∙◌, refl, ap, ℕ, zero, suc, ◌<◌, Bool, true, false, cond, List, [], ◌∷◌, map, filter, length, get_or, arith}
use Rattle.histories.specs.Words.{In, here, there, has, numbers}
use Rattle.call_shapes.specs.Events.{section_flags}

-- of those that pass one test none or all pass the other

none_by : {A : Type 0} (p q : A → Bool) (x : A) (xs : List A) → ((y : A) → p y ≡ true → q y ≡ false) → filter p (filter q xs) ≡ []
    → (b : Bool) → q x ≡ b → filter p (cond b (x ∷ filter q xs) (filter q xs)) ≡ []
none_by p q x xs apart rest false e = rest
none_by {A} p q x xs apart rest true e = by (p x) refl
  where
    by : (c : Bool) → p x ≡ c → cond (p x) (x ∷ filter p (filter q xs)) (filter p (filter q xs)) ≡ []
    by true f = let g = apart x f in cc
    by false f = rw f rest

pub none_both : {A : Type 0} (p q : A → Bool) → ((x : A) → p x ≡ true → q x ≡ false) → (xs : List A) → filter p (filter q xs) ≡ []
none_both p q apart [] = refl
none_both p q apart (x ∷ xs) = none_by p q x xs apart (none_both p q apart xs) (q x) refl

all_by : {A : Type 0} (p q : A → Bool) (x : A) (xs : List A) → ((y : A) → p y ≡ true → q y ≡ true) → filter p (filter q xs) ≡ filter p xs
    → (b : Bool) → q x ≡ b → filter p (cond b (x ∷ filter q xs) (filter q xs)) ≡ cond (p x) (x ∷ filter p xs) (filter p xs)
all_by p q x xs within rest true e = ap (λ l. cond (p x) (x ∷ l) l) rest
all_by {A} p q x xs within rest false e = by (p x) refl
  where
    by : (c : Bool) → p x ≡ c → filter p (filter q xs) ≡ cond (p x) (x ∷ filter p xs) (filter p xs)
    by true f = let g = within x f in cc
    by false f = rw f rest

pub all_both : {A : Type 0} (p q : A → Bool) → ((x : A) → p x ≡ true → q x ≡ true) → (xs : List A) → filter p (filter q xs) ≡ filter p xs
all_both p q within [] = refl
all_both p q within (x ∷ xs) = all_by p q x xs within (all_both p q within xs) (q x) refl

-- none passes
pub none_pass : {A : Type 0} (p : A → Bool) (xs : List A) → ((x : A) → In x xs → p x ≡ false) → filter p xs ≡ []
none_pass p [] fails = refl
none_pass p (x ∷ xs) fails = ap (λ b. cond b (x ∷ filter p xs) (filter p xs)) (fails x (here refl)) ∙ none_pass p xs (λ y i. fails y (there i))

-- both tests give the same of each
pub same_pass : {A : Type 0} (p q : A → Bool) (xs : List A) → ((x : A) → In x xs → p x ≡ q x) → filter p xs ≡ filter q xs
same_pass p q [] same = refl
same_pass p q (x ∷ xs) same =
    ap (λ b. cond b (x ∷ filter p xs) (filter p xs)) (same x (here refl))
    ∙ ap (λ l. cond (q x) (x ∷ l) l) (same_pass p q xs (λ y i. same y (there i)))

-- what is made of those that pass, where the test looks at what is made
pub made_pass : {A B : Type 0} (f : A → B) (p : B → Bool) (xs : List A) → map f (filter (λ x. p (f x)) xs) ≡ filter p (map f xs)
made_pass f p [] = refl
made_pass f p (x ∷ xs) = by (made_pass f p xs) (p (f x))
  where
    by : map f (filter (λ x. p (f x)) xs) ≡ filter p (map f xs) → (b : Bool) → map f (cond b (x ∷ filter (λ x. p (f x)) xs) (filter (λ x. p (f x)) xs)) ≡ cond b (f x ∷ filter p (map f xs)) (filter p (map f xs))
    by rest true = ap (λ l. f x ∷ l) rest
    by rest false = rest

pub nothing_in : {A : Type 0} (xs : List A) → length xs ≡ 0 → xs ≡ []
nothing_in [] e = refl
nothing_in (x ∷ xs) e = absurd (let f : suc (length xs) ≡ 0 = e in cc)

-- what is made of the numbers of eight sections
pub at_number : {A : Type 0} (f : ℕ → A) (d : A) (section : ℕ) → section < 8 → get_or (map f (numbers 0 8)) section d ≡ f section
at_number f d zero l = refl
at_number f d (suc zero) l = refl
at_number f d (suc (suc zero)) l = refl
at_number f d (suc (suc (suc zero))) l = refl
at_number f d (suc (suc (suc (suc zero)))) l = refl
at_number f d (suc (suc (suc (suc (suc zero))))) l = refl
at_number f d (suc (suc (suc (suc (suc (suc zero)))))) l = refl
at_number f d (suc (suc (suc (suc (suc (suc (suc zero))))))) l = refl
at_number f d (suc (suc (suc (suc (suc (suc (suc (suc n)))))))) l = absurd (omega arith)

pub flag_is : (sections : List ℕ) (section : ℕ) → section < 8 → get_or (section_flags sections) section false ≡ has sections section
flag_is sections section below = at_number (has sections) false section below

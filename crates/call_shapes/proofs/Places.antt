-- Lists that are parted, and the places of their elements.
use Rattle.std.proofs.Common.{◌≡◌, ◌∙◌, refl, sym, ap, ◌⊎◌, inl, inr, List, [], ◌∷◌, ◌++◌}
use Rattle.std.proofs.lemmas.List.{append_assoc}
use Rattle.std.specs.List.{flat_map}
use Rattle.histories.specs.Words.{In, here, there}
use Rattle.histories.proofs.Lists.{in_append}

-- an element of two lists with one between them stands in the former, is that one, or stands in the latter
pub data Placed {A : Type 0} (x : A) (front : List A) (y : A) (back : List A) : Type 0 where
  before : In x front → Placed x front y back
  there_ : x ≡ y → Placed x front y back
  behind : In x back → Placed x front y back

placed_by : {A : Type 0} {x : A} (front : List A) (y : A) (back : List A) → In x front ⊎ In x (y ∷ back) → Placed x front y back
placed_by front y back (inl i) = before i
placed_by front y back (inr (here e)) = there_ e
placed_by front y back (inr (there i)) = behind i

pub placed : {A : Type 0} {x : A} (front : List A) (y : A) (back : List A) → In x (front ++ y ∷ back) → Placed x front y back
placed front y back i = placed_by front y back (in_append front (y ∷ back) i)

pub flat_append : {A B : Type 0} (f : A → List B) (xs ys : List A) → flat_map f (xs ++ ys) ≡ flat_map f xs ++ flat_map f ys
flat_append f [] ys = refl
flat_append f (x ∷ xs) ys = ap (λ l. f x ++ l) (flat_append f xs ys) ∙ sym (append_assoc (f x) (flat_map f xs) (flat_map f ys))

pub flat_alike : {A B : Type 0} (f g : A → List B) (xs : List A) → ((x : A) → In x xs → f x ≡ g x) → flat_map f xs ≡ flat_map g xs
flat_alike f g [] same = refl
flat_alike f g (x ∷ xs) same =
    ap (λ l. l ++ flat_map f xs) (same x (here refl)) ∙ ap (λ l. g x ++ l) (flat_alike f g xs (λ y i. same y (there i)))

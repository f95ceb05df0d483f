-- Lists of trees, read again.
use Rattle.std.proofs.Common.{◌≡◌, ℕ, List, [], ◌∷◌, ◌++◌, map, length, All, Option, Some, None, IfNone, refl, sym, ap, ◌∙◌, append_assoc}
use Rattle.std.proofs.lemmas.List.{length-map, map-append}
use Rattle.std.proofs.lemmas.List.Elements.{All-head, All-tail}
use Rattle.ng_bencode.specs.declared.value.Value.{Value}
use Rattle.ng_bencode.specs.Tree.{Tree, Items, no_items, item, items_of, tree_of}
use Rattle.state_values.specs.Numbers.{list_tree}

pub same_items : (a b : List Tree) → items_of a ≡ items_of b → a ≡ b
same_items [] [] e = refl
same_items [] (y ∷ b) e = let f : no_items ≡ item y (items_of b) = e in absurd (cc)
same_items (x ∷ a) [] e = let f : item x (items_of a) ≡ no_items = e in absurd (cc)
same_items (x ∷ a) (y ∷ b) e =
    let f : item x (items_of a) ≡ item y (items_of b) = e in
    let head : x ≡ y = cc in
    let tail : items_of a ≡ items_of b = cc in
    let rest = same_items a b tail in
    (λ i. head i ∷ rest i)

pub same_list : {T : Type 0} (written : T → Tree) (whole : Tree) (all : List Tree) (these : List T)
    → whole ≡ Items (items_of all) → whole ≡ list_tree written these → all ≡ map written these
same_list written whole all these is same =
    let e : Items (items_of all) ≡ Items (items_of (map written these)) = sym is ∙ same in
    let f : items_of all ≡ items_of (map written these) = cc in
    same_items all (map written these) f

-- as many as are written
pub as_long : {T : Type 0} (written : T → Tree) (whole : Tree) (values : List Value) (these : List T)
    → whole ≡ Items (items_of (map tree_of values)) → whole ≡ list_tree written these → length values ≡ length these
as_long written whole values these is same =
    sym (length-map values tree_of) ∙ ap (λ (l : List Tree). length l) (same_list written whole (map tree_of values) these is same) ∙ length-map these written

-- one among them that nothing is written as
among : {T : Type 0} (written : T → Tree) (Each : T → Type 0) (front : List Tree) (one : Tree) (rest : List Tree) (these : List T)
    → front ++ one ∷ rest ≡ map written these → All Each these → ((it : T) → Each it → one ≡ written it → ⊥) → ⊥
among written Each [] one rest [] e all never = let f : ◌≡◌ {A = List Tree} (one ∷ rest) [] = e in absurd (cc)
among written Each [] one rest (it ∷ these) e all never =
    let f : ◌≡◌ {A = List Tree} (one ∷ rest) (written it ∷ map written these) = e in
    let head : one ≡ written it = cc in
    never it (All-head Each it these all) head
among written Each (x ∷ front) one rest [] e all never = let f : ◌≡◌ {A = List Tree} (x ∷ (front ++ one ∷ rest)) [] = e in absurd (cc)
among written Each (x ∷ front) one rest (it ∷ these) e all never =
    let f : ◌≡◌ {A = List Tree} (x ∷ (front ++ one ∷ rest)) (written it ∷ map written these) = e in
    let tail : front ++ one ∷ rest ≡ map written these = cc in
    among written Each front one rest these tail (All-tail Each it these all) never

pub none_there : {T : Type 0} (written : T → Tree) (Each : T → Type 0) (whole : Tree) (all front : List Tree) (one : Tree) (rest : List Tree)
    → whole ≡ Items (items_of all) → front ++ one ∷ rest ≡ all → ((it : T) → Each it → one ≡ written it → ⊥)
    → (these : List T) → All Each these → whole ≡ list_tree written these → ⊥
none_there written Each whole all front one rest is parts never these each same =
    among written Each front one rest these (parts ∙ same_list written whole all these is same) each never

-- lists that are written alike look alike, where each element does
pub same_seen : {T S : Type 0} (written : T → Tree) (seen : T → S) (Each : T → Type 0)
    → ((x y : T) → Each x → Each y → written x ≡ written y → seen x ≡ seen y)
    → (a b : List T) → All Each a → All Each b → map written a ≡ map written b → map seen a ≡ map seen b
same_seen written seen Each same [] [] all_a all_b e = refl
same_seen written seen Each same [] (y ∷ b) all_a all_b e = let f : ◌≡◌ {A = List Tree} [] (written y ∷ map written b) = e in absurd (cc)
same_seen written seen Each same (x ∷ a) [] all_a all_b e = let f : ◌≡◌ {A = List Tree} (written x ∷ map written a) [] = e in absurd (cc)
same_seen written seen Each same (x ∷ a) (y ∷ b) all_a all_b e =
    let f : ◌≡◌ {A = List Tree} (written x ∷ map written a) (written y ∷ map written b) = e in
    let first : written x ≡ written y = cc in
    let others : map written a ≡ map written b = cc in
    let head = same x y (All-head Each x a all_a) (All-head Each y b all_b) first in
    let tail = same_seen written seen Each same a b (All-tail Each x a all_a) (All-tail Each y b all_b) others in
    (λ i. head i ∷ tail i)

-- what holds where there is none
pub from_none : {T : Type 0} (given : Option T) (Said : Type 0) → IfNone given Said → given ≡ None → Said
from_none None Said holds is = holds
from_none (Some it) Said holds is = absurd (cc)

-- one more is read
pub goes_on : {T : Type 0} (written : T → Tree) (done : List T) (it : T) (one : Tree) (rest all : List Tree) (made : List T)
    → made ≡ done ++ it ∷ [] → one ≡ written it → map written done ++ one ∷ rest ≡ all → map written made ++ rest ≡ all
goes_on {T} written done it one rest all made is same whole =
    ap (λ (l : List T). map written l ++ rest) is
    ∙ ap (λ (l : List Tree). l ++ rest) (map-append written done (it ∷ []))
    ∙ append_assoc (map written done) (written it ∷ []) rest
    ∙ ap (λ (t : Tree). map written done ++ t ∷ rest) (sym same)
    ∙ whole

-- a list of another length is none of this length
pub too_few : {T S : Type 0} (written : T → Tree) (Each : T → Type 0) (read : Option S) (whole : Tree) (list slice : List T) (n : ℕ)
    → slice ≡ list → whole ≡ list_tree written list → IfNone read (length slice ≡ n → ⊥)
    → IfNone read ((these : List T) → All Each these → length these ≡ n → whole ≡ list_tree written these → ⊥)
too_few {T} written Each None whole list slice n e is none = λ these all long same.
    none (ap (λ (l : List T). length l) e ∙ sym (length-map list written)
    ∙ ap (λ (l : List Tree). length l) (same_list written whole (map written list) these is same) ∙ length-map these written ∙ long)
too_few written Each (Some it) whole list slice n e is none = none

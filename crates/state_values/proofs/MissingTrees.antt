-- Values that may be missing, and lists, read again.
use Rattle.std.proofs.Common.{◌≡◌, ◌+◌, ◌≤◌, ℕ, List, [], ◌∷◌, All, map, Option, Some, None, IfSome, refl, sym, ap, ◌∙◌, arith}
use Rattle.std.proofs.lemmas.List.Elements.{All-head, All-tail}
use Rattle.ng_bencode.specs.Tree.{Tree, Items, no_items, item, items_of, depth, items_depth}
use Rattle.ng_bencode.specs.Spells.{IntsFit, ItemsIntsFit}
use Rattle.state_values.specs.Numbers.{list_tree}
use Rattle.state_values.specs.Forms.{option_tree}

-- where it is no list of none or one
pub no_option : {T : Type 0} (written : T → Tree) (t : Tree) → ((one : Option Tree) → t ≡ option_tree (λ (tree : Tree). tree) one → ⊥)
    → (o : Option T) → t ≡ option_tree written o → ⊥
no_option written t never None same = never None same
no_option written t never (Some it) same = never (Some (written it)) same

-- where it is a list of one that nothing is written as
pub none_in : {T S : Type 0} (written : T → Tree) (seen : S → Tree) (Each : T → Type 0) (t : Tree) (found : Option S) (one : S)
    → t ≡ option_tree seen found → found ≡ Some one → ((it : T) → Each it → seen one ≡ written it → ⊥)
    → (o : Option T) → IfSome o Each → t ≡ option_tree written o → ⊥
none_in written seen Each t found one is some never None fits same =
    let e : Items (item (seen one) no_items) ≡ Items no_items = sym (is ∙ ap (option_tree seen) some) ∙ same in absurd (cc)
none_in written seen Each t found one is some never (Some it) fits same =
    let e : Items (item (seen one) no_items) ≡ Items (item (written it) no_items) = sym (is ∙ ap (option_tree seen) some) ∙ same in
    never it fits (cc)

-- what is written alike is the same, where each is
pub same_option : {T : Type 0} (written : T → Tree) (Each : T → Type 0) → ((x y : T) → Each x → Each y → written x ≡ written y → x ≡ y)
    → (a b : Option T) → IfSome a Each → IfSome b Each → option_tree written a ≡ option_tree written b → a ≡ b
same_option written Each same None None fits_a fits_b e = refl
same_option written Each same None (Some y) fits_a fits_b e = let f : Items no_items ≡ Items (item (written y) no_items) = e in absurd (cc)
same_option written Each same (Some x) None fits_a fits_b e = let f : Items (item (written x) no_items) ≡ Items no_items = e in absurd (cc)
same_option written Each same (Some x) (Some y) fits_a fits_b e =
    let f : Items (item (written x) no_items) ≡ Items (item (written y) no_items) = e in
    let one : written x ≡ written y = cc in
    ap Some (same x y fits_a fits_b one)

-- ---- how deep it is

-- a tree that is so deep at most, and whose integers fit where something holds
pub record SpelledIf (Fits : Type 0) (most : ℕ) (tree : Tree) : Type 0 where
  pub ints : Fits → IntsFit tree
  pub deep : depth tree ≤ most

pub option_spelled : {T : Type 0} (written : T → Tree) (most : ℕ) (Each : T → Type 0) → ((it : T) → SpelledIf (Each it) most (written it))
    → (o : Option T) → SpelledIf (IfSome o Each) (1 + most) (option_tree written o)
option_spelled written most Each each None = record { ints = λ fits. tt; deep = omega arith }
option_spelled written most Each each (Some it) =
    let one = each it in
    record { ints = λ fits. (one.ints fits, tt); deep = omega (arith, one.deep) }

-- and a list of such
items_ints : {T : Type 0} (written : T → Tree) (most : ℕ) (Each : T → Type 0) → ((it : T) → SpelledIf (Each it) most (written it)) → (these : List T)
    → All Each these → ItemsIntsFit (items_of (map written these))
items_ints written most Each each [] all = tt
items_ints written most Each each (it ∷ these) all =
    let one = each it in
    (one.ints (All-head Each it these all), items_ints written most Each each these (All-tail Each it these all))

items_deep : {T : Type 0} (written : T → Tree) (most : ℕ) (Each : T → Type 0) → ((it : T) → SpelledIf (Each it) most (written it)) → (these : List T)
    → items_depth (items_of (map written these)) ≤ most
items_deep written most Each each [] = omega arith
items_deep written most Each each (it ∷ these) =
    let one = each it in
    let more = items_deep written most Each each these in
    omega (arith, one.deep, more)

pub each_spelled : {T : Type 0} (written : T → Tree) (most : ℕ) (Each : T → Type 0) → ((it : T) → SpelledIf (Each it) most (written it)) → (these : List T)
    → SpelledIf (All Each these) (1 + most) (list_tree written these)
each_spelled written most Each each these =
    let deep = items_deep written most Each each these in
    record { ints = λ all. items_ints written most Each each these all; deep = omega (arith, deep) }

-- Values that may be missing, read again.
use Rattle.std.proofs.Common.{◌≡◌, ◌+◌, ℕ, Option, Some, None, IfSome, refl, sym, ap, ◌∙◌, arith}
use Rattle.std.specs.Prelude.{option_map}
use Rattle.ng_bencode.specs.Tree.{Tree, Items, no_items, item}
use Rattle.state_values.specs.Forms.{option_tree}
use Rattle.state_values.proofs.Spelled.{Spelled}

as_trees : {T : Type 0} (written : T → Tree) (there : Option T) → option_tree written there ≡ option_tree (λ (tree : Tree). tree) (option_map written there)
as_trees written None = refl
as_trees written (Some it) = refl

-- what is no option of trees is none that is written so
pub no_option : {T : Type 0} (written : T → Tree) (whole : Tree) (there : Option T) → ((trees : Option Tree) → whole ≡ option_tree (λ (tree : Tree). tree) trees → ⊥)
    → whole ≡ option_tree written there → ⊥
no_option written whole there none same = none (option_map written there) (same ∙ as_trees written there)

-- nor is one of a tree that nothing is written as
pub other_inside : {T : Type 0} (written : T → Tree) (Each : T → Type 0) (whole one : Tree) (there : Option T) → whole ≡ Items (item one no_items)
    → IfSome there Each → ((it : T) → Each it → one ≡ written it → ⊥) → whole ≡ option_tree written there → ⊥
other_inside written Each whole one None is fits never same = let e : Items (item one no_items) ≡ Items no_items = sym is ∙ same in absurd (cc)
other_inside written Each whole one (Some it) is fits never same =
    let e : Items (item one no_items) ≡ Items (item (written it) no_items) = sym is ∙ same in
    let inner : one ≡ written it = cc in
    never it fits inner

pub one_inside : {T : Type 0} (written : T → Tree) (whole one : Tree) (it : T) → whole ≡ Items (item one no_items) → one ≡ written it → whole ≡ option_tree written (Some it)
one_inside written whole one it is same = is ∙ ap (λ (tree : Tree). Items (item tree no_items)) same

-- options that are written alike are the same, where what may be there is
pub same_options : {T : Type 0} (written : T → Tree) (Each : T → Type 0) → ((x y : T) → Each x → Each y → written x ≡ written y → x ≡ y)
    → (a b : Option T) → IfSome a Each → IfSome b Each → option_tree written a ≡ option_tree written b → a ≡ b
same_options written Each same None None fits_a fits_b e = refl
same_options written Each same None (Some y) fits_a fits_b e = let f : Items no_items ≡ Items (item (written y) no_items) = e in absurd (cc)
same_options written Each same (Some x) None fits_a fits_b e = let f : Items (item (written x) no_items) ≡ Items no_items = e in absurd (cc)
same_options written Each same (Some x) (Some y) fits_a fits_b e =
    let f : Items (item (written x) no_items) ≡ Items (item (written y) no_items) = e in
    let inner : written x ≡ written y = cc in
    ap Some (same x y fits_a fits_b inner)

pub option_spelled : {T : Type 0} (written : T → Tree) (most : ℕ) → ((it : T) → Spelled most (written it)) → (there : Option T) → Spelled (1 + most) (option_tree written there)
option_spelled written most each None = record { ints = tt; deep = omega arith }
option_spelled written most each (Some it) = let one = each it in record { ints = (one.ints, tt); deep = omega (arith, one.deep) }

-- Trees whose integers fit and that are so deep at most.
use Rattle.std.proofs.Common.{ℕ, pos, ◌+◌, ◌≤◌, ◌^◌, List, [], ◌∷◌, map, sym, subst, arith}
use Rattle.std.proofs.Common.{inl, inr}
use Rattle.std.proofs.lemmas.Bool.{cases_lt}
use Rattle.std.specs.Int.{w64, to_be_bytes}
use Rattle.ng_bencode.specs.Tree.{Tree, Int, Bytes, items_of, depth, items_depth}
use Rattle.ng_bencode.specs.Spells.{IntsFit, ItemsIntsFit}
use Rattle.state_values.specs.Numbers.{number_tree, list_tree}
use Rattle.state_values.proofs.NumberTrees.{small_tree, large_tree}

pub record Spelled (most : ℕ) (tree : Tree) : Type 0 where
  pub ints : IntsFit tree
  pub deep : depth tree ≤ most

pub number_spelled : (n : ℕ) → Spelled 0 (number_tree n)
number_spelled n = elim (cases_lt n (2 ^ 63)) [
  | inl low ↦ let fits : Spelled 0 (Int (pos n)) = record { ints = record { sfits = low }; deep = omega arith } in subst (λ (t : Tree). Spelled 0 t) (sym (small_tree n low)) fits
  | inr high ↦ let fits : Spelled 0 (Bytes (to_be_bytes w64 n)) = record { ints = tt; deep = omega arith } in subst (λ (t : Tree). Spelled 0 t) (sym (large_tree n high)) fits
]

items_spelled : {T : Type 0} (written : T → Tree) (most : ℕ) → ((it : T) → Spelled most (written it)) → (these : List T)
    → ItemsIntsFit (items_of (map written these)) × (items_depth (items_of (map written these)) ≤ most)
items_spelled written most each [] = (tt, omega arith)
items_spelled written most each (it ∷ these) =
    let one = each it in
    let more = items_spelled written most each these in
    ((one.ints, more.0), omega (arith, one.deep, more.1))

pub list_spelled : {T : Type 0} (written : T → Tree) (most : ℕ) → ((it : T) → Spelled most (written it)) → (these : List T)
    → Spelled (1 + most) (list_tree written these)
list_spelled written most each these =
    let items = items_spelled written most each these in
    record { ints = items.0; deep = omega (arith, items.1) }

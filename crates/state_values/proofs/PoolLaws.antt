-- Pools that are written alike, and that each is spelled.
use Rattle.std.proofs.Common.{◌≡◌, ℕ, ◌<◌, ◌^◌, ◌∙◌, List, All, map, refl, sym, arith}
use Rattle.std.proofs.lemmas.List.{map-id}
use Rattle.std.proofs.lemmas.List.Elements.{All-weaker}
use Rattle.ng_bencode.specs.Spells.{spelling, Spells}
use Rattle.port_pool.specs.declared.saved_pool.PoolSaved.{PoolSaved}
use Rattle.port_pool.specs.SavedPools.{saved_pairs}
use Rattle.state_values.specs.Numbers.{number_tree, list_tree}
use Rattle.state_values.specs.PoolTrees.{pool_tree, FitsPoolSaved}
use Rattle.state_values.proofs.NumberTrees.{same_number}
use Rattle.state_values.proofs.ListTrees.{same_list, same_seen}
use Rattle.state_values.proofs.KeyedTrees.{same_entries, same_value, same_rest}
use Rattle.state_values.proofs.Spelled.{number_spelled, list_spelled}

abbrev IsLong : ℕ → Type 0
IsLong n = n < 2 ^ 64

abbrev IsWord : ℕ → Type 0
IsWord n = n < 2 ^ 32

pub same_numbers : (a b : List ℕ) → All IsLong a → All IsLong b → list_tree number_tree a ≡ list_tree number_tree b → a ≡ b
same_numbers a b fits_a fits_b same =
    sym (map-id a)
    ∙ same_seen number_tree (λ (n : ℕ). n) IsLong (λ m n low small e. same_number m n low small e) a b fits_a fits_b (same_list number_tree (list_tree number_tree a) (map number_tree a) b refl same)
    ∙ map-id b

long : (numbers : List ℕ) → All IsWord numbers → All IsLong numbers
long numbers words = All-weaker IsWord IsLong (λ n low. omega arith) numbers words

pub same_pools : (a b : PoolSaved) → FitsPoolSaved a → FitsPoolSaved b → a.first_port ≡ b.first_port → a.per_family ≡ b.per_family
    → pool_tree a ≡ pool_tree b → saved_pairs a ≡ saved_pairs b
same_pools a b fits_a fits_b first_port per_family same =
    let first = same_entries same in
    let second = same_rest first in
    let third = same_rest second in
    let free4 = same_numbers a.free4.items b.free4.items (long a.free4.items fits_a.free4) (long b.free4.items fits_b.free4) (same_value first) in
    let free6 = same_numbers a.free6.items b.free6.items (long a.free6.items fits_a.free6) (long b.free6.items fits_b.free6) (same_value second) in
    let generations = same_numbers a.generations.items b.generations.items fits_a.generations fits_b.generations (same_value third) in
    λ i. record { first_port = first_port i; per_family = per_family i; free4 = free4 i; free6 = free6 i; generations = generations i }

pub pool_spelled : (saved : PoolSaved) → Spells (spelling (pool_tree saved)) (pool_tree saved)
pool_spelled saved =
    let free4 = list_spelled number_tree 0 number_spelled saved.free4.items in
    let free6 = list_spelled number_tree 0 number_spelled saved.free6.items in
    let generations = list_spelled number_tree 0 number_spelled saved.generations.items in
    record { ints = (free4.ints, (free6.ints, (generations.ints, tt))); deep = omega (arith, free4.deep, free6.deep, generations.deep); spelled = refl }

-- The pairs of a family, upwards.
use Rattle.std.proofs.Common.{◌≡◌, ◌∙◌, sym, ap, refl, ℕ, zero, suc, ◌+◌, ◌<◌, ◌≤◌, [], ◌∷◌, ◌++◌, true, false, cond, nat_lt, append-nil, arith}
use Rattle.std.proofs.lemmas.List.Elements.{filter-append}
use Rattle.std.proofs.lemmas.Grind.{common_steps}
use Rattle.histories.specs.Words.{numbers}
use Rattle.relay_outside.specs.declared.settings.Config.{Config}
use Rattle.relay_outside.specs.declared.address.Family.{Family}
use Rattle.relay_outside.specs.declared.address.Family.TheVariants.{V4, V6}
use Rattle.port_pool.specs.Ports.{range_pairs, pair_count, pair_family, family_eq, pairs_of_family}
use Rattle.port_pool.proofs.Queue.{numbers_split}

-- a pair below the number of those of a family is of version 4, and every other one of version 6
pub first_family : (config : Config) (pair : ℕ) → pair < range_pairs config → pair_family config pair ≡ V4
first_family config pair below = ap (λ b. cond b V4 V6) (let e : nat_lt pair (range_pairs config) ≡ true = grind (arith, common_steps) in e)

pub other_family : (config : Config) (pair : ℕ) → range_pairs config ≤ pair → pair_family config pair ≡ V6
other_family config pair later = ap (λ b. cond b V4 V6) (let e : nat_lt pair (range_pairs config) ≡ false = grind (arith, common_steps) in e)

kept_numbers : (config : Config) (family is : Family) (n count : ℕ) → family_eq is family ≡ true → ((pair : ℕ) → n ≤ pair → pair < n + count → pair_family config pair ≡ is)
    → pairs_of_family config (numbers n count) family ≡ numbers n count
kept_numbers config family is n zero same all = refl
kept_numbers config family is n (suc count) same all =
    let first : family_eq (pair_family config n) family ≡ true = ap (λ f. family_eq f family) (all n (omega arith) (omega arith)) ∙ same in
    ap (λ b. cond b (n ∷ pairs_of_family config (numbers (suc n) count) family) (pairs_of_family config (numbers (suc n) count) family)) first
    ∙ ap (λ ps. n ∷ ps) (kept_numbers config family is (suc n) count same (λ pair low high. all pair (omega (arith, low)) (omega (arith, high))))

left_numbers : (config : Config) (family is : Family) (n count : ℕ) → family_eq is family ≡ false → ((pair : ℕ) → n ≤ pair → pair < n + count → pair_family config pair ≡ is)
    → pairs_of_family config (numbers n count) family ≡ []
left_numbers config family is n zero same all = refl
left_numbers config family is n (suc count) same all =
    let first : family_eq (pair_family config n) family ≡ false = ap (λ f. family_eq f family) (all n (omega arith) (omega arith)) ∙ same in
    ap (λ b. cond b (n ∷ pairs_of_family config (numbers (suc n) count) family) (pairs_of_family config (numbers (suc n) count) family)) first
    ∙ left_numbers config family is (suc n) count same (λ pair low high. all pair (omega (arith, low)) (omega (arith, high)))

both_numbers : (config : Config) (family : Family) (per others : ℕ) → per + others ≡ pair_count config
    → pairs_of_family config (numbers 0 (pair_count config)) family ≡ pairs_of_family config (numbers 0 per) family ++ pairs_of_family config (numbers per others) family
both_numbers config family per others all =
    ap (λ count. pairs_of_family config (numbers 0 count) family) (sym all)
    ∙ ap (λ ps. pairs_of_family config ps family) (numbers_split 0 per others ∙ ap (λ n. numbers 0 per ++ numbers n others) (let e : 0 + per ≡ per = omega arith in e))
    ∙ filter-append (λ pair. family_eq (pair_family config pair) family) (numbers 0 per) (numbers per others)

-- those of version 4 are the first ones
pub first_numbers : (config : Config) (per others : ℕ) → per ≡ range_pairs config → per + others ≡ pair_count config → numbers 0 per ≡ pairs_of_family config (numbers 0 (pair_count config)) V4
first_numbers config per others is all =
    sym (both_numbers config V4 per others all
    ∙ ap (λ ps. ps ++ pairs_of_family config (numbers per others) V4) (kept_numbers config V4 V4 0 per refl (λ pair low high. first_family config pair (omega (arith, high, is))))
    ∙ ap (λ ps. numbers 0 per ++ ps) (left_numbers config V4 V6 per others refl (λ pair low high. other_family config pair (omega (arith, low, is))))
    ∙ append-nil (numbers 0 per))

-- those of version 6 are all others
pub other_numbers : (config : Config) (per others : ℕ) → per ≡ range_pairs config → per + others ≡ pair_count config → numbers per others ≡ pairs_of_family config (numbers 0 (pair_count config)) V6
other_numbers config per others is all =
    sym (both_numbers config V6 per others all
    ∙ ap (λ ps. ps ++ pairs_of_family config (numbers per others) V6) (left_numbers config V6 V4 0 per refl (λ pair low high. first_family config pair (omega (arith, high, is))))
    ∙ kept_numbers config V6 V6 per others refl (λ pair low high. other_family config pair (omega (arith, low, is))))

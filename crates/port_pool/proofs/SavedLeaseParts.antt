-- What a saved lease is made of, read again.
use Rattle.std.proofs.Common.{◌≡◌, ℕ, zero, suc, ◌<◌, List, [], ◌∷◌, ◌++◌, length, map, get_or, take, drop, refl, sym, ap, ◌∙◌, arith}
use Rattle.std.specs.Int.{w16, w32, w64, to_be_bytes, from_be_bytes}
use Rattle.std.specs.List.{range_with_len}
use Rattle.std.proofs.lemmas.Nat.{be_bytes_2, be_bytes_4, be_bytes_8, from_be_bytes-to_be_bytes_2, from_be_bytes-to_be_bytes_4, from_be_bytes-to_be_bytes_8}
use Rattle.std.proofs.lemmas.List.{ext_get_or}
use Rattle.std.proofs.lemmas.List.FromFn.{length-map-range_with_len, get_or-map-range_with_len}
use Rattle.relay_outside.specs.declared.address.Family.{Family}
use Rattle.relay_outside.specs.declared.address.Family.TheVariants.{V4, V6}
use Rattle.port_pool.specs.declared.pairs.Lease.{Lease}
use Rattle.port_pool.specs.SavedLeases.{FitsLease, saved_lease, family_version}

abbrev pub pair_in : List ℕ → List ℕ
pair_in s = get_or s 0 0 ∷ get_or s 1 0 ∷ get_or s 2 0 ∷ get_or s 3 0 ∷ []

abbrev pub port_in : List ℕ → List ℕ
port_in s = get_or s 5 0 ∷ get_or s 6 0 ∷ []

abbrev pub generation_in : List ℕ → List ℕ
generation_in s = get_or s 7 0 ∷ get_or s 8 0 ∷ get_or s 9 0 ∷ get_or s 10 0 ∷ get_or s 11 0 ∷ get_or s 12 0 ∷ get_or s 13 0 ∷ get_or s 14 0 ∷ []

whole : (s : List ℕ) → length s ≡ 15 → pair_in s ++ (get_or s 4 0 ∷ (port_in s ++ generation_in s)) ≡ s
whole s long =
    let size : length (map (λ k. get_or s k 0) (range_with_len 0 15)) ≡ 15 = length-map-range_with_len (λ (k : ℕ). get_or s k 0) 0 15 in
    ext_get_or 0 _ _ (size ∙ sym long) (λ i h. get_or-map-range_with_len (λ (k : ℕ). get_or s k 0) 0 15 i i 0 (omega (arith, size)) (omega arith))

pair_small : (s : List ℕ) → ((i : ℕ) → get_or s i 0 < 256) → (i : ℕ) → get_or (pair_in s) i 0 < 256
pair_small s small zero = small 0
pair_small s small (suc zero) = small 1
pair_small s small (suc (suc zero)) = small 2
pair_small s small (suc (suc (suc zero))) = small 3
pair_small s small (suc (suc (suc (suc i)))) = omega arith

port_small : (s : List ℕ) → ((i : ℕ) → get_or s i 0 < 256) → (i : ℕ) → get_or (port_in s) i 0 < 256
port_small s small zero = small 5
port_small s small (suc zero) = small 6
port_small s small (suc (suc i)) = omega arith

generation_small : (s : List ℕ) → ((i : ℕ) → get_or s i 0 < 256) → (i : ℕ) → get_or (generation_in s) i 0 < 256
generation_small s small zero = small 7
generation_small s small (suc zero) = small 8
generation_small s small (suc (suc zero)) = small 9
generation_small s small (suc (suc (suc zero))) = small 10
generation_small s small (suc (suc (suc (suc zero)))) = small 11
generation_small s small (suc (suc (suc (suc (suc zero))))) = small 12
generation_small s small (suc (suc (suc (suc (suc (suc zero)))))) = small 13
generation_small s small (suc (suc (suc (suc (suc (suc (suc zero))))))) = small 14
generation_small s small (suc (suc (suc (suc (suc (suc (suc (suc i)))))))) = omega arith

pub lease_parts : (s : List ℕ) (pair port generation : ℕ) → length s ≡ 15 → ((i : ℕ) → get_or s i 0 < 256)
    → pair ≡ from_be_bytes w32 (pair_in s) → port ≡ from_be_bytes w16 (port_in s) → generation ≡ from_be_bytes w64 (generation_in s)
    → s ≡ to_be_bytes w32 pair ++ (get_or s 4 0 ∷ (to_be_bytes w16 port ++ to_be_bytes w64 generation))
lease_parts s pair port generation long small en ep eg =
    let n = be_bytes_4 (pair_in s) pair refl (pair_small s small) en in
    let p = be_bytes_2 (port_in s) port refl (port_small s small) ep in
    let g = be_bytes_8 (generation_in s) generation refl (generation_small s small) eg in
    sym ((λ i. n i ++ (get_or s 4 0 ∷ (p i ++ g i))) ∙ whole s long)

same_family : (a b : Family) → family_version a ≡ family_version b → a ≡ b
same_family V4 V4 same = refl
same_family V4 V6 same = absurd cc
same_family V6 V4 same = absurd cc
same_family V6 V6 same = refl

pub same_version : (lease : Lease) (pair byte port generation : ℕ)
    → saved_lease lease ≡ to_be_bytes w32 pair ++ (byte ∷ (to_be_bytes w16 port ++ to_be_bytes w64 generation)) → family_version lease.family ≡ byte
unfolding saved_lease
same_version lease pair byte port generation same = ap (λ s. get_or s 4 0) same

pub same_lease : (a b : Lease) → FitsLease a → FitsLease b → saved_lease a ≡ saved_lease b → a ≡ b
unfolding saved_lease
same_lease a b fits_a fits_b same =
    let pair : to_be_bytes w32 a.pair ≡ to_be_bytes w32 b.pair = ap (λ s. take 4 s) same in
    let port : to_be_bytes w16 a.rtp_port ≡ to_be_bytes w16 b.rtp_port = ap (λ s. take 2 (drop 5 s)) same in
    let generation : to_be_bytes w64 a.generation ≡ to_be_bytes w64 b.generation = ap (λ s. drop 7 s) same in
    let pairs = sym (from_be_bytes-to_be_bytes_4 a.pair fits_a.pair) ∙ ap (from_be_bytes w32) pair ∙ from_be_bytes-to_be_bytes_4 b.pair fits_b.pair in
    let ports = sym (from_be_bytes-to_be_bytes_2 a.rtp_port fits_a.rtp_port) ∙ ap (from_be_bytes w16) port ∙ from_be_bytes-to_be_bytes_2 b.rtp_port fits_b.rtp_port in
    let generations = sym (from_be_bytes-to_be_bytes_8 a.generation fits_a.generation) ∙ ap (from_be_bytes w64) generation ∙ from_be_bytes-to_be_bytes_8 b.generation fits_b.generation in
    let families = same_family a.family b.family (ap (λ s. get_or s 4 0) same) in
    λ i. record { pair = pairs i; family = families i; rtp_port = ports i; generation = generations i }

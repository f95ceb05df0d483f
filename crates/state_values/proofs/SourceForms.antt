-- The bytes of an address.
use Rattle.std.proofs.Common.{◌≡◌, ℕ, ◌<◌, ◌^◌, List, [], ◌∷◌, ◌++◌, length, map, get_or, refl, sym, ap, ◌∙◌, arith, ◌⊎◌, inl, inr}
use Rattle.std.specs.Int.{w16, to_be_bytes, from_be_bytes}
use Rattle.std.proofs.lemmas.List.{length-append}
use Rattle.std.proofs.Common.{zero, suc}
use Rattle.std.specs.List.{range_with_len}
use Rattle.std.proofs.lemmas.List.{ext_get_or}
use Rattle.std.proofs.lemmas.List.FromFn.{length-map-range_with_len, get_or-map-range_with_len}
use Rattle.std.proofs.lemmas.Nat.{be_bytes_2, from_be_bytes-to_be_bytes_2}
use Rattle.relay_outside.specs.declared.address.Addr.{Addr}
use Rattle.relay_outside.specs.declared.address.Ip.{Ip}
use Rattle.relay_outside.specs.declared.address.Ip.TheVariants as ip
use Rattle.endpoint_learn.specs.SavedLearners.{FitsIp, FitsAddr}
use Rattle.state_values.specs.CacheTrees.{source_octets, source_bytes}

abbrev made : Ip → ℕ → Addr
made a p = record { ip = a; port = p }

-- 6 bytes or 18
pub long_source : (source : Addr) → FitsAddr source → (length (source_bytes source) ≡ 6) ⊎ (length (source_bytes source) ≡ 18)
long_source source fits = by_ip source.ip fits.ip
  where
    by_ip : (a : Ip) → FitsIp a → (length (source_bytes (made a source.port)) ≡ 6) ⊎ (length (source_bytes (made a source.port)) ≡ 18)
    by_ip (ip.V4 a) long = inl (length-append a (to_be_bytes w16 source.port) ∙ omega (arith, long))
    by_ip (ip.V6 a) long = inr (length-append a (to_be_bytes w16 source.port) ∙ omega (arith, long))

-- bytes of the same length in front are the same, and so is what follows
same_parts : (a b x y : List ℕ) → length a ≡ length b → a ++ x ≡ b ++ y → (a ≡ b) × (x ≡ y)
same_parts [] [] x y long e = (refl, e)
same_parts [] (q ∷ b) x y long e = absurd (omega arith)
same_parts (p ∷ a) [] x y long e = absurd (omega arith)
same_parts (p ∷ a) (q ∷ b) x y long e =
    let f : ◌≡◌ {A = List ℕ} (p ∷ (a ++ x)) (q ∷ (b ++ y)) = e in
    let head : p ≡ q = cc in
    let tail : a ++ x ≡ b ++ y = cc in
    let rest = same_parts a b x y (omega arith) tail in
    ((λ i. head i ∷ rest.0 i), rest.1)

same_port : (p q : ℕ) → p < 2 ^ 16 → q < 2 ^ 16 → to_be_bytes w16 p ≡ to_be_bytes w16 q → p ≡ q
same_port p q low small e = sym (from_be_bytes-to_be_bytes_2 p low) ∙ ap (from_be_bytes w16) e ∙ from_be_bytes-to_be_bytes_2 q small

by_hosts : (a b : Ip) (p q : ℕ) → FitsIp a → FitsIp b → p < 2 ^ 16 → q < 2 ^ 16 → source_bytes (made a p) ≡ source_bytes (made b q) → made a p ≡ made b q
by_hosts (ip.V4 a) (ip.V4 b) p q long_a long_b low small e =
    let parts = same_parts a b (to_be_bytes w16 p) (to_be_bytes w16 q) (long_a ∙ sym long_b) e in
    let port = same_port p q low small parts.1 in
    (λ i. made (ip.V4 (parts.0 i)) (port i))
by_hosts (ip.V4 a) (ip.V6 b) p q long_a long_b low small e =
    let f : length (a ++ to_be_bytes w16 p) ≡ length (b ++ to_be_bytes w16 q) = ap (λ (s : List ℕ). length s) e in
    absurd (omega (arith, length-append a (to_be_bytes w16 p), length-append b (to_be_bytes w16 q), long_a, long_b))
by_hosts (ip.V6 a) (ip.V4 b) p q long_a long_b low small e =
    let f : length (a ++ to_be_bytes w16 p) ≡ length (b ++ to_be_bytes w16 q) = ap (λ (s : List ℕ). length s) e in
    absurd (omega (arith, length-append a (to_be_bytes w16 p), length-append b (to_be_bytes w16 q), long_a, long_b))
by_hosts (ip.V6 a) (ip.V6 b) p q long_a long_b low small e =
    let parts = same_parts a b (to_be_bytes w16 p) (to_be_bytes w16 q) (long_a ∙ sym long_b) e in
    let port = same_port p q low small parts.1 in
    (λ i. made (ip.V6 (parts.0 i)) (port i))

-- addresses without ports
pub same_host : (a b : Ip) → FitsIp a → FitsIp b → source_octets a ≡ source_octets b → a ≡ b
same_host (ip.V4 a) (ip.V4 b) long_a long_b e = ap ip.V4 e
same_host (ip.V4 a) (ip.V6 b) long_a long_b e =
    let f : length a ≡ length b = ap (λ (s : List ℕ). length s) e in
    absurd (omega (arith, long_a, long_b))
same_host (ip.V6 a) (ip.V4 b) long_a long_b e =
    let f : length a ≡ length b = ap (λ (s : List ℕ). length s) e in
    absurd (omega (arith, long_a, long_b))
same_host (ip.V6 a) (ip.V6 b) long_a long_b e = ap ip.V6 e

pub same_source : (a b : Addr) → FitsAddr a → FitsAddr b → source_bytes a ≡ source_bytes b → a ≡ b
same_source a b fits_a fits_b e = by_hosts a.ip b.ip a.port b.port fits_a.ip fits_b.ip fits_a.port fits_b.port e

-- ---- 18 bytes that are read

whole_18 : (s : List ℕ) → length s ≡ 18 → get_or s 0 0 ∷ get_or s 1 0 ∷ get_or s 2 0 ∷ get_or s 3 0 ∷ get_or s 4 0 ∷ get_or s 5 0 ∷ get_or s 6 0 ∷ get_or s 7 0 ∷ get_or s 8 0 ∷ get_or s 9 0 ∷ get_or s 10 0 ∷ get_or s 11 0 ∷ get_or s 12 0 ∷ get_or s 13 0 ∷ get_or s 14 0 ∷ get_or s 15 0 ∷ (get_or s 16 0 ∷ get_or s 17 0 ∷ []) ≡ s
whole_18 s long =
    let size : length (map (λ k. get_or s k 0) (range_with_len 0 18)) ≡ 18 = length-map-range_with_len (λ (k : ℕ). get_or s k 0) 0 18 in
    ext_get_or 0 _ _ (size ∙ sym long) (λ i h. get_or-map-range_with_len (λ (k : ℕ). get_or s k 0) 0 18 i i 0 (omega (arith, size)) (omega arith))

port_small : (s : List ℕ) → ((i : ℕ) → get_or s i 0 < 256) → (i : ℕ) → get_or (get_or s 16 0 ∷ get_or s 17 0 ∷ []) i 0 < 256
port_small s small zero = small 16
port_small s small (suc zero) = small 17
port_small s small (suc (suc i)) = omega arith

pub eighteen : (s : List ℕ) (port : ℕ) → length s ≡ 18 → ((i : ℕ) → get_or s i 0 < 256) → port ≡ from_be_bytes w16 (get_or s 16 0 ∷ get_or s 17 0 ∷ [])
    → s ≡ get_or s 0 0 ∷ get_or s 1 0 ∷ get_or s 2 0 ∷ get_or s 3 0 ∷ get_or s 4 0 ∷ get_or s 5 0 ∷ get_or s 6 0 ∷ get_or s 7 0 ∷ get_or s 8 0 ∷ get_or s 9 0 ∷ get_or s 10 0 ∷ get_or s 11 0 ∷ get_or s 12 0 ∷ get_or s 13 0 ∷ get_or s 14 0 ∷ get_or s 15 0 ∷ to_be_bytes w16 port
eighteen s port long small is =
    let p = be_bytes_2 (get_or s 16 0 ∷ get_or s 17 0 ∷ []) port refl (port_small s small) is in
    sym ((λ i. get_or s 0 0 ∷ get_or s 1 0 ∷ get_or s 2 0 ∷ get_or s 3 0 ∷ get_or s 4 0 ∷ get_or s 5 0 ∷ get_or s 6 0 ∷ get_or s 7 0 ∷ get_or s 8 0 ∷ get_or s 9 0 ∷ get_or s 10 0 ∷ get_or s 11 0 ∷ get_or s 12 0 ∷ get_or s 13 0 ∷ get_or s 14 0 ∷ get_or s 15 0 ∷ p i) ∙ whole_18 s long)

-- ---- 16 bytes that are read

pub whole_16 : (s : List ℕ) → length s ≡ 16 → s ≡ get_or s 0 0 ∷ get_or s 1 0 ∷ get_or s 2 0 ∷ get_or s 3 0 ∷ get_or s 4 0 ∷ get_or s 5 0 ∷ get_or s 6 0 ∷ get_or s 7 0 ∷ get_or s 8 0 ∷ get_or s 9 0 ∷ get_or s 10 0 ∷ get_or s 11 0 ∷ get_or s 12 0 ∷ get_or s 13 0 ∷ get_or s 14 0 ∷ get_or s 15 0 ∷ []
whole_16 s long =
    let size : length (map (λ k. get_or s k 0) (range_with_len 0 16)) ≡ 16 = length-map-range_with_len (λ (k : ℕ). get_or s k 0) 0 16 in
    sym (ext_get_or 0 _ _ (size ∙ sym long) (λ i h. get_or-map-range_with_len (λ (k : ℕ). get_or s k 0) 0 16 i i 0 (omega (arith, size)) (omega arith)))

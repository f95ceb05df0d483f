-- A key is that of one source and one cookie.
use Rattle.std.proofs.Common.{◌≡◌, ◌∙◌, refl, sym, ap, ℕ, ◌/◌, ◌%◌, ◌<◌, List, [], ◌∷◌, ◌++◌, length, drop, get_or, Bool, true, false, ◌&&◌, nat_eq, arith, true≢false}
use Rattle.std.specs.Cmp.Lexicographic.{pointwise, bytes_decides}
use Rattle.std.specs.Int.{w16, to_be_bytes}
use Rattle.relay_outside.specs.declared.address.Addr.{Addr}
use Rattle.relay_outside.specs.declared.address.Ip.{Ip}
use Rattle.relay_outside.specs.declared.address.Ip.TheVariants as ip
use Rattle.relay_outside.specs.Ports.{same_addr}
use Rattle.cookie_cache.specs.Entries.{host_bytes, cache_key}
use Rattle.cookie_cache.specs.Caches.{IsHost, IsSource}
use Rattle.cookie_cache.proofs.Matching.{first_true, second_true, both_true, addr_from_test, addr_test}

head_of : (x y : ℕ) (xs ys : List ℕ) → x ∷ xs ≡ y ∷ ys → x ≡ y
head_of x y xs ys h = ap (λ l. get_or l 0 0) h

tail_of : (x y : ℕ) (xs ys : List ℕ) → x ∷ xs ≡ y ∷ ys → xs ≡ ys
tail_of x y xs ys h = ap (drop 1) h

-- two lists that begin with as many elements
append_parts : (xs ys ps qs : List ℕ) → length xs ≡ length ys → xs ++ ps ≡ ys ++ qs → (xs ≡ ys) × (ps ≡ qs)
append_parts [] [] ps qs long h = (refl, h)
append_parts [] (y ∷ ys) ps qs long h = absurd (omega arith)
append_parts (x ∷ xs) [] ps qs long h = absurd (omega arith)
append_parts (x ∷ xs) (y ∷ ys) ps qs long h =
    let rest = append_parts xs ys ps qs (omega arith) (tail_of x y (xs ++ ps) (ys ++ qs) h) in
    let first : x ≡ y = head_of x y (xs ++ ps) (ys ++ qs) h in
    ((λ i. first i ∷ rest.0 i), rest.1)

hosts : (a b : Ip) (ps qs : List ℕ) → IsHost a → IsHost b → host_bytes a ++ ps ≡ host_bytes b ++ qs → (a ≡ b) × (ps ≡ qs)
hosts (ip.V4 x) (ip.V4 y) ps qs long short h =
    let parts = append_parts x y ps qs (long ∙ sym short) (tail_of 4 4 (x ++ ps) (y ++ qs) h) in
    (ap ip.V4 parts.0, parts.1)
hosts (ip.V4 x) (ip.V6 y) ps qs long short h = absurd (true≢false (ap (λ l. nat_eq (get_or l 0 0) 4) h))
hosts (ip.V6 x) (ip.V4 y) ps qs long short h = absurd (true≢false (ap (λ l. nat_eq (get_or l 0 0) 6) h))
hosts (ip.V6 x) (ip.V6 y) ps qs long short h =
    let parts = append_parts x y ps qs (long ∙ sym short) (tail_of 6 6 (x ++ ps) (y ++ qs) h) in
    (ap ip.V6 parts.0, parts.1)

ports : (p q : ℕ) (cs ds : List ℕ) → p < 65536 → q < 65536 → to_be_bytes w16 p ++ cs ≡ to_be_bytes w16 q ++ ds → (p ≡ q) × (cs ≡ ds)
ports p q cs ds low small h =
    let high : p / 256 % 256 ≡ q / 256 % 256 = head_of (p / 256 % 256) (q / 256 % 256) (p % 256 ∷ cs) (q % 256 ∷ ds) h in
    let rest : p % 256 ∷ cs ≡ q % 256 ∷ ds = tail_of (p / 256 % 256) (q / 256 % 256) (p % 256 ∷ cs) (q % 256 ∷ ds) h in
    let least : p % 256 ≡ q % 256 = head_of (p % 256) (q % 256) cs ds rest in
    (omega arith, tail_of (p % 256) (q % 256) cs ds rest)

keys : (s t : Addr) (cs ds : List ℕ) → IsSource s → IsSource t → cache_key s cs ≡ cache_key t ds → (s ≡ t) × (cs ≡ ds)
keys s t cs ds one other h =
    let host = hosts s.ip t.ip (to_be_bytes w16 s.port ++ cs) (to_be_bytes w16 t.port ++ ds) one.host other.host h in
    let port = ports s.port t.port cs ds one.port other.port host.1 in
    ((λ i. record { ip = host.0 i; port = port.0 i }), port.1)

one_test : (a b : Bool) → (a ≡ true → b ≡ true) → (b ≡ true → a ≡ true) → a ≡ b
one_test true true f g = refl
one_test true false f g = sym (f refl)
one_test false true f g = g refl
one_test false false f g = refl

-- two keys are equal where the sources and the cookies are
pub key_test : (s t : Addr) (cs ds : List ℕ) → IsSource s → IsSource t → pointwise nat_eq (cache_key s cs) (cache_key t ds) ≡ (same_addr t s && pointwise nat_eq ds cs)
key_test s t cs ds one other = one_test (pointwise nat_eq (cache_key s cs) (cache_key t ds)) (same_addr t s && pointwise nat_eq ds cs) forth back
  where
    forth : pointwise nat_eq (cache_key s cs) (cache_key t ds) ≡ true → (same_addr t s && pointwise nat_eq ds cs) ≡ true
    forth h =
        let parts = keys s t cs ds one other ((bytes_decides (cache_key s cs) (cache_key t ds)).0 h) in
        both_true (same_addr t s) (pointwise nat_eq ds cs) (ap (λ a. same_addr t a) parts.0 ∙ addr_test t) ((bytes_decides ds cs).1 (sym parts.1))

    back : (same_addr t s && pointwise nat_eq ds cs) ≡ true → pointwise nat_eq (cache_key s cs) (cache_key t ds) ≡ true
    back h =
        let sources : t ≡ s = addr_from_test t s (first_true (same_addr t s) (pointwise nat_eq ds cs) h) in
        let cookies : ds ≡ cs = (bytes_decides ds cs).0 (second_true (same_addr t s) (pointwise nat_eq ds cs) h) in
        (bytes_decides (cache_key s cs) (cache_key t ds)).1 (sym (λ i. cache_key (sources i) (cookies i)))

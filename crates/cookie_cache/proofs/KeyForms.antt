-- The form of a key: that of a source and a cookie has it.
use Rattle.std.proofs.Common.{◌≡◌, refl, ℕ, ◌+◌, ◌++◌, List, [], ◌∷◌, length, IsTrue, true, arith, le-leb, length-append}
use Rattle.std.specs.Int.{w16, to_be_bytes}
use Rattle.relay_outside.specs.declared.address.Addr.{Addr}
use Rattle.relay_outside.specs.declared.address.Ip.{Ip}
use Rattle.relay_outside.specs.declared.address.Ip.TheVariants as ip
use Rattle.cookie_cache.specs.Keepings.{IsCookie}
use Rattle.cookie_cache.specs.Entries.{cache_key, host_bytes}
use Rattle.cookie_cache.specs.Caches.{IsHost, IsSource}
use Rattle.cookie_cache.specs.SavedReplies.{is_cache_key}

-- a list with no element
pub none_at_0 : {X : Type 0} (xs : List X) → length xs ≡ 0 → xs ≡ []
none_at_0 [] none = refl
none_at_0 (x ∷ xs) none = absurd (omega arith)

by_host : (host : Ip) (port : ℕ) (cookie : List ℕ) → IsHost host → IsCookie cookie → is_cache_key (host_bytes host ++ (to_be_bytes w16 port ++ cookie)) ≡ true
by_host (ip.V4 bytes) port cookie four fits =
    let long : length (bytes ++ (to_be_bytes w16 port ++ cookie)) ≡ 6 + length cookie = omega (arith, four, length-append bytes (to_be_bytes w16 port ++ cookie)) in
    rw (le-leb 7 (length (bytes ++ (to_be_bytes w16 port ++ cookie))) (omega (arith, long, fits.some)), le-leb (length (bytes ++ (to_be_bytes w16 port ++ cookie))) 261 (omega (arith, long, fits.short))) refl
by_host (ip.V6 bytes) port cookie sixteen fits =
    let long : length (bytes ++ (to_be_bytes w16 port ++ cookie)) ≡ 18 + length cookie = omega (arith, sixteen, length-append bytes (to_be_bytes w16 port ++ cookie)) in
    rw (le-leb 19 (length (bytes ++ (to_be_bytes w16 port ++ cookie))) (omega (arith, long, fits.some)), le-leb (length (bytes ++ (to_be_bytes w16 port ++ cookie))) 273 (omega (arith, long, fits.short))) refl

-- the key of a source and a cookie has the form of one
pub key_fits : (source : Addr) (cookie : List ℕ) → IsSource source → IsCookie cookie → IsTrue (is_cache_key (cache_key source cookie))
key_fits source cookie from fits = by_host source.ip source.port cookie from.host fits

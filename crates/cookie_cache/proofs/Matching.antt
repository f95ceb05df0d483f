-- The test `answers` says whether a keeping matches.
use Rattle.std.proofs.Common.{◌≡◌, ℕ, ◌+◌, ◌-◌, ◌<◌, List, Bool, true, false, ◌&&◌, refl, ap, arith, eqb-true, eq-eqb, ltb-true, lt-ltb}
use Rattle.std.specs.Cmp.Lexicographic.{bytes_decides}
use Rattle.relay_outside.specs.declared.address.Addr.{Addr}
use Rattle.relay_outside.specs.declared.address.Ip.{Ip}
use Rattle.relay_outside.specs.declared.address.Ip.TheVariants as ip
use Rattle.relay_outside.specs.Ports.{same_addr, same_ip}
use Rattle.cookie_cache.specs.Keepings.{Keeping, answers}
use Rattle.cookie_cache.specs.Latest.{MatchesCookie}
use Rattle.cookie_cache.proofs.Finding.{IsDecidedBy}

pub first_true : (a b : Bool) → a && b ≡ true → a ≡ true
first_true true b h = refl
first_true false b h = cc

pub second_true : (a b : Bool) → a && b ≡ true → b ≡ true
second_true true b h = h
second_true false b h = cc

pub both_true : (a b : Bool) → a ≡ true → b ≡ true → a && b ≡ true
both_true a b p q = rw (p, q) refl

ip_from_test : (a b : Ip) → same_ip a b ≡ true → a ≡ b
ip_from_test (ip.V4 a) (ip.V4 b) h = ap ip.V4 ((bytes_decides a b).0 h)
ip_from_test (ip.V4 a) (ip.V6 b) h = cc
ip_from_test (ip.V6 a) (ip.V4 b) h = cc
ip_from_test (ip.V6 a) (ip.V6 b) h = ap ip.V6 ((bytes_decides a b).0 h)

ip_test : (a : Ip) → same_ip a a ≡ true
ip_test (ip.V4 a) = (bytes_decides a a).1 refl
ip_test (ip.V6 a) = (bytes_decides a a).1 refl

pub addr_from_test : (a b : Addr) → same_addr a b ≡ true → a ≡ b
addr_from_test a b h =
    let hosts : a.ip ≡ b.ip = ip_from_test a.ip b.ip (first_true _ _ h) in
    let ports : a.port ≡ b.port = eqb-true a.port b.port (second_true _ _ h) in
    λ i. record { ip = hosts i; port = ports i }

pub addr_test : (a : Addr) → same_addr a a ≡ true
addr_test a = both_true _ _ (ip_test a.ip) (eq-eqb a.port a.port refl)

matches_from_test : (source : Addr) (cookie : List ℕ) (at : ℕ) (keeping : Keeping) → answers source cookie at keeping ≡ true → MatchesCookie source cookie at keeping
matches_from_test source cookie at keeping h =
    let who = first_true _ _ h in
    let lately : at - keeping.moment < 60000 = ltb-true (at - keeping.moment) 60000 (second_true _ _ h) in
    record {
      source_is = addr_from_test keeping.source source (first_true _ _ who);
      cookie_is = (bytes_decides keeping.cookie cookie).0 (second_true _ _ who);
      young = omega arith;
    }

test_from_matches : (source : Addr) (cookie : List ℕ) (at : ℕ) (keeping : Keeping) → MatchesCookie source cookie at keeping → answers source cookie at keeping ≡ true
test_from_matches source cookie at keeping m =
    let young : at < keeping.moment + 60000 = m.young in
    rw (← m.source_is, ← m.cookie_is)
    (both_true _ _ (both_true _ _ (addr_test keeping.source) ((bytes_decides keeping.cookie keeping.cookie).1 refl)) (lt-ltb (at - keeping.moment) 60000 (omega arith)))

pub answers_decides : (source : Addr) (cookie : List ℕ) (at : ℕ) → IsDecidedBy (MatchesCookie source cookie at) (answers source cookie at)
answers_decides source cookie at = record { yes = matches_from_test source cookie at; no = test_from_matches source cookie at }

-- The addresses of leases, lease by lease.
use Rattle.std.proofs.Common.{◌≡◌, ◌∙◌, ap, sym, subst, refl, ℕ, zero, suc, ◌+◌, ◌*◌, ◌<◌, ◌≤◌, true, List, [], ◌∷◌, ◌++◌, Some, length, take, drop, replicate, add-one, append_assoc, take-append-drop, arith}
use Rattle.std.proofs.lemmas.List.{length-map}
use Rattle.std.specs.Prelude.{slice_get}
use Rattle.std.specs.List.{AllZip}
use Rattle.relay_outside.specs.declared.address.Addr.{Addr}
use Rattle.relay_outside.specs.declared.settings.Config.{Config}
use Rattle.relay_outside.specs.declared.ports.PortCall.{PortCall}
use Rattle.relay_outside.specs.Ports.{IsOpen}
use Rattle.rtp_packet.specs.declared.head.Half.TheVariants.{Rtp, Rtcp}
use Rattle.port_pool.specs.Ports.{range_pairs}
use Rattle.port_pool.specs.Pools.{AreFree}
use Rattle.port_pool.proofs.Queue.{few_free}
use Rattle.port_pool.proofs.Addresses.{at_most_twice}
use Rattle.port_pool.specs.declared.pairs.Lease.{Lease}
use Rattle.media_ports.specs.Addresses.{pair_count, port_address, pair_addresses, pairs_of_leases, addresses_of, AreDistinct, AreLeased}
use Rattle.media_ports.specs.Calls.{openings, OpensPairs, Closes, ClosesUncalled, AllOpen}
use Rattle.media_ports.proofs.Closed.{OpensAll, closes_uncalled, zip-append}
use Rattle.media_ports.proofs.Apart.{all_open_after, distinct_before, distinct_behind}

-- Lists at a place.

pub take_next : {A : Type 0} (xs : List A) (i : ℕ) (x : A) → slice_get xs i ≡ Some x → take (i + 1) xs ≡ take i xs ++ x ∷ []
take_next {A} xs i x is = ap (λ n. take n xs) (add-one i) ∙ next xs i is
  where
    next : (xs : List A) (i : ℕ) → slice_get xs i ≡ Some x → take (suc i) xs ≡ take i xs ++ x ∷ []
    next [] i is = absurd (let f = is in cc)
    next (y ∷ ys) zero is = ap (λ z. z ∷ []) (let same : y ≡ x = (let f = is in cc) in same)
    next (y ∷ ys) (suc i) is = ap (λ zs. y ∷ zs) (next ys i is)

pub drop_next : {A : Type 0} (xs : List A) (i : ℕ) (x : A) → slice_get xs i ≡ Some x → drop i xs ≡ x ∷ drop (i + 1) xs
drop_next {A} xs i x is = next xs i is ∙ ap (λ n. x ∷ drop n xs) (sym (add-one i))
  where
    next : (xs : List A) (i : ℕ) → slice_get xs i ≡ Some x → drop i xs ≡ x ∷ drop (suc i) xs
    next [] i is = absurd (let f = is in cc)
    next (y ∷ ys) zero is = ap (λ z. z ∷ ys) (let same : y ≡ x = (let f = is in cc) in same)
    next (y ∷ ys) (suc i) is = next ys i is

pub get_take : {A : Type 0} (xs : List A) (n i : ℕ) (x : A) → i < n → slice_get xs i ≡ Some x → slice_get (take n xs) i ≡ Some x
get_take [] n i x within is = absurd (let f = is in cc)
get_take (y ∷ ys) zero i x within is = absurd (omega arith)
get_take (y ∷ ys) (suc n) zero x within is = is
get_take (y ∷ ys) (suc n) (suc i) x within is = get_take ys n i x (omega (arith, within)) is

-- Addresses.

pub addresses_of-append : (config : Config) (front back : List Lease) → addresses_of config (front ++ back) ≡ addresses_of config front ++ addresses_of config back
addresses_of-append config [] back = refl
addresses_of-append config (lease ∷ front) back = ap (λ (ats : List Addr). pair_addresses config (lease.pair ∷ []) ++ ats) (addresses_of-append config front back)

addresses_of-parts : (config : Config) (leases : List Lease) (n : ℕ) → addresses_of config leases ≡ addresses_of config (take n leases) ++ addresses_of config (drop n leases)
addresses_of-parts config leases n = ap (addresses_of config) (sym (take-append-drop n leases)) ∙ addresses_of-append config (take n leases) (drop n leases)

-- those of the first leases, and of those from a place on
pub first_distinct : (config : Config) (leases : List Lease) (n : ℕ) → AreDistinct (addresses_of config leases) → AreDistinct (addresses_of config (take n leases))
first_distinct config leases n are =
    distinct_before (addresses_of config (take n leases)) (addresses_of config (drop n leases)) (subst AreDistinct (addresses_of-parts config leases n) are)

pub later_distinct : (config : Config) (leases : List Lease) (n : ℕ) → AreDistinct (addresses_of config leases) → AreDistinct (addresses_of config (drop n leases))
later_distinct config leases n are =
    distinct_behind (addresses_of config (take n leases)) (addresses_of config (drop n leases)) (subst AreDistinct (addresses_of-parts config leases n) are)

-- the pair of a lease is one of the configuration
pub pair_within : (config : Config) (leases : List Lease) (i : ℕ) (lease : Lease) → slice_get leases i ≡ Some lease → AreFree (pair_count config) (pairs_of_leases leases) → lease.pair < pair_count config
pair_within config [] i lease is are = absurd (let f = is in cc)
pair_within config (first ∷ leases) zero lease is are =
    let same : first ≡ lease = (let f = is in cc) in
    subst (λ (one : Lease). one.pair < pair_count config) same are.0
pair_within config (first ∷ leases) (suc i) lease is are = pair_within config leases i lease is are.2

-- One more lease.

pub zip_more : (config : Config) (R : Addr → PortCall → Type 0) (leases : List Lease) (i : ℕ) (lease : Lease) (xs ys : List PortCall) → slice_get leases i ≡ Some lease →
    AllZip R (addresses_of config (take i leases)) xs → AllZip R (addresses_of config (lease ∷ [])) ys → AllZip R (addresses_of config (take (i + 1) leases)) (xs ++ ys)
zip_more config R leases i lease xs ys is front back =
    subst (λ (ats : List Addr). AllZip R ats (xs ++ ys)) (sym (ap (addresses_of config) (take_next leases i lease is) ∙ addresses_of-append config (take i leases) (lease ∷ [])))
    (zip-append R (addresses_of config (take i leases)) (addresses_of config (lease ∷ [])) xs ys front back)

-- what is open from a place on
pub open_here : (config : Config) (leases : List Lease) (i : ℕ) (lease : Lease) (calls : List PortCall) → slice_get leases i ≡ Some lease →
    AllOpen (addresses_of config (drop i leases)) calls → AllOpen (addresses_of config (lease ∷ [])) calls
open_here config leases i lease calls is open_ =
    let these = subst (λ (ls : List Lease). AllOpen (addresses_of config ls) calls) (drop_next leases i lease is) open_ in
    (these.0, (these.1.0, tt))

pub open_later : (config : Config) (leases : List Lease) (i : ℕ) (lease : Lease) (calls closes : List PortCall) → slice_get leases i ≡ Some lease → AreDistinct (addresses_of config leases) →
    AllOpen (addresses_of config (drop i leases)) calls → AllZip Closes (addresses_of config (lease ∷ [])) closes →
    AllOpen (addresses_of config (drop (i + 1) leases)) (calls ++ closes)
open_later config leases i lease calls closes is are open_ closed =
    let these = subst (λ (ls : List Lease). AllOpen (addresses_of config ls) calls) (drop_next leases i lease is) open_ in
    let distinct = subst (λ (ls : List Lease). AreDistinct (addresses_of config ls)) (drop_next leases i lease is) (later_distinct config leases i are) in
    all_open_after (addresses_of config (lease ∷ [])) (addresses_of config (drop (i + 1) leases)) closes calls distinct closed these.1.1

-- The first of the addresses.

pub take_addresses : (config : Config) (leases : List Lease) (n : ℕ) → take (2 * n) (addresses_of config leases) ≡ addresses_of config (take n leases)
take_addresses config leases zero = refl
take_addresses config [] (suc n) = ap (λ m. take m []) (let e : 2 * suc n ≡ suc (suc (2 * n)) = omega arith in e)
take_addresses config (lease ∷ leases) (suc n) =
    ap (λ m. take m (addresses_of config (lease ∷ leases))) (let e : 2 * suc n ≡ suc (suc (2 * n)) = omega arith in e)
    ∙ ap (λ (ats : List Addr). port_address config lease.pair Rtp ∷ port_address config lease.pair Rtcp ∷ ats) (take_addresses config leases n)

-- with the port for RTP of the next lease
pub take_half : (config : Config) (leases : List Lease) (n : ℕ) (lease : Lease) → slice_get leases n ≡ Some lease →
    take (2 * n + 1) (addresses_of config leases) ≡ addresses_of config (take n leases) ++ port_address config lease.pair Rtp ∷ []
take_half config [] n lease is = absurd (let f = is in cc)
take_half config (first ∷ leases) zero lease is =
    let same : first ≡ lease = (let f = is in cc) in
    ap (λ (these : Lease). port_address config these.pair Rtp ∷ []) same
take_half config (first ∷ leases) (suc n) lease is =
    ap (λ m. take m (addresses_of config (first ∷ leases))) (let e : 2 * suc n + 1 ≡ suc (suc (2 * n + 1)) = omega arith in e)
    ∙ ap (λ (ats : List Addr). port_address config first.pair Rtp ∷ port_address config first.pair Rtcp ∷ ats) (take_half config leases n lease is)

pub all_open_first : (ats : List Addr) (m k : ℕ) (calls : List PortCall) → AllOpen (take (m + k) ats) calls → AllOpen (take m ats) calls
all_open_first ats zero k calls open_ = tt
all_open_first [] (suc m) k calls open_ = tt
all_open_first (at ∷ ats) (suc m) k calls open_ =
    let more : AllOpen (take (suc (m + k)) (at ∷ ats)) calls = subst (λ (n : ℕ). AllOpen (take n (at ∷ ats)) calls) (let e : suc m + k ≡ suc (m + k) = omega arith in e) open_ in
    (more.0, all_open_first ats m k calls more.1)

all_open_last : (front : List Addr) (at : Addr) (calls : List PortCall) → AllOpen (front ++ at ∷ []) calls → AllOpen (at ∷ []) calls
all_open_last [] at calls open_ = open_
all_open_last (a ∷ front) at calls open_ = all_open_last front at calls open_.1

-- the port for RTP of the next lease is open still, when those of the first leases are closed
pub half_open : (config : Config) (leases : List Lease) (n : ℕ) (lease : Lease) (calls closes : List PortCall) → slice_get leases n ≡ Some lease → AreDistinct (addresses_of config leases) →
    AllOpen (take (2 * n + 1) (addresses_of config leases)) calls → AllZip ClosesUncalled (addresses_of config (take n leases)) closes →
    IsOpen (calls ++ closes) (port_address config lease.pair Rtp)
half_open config leases n lease calls closes is are open_ closed =
    let front = addresses_of config (take n leases) in
    let rtp = port_address config lease.pair Rtp in
    let rtcp = port_address config lease.pair Rtcp in
    let these = all_open_last front rtp calls (subst (λ (ats : List Addr). AllOpen ats calls) (take_half config leases n lease is) open_) in
    let more : AreDistinct (front ++ rtp ∷ rtcp ∷ []) =
    subst AreDistinct (ap (addresses_of config) (take_next leases n lease is) ∙ addresses_of-append config (take n leases) (lease ∷ [])) (first_distinct config leases (n + 1) are) in
    let distinct : AreDistinct (front ++ rtp ∷ []) = distinct_before (front ++ rtp ∷ []) (rtcp ∷ []) (subst AreDistinct (sym (append_assoc front (rtp ∷ []) (rtcp ∷ []))) more) in
    (all_open_after front (rtp ∷ []) closes calls distinct (closes_uncalled front closes closed) these).0

pub length-addresses_of : (config : Config) (leases : List Lease) → length (addresses_of config leases) ≡ 2 * length leases
length-addresses_of config [] = refl
length-addresses_of config (lease ∷ leases) = let rest = length-addresses_of config leases in omega (arith, rest)

-- the openings of all their ports
pub pairs_from_all : (config : Config) (leases : List Lease) (calls : List PortCall) → OpensAll (addresses_of config leases) calls → OpensPairs config leases calls
pairs_from_all config leases calls opens = opens ∙ ap (λ n. openings (addresses_of config leases) (replicate n true)) (length-addresses_of config leases)

pub all_from_pairs : (config : Config) (leases : List Lease) (calls : List PortCall) → OpensPairs config leases calls → OpensAll (addresses_of config leases) calls
all_from_pairs config leases calls opens = opens ∙ ap (λ n. openings (addresses_of config leases) (replicate n true)) (sym (length-addresses_of config leases))

-- there are not more leases than pairs
pub few_leases : (config : Config) (leases : List Lease) → config.port_max ≤ 65535 → AreLeased config leases → length leases ≤ 65536
unfolding range_pairs
few_leases config leases most leased =
    let few = few_free (pair_count config) (pairs_of_leases leases) leased.differ in
    let many = length-map leases (λ (lease : Lease). lease.pair) in
    let twice = at_most_twice config in
    omega (arith, few, many, twice, most)

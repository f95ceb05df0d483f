-- Openings one after another, up to one that fails, and their undoing.
use Rattle.std.proofs.Common.{◌≡◌, ◌∙◌, ap, sym, subst, refl, ℕ, zero, suc, ◌+◌, ◌*◌, ◌≤◌, Bool, true, false, List, [], ◌∷◌, ◌++◌, ◌⊎◌, inl, inr, Option, Some, None, length, take, drop, replicate, append_assoc, append-nil, take-append-drop, arith}
use Rattle.std.specs.Prelude.{slice_get}
use Rattle.std.specs.List.{AllZip}
use Rattle.std.proofs.Math.Seq.{append_snoc}
use Rattle.std.proofs.lemmas.List.{replicate-append-replicate, length-append, length-take-le, length_push}
use Rattle.std.proofs.lemmas.Option.{slice_get_within}
use Rattle.relay_outside.specs.declared.address.Addr.{Addr}
use Rattle.relay_outside.specs.declared.settings.Config.{Config}
use Rattle.relay_outside.specs.declared.ports.InCall.{InCall}
use Rattle.relay_outside.specs.declared.ports.OutCall.{OutCall}
use Rattle.relay_outside.specs.declared.ports.PortCall.{PortCall}
use Rattle.relay_outside.specs.declared.ports.PortCall.TheVariants.{Open}
use Rattle.relay_outside.specs.Ports.{IsOpen}
use Rattle.relay_outside.specs.DeviceLogs.{EndLog, Gained, WhereLogged}
use Rattle.relay_outside.proofs.Telling.{gained_both}
use Rattle.rtp_packet.specs.declared.head.Half.TheVariants.{Rtp, Rtcp}
use Rattle.histories.specs.Words.{In, here, there}
use Rattle.port_pool.specs.declared.pairs.Lease.{Lease}
use Rattle.media_ports.specs.Addresses.{port_address, addresses_of, AreDistinct}
use Rattle.media_ports.specs.Calls.{openings, OpensPairs, OpensHalf, OpensUpTo, ClosesUncalled, NoneOpen, AllOpen, SameOpen}
use Rattle.media_ports.specs.declared.opened_ports.HalfOpened.{HalfOpened}
use Rattle.media_ports.specs.declared.ends.PairEnds.{PairEnds}
use Rattle.media_ports.specs.Ends.{EndsList, with_ends, half_count, IsPairOpened, ArePairsOpened, AreOfLease}
use Rattle.media_ports.proofs.Telling.{told_after}
use Rattle.media_ports.proofs.Opened.{open_anew, open_before}
use Rattle.media_ports.proofs.Closed.{zip-append, OpensAll, closes_uncalled, opens_each, still_open, open_since, open_beside, not_open}
use Rattle.media_ports.proofs.Apart.{none_open_after}
use Rattle.media_ports.proofs.Leased.{take_next, drop_next, later_distinct, addresses_of-append, length-addresses_of, all_from_pairs}

-- openings of first and then of more addresses
pub openings-append : (front back : List Addr) (answers : List Bool) → openings (front ++ back) (replicate (length front) true ++ answers) ≡ openings front (replicate (length front) true) ++ openings back answers
openings-append [] back answers = refl
openings-append (at ∷ front) back answers = ap (λ (calls : List PortCall). Open at true ∷ calls) (openings-append front back answers)

pub opens_more : (front back : List Addr) (xs ys : List PortCall) → OpensAll front xs → OpensAll back ys → OpensAll (front ++ back) (xs ++ ys)
opens_more front back xs ys these those =
    ap (λ (calls : List PortCall). calls ++ ys) these
    ∙ ap (λ (calls : List PortCall). openings front (replicate (length front) true) ++ calls) those
    ∙ sym (openings-append front back (replicate (length back) true))
    ∙ ap (openings (front ++ back)) (replicate-append-replicate (length front) (length back) true ∙ ap (λ n. replicate n true) (sym (length-append front back)))

all_from : (ats : List Addr) (calls : List PortCall) → ((at : Addr) → In at ats → IsOpen calls at) → AllOpen ats calls
all_from [] calls each = tt
all_from (a ∷ ats) calls each = (each a (here refl), all_from ats calls (λ at more. each at (there more)))

-- all ports of the leases are open then
pub told_all_open : (config : Config) (leases : List Lease) (old new : Option (List PortCall)) (Q : List PortCall → Type 0) → WhereLogged old Q → Gained old new (OpensPairs config leases) →
    WhereLogged new (AllOpen (addresses_of config leases))
told_all_open config leases old new Q held opens =
    told_after old new (OpensPairs config leases) Q (AllOpen (addresses_of config leases))
    (λ before more h these.
    let all = all_from (addresses_of config leases) (before ++ openings (addresses_of config leases) (replicate (length (addresses_of config leases)) true)) (opens_each (addresses_of config leases) before) in
    subst (λ (calls : List PortCall). AllOpen (addresses_of config leases) (before ++ calls)) (sym (all_from_pairs config leases more these)) all) held opens

-- one lease more
pub opens_next : (config : Config) (leases : List Lease) (i : ℕ) (lease : Lease) (xs ys : List PortCall) → slice_get leases i ≡ Some lease →
    OpensAll (addresses_of config (take i leases)) xs → OpensAll (addresses_of config (lease ∷ [])) ys → OpensAll (addresses_of config (take (i + 1) leases)) (xs ++ ys)
opens_next config leases i lease xs ys is these those =
    subst (λ (ats : List Addr). OpensAll ats (xs ++ ys)) (sym (ap (addresses_of config) (take_next leases i lease is) ∙ addresses_of-append config (take i leases) (lease ∷ [])))
    (opens_more (addresses_of config (take i leases)) (addresses_of config (lease ∷ [])) xs ys these those)

pub none_open_here : (config : Config) (leases : List Lease) (i : ℕ) (lease : Lease) (calls : List PortCall) → slice_get leases i ≡ Some lease →
    NoneOpen (addresses_of config (drop i leases)) calls → NoneOpen (addresses_of config (lease ∷ [])) calls
none_open_here config leases i lease calls is none =
    let these = subst (λ (ls : List Lease). NoneOpen (addresses_of config ls) calls) (drop_next leases i lease is) none in
    (these.0, (these.1.0, tt))

pub none_open_later : (config : Config) (leases : List Lease) (i : ℕ) (lease : Lease) (calls more : List PortCall) → slice_get leases i ≡ Some lease → AreDistinct (addresses_of config leases) →
    NoneOpen (addresses_of config (drop i leases)) calls → OpensAll (addresses_of config (lease ∷ [])) more → NoneOpen (addresses_of config (drop (i + 1) leases)) (calls ++ more)
none_open_later config leases i lease calls more is are none opens =
    let these = subst (λ (ls : List Lease). NoneOpen (addresses_of config ls) calls) (drop_next leases i lease is) none in
    let distinct = subst (λ (ls : List Lease). AreDistinct (addresses_of config ls)) (drop_next leases i lease is) (later_distinct config leases i are) in
    subst (λ (those : List PortCall). NoneOpen (addresses_of config (drop (i + 1) leases)) (calls ++ those)) (sym opens)
    (none_open_after (addresses_of config (lease ∷ [])) (addresses_of config (drop (i + 1) leases)) (true ∷ true ∷ []) calls distinct these.1.1)

-- The opening that fails.

short : (a b : Addr) (rest : List Addr) (k : ℕ) → k ≤ 1 → openings (a ∷ b ∷ rest) (replicate k true ++ false ∷ []) ≡ openings (a ∷ b ∷ []) (replicate k true ++ false ∷ [])
short a b rest zero within = refl
short a b [] (suc zero) within = refl
short a b (at ∷ rest) (suc zero) within = refl
short a b rest (suc (suc k)) within = absurd (omega (arith, within))

pub fails_next : (config : Config) (leases : List Lease) (i k : ℕ) (lease : Lease) (xs ys : List PortCall) → slice_get leases i ≡ Some lease → k ≤ 1 →
    OpensAll (addresses_of config (take i leases)) xs → OpensHalf (addresses_of config (lease ∷ [])) k ys → OpensHalf (addresses_of config leases) (2 * i + k) (xs ++ ys)
fails_next config leases i k lease xs ys is few these those =
    let within = slice_get_within leases i lease is in
    let front = addresses_of config (take i leases) in
    let rest = addresses_of config (drop (i + 1) leases) in
    let rtp = port_address config lease.pair Rtp in
    let rtcp = port_address config lease.pair Rtcp in
    let answers = replicate k true ++ false ∷ [] in
    let many : length front ≡ 2 * i = length-addresses_of config (take i leases) ∙ ap (λ n. 2 * n) (length-take-le i leases (omega (arith, within))) in
    let all : addresses_of config leases ≡ front ++ rtp ∷ rtcp ∷ rest =
    ap (addresses_of config) (sym (take-append-drop i leases) ∙ ap (λ (ls : List Lease). take i leases ++ ls) (drop_next leases i lease is)) ∙ addresses_of-append config (take i leases) (lease ∷ drop (i + 1) leases) in
    let shown : replicate (2 * i + k) true ++ false ∷ [] ≡ replicate (length front) true ++ answers =
    ap (λ (bs : List Bool). bs ++ false ∷ []) (sym (replicate-append-replicate (2 * i) k true)) ∙ append_assoc (replicate (2 * i) true) (replicate k true) (false ∷ []) ∙ ap (λ n. replicate n true ++ answers) (sym many) in
    ap (λ (calls : List PortCall). calls ++ ys) these
    ∙ ap (λ (calls : List PortCall). openings front (replicate (length front) true) ++ calls) (those ∙ sym (short rtp rtcp rest k few))
    ∙ sym (openings-append front (rtp ∷ rtcp ∷ rest) answers)
    ∙ ap (λ (bs : List Bool). openings (front ++ rtp ∷ rtcp ∷ rest) bs) (sym shown)
    ∙ ap (λ (ats : List Addr). openings ats (replicate (2 * i + k) true ++ false ∷ [])) (sym all)

shifted : (calls more : List PortCall) (call : PortCall) (ats : List Addr) → AllOpen ats ((calls ++ call ∷ []) ++ more) → AllOpen ats (calls ++ call ∷ more)
shifted calls more call ats open_ = subst (AllOpen ats) (append_snoc calls call more) open_

-- those before it are open then
pub all_open_upto : (ats : List Addr) (n : ℕ) (calls : List PortCall) → AllOpen (take n ats) (calls ++ openings ats (replicate n true ++ false ∷ []))
all_open_upto ats zero calls = tt
all_open_upto [] (suc n) calls = tt
all_open_upto (at ∷ ats) (suc n) calls =
    let answers = replicate n true ++ false ∷ [] in
    let first = still_open ats answers (calls ++ Open at true ∷ []) at (open_anew calls at) in (
      subst (λ (these : List PortCall). IsOpen these at) (append_snoc calls (Open at true) (openings ats answers)) first,
      shifted calls (openings ats answers) (Open at true) (take n ats) (all_open_upto ats n (calls ++ Open at true ∷ [])),
    )

-- and only those that were open before
open_upto : (ats : List Addr) (n : ℕ) (calls : List PortCall) (at : Addr) → IsOpen (calls ++ openings ats (replicate n true ++ false ∷ [])) at → IsOpen calls at ⊎ In at (take n ats)
open_upto [] n calls at o = inl (subst (λ (these : List PortCall). IsOpen these at) (append-nil calls ∙ refl) (nothing n o))
  where
    nothing : (n : ℕ) → IsOpen (calls ++ openings [] (replicate n true ++ false ∷ [])) at → IsOpen (calls ++ []) at
    nothing n o = o
open_upto (a ∷ ats) zero calls at o =
    elim (open_before calls (Open a false) at (subst (λ (these : List PortCall). IsOpen (calls ++ Open a false ∷ these) at) (none ats) o)) [
      | inl is ↦ absurd (let f = is in cc)
      | inr both ↦ inl both.0
    ]
  where
    none : (ats : List Addr) → openings ats [] ≡ []
    none [] = refl
    none (b ∷ ats) = refl
open_upto (a ∷ ats) (suc n) calls at o =
    let answers = replicate n true ++ false ∷ [] in
    elim (open_upto ats n (calls ++ Open a true ∷ []) at (subst (λ (these : List PortCall). IsOpen these at) (sym (append_snoc calls (Open a true) (openings ats answers))) o)) [
      | inl before ↦ elim (open_before calls (Open a true) at before) [
        | inl is ↦ inr (here (let same : at ≡ a = cc in same))
        | inr both ↦ inl both.0
      ]
      | inr among ↦ inr (there among)
    ]

pub in_first : (n : ℕ) (ats : List Addr) (at : Addr) → In at (take n ats) → In at ats
in_first zero ats at among = elim among [ ]
in_first (suc n) [] at among = elim among [ ]
in_first (suc n) (a ∷ ats) at (here same) = here same
in_first (suc n) (a ∷ ats) at (there more) = there (in_first n ats at more)

-- after the undoing the same addresses are open as before
pub same_open : (ats : List Addr) (n : ℕ) (before more : List PortCall) → NoneOpen ats before → OpensUpTo ats n more → SameOpen before (before ++ more)
same_open ats n before more none upto at =
    let opens = openings ats (replicate n true ++ false ∷ []) in
    let all : before ++ more ≡ (before ++ opens) ++ upto.closes = ap (λ (calls : List PortCall). before ++ calls) upto.then_fails ∙ sym (append_assoc before opens upto.closes) in
    let closed = closes_uncalled (take n ats) upto.closes upto.closed in (
      λ o.
          let since = open_since (take n ats) upto.closes (before ++ opens) at closed (subst (λ (calls : List PortCall). IsOpen calls at) all o) in
          elim (open_upto ats n before at since.0) [ inl was ↦ was | inr among ↦ absurd (since.1 among) ],
      λ o.
          let still = still_open ats (replicate n true ++ false ∷ []) before at o in
          subst (λ (calls : List PortCall). IsOpen calls at) (sym all)
          (open_beside (take n ats) upto.closes (before ++ opens) at closed (λ among. not_open ats before at none (in_first n ats at among) o) still),
    )

-- the whole: what was opened up to the fault, and what was closed again
pub undone : (ats : List Addr) (n : ℕ) (xs ys : List PortCall) → OpensHalf ats n xs → AllZip ClosesUncalled (take n ats) ys → OpensUpTo ats n (xs ++ ys)
undone ats n xs ys opens closed = record { closes = ys; then_fails = ap (λ (calls : List PortCall). calls ++ ys) opens; closed = closed }

-- the same of the lists that are told
pub gained_failing : (config : Config) (leases : List Lease) (i k : ℕ) (lease : Lease) (old mid new : Option (List PortCall)) → slice_get leases i ≡ Some lease → k ≤ 1 →
    Gained old mid (OpensAll (addresses_of config (take i leases))) → Gained mid new (OpensHalf (addresses_of config (lease ∷ [])) k) →
    Gained old new (OpensHalf (addresses_of config leases) (2 * i + k))
gained_failing config leases i k lease old mid new is few opens fails =
    gained_both old mid new (OpensAll (addresses_of config (take i leases))) (OpensHalf (addresses_of config (lease ∷ [])) k) (OpensHalf (addresses_of config leases) (2 * i + k))
    (λ xs ys these those. fails_next config leases i k lease xs ys is few these those) opens fails

pub gained_undone : (ats : List Addr) (n m opened : ℕ) (old mid new : Option (List PortCall)) → m ≡ n → opened ≡ m →
    Gained old mid (OpensHalf ats n) → Gained mid new (AllZip ClosesUncalled (take m ats)) → Gained old new (OpensUpTo ats opened)
gained_undone ats n m opened old mid new same is opens closes =
    let closed = subst (λ (k : ℕ). Gained mid new (AllZip ClosesUncalled (take k ats))) same closes in
    let all = gained_both old mid new (OpensHalf ats n) (AllZip ClosesUncalled (take n ats)) (OpensUpTo ats n) (λ xs ys these those. undone ats n xs ys these those) opens closed in
    subst (λ (k : ℕ). Gained old new (OpensUpTo ats k)) (sym (is ∙ same)) all

pub told_open_upto : (ats : List Addr) (n : ℕ) (old new : Option (List PortCall)) (Q : List PortCall → Type 0) → WhereLogged old Q → Gained old new (OpensHalf ats n) → WhereLogged new (AllOpen (take n ats))
told_open_upto ats n old new Q held opens =
    told_after old new (OpensHalf ats n) Q (AllOpen (take n ats))
    (λ before more h is. subst (λ (calls : List PortCall). AllOpen (take n ats) (before ++ calls)) (sym is) (all_open_upto ats n before)) held opens

pub half_few : {I O : Type 0} (half : Option (HalfOpened I O)) → half_count half ≤ 1
half_few None = omega arith
half_few (Some ends) = omega arith

-- The ends of one pair more.

pub opened_pushed : {I O : Type 0} (taken : I → EndLog InCall) (sent : O → EndLog OutCall) (config : Config) (leases : List Lease) (i : ℕ) (lease : Lease) (old new : EndsList I O)
    (ends : PairEnds I O) → slice_get leases i ≡ Some lease → new ≡ with_ends old ends → ArePairsOpened taken sent config (take i leases) old.list →
    IsPairOpened taken sent config lease ends → ArePairsOpened taken sent config (take (i + 1) leases) new.list
opened_pushed {I} {O} taken sent config leases i lease old new ends at is those this =
    subst (λ (opened : EndsList I O). ArePairsOpened taken sent config (take (i + 1) leases) opened.list) (sym is)
    (subst (λ (ls : List Lease). ArePairsOpened taken sent config ls (old.list ++ ends ∷ [])) (sym (take_next leases i lease at))
    (zip-append (IsPairOpened taken sent config) (take i leases) (lease ∷ []) old.list (ends ∷ []) those (this, tt)))

-- the ends that an opening made are those of the lease's ports
pub opened_of : {I O : Type 0} (taken : I → EndLog InCall) (sent : O → EndLog OutCall) (config : Config) (lease : Lease) (ends : PairEnds I O) →
    IsPairOpened taken sent config lease ends → AreOfLease taken sent config lease ends
opened_of taken sent config lease ends is = (
  record { rtp_at = is.rtp_in.at_is; rtcp_at = is.rtcp_in.at_is },
  record { rtp_at = is.rtp_out.at_is; rtcp_at = is.rtcp_out.at_is },
)

pub count_pushed : {I O : Type 0} (old new : EndsList I O) (ends : PairEnds I O) → new ≡ with_ends old ends → length new.list ≡ length old.list + 1
count_pushed {I} {O} old new ends is = ap (λ (opened : EndsList I O). length opened.list) is ∙ length_push old.list ends

pub room_pushed : {I O : Type 0} (old new : EndsList I O) (ends : PairEnds I O) → new ≡ with_ends old ends → new.room ≡ old.room
room_pushed {I} {O} old new ends is = ap (λ (opened : EndsList I O). opened.room) is

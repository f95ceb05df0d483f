-- What a port maker's closings give back: of calls one after the other, and of ends that were not called.
use Rattle.std.proofs.Common.{◌≡◌, ◌∙◌, ap, sym, subst, refl, ℕ, ◌<◌, Bool, true, false, cond, List, [], ◌∷◌, ◌++◌, Option, Some, None, append_assoc, append-nil, replicate, take}
use Rattle.std.specs.List.{AllZip}
use Rattle.std.proofs.lemmas.List.Elements.{All-append, All-cons, All-nil}
use Rattle.histories.specs.Words.{In, here, there}
use Rattle.relay_outside.specs.declared.address.Addr.{Addr}
use Rattle.relay_outside.specs.declared.ports.InCall.{InCall}
use Rattle.relay_outside.specs.declared.ports.OutCall.{OutCall}
use Rattle.relay_outside.specs.declared.ports.PortCall.{PortCall}
use Rattle.relay_outside.specs.declared.ports.PortCall.TheVariants.{Open, Close}
use Rattle.relay_outside.specs.declared.settings.Config.{Config}
use Rattle.relay_outside.specs.Ports.{joined, same_addr, taken_at, sent_at}
use Rattle.relay_outside.specs.DeviceLogs.{StartsEmpty}
use Rattle.rtp_packet.specs.declared.head.Half.{Half}
use Rattle.port_pool.specs.Ports.{pair_count}
use Rattle.port_pool.specs.declared.pairs.Lease.{Lease}
use Rattle.media_ports.specs.Addresses.{port_address, addresses_of, pairs_of_leases, AreLeased}
use Rattle.media_ports.specs.Calls.{openings, OpensPairs, OpensUpTo, ClosesUncalled}
use Rattle.media_ports.specs.ReturnedEnds.{SameWhereTold, IsOfPair, GivesBackUncalled}
use Rattle.media_ports.proofs.UpTo.{in_first}
use Rattle.media_ports.proofs.Held.{address_is, below}

-- Lists that are joined.

pub joined_again : {C : Type 0} (first second third : Option (List C)) → joined (joined first second) third ≡ joined first (joined second third)
joined_again None second third = refl
joined_again (Some xs) None third = refl
joined_again (Some xs) (Some ys) None = refl
joined_again (Some xs) (Some ys) (Some zs) = ap Some (append_assoc xs ys zs)

pub joined_to_nothing : {C : Type 0} (log : Option (List C)) → joined (Some []) log ≡ log
joined_to_nothing None = refl
joined_to_nothing (Some calls) = refl

-- one more in front, where a test passes
pub first_joined : {C : Type 0} (b : Bool) (one first more all : Option (List C)) → all ≡ joined first more → cond b (joined one all) all ≡ joined (cond b (joined one first) first) more
first_joined true one first more all is = ap (joined one) is ∙ sym (joined_again one first more)
first_joined false one first more all is = is

-- what the former calls give back of an address, and then the latter
pub taken_append : (xs ys : List PortCall) (at : Addr) → taken_at (xs ++ ys) at ≡ joined (taken_at xs at) (taken_at ys at)
taken_append [] ys at = sym (joined_to_nothing (taken_at ys at))
taken_append (Open other done ∷ xs) ys at = taken_append xs ys at
taken_append (Close other taken sent ∷ xs) ys at =
    first_joined (same_addr other at) taken (taken_at xs at) (taken_at ys at) (taken_at (xs ++ ys) at) (taken_append xs ys at)

pub sent_append : (xs ys : List PortCall) (at : Addr) → sent_at (xs ++ ys) at ≡ joined (sent_at xs at) (sent_at ys at)
sent_append [] ys at = sym (joined_to_nothing (sent_at ys at))
sent_append (Open other done ∷ xs) ys at = sent_append xs ys at
sent_append (Close other taken sent ∷ xs) ys at =
    first_joined (same_addr other at) sent (sent_at xs at) (sent_at ys at) (sent_at (xs ++ ys) at) (sent_append xs ys at)

-- what agrees with one list and then with another agrees with both joined
pub agrees_both : {C : Type 0} (log more shown also : Option (List C)) → SameWhereTold log shown → SameWhereTold more also → SameWhereTold (joined log more) (joined shown also)
agrees_both None more shown also these those = tt
agrees_both (Some xs) None shown also these those = tt
agrees_both (Some xs) (Some ys) shown also these those = ap (λ (o : Option (List _)). joined o also) these ∙ ap (joined (Some xs)) those

-- Ends that were not called.

empty_by : {C : Type 0} (b : Bool) (log : Option (List C)) → StartsEmpty log → SameWhereTold (cond b (joined log (Some [])) (Some [])) (Some [])
empty_by true None empty = tt
empty_by true (Some calls) empty = ap Some (sym empty ∙ sym (append-nil calls))
empty_by false log empty = refl

-- no call
pub uncalled_none : (config : Config) → GivesBackUncalled config []
uncalled_none config = record { of_pairs = All-nil (IsOfPair config); takes = λ at. refl; sends = λ at. refl }

-- calls, and then more of them
pub uncalled_both : (config : Config) (xs ys : List PortCall) → GivesBackUncalled config xs → GivesBackUncalled config ys → GivesBackUncalled config (xs ++ ys)
uncalled_both config xs ys these those = record {
  of_pairs = All-append (IsOfPair config) xs ys these.of_pairs those.of_pairs;
  takes = λ at. subst (λ (log : Option (List InCall)). SameWhereTold log (Some [])) (sym (taken_append xs ys at))
      (agrees_both (taken_at xs at) (taken_at ys at) (Some []) (Some []) (these.takes at) (those.takes at));
  sends = λ at. subst (λ (log : Option (List OutCall)). SameWhereTold log (Some [])) (sym (sent_append xs ys at))
      (agrees_both (sent_at xs at) (sent_at ys at) (Some []) (Some []) (these.sends at) (those.sends at));
}

-- the address is that of a half of one of the configuration's pairs
abbrev IsPorts : Config → Addr → Type 0
IsPorts config at = (pair : ℕ) × (half : Half) × (pair < pair_count config) × (at ≡ port_address config pair half)

-- the same of each
abbrev pub AreOfPairs : Config → List Addr → Type 0
AreOfPairs config ats = (at : Addr) → In at ats → IsPorts config at

-- the addresses of leases of pairs of the configuration are
pub leased_of_pairs : (config : Config) (leases : List Lease) → AreLeased config leases → AreOfPairs config (addresses_of config leases)
leased_of_pairs config leases leased at among =
    let found = address_is config leases at among in
    (found.0, found.1, below (pair_count config) (pairs_of_leases leases) found.0 leased.differ found.3, found.2)

one_opened : (config : Config) (at : Addr) (done : Bool) → IsPorts config at → GivesBackUncalled config (Open at done ∷ [])
one_opened config at done is = record {
  of_pairs = All-cons (IsOfPair config) (Open at done) [] (record { pair = is.0; half = is.1; within = is.2; at = is.3 }) (All-nil (IsOfPair config));
  takes = λ other. refl;
  sends = λ other. refl;
}

one_closed : (config : Config) (at : Addr) (taken : Option (List InCall)) (sent : Option (List OutCall)) → IsPorts config at → StartsEmpty taken → StartsEmpty sent →
    GivesBackUncalled config (Close at taken sent ∷ [])
one_closed config at taken sent is none_taken none_sent = record {
  of_pairs = All-cons (IsOfPair config) (Close at taken sent) [] (record { pair = is.0; half = is.1; within = is.2; at = is.3 }) (All-nil (IsOfPair config));
  takes = λ other. empty_by (same_addr at other) taken none_taken;
  sends = λ other. empty_by (same_addr at other) sent none_sent;
}

-- openings give nothing back
pub opened_uncalled : (config : Config) (ats : List Addr) (answers : List Bool) → AreOfPairs config ats → GivesBackUncalled config (openings ats answers)
opened_uncalled config [] answers are = uncalled_none config
opened_uncalled config (at ∷ ats) [] are = uncalled_none config
opened_uncalled config (at ∷ ats) (done ∷ answers) are =
    uncalled_both config (Open at done ∷ []) (openings ats answers) (one_opened config at done (are at (here refl)))
    (opened_uncalled config ats answers (λ other among. are other (there among)))

-- closings of ends that were not called
pub closed_uncalled : (config : Config) (ats : List Addr) (calls : List PortCall) → AreOfPairs config ats → AllZip ClosesUncalled ats calls → GivesBackUncalled config calls
closed_uncalled config [] [] are closes = uncalled_none config
closed_uncalled config [] (call ∷ calls) are closes = absurd closes
closed_uncalled config (at ∷ ats) [] are closes = absurd closes
closed_uncalled config (at ∷ ats) (Open other done ∷ calls) are closes = absurd closes.0
closed_uncalled config (at ∷ ats) (Close other taken sent ∷ calls) are closes =
    uncalled_both config (Close other taken sent ∷ []) calls
    (one_closed config other taken sent (subst (IsPorts config) (sym closes.0.0) (are at (here refl))) closes.0.1 closes.0.2)
    (closed_uncalled config ats calls (λ next among. are next (there among)) closes.1)

-- the openings of all ports of leases
pub pairs_uncalled : (config : Config) (leases : List Lease) (calls : List PortCall) → AreLeased config leases → OpensPairs config leases calls → GivesBackUncalled config calls
pairs_uncalled config leases calls leased opens =
    subst (GivesBackUncalled config) (sym opens) (opened_uncalled config (addresses_of config leases) _ (leased_of_pairs config leases leased))

-- openings up to one that fails, and the closings after it
pub upto_uncalled : (config : Config) (ats : List Addr) (opened : ℕ) (calls : List PortCall) → AreOfPairs config ats → OpensUpTo ats opened calls → GivesBackUncalled config calls
upto_uncalled config ats opened calls are upto =
    let answers = replicate opened true ++ false ∷ [] in
    subst (GivesBackUncalled config) (sym upto.then_fails)
    (uncalled_both config (openings ats answers) upto.closes (opened_uncalled config ats answers are)
    (closed_uncalled config (take opened ats) upto.closes (λ at among. are at (in_first opened ats at among)) upto.closed))

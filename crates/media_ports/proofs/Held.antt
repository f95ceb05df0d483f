-- The addresses of the configuration's pairs: no two have one, and just the ports of the held pairs are open, whatever is opened and closed.
use Rattle.std.proofs.Common.{◌≡◌, ◌∙◌, ◌↔◌, ap, sym, subst, refl, ℕ, ◌+◌, ◌<◌, ◌^◌, Bool, true, false, cond, ◌||◌, ◌&&◌, not, ◌==◌, eqb, eqb-true, List, [], ◌∷◌, ◌++◌, ◌⊎◌, inl, inr, Option, length, replicate, arith}
use Rattle.std.specs.List.{AllZip}
use Rattle.relay_outside.specs.declared.address.Addr.{Addr}
use Rattle.relay_outside.specs.declared.settings.Config.{Config}
use Rattle.relay_outside.specs.declared.ports.PortCall.{PortCall}
use Rattle.relay_outside.specs.Ports.{IsOpen}
use Rattle.relay_outside.specs.DeviceLogs.{Gained}
use Rattle.relay_outside.specs.Settings.{AreFamilies}
use Rattle.rtp_packet.specs.declared.head.Half.{Half}
use Rattle.rtp_packet.specs.declared.head.Half.TheVariants.{Rtp, Rtcp}
use Rattle.histories.specs.Words.{In, here, there, has}
use Rattle.port_pool.specs.declared.pairs.Lease.{Lease}
use Rattle.port_pool.specs.Ports.{pair_count, pair_port}
use Rattle.port_pool.specs.Pools.{AreFree}
use Rattle.port_pool.proofs.Addresses.{below_end, one_address}
use Rattle.media_ports.specs.Addresses.{port_address, pair_addresses, addresses_of, pairs_of_leases, AreDistinct, AreLeased}
use Rattle.media_ports.specs.Calls.{OpensPairs, Closes, ClosesPair, OpensUpTo, NoneOpen, AllOpen, SameOpen, LeavesOpen}
use Rattle.media_ports.specs.Ends.{EndLogs}
use Rattle.media_ports.specs.OpenPorts.{OpensHeld, LogsHeld, AreOthers, HasBoth, HasWithout}
use Rattle.media_ports.proofs.Telling.{told_after}
use Rattle.media_ports.proofs.Opened.{none_at_first}
use Rattle.media_ports.proofs.Closed.{OpensAll, open_among, opens_each, still_open, leaves_open, none_from, not_open}
use Rattle.media_ports.proofs.Apart.{has_first, has_later}
use Rattle.media_ports.proofs.Leased.{all_from_pairs}
use Rattle.media_ports.proofs.UpTo.{same_open}

-- Addresses.

-- both ports of a pair of the range are ports
pub pair_fits : (config : Config) (pair : ℕ) → config.port_max < 2 ^ 16 → pair < pair_count config → pair_port config pair + 1 < 2 ^ 16
pair_fits config pair most within = let end = below_end config pair within in omega (arith, most, end)

pub below : (count : ℕ) (pairs : List ℕ) (p : ℕ) → AreFree count pairs → has pairs p ≡ true → p < count
below count [] p free h = absurd (let f = h in cc)
below count (q ∷ pairs) p free h = by (q == p) refl h (λ more. below count pairs p free.2 more)
  where
    by : (b : Bool) → eqb q p ≡ b → cond b true (has pairs p) ≡ true → (has pairs p ≡ true → p < count) → p < count
    by true is h more = let same = eqb-true q p is in omega (arith, free.0, same)
    by false is h more = more h

twice : (b : Bool) → b ≡ true → b ≡ false → ⊥
twice true h n = let f = n in cc
twice false h n = let f = h in cc

-- each address of pairs is that of a half of one of them
pair_is : (config : Config) (pairs : List ℕ) (at : Addr) → In at (pair_addresses config pairs) → (pair : ℕ) × (half : Half) × (at ≡ port_address config pair half) × (has pairs pair ≡ true)
pair_is config [] at among = elim among [ ]
pair_is config (pair ∷ pairs) at (here same) = (pair, Rtp, same, has_first pairs pair pair refl)
pair_is config (pair ∷ pairs) at (there (here same)) = (pair, Rtcp, same, has_first pairs pair pair refl)
pair_is config (pair ∷ pairs) at (there (there more)) = let found = pair_is config pairs at more in (found.0, found.1, found.2, has_later (pair == found.0) (has pairs found.0) found.3)

pub address_is : (config : Config) (leases : List Lease) (at : Addr) → In at (addresses_of config leases) →
    (pair : ℕ) × (half : Half) × (at ≡ port_address config pair half) × (has (pairs_of_leases leases) pair ≡ true)
address_is config leases at among = pair_is config (pairs_of_leases leases) at among

-- the address of a pair stands among those of different pairs where the pair does
among_pairs : (config : Config) (pairs : List ℕ) (pair : ℕ) (half : Half) → AreFamilies config → AreFree (pair_count config) pairs → pair < pair_count config →
    In (port_address config pair half) (pair_addresses config pairs) → has pairs pair ≡ true
among_pairs config pairs pair half families free within among =
    let found = pair_is config pairs (port_address config pair half) among in
    let same = one_address config pair found.0 half found.1 families within (below (pair_count config) pairs found.0 free found.3) found.2 in
    ap (has pairs) same.0 ∙ found.3

pub pair_among : (config : Config) (leases : List Lease) (pair : ℕ) (half : Half) → AreFamilies config → AreLeased config leases → pair < pair_count config →
    In (port_address config pair half) (addresses_of config leases) → has (pairs_of_leases leases) pair ≡ true
pair_among config leases pair half families leased within among = among_pairs config (pairs_of_leases leases) pair half families leased.differ within among

-- different pairs have different addresses
distinct_pairs : (config : Config) (pairs : List ℕ) → AreFamilies config → AreFree (pair_count config) pairs → AreDistinct (pair_addresses config pairs)
distinct_pairs config [] families free = tt
distinct_pairs config (pair ∷ pairs) families free =
    (rtp_once, (rtcp_once, distinct_pairs config pairs families free.2))
  where
    not_later : (half : Half) → In (port_address config pair half) (pair_addresses config pairs) → ⊥
    not_later half among = twice (has pairs pair) (among_pairs config pairs pair half families free.2 free.0 among) free.1

    rtp_once : In (port_address config pair Rtp) (port_address config pair Rtcp ∷ pair_addresses config pairs) → ⊥
    rtp_once (here same) = let e = ap (λ (at : Addr). at.port) same in absurd (omega (arith, e))
    rtp_once (there more) = not_later Rtp more

    rtcp_once : In (port_address config pair Rtcp) (pair_addresses config pairs) → ⊥
    rtcp_once among = not_later Rtcp among

pub leased_distinct : (config : Config) (leases : List Lease) → AreFamilies config → AreLeased config leases → AreDistinct (addresses_of config leases)
leased_distinct config leases families leased = distinct_pairs config (pairs_of_leases leases) families leased.differ

first_half : (config : Config) (lease : Lease) (leases : List Lease) (half : Half) → In (port_address config lease.pair half) (addresses_of config (lease ∷ leases))
first_half config lease leases Rtp = here refl
first_half config lease leases Rtcp = there (here refl)

pub address_among : (config : Config) (leases : List Lease) (pair : ℕ) (half : Half) → has (pairs_of_leases leases) pair ≡ true → In (port_address config pair half) (addresses_of config leases)
address_among config [] pair half h = absurd (let f = h in cc)
address_among config (lease ∷ leases) pair half h = by (lease.pair == pair) refl h (λ more. address_among config leases pair half more)
  where
    by : (b : Bool) → eqb lease.pair pair ≡ b → cond b true (has (pairs_of_leases leases) pair) ≡ true →
        (has (pairs_of_leases leases) pair ≡ true → In (port_address config pair half) (addresses_of config leases)) → In (port_address config pair half) (addresses_of config (lease ∷ leases))
    by true is h more = subst (λ (p : ℕ). In (port_address config p half) (addresses_of config (lease ∷ leases))) (eqb-true lease.pair pair is) (first_half config lease leases half)
    by false is h more = there (there (more h))

-- What is open.

-- no call yet, no pair held
pub held_at_first : (config : Config) → OpensHeld config [] []
held_at_first config pair half within = (λ o. absurd (none_at_first (port_address config pair half) o), λ h. absurd (let f = h in cc))

-- the ports of pairs that are not held are closed
pub others_closed : (config : Config) (calls : List PortCall) (pairs : List ℕ) (leases : List Lease) → OpensHeld config calls pairs → AreLeased config leases →
    AreOthers pairs (pairs_of_leases leases) → NoneOpen (addresses_of config leases) calls
others_closed config calls pairs leases held leased others =
    none_from (addresses_of config leases) calls (λ at among o.
    let found = address_is config leases at among in
    let within = below (pair_count config) (pairs_of_leases leases) found.0 leased.differ found.3 in
    twice (has pairs found.0) ((held found.0 found.1 within).0 (subst (IsOpen calls) found.2 o)) (others found.0 found.3))

-- those of a pair that is held are open
pub held_open : (config : Config) (calls : List PortCall) (pairs : List ℕ) (lease : Lease) → OpensHeld config calls pairs → lease.pair < pair_count config →
    has pairs lease.pair ≡ true → AllOpen (addresses_of config (lease ∷ [])) calls
held_open config calls pairs lease held within h =
    ((held lease.pair Rtp within).1 h, ((held lease.pair Rtcp within).1 h, tt))

either : (a b : Bool) → (a || b) ≡ true → (a ≡ true) ⊎ (b ≡ true)
either true b h = inl refl
either false b h = inr h

or_left : (a b : Bool) → a ≡ true → (a || b) ≡ true
or_left true b h = refl
or_left false b h = absurd (let f = h in cc)

or_right : (a b : Bool) → b ≡ true → (a || b) ≡ true
or_right true b h = refl
or_right false b h = h

-- after openings
pub held_opened : (config : Config) (calls more : List PortCall) (pairs now : List ℕ) (leases : List Lease) → AreFamilies config → OpensHeld config calls pairs → AreLeased config leases →
    OpensAll (addresses_of config leases) more → HasBoth pairs (pairs_of_leases leases) now → OpensHeld config (calls ++ more) now
held_opened config calls more pairs now leases families held leased opens both pair half within =
    let ats = addresses_of config leases in
    let at = port_address config pair half in (
      λ o. both pair ∙ (elim (open_among ats (replicate (length ats) true) calls at (subst (λ (these : List PortCall). IsOpen (calls ++ these) at) opens o)) [
        | inl was ↦ or_right (has (pairs_of_leases leases) pair) (has pairs pair) ((held pair half within).0 was)
        | inr among ↦ or_left (has (pairs_of_leases leases) pair) (has pairs pair) (pair_among config leases pair half families leased within among)
      ]),
      λ h. subst (λ (these : List PortCall). IsOpen (calls ++ these) at) (sym opens) (elim (either (has (pairs_of_leases leases) pair) (has pairs pair) (sym (both pair) ∙ h)) [
        | inl new ↦ opens_each ats calls at (address_among config leases pair half new)
        | inr old ↦ still_open ats (replicate (length ats) true) calls at ((held pair half within).1 old)
      ]),
    )

-- where the same addresses are open
pub held_same : (config : Config) (before now : List PortCall) (pairs : List ℕ) → OpensHeld config before pairs → SameOpen before now → OpensHeld config now pairs
held_same config before now pairs held same pair half within =
    let here_too = same (port_address config pair half) in
    (λ o. (held pair half within).0 (here_too.0 o), λ h. here_too.1 ((held pair half within).1 h))

only : (b : Bool) → b ≡ false → cond b true false ≡ true → ⊥
only true differs h = let f = differs in cc
only false differs h = let f = h in cc

-- after closings
pub held_closed : (config : Config) (before now : List PortCall) (pairs left : List ℕ) (lease : Lease) → AreFamilies config → OpensHeld config before pairs → lease.pair < pair_count config →
    LeavesOpen (addresses_of config (lease ∷ [])) before now → HasWithout pairs lease.pair left → OpensHeld config now left
held_closed config before now pairs left lease families held low leaves without pair half within = by (lease.pair == pair) refl (without pair)
  where
    at : Addr
    at = port_address config pair half

    by : (b : Bool) → eqb lease.pair pair ≡ b → has left pair ≡ (not b && has pairs pair) → IsOpen now at ↔ (has left pair ≡ true)
    by true same gone =
        let among : In at (addresses_of config (lease ∷ [])) =
        subst (λ (p : ℕ). In (port_address config p half) (addresses_of config (lease ∷ []))) (eqb-true lease.pair pair same) (first_half config lease [] half) in
        (λ o. absurd (not_open (addresses_of config (lease ∷ [])) now at leaves.closed among o), λ h. absurd (twice (has left pair) h gone))
    by false differs stays =
        let beside : In at (addresses_of config (lease ∷ [])) → ⊥ =
        λ among. only (lease.pair == pair) differs (pair_among config (lease ∷ []) pair half families (record { differ = (low, refl, tt) }) within among) in
        let same = leaves.others at beside in
        (λ o. stays ∙ (held pair half within).0 (same.0 o), λ h. same.1 ((held pair half within).1 (sym stays ∙ h)))

-- The same of what is told.

pub told_opened : (config : Config) (old new : Option (List PortCall)) (pairs now : List ℕ) (leases : List Lease) → AreFamilies config → LogsHeld config old pairs → AreLeased config leases →
    Gained old new (OpensPairs config leases) → HasBoth pairs (pairs_of_leases leases) now → LogsHeld config new now
told_opened config old new pairs now leases families held leased opens both =
    told_after old new (OpensPairs config leases) (λ calls. OpensHeld config calls pairs) (λ calls. OpensHeld config calls now)
    (λ calls more h these. held_opened config calls more pairs now leases families h leased (all_from_pairs config leases more these) both) held opens

pub told_undone : (config : Config) (old new : Option (List PortCall)) (pairs : List ℕ) (leases : List Lease) (opened : ℕ) → LogsHeld config old pairs → AreLeased config leases →
    AreOthers pairs (pairs_of_leases leases) → Gained old new (OpensUpTo (addresses_of config leases) opened) → LogsHeld config new pairs
told_undone config old new pairs leases opened held leased others undoes =
    let ats = addresses_of config leases in
    told_after old new (OpensUpTo ats opened) (λ calls. OpensHeld config calls pairs) (λ calls. OpensHeld config calls pairs)
    (λ calls more h these. held_same config calls (calls ++ more) pairs h (same_open ats opened calls more (others_closed config calls pairs leases h leased others) these)) held undoes

pub told_closed : (config : Config) (old new : Option (List PortCall)) (pairs now : List ℕ) (lease : Lease) (ends : EndLogs) → AreFamilies config → LogsHeld config old pairs →
    lease.pair < pair_count config → Gained old new (ClosesPair config lease ends) → HasWithout pairs lease.pair now → LogsHeld config new now
told_closed config old new pairs now lease ends families held low closes without =
    let ats = addresses_of config (lease ∷ []) in
    told_after old new (ClosesPair config lease ends) (λ calls. OpensHeld config calls pairs) (λ calls. OpensHeld config calls now)
    (λ calls more h these.
    let all = subst (AllZip Closes ats) (sym these) (refl, (refl, tt)) in
    held_closed config calls (calls ++ more) pairs now lease families h low (leaves_open ats more calls all) without)
    held closes

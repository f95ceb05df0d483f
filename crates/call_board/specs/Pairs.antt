-- The port pairs: which leg holds one, and which pairs are free, in the order in which they are leased; and the drawn keys.
use Rattle.std.specs.Prelude.{ℕ, ◌+◌, Bool, true, false, not, ◌&&◌, ◌==◌, List, [], ◌∷◌, ◌++◌, map, length, drop, filter, count_by, nat_lt, ◌||◌, if◌then◌else◌}
use Rattle.std.specs.List.{flat_map}
use Rattle.relay_outside.specs.declared.settings.Config.{Config}
use Rattle.relay_outside.specs.declared.address.Family.{Family}
use Rattle.relay_outside.specs.declared.address.Family.TheVariants.{V4, V6}
use Rattle.histories.specs.Words.{In, has, last_once, numbers}
use Rattle.port_pool.specs.Ports.{pair_count, family_eq, pairs_of_family}
use Rattle.port_pool.specs.declared.holder.Holder.{Holder}
use Rattle.port_pool.specs.Signals.{NewKey, is_rejected}
use Rattle.offer_answer.specs.Rounds.{NewLeg, KeyPlace}
use Rattle.call_board.specs.Acts.{Call, Lease, Act, Undone, Offered, Answered, BoardEntry, act}
use Rattle.call_board.specs.Calls.{ended_by}

-- Who holds a pair.

abbrev pub legs_of_act : Act → List Holder
legs_of_act (Offered o) = o.legs
legs_of_act _ = []

-- the entry is an offer that drops the leg's section, or an answer that rejects it
abbrev pub closes_leg_act : Act → Holder → Bool
closes_leg_act (Offered o) leg = (o.of.number == leg.call) && has o.dropped leg.section
closes_leg_act (Answered a) leg = (a.of.number == leg.call) && is_rejected a.signal leg.section
closes_leg_act _ leg = false

-- the entry closes the leg: it ends its call, or drops or rejects its section
abbrev pub closes_leg : BoardEntry → Holder → Bool
closes_leg e leg = if has (map (λ c. c.number) (ended_by e)) leg.call then true else closes_leg_act (act e) leg

-- each number stands once
abbrev pub Once : List ℕ → Type 0
Once [] = Unit {0}
Once (n ∷ ns) = (In n ns → ⊥) × Once ns

-- the legs that accepted offers leased pairs for, in lease order, without those that a later entry closed
abbrev pub held : List BoardEntry → List Holder
held [] = []
held (e ∷ h) = filter (λ leg. not (closes_leg e leg)) (held h) ++ legs_of_act (act e)

abbrev pub signalled_by : Act → List Call
signalled_by (Offered o) = o.of ∷ []
signalled_by (Answered a) = a.of ∷ []
signalled_by _ = []

-- the calls of which the entry may close legs
abbrev pub calls_in : BoardEntry → List Call
calls_in e = signalled_by (act e) ++ ended_by e

-- the legs of one call that the entry closes, in lease order
abbrev pub closed_of : List BoardEntry → BoardEntry → Call → List Holder
closed_of h e c = filter (λ leg. (leg.call == c.number) && closes_leg e leg) (held h)

-- the legs that the entry closes, call by call
abbrev pub closed : List BoardEntry → BoardEntry → List Holder
closed h e = flat_map (closed_of h e) (calls_in e)

-- Which pairs are free.

-- the pairs that the entry leased
abbrev pub leased_by_act : Act → List ℕ
leased_by_act (Offered o) = map (λ leg. leg.pair) o.legs
leased_by_act (Undone code leases draws) = map (λ lease. lease.pair) leases
leased_by_act _ = []

-- all pairs that were leased
abbrev pub all_leased : List BoardEntry → List ℕ
all_leased h = flat_map (λ e. leased_by_act (act e)) h

abbrev pub undone_pairs : Act → List ℕ
undone_pairs (Undone code leases draws) = map (λ lease. lease.pair) leases
undone_pairs _ = []

-- all pairs that were returned, in order: those of closed legs, and those of an offer that was undone
abbrev pub returned : List BoardEntry → List ℕ
returned [] = []
returned (e ∷ h) = returned h ++ map (λ leg. leg.pair) (closed h e) ++ undone_pairs (act e)

-- the pairs that are not held: those never leased upwards, then the others in the order of their last return
abbrev pub free : Config → List BoardEntry → List ℕ
free config h =
    filter (λ p. not (has (all_leased h) p)) (numbers 0 (pair_count config))
    ++ filter (λ p. not (has (map (λ leg. leg.pair) (held h)) p)) (last_once (returned h))

-- the free pairs of a family
abbrev pub free_in : Config → List BoardEntry → Family → List ℕ
free_in config h family = pairs_of_family config (free config h) family

-- Leases.

-- the generation that the next lease of the pair has
abbrev pub next_generation : List BoardEntry → ℕ → ℕ
next_generation h p = count_by (λ q. q == p) (all_leased h) + 1

abbrev pub next_lease : List BoardEntry → ℕ → Lease
next_lease h p = record { pair = p; generation = next_generation h p }

abbrev pub first_of : List ℕ → List ℕ
first_of [] = []
first_of (p ∷ ps) = p ∷ []

-- the lists without the front of one family's
abbrev pub without_front : (Family → List ℕ) → Family → Family → List ℕ
without_front lists family other = if family_eq family other then drop 1 (lists other) else lists other

-- a pair for each new leg, the front of its family's list
abbrev pub fronts : (Family → List ℕ) → List NewLeg → List ℕ
fronts lists [] = []
fronts lists (leg ∷ legs) = first_of (lists leg.family) ++ fronts (without_front lists leg.family) legs

-- the pairs are fewer than the new legs of this family
abbrev pub is_short_of : (Family → List ℕ) → List NewLeg → Family → Bool
is_short_of lists legs family = nat_lt (length (lists family)) (count_by (λ leg. family_eq leg.family family) legs)

-- of some family there are fewer pairs than new legs
abbrev pub is_short : (Family → List ℕ) → List NewLeg → Bool
is_short lists legs = is_short_of lists legs V4 || is_short_of lists legs V6

-- the new legs of an offer, with the pairs that it leases
abbrev pub leased_new_legs : List BoardEntry → Call → List ℕ → List NewLeg → List Holder
leased_new_legs h c [] legs = []
leased_new_legs h c (p ∷ ps) [] = []
leased_new_legs h c (p ∷ ps) (leg ∷ legs) =
    record { cell = c.cell; call = c.number; section = leg.section; side = leg.side; pair = p; generation = next_generation h p } ∷ leased_new_legs h c ps legs

-- Keys.

abbrev pub draws_of_act : Act → List (List ℕ)
draws_of_act (Offered o) = map (λ key. key.bytes) o.keys
draws_of_act (Undone code leases draws) = draws
draws_of_act _ = []

-- all keys that were drawn, in order: a key's number is its place among them
abbrev pub drawn : List BoardEntry → List (List ℕ)
drawn [] = []
drawn (e ∷ h) = drawn h ++ draws_of_act (act e)

-- the keys that an offer draws, numbered from n on
abbrev pub drawn_keys_from : ℕ → List (List ℕ) → List KeyPlace → List NewKey
drawn_keys_from n [] places = []
drawn_keys_from n (bytes ∷ draws) [] = []
drawn_keys_from n (bytes ∷ draws) (place ∷ places) =
    record { number = n; section = place.section; side = place.side; suite = place.suite; bytes = bytes } ∷ drawn_keys_from (n + 1) draws places

-- Worked rows of pairs: who holds which, in which order they are leased, and the generations of their leases.
use Rattle.std.proofs.Common.{◌≡◌, ℕ, List, [], ◌∷◌, false, true, map, refl}
use Rattle.relay_outside.specs.declared.address.Family.{Family}
use Rattle.relay_outside.specs.declared.address.Family.TheVariants.{V4, V6}
use Rattle.ng_reply.specs.declared.code.ErrorCode.TheVariants.{E15, E16}
use Rattle.histories.specs.Words.{here}
use Rattle.port_pool.specs.Ports.{range_pairs, pair_count}
use Rattle.port_pool.specs.declared.holder.Holder.{Holder}
use Rattle.port_pool.specs.declared.holder.Side.TheVariants.{A, B}
use Rattle.port_pool.specs.declared.signal.SectionSignal.TheVariants.{Reject}
use Rattle.offer_answer.specs.Rounds.{NewLeg}
use Rattle.call_board.specs.Acts as act
use Rattle.call_board.specs.Acts.{BoardEntry}
use Rattle.call_board.specs.Pairs.{Once, held, closed, free, free_in, fronts, is_short, next_lease, leased_new_legs, next_generation}
use Rattle.call_board.proofs.rows.Histories.{config, did, tick, stop, history_of, c1, c2, c3, leg, begins, offers, answers, deletes, lease}

-- Leases, from the lowest pair on.

nothing_leased : free config [] ≡ 0 ∷ 1 ∷ 2 ∷ 3 ∷ []
unfolding pair_count range_pairs
nothing_leased = refl

-- the first call has pairs 0 and 1
abbrev first_two : BoardEntry
first_two = begins c1 (leg c1 0 B 0 1 ∷ leg c1 0 A 1 1 ∷ [])

-- the second has 2 and 3
abbrev last_two : BoardEntry
last_two = begins c2 (leg c2 0 B 2 1 ∷ leg c2 0 A 3 1 ∷ [])

two_left : free config (history_of (first_two ∷ [])) ≡ 2 ∷ 3 ∷ []
unfolding pair_count range_pairs
two_left = refl

none_left : free config (history_of (first_two ∷ last_two ∷ [])) ≡ []
unfolding pair_count range_pairs
none_left = refl

held_in_order : held (history_of (first_two ∷ last_two ∷ [])) ≡ leg c1 0 B 0 1 ∷ leg c1 0 A 1 1 ∷ leg c2 0 B 2 1 ∷ leg c2 0 A 3 1 ∷ []
held_in_order = refl

-- no pair may be held twice, not even by one leg

one_pair_twice : Once (map (λ (a : Holder). a.pair) (leg c1 0 B 0 1 ∷ leg c1 0 B 0 1 ∷ [])) → ⊥
one_pair_twice once = once.0 (here refl)

-- Returns: after the pairs that were never leased, in the order of the last return.

returned_last : free config (history_of (first_two ∷ deletes c1 ∷ [])) ≡ 2 ∷ 3 ∷ 0 ∷ 1 ∷ []
unfolding pair_count range_pairs
returned_last = refl

in_order_of_return : free config (history_of (first_two ∷ last_two ∷ deletes c2 ∷ deletes c1 ∷ [])) ≡ 2 ∷ 3 ∷ 0 ∷ 1 ∷ []
unfolding pair_count range_pairs
in_order_of_return = refl

-- the pairs 2 and 3 come again with the next call and are given back once more: then they stand last
abbrev taken_again : List BoardEntry
taken_again = first_two ∷ last_two ∷ deletes c2 ∷ deletes c1 ∷ begins c3 (leg c3 0 B 2 2 ∷ leg c3 0 A 3 2 ∷ []) ∷ []

held_again : free config (history_of taken_again) ≡ 0 ∷ 1 ∷ []
unfolding pair_count range_pairs
held_again = refl

by_last_return : free config (deletes c3 ∷ history_of taken_again) ≡ 0 ∷ 1 ∷ 2 ∷ 3 ∷ []
unfolding pair_count range_pairs
by_last_return = refl

-- the last pair was never leased, so that it comes before those that were given back
never_leased_first : free config (history_of (begins c1 (leg c1 0 B 0 1 ∷ leg c1 0 A 1 1 ∷ leg c1 1 B 2 1 ∷ []) ∷ deletes c1 ∷ [])) ≡ 3 ∷ 0 ∷ 1 ∷ 2 ∷ []
unfolding pair_count range_pairs
never_leased_first = refl

-- Sections: an offer's drop and an answer's rejection close the legs of that section of that call.

abbrev two_sections : BoardEntry
two_sections = begins c1 (leg c1 0 B 0 1 ∷ leg c1 0 A 1 1 ∷ leg c1 1 B 2 1 ∷ leg c1 1 A 3 1 ∷ [])

dropped : held (history_of (two_sections ∷ offers c1 [] (0 ∷ []) ∷ [])) ≡ leg c1 1 B 2 1 ∷ leg c1 1 A 3 1 ∷ []
dropped = refl

dropped_pairs : free config (history_of (two_sections ∷ offers c1 [] (0 ∷ []) ∷ [])) ≡ 0 ∷ 1 ∷ []
unfolding pair_count range_pairs
dropped_pairs = refl

rejected : held (history_of (two_sections ∷ answers c1 (Reject ∷ []) ∷ [])) ≡ leg c1 1 B 2 1 ∷ leg c1 1 A 3 1 ∷ []
rejected = refl

rejected_pairs : free config (history_of (two_sections ∷ answers c1 (Reject ∷ Reject ∷ []) ∷ [])) ≡ 0 ∷ 1 ∷ 2 ∷ 3 ∷ []
unfolding pair_count range_pairs
rejected_pairs = refl

-- a call's drop leaves the legs of other calls
of_another_call : held (history_of (first_two ∷ last_two ∷ offers c2 [] (0 ∷ []) ∷ [])) ≡ leg c1 0 B 0 1 ∷ leg c1 0 A 1 1 ∷ []
of_another_call = refl

rejected_by_another : held (history_of (first_two ∷ last_two ∷ answers c2 (Reject ∷ []) ∷ [])) ≡ leg c1 0 B 0 1 ∷ leg c1 0 A 1 1 ∷ []
rejected_by_another = refl

-- an offer that drops a section leaves the legs that it adds itself
own_legs_stay : held (history_of (first_two ∷ offers c1 (leg c1 0 B 2 1 ∷ []) (0 ∷ []) ∷ [])) ≡ leg c1 0 B 2 1 ∷ []
own_legs_stay = refl

-- The order of closes: call by call, in lease order within a call.

abbrev interleaved : List BoardEntry
interleaved = first_two ∷ begins c2 (leg c2 0 B 2 1 ∷ []) ∷ offers c1 (leg c1 1 B 3 1 ∷ []) [] ∷ []

closed_by_stop : closed (history_of interleaved) (stop (c1 ∷ c2 ∷ [])) ≡ leg c1 0 B 0 1 ∷ leg c1 0 A 1 1 ∷ leg c1 1 B 3 1 ∷ leg c2 0 B 2 1 ∷ []
closed_by_stop = refl

returned_by_stop : free config (stop (c1 ∷ c2 ∷ []) ∷ history_of interleaved) ≡ 0 ∷ 1 ∷ 3 ∷ 2 ∷ []
unfolding pair_count range_pairs
returned_by_stop = refl

returned_by_tick : free config (tick (c2 ∷ []) ∷ history_of interleaved) ≡ 2 ∷ []
unfolding pair_count range_pairs
returned_by_tick = refl

-- dropped sections close in lease order, not in the order of the sections
closed_by_drop : closed (history_of (begins c1 (leg c1 1 B 0 1 ∷ leg c1 0 B 1 1 ∷ []) ∷ [])) (offers c1 [] (0 ∷ 1 ∷ [])) ≡ leg c1 1 B 0 1 ∷ leg c1 0 B 1 1 ∷ []
closed_by_drop = refl

-- what an offer does not drop it does not close
closes_nothing : closed (history_of (first_two ∷ [])) (offers c1 [] (1 ∷ [])) ≡ []
closes_nothing = refl

-- Offers that were undone.

-- the pairs go to the end of the queue
undone_by_ports : free config (history_of (did (act.Undone E15 (lease 0 1 ∷ lease 1 1 ∷ []) []) ∷ [])) ≡ 2 ∷ 3 ∷ 0 ∷ 1 ∷ []
unfolding pair_count range_pairs
undone_by_ports = refl

undone_by_keys : free config (history_of (first_two ∷ deletes c1 ∷ did (act.Undone E16 (lease 2 1 ∷ lease 3 1 ∷ []) []) ∷ [])) ≡ 0 ∷ 1 ∷ 2 ∷ 3 ∷ []
unfolding pair_count range_pairs
undone_by_keys = refl

-- nothing is held by them
undone_holds_nothing : held (history_of (did (act.Undone E15 (lease 0 1 ∷ lease 1 1 ∷ []) []) ∷ [])) ≡ []
undone_holds_nothing = refl

-- Generations.

first_generation : next_generation [] 0 ≡ 1
first_generation = refl

-- the next lease of a pair counts every lease before it, whether it is held, was given back, or was of an offer that was undone
second_generation : next_generation (history_of (first_two ∷ [])) 1 ≡ 2
second_generation = refl

third_generation : next_generation (history_of taken_again) 2 ≡ 3
third_generation = refl

other_pairs_count_apart : next_generation (history_of taken_again) 1 ≡ 2
other_pairs_count_apart = refl

undone_counts : next_generation (history_of (did (act.Undone E15 (lease 0 1 ∷ []) []) ∷ did (act.Undone E16 (lease 0 2 ∷ []) []) ∷ [])) 0 ≡ 3
undone_counts = refl

-- What an offer leases.

abbrev wants : (section : ℕ) → Family → NewLeg
wants section family = record { section = section; side = B; family = family }

abbrev four : List NewLeg
four = wants 0 V4 ∷ wants 1 V4 ∷ wants 2 V4 ∷ wants 3 V4 ∷ []

fronts_in_order : fronts (free_in config (history_of (first_two ∷ deletes c1 ∷ []))) (wants 0 V4 ∷ wants 1 V4 ∷ wants 2 V4 ∷ []) ≡ 2 ∷ 3 ∷ 0 ∷ []
unfolding pair_count range_pairs
fronts_in_order = refl

enough : is_short (free_in config []) four ≡ false
unfolding pair_count range_pairs
enough = refl

one_too_many : is_short (free_in config []) (wants 4 V4 ∷ four) ≡ true
unfolding pair_count range_pairs
one_too_many = refl

-- where no leg is new, no pair is wanted
wants_none : is_short (free_in config (history_of (first_two ∷ last_two ∷ []))) [] ≡ false
unfolding pair_count range_pairs
wants_none = refl

-- each family has its own list
abbrev two_lists : Family → List ℕ
two_lists V4 = 0 ∷ 1 ∷ []
two_lists V6 = 7 ∷ 8 ∷ []

by_family : fronts two_lists (wants 0 V6 ∷ wants 1 V4 ∷ wants 2 V6 ∷ wants 3 V4 ∷ []) ≡ 7 ∷ 0 ∷ 8 ∷ 1 ∷ []
by_family = refl

short_of_one_family : is_short two_lists (wants 0 V6 ∷ wants 1 V6 ∷ wants 2 V6 ∷ []) ≡ true
short_of_one_family = refl

no_address_of_version_6 : free_in config [] V6 ≡ []
unfolding pair_count range_pairs
no_address_of_version_6 = refl

legs_of_offer : leased_new_legs (history_of (first_two ∷ deletes c1 ∷ [])) c2 (2 ∷ 0 ∷ []) (wants 0 V4 ∷ wants 5 V4 ∷ []) ≡ leg c2 0 B 2 1 ∷ leg c2 5 B 0 2 ∷ []
legs_of_offer = refl

lease_of_undone : map (next_lease (history_of (first_two ∷ deletes c1 ∷ []))) (2 ∷ 0 ∷ []) ≡ lease 2 1 ∷ lease 0 2 ∷ []
lease_of_undone = refl

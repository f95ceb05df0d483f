-- Worked rows of calls: which are live, their numbers, their cells and their rounds.
use Rattle.std.proofs.Common.{◌≡◌, List, [], ◌∷◌, false, true, Some, None, refl}
use Rattle.std.specs.Prelude.{codes}
use Rattle.ng_reply.specs.declared.code.ErrorCode.TheVariants.{E9, E15}
use Rattle.port_pool.specs.declared.holder.Side.TheVariants.{B}
use Rattle.port_pool.specs.declared.signal.SectionSignal.TheVariants.{Reject}
use Rattle.offer_answer.specs.Rounds as round
use Rattle.call_board.specs.Acts as act
use Rattle.call_board.specs.Acts.{Call, BoardEntry}
use Rattle.call_board.specs.Calls.{live, find_call, new_call, lowest_but, rounds, rounds_of_call, first_moment, latest_moment, due_moment, due_after, is_ending, is_due_at}
use Rattle.call_board.proofs.rows.Histories.{asked, answered, at, did, tick, stop, history_of, call_of, c1, c2, c3, leg, offer, begins, offers, answers, deletes, delays, ending}

-- Live calls.

all_live : live (history_of (begins c1 [] ∷ begins c2 [] ∷ begins c3 [] ∷ [])) ≡ c1 ∷ c2 ∷ c3 ∷ []
all_live = refl

after_delete : live (history_of (begins c1 [] ∷ begins c2 [] ∷ begins c3 [] ∷ deletes c2 ∷ [])) ≡ c1 ∷ c3 ∷ []
after_delete = refl

after_tick : live (history_of (begins c1 [] ∷ begins c2 [] ∷ begins c3 [] ∷ tick (c1 ∷ c3 ∷ []) ∷ [])) ≡ c2 ∷ []
after_tick = refl

-- a tick that ends no call
after_idle_tick : live (history_of (begins c1 [] ∷ tick [] ∷ [])) ≡ c1 ∷ []
after_idle_tick = refl

after_stop : live (history_of (begins c1 [] ∷ begins c2 [] ∷ stop (c1 ∷ c2 ∷ []) ∷ [])) ≡ []
after_stop = refl

-- a later offer of a call begins none, and nothing but an end takes a call away
goes_on : live (history_of (begins c1 [] ∷ offers c1 [] (0 ∷ []) ∷ answers c1 (Reject ∷ []) ∷ did (act.Failed E9) ∷ did (act.Undone E15 [] []) ∷ did (act.Queried c1) ∷ did act.Told ∷ did act.Repeated ∷ did act.OutOfMemory ∷ [])) ≡ c1 ∷ []
goes_on = refl

-- a call that ended stays away, also where its call-id comes again: that is another call
abbrev again : Call
again = call_of 1 1 (codes "c1")

anew : live (history_of (begins c1 [] ∷ deletes c1 ∷ begins again [] ∷ [])) ≡ again ∷ []
anew = refl

ended_twice : live (history_of (begins c1 [] ∷ deletes c1 ∷ begins again [] ∷ deletes again ∷ [])) ≡ []
ended_twice = refl

-- Calls by their call-ids.

found : find_call (history_of (begins c1 [] ∷ begins c2 [] ∷ [])) (codes "c2") ≡ Some c2
found = refl

not_found_prefix : find_call (history_of (begins c1 [] ∷ begins c2 [] ∷ [])) (codes "c") ≡ None
not_found_prefix = refl

not_found_longer : find_call (history_of (begins c1 [] ∷ begins c2 [] ∷ [])) (codes "c22") ≡ None
not_found_longer = refl

not_found_ended : find_call (history_of (begins c1 [] ∷ deletes c1 ∷ [])) (codes "c1") ≡ None
not_found_ended = refl

found_anew : find_call (history_of (begins c1 [] ∷ deletes c1 ∷ begins again [] ∷ [])) (codes "c1") ≡ Some again
found_anew = refl

-- Numbers and cells.

first_call : new_call [] (codes "c1") ≡ c1
first_call = refl

second_call : new_call (history_of (begins c1 [] ∷ [])) (codes "c2") ≡ c2
second_call = refl

-- a call's number never comes again, its cell does
number_after_end : new_call (history_of (begins c1 [] ∷ begins c2 [] ∷ deletes c1 ∷ [])) (codes "c3") ≡ call_of 2 1 (codes "c3")
number_after_end = refl

number_after_all : new_call (history_of (begins c1 [] ∷ begins c2 [] ∷ stop (c1 ∷ c2 ∷ []) ∷ [])) (codes "c3") ≡ call_of 2 1 (codes "c3")
number_after_all = refl

-- another offer of a call counts for no number
number_after_offers : new_call (history_of (begins c1 [] ∷ offers c1 [] [] ∷ offers c1 [] [] ∷ [])) (codes "c2") ≡ c2
number_after_offers = refl

cell_between : new_call (history_of (begins c1 [] ∷ begins c2 [] ∷ begins c3 [] ∷ deletes c2 ∷ [])) (codes "c4") ≡ call_of 3 2 (codes "c4")
cell_between = refl

lowest_of_none : lowest_but [] ≡ 1
lowest_of_none = refl

lowest_after : lowest_but (1 ∷ 2 ∷ 3 ∷ []) ≡ 4
lowest_after = refl

lowest_before : lowest_but (2 ∷ 3 ∷ []) ≡ 1
lowest_before = refl

lowest_in_disorder : lowest_but (5 ∷ 2 ∷ 1 ∷ 4 ∷ []) ≡ 3
lowest_in_disorder = refl

-- Rounds.

abbrev talk : List BoardEntry
talk = history_of (
    at 5 (offer c1 true [] [] []) ∷ at 6 (offer c2 true [] [] []) ∷ at 7 (act.Answered (record { of = c1; ask = answered; signal = [] })) ∷
    at 8 (act.Failed E9) ∷ at 9 (act.Undone E15 [] []) ∷ at 10 (offer c1 false (leg c1 0 B 0 1 ∷ []) [] []) ∷ at 11 (act.Queried c1) ∷ at 12 act.Repeated ∷ [])

-- the rounds of one call alone, latest first
rounds_of_first : rounds talk 0 ≡ round.Offered asked (leg c1 0 B 0 1 ∷ []) [] ∷ round.Answered answered ∷ round.Offered asked [] [] ∷ []
rounds_of_first = refl

rounds_of_second : rounds talk 1 ≡ round.Offered asked [] [] ∷ []
rounds_of_second = refl

rounds_of_none : rounds talk 2 ≡ []
rounds_of_none = refl

-- a new call of an old call-id has no rounds
rounds_anew : rounds_of_call (history_of (begins c1 [] ∷ deletes c1 ∷ [])) (find_call (history_of (begins c1 [] ∷ deletes c1 ∷ [])) (codes "c1")) ≡ []
rounds_anew = refl

created : first_moment talk 0 ≡ 5
created = refl

last_signal : latest_moment talk 0 ≡ 10
last_signal = refl

last_signal_of_second : latest_moment talk 1 ≡ 6
last_signal_of_second = refl

-- Calls that are ending.

due_at_the_earliest : due_moment ending 0 ≡ Some 5000
due_at_the_earliest = refl

not_due_before : is_due_at ending 0 4999 ≡ false
not_due_before = refl

due_from_then_on : (is_due_at ending 0 5000 ≡ true) × (is_due_at ending 0 5001 ≡ true)
due_from_then_on = (refl, refl)

others_go_on : is_ending ending 1 ≡ false
others_go_on = refl

still_live_when_ending : live ending ≡ c1 ∷ c2 ∷ []
still_live_when_ending = refl

-- a call that was begun anew under an old call-id isn't ending
not_ending_anew : is_ending (history_of (begins c1 [] ∷ delays 0 c1 5 ∷ deletes c1 ∷ begins c2 [] ∷ [])) 1 ≡ false
not_ending_anew = refl

due_at_most : due_after 18446744073709551615 1 ≡ 18446744073709551615
due_at_most = refl

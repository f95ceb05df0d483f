-- Worked rows of replies: which reply comes first, and what is done with it.
use Rattle.std.proofs.Common.{◌≡◌, ap, List, [], ◌∷◌, true, false, cond, Some, None, Err, refl}
use Rattle.std.specs.Prelude.{codes}
use Rattle.relay_outside.specs.declared.address.Family.TheVariants.{V6}
use Rattle.port_pool.specs.Ports.{range_pairs, pair_count}
use Rattle.ng_command.specs.Meanings as said
use Rattle.ng_reply.specs.declared.code.ErrorCode.TheVariants.{E3, E9, E10, E13, E14, E15, E16, E17, E19}
use Rattle.port_pool.specs.declared.holder.Side.TheVariants.{B}
use Rattle.offer_answer.specs.Rounds.{Round}
use Rattle.offer_answer.specs.Plan as plan
use Rattle.call_board.specs.Acts as act
use Rattle.call_board.specs.Acts.{Call, Given, Control, Tick, Stop, BoardEntry}
use Rattle.call_board.specs.Calls.{rounds}
use Rattle.call_board.specs.Pairs.{free_in, is_short, drawn_keys_from}
use Rattle.call_board.specs.Replies.{Pong, Done, Warned, Reported, Listed, Fault, reply_datagram}
use Rattle.call_board.specs.Answers.{failing, telling, answering_command, answering_asked, answering_unless, delete_of, offer_to, answer_to, offer_planned, offer_leased, leased_pairs, offering}
use Rattle.call_board.specs.Fits.{FitsAt, named_live}
use Rattle.call_board.proofs.rows.Histories.{config, asked, options, from_port, given, at, history_of, c1, c2, c3, leg, lease, begins, offer, deletes, ending, answered, key}

abbrev datagram : Given → Control
datagram gave = record { source = from_port 2223; cookie = codes "7_o"; body = []; too_long = false; pairs = None; chosen = []; given = gave; reply = []; act = act.Told }

abbrev out_of_memory : Given
out_of_memory = record given { out_of_memory = true }

abbrev two : List BoardEntry
two = history_of (begins c1 [] ∷ begins c2 [] ∷ [])

abbrev begins_with_keys : BoardEntry
begins_with_keys = at 0 (offer c1 true [] (key 0 0 B (1 ∷ []) ∷ key 1 0 B (2 ∷ []) ∷ []) [])

abbrev full : List BoardEntry
full = history_of (begins c1 [] ∷ begins c2 [] ∷ begins c3 [] ∷ [])

-- What comes before the command.

-- a kept reply is sent again, also where memory runs out
kept_first : answering_unless config two (datagram out_of_memory) (Some (codes "7_o pong")) ≡ record { bytes = codes "7_o pong"; act = act.Repeated }
kept_first = refl

out_of_memory_reply : answering_unless config two (datagram out_of_memory) None ≡ record { bytes = reply_datagram config (codes "7_o") [] (Fault E17); act = act.OutOfMemory }
out_of_memory_reply = refl

faulty_command : answering_asked config two (datagram given) (Err E3) ≡ record { reply = Fault E3; act = act.Failed E3 }
faulty_command = refl

-- Commands.

ping : answering_command config two (datagram given) said.Ping ≡ record { reply = Pong; act = act.Told }
ping = refl

list_of_two : answering_command config two (datagram given) (said.Listing 32) ≡ record { reply = Listed (codes "c1" ∷ codes "c2" ∷ []); act = act.Told }
list_of_two = refl

list_of_first : answering_command config two (datagram given) (said.Listing 1) ≡ record { reply = Listed (codes "c1" ∷ []); act = act.Told }
list_of_first = refl

-- an answer, a query and a delete of a call that is not live
answer_of_none : answering_command config two (datagram given) (said.Answer (codes "c3") (codes "a") (codes "b") [] options) ≡ record { reply = Fault E9; act = act.Failed E9 }
answer_of_none = refl

query_of_none : answering_command config two (datagram given) (said.Query (codes "c3")) ≡ record { reply = Fault E9; act = act.Failed E9 }
query_of_none = refl

delete_of_none : answering_command config two (datagram given) (said.Delete (codes "c3") None false 0) ≡ record { reply = Warned E9; act = act.Told }
delete_of_none = refl

fatal_delete_of_none : answering_command config two (datagram given) (said.Delete (codes "c3") None true 0) ≡ record { reply = Fault E9; act = act.Failed E9 }
fatal_delete_of_none = refl

delete_of_ended : answering_command config (deletes c1 ∷ two) (datagram given) (said.Delete (codes "c1") None false 0) ≡ record { reply = Warned E9; act = act.Told }
delete_of_ended = refl

delete_of_live : answering_command config two (datagram given) (said.Delete (codes "c2") None false 0) ≡ record { reply = Done; act = act.Deleted c2 }
delete_of_live = refl

-- a delete with a tag ends the call where the tag is a side's
delete_by_side : plan.is_side (rounds two 0) (codes "a") ≡ true → delete_of two (Some (codes "a")) true 0 (Some c1) ≡ record { reply = Done; act = act.Deleted c1 }
delete_by_side is = ap (λ b. cond b (record { reply = Done; act = act.Deleted c1 }) (failing E10)) is

delete_by_stranger : plan.is_side (rounds two 0) (codes "z") ≡ false → delete_of two (Some (codes "z")) false 0 (Some c1) ≡ record { reply = Warned E10; act = act.Told }
delete_by_stranger is = ap (λ b. cond b (record { reply = Done; act = act.Deleted c1 }) (telling (Warned E10))) is

fatal_delete_by_stranger : plan.is_side (rounds two 0) (codes "z") ≡ false → delete_of two (Some (codes "z")) true 0 (Some c1) ≡ record { reply = Fault E10; act = act.Failed E10 }
fatal_delete_by_stranger is = ap (λ b. cond b (record { reply = Done; act = act.Deleted c1 }) (failing E10)) is

-- a delete with a delay has a live call end later, and one without ends also a call that is ending
delete_later : answering_command config two (datagram given) (said.Delete (codes "c2") None false 5) ≡ record { reply = Done; act = act.Delayed c2 5 }
delete_later = refl

delete_again_later : answering_command config ending (datagram given) (said.Delete (codes "c1") None false 5) ≡ record { reply = Done; act = act.Delayed c1 5 }
delete_again_later = refl

delete_at_once : answering_command config ending (datagram given) (said.Delete (codes "c1") None false 0) ≡ record { reply = Done; act = act.Deleted c1 }
delete_at_once = refl

-- a call that is ending takes no offer or answer, whatever else is at fault, and is listed
offer_of_ending : offer_to config ending given (codes "c1") asked (Some c1) ≡ record { reply = Fault E19; act = act.Failed E19 }
offer_of_ending = refl

answer_of_ending : answer_to config ending answered (Some c1) ≡ record { reply = Fault E19; act = act.Failed E19 }
answer_of_ending = refl

list_with_ending : answering_command config ending (datagram given) (said.Listing 32) ≡ record { reply = Listed (codes "c1" ∷ codes "c2" ∷ []); act = act.Told }
list_with_ending = refl

-- a query tells the moments of the first and of the last accepted offer or answer
query_of_live : answering_command config (history_of (at 5 (offer c1 true [] [] []) ∷ at 9 (offer c1 false [] [] []) ∷ at 12 (act.Queried c1) ∷ [])) (datagram (record given { report = Some [] })) (said.Query (codes "c1"))
    ≡ record { reply = Reported (record { created = 5; last_signal = 9; rounds = rounds (history_of (at 5 (offer c1 true [] [] []) ∷ at 9 (offer c1 false [] [] []) ∷ [])) 0; legs = [] }); act = act.Queried c1 }
query_of_live = refl

-- Offers.

-- the limit of sessions comes before the pairs, for a new call
limit_reached : (before : List Round) (c : Call) → offer_planned config full given asked c true before ≡ record { reply = Fault E14; act = act.Failed E14 }
limit_reached before c = refl

-- a live call may offer again
limit_is_for_new_calls : (before : List Round)
    → offer_planned config full given asked c1 false before
    ≡ cond (is_short (free_in config full) (plan.demand before asked).pairs) (failing E13) (offer_leased config full given asked c1 false before (leased_pairs config full (plan.demand before asked)))
limit_is_for_new_calls before = refl

limit_not_reached : (before : List Round)
    → offer_planned config two given asked c3 true before
    ≡ cond (is_short (free_in config two) (plan.demand before asked).pairs) (failing E13) (offer_leased config two given asked c3 true before (leased_pairs config two (plan.demand before asked)))
limit_not_reached before = refl

-- a failed open undoes the leases, and nothing was drawn; it comes before a failed draw
port_fault : (before : List Round)
    → offer_leased config (begins c1 (leg c1 0 B 0 1 ∷ []) ∷ []) (record given { opens = true ∷ true ∷ true ∷ false ∷ []; draw_failed = true }) asked c1 false before (0 ∷ 1 ∷ [])
    ≡ record { reply = Fault E15; act = act.Undone E15 (lease 0 2 ∷ lease 1 1 ∷ []) [] }
port_fault before = refl

-- a failed draw undoes them too, and the keys that were drawn are used up
key_fault : (before : List Round)
    → offer_leased config [] (record given { opens = true ∷ true ∷ []; draws = (7 ∷ []) ∷ []; draw_failed = true }) asked c1 true before (0 ∷ [])
    ≡ record { reply = Fault E16; act = act.Undone E16 (lease 0 1 ∷ []) ((7 ∷ []) ∷ []) }
key_fault before = refl

-- the keys of an offer are numbered from the count of those drawn before
numbered_on : (before : List Round)
    → offer_leased config (begins_with_keys ∷ []) (record given { draws = (3 ∷ []) ∷ [] }) asked c2 true before []
    ≡ offering config before (record { of = c2; begins = true; ask = asked; legs = []; keys = drawn_keys_from 2 ((3 ∷ []) ∷ []) (plan.demand before asked).keys; dropped = (plan.demand before asked).dropped })
numbered_on before = refl

-- a leg gets a pair of its own family alone
other_family : leased_pairs config [] (record { pairs = record { section = 0; side = B; family = V6 } ∷ []; keys = []; dropped = [] }) ≡ []
unfolding pair_count range_pairs
other_family = refl

-- Ticks name live calls, in the order of their beginning.

named_in_order : named_live full (c3 ∷ c1 ∷ []) ≡ c1 ∷ c3 ∷ []
named_in_order = refl

named_is_live : named_live (deletes c2 ∷ full) (c2 ∷ c3 ∷ []) ≡ c3 ∷ []
named_is_live = refl

-- a tick ends live calls alone, and a stop all of them
tick_of_none : FitsAt config [] 0 (Tick (c1 ∷ [])) → ⊥
tick_of_none fits = let e : c1 ∷ [] ≡ [] = fits.0 in cc

tick_of_ended : FitsAt config (deletes c1 ∷ two) 0 (Tick (c1 ∷ [])) → ⊥
tick_of_ended fits = let e : c1 ∷ [] ≡ [] = fits.0 in cc

-- a tick names each call that is due, and may end others
tick_passes_over_due : FitsAt config ending 5000 (Tick []) → ⊥
tick_passes_over_due fits = let e : false ≡ true = fits.1.0 refl in cc

tick_ends_due : FitsAt config ending 5000 (Tick (c1 ∷ []))
tick_ends_due = (refl, ((λ due. refl), ((λ due. absurd (let e : false ≡ true = due in cc)), tt)))

tick_before_due : FitsAt config ending 4999 (Tick [])
tick_before_due = (refl, ((λ due. absurd (let e : false ≡ true = due in cc)), ((λ due. absurd (let e : false ≡ true = due in cc)), tt)))

stop_of_some : FitsAt config two 0 (Stop (c1 ∷ [])) → ⊥
stop_of_some fits = let e : c1 ∷ [] ≡ c1 ∷ c2 ∷ [] = fits in cc

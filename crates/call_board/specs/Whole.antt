-- What an entry of the history makes of what the board keeps: the changes that the calls of its turn make, in their order.
use Rattle.std.specs.Prelude.{◌≡◌, ◌≤◌, ℕ, zero, suc, List, [], ◌∷◌, map, length, None, if◌then◌else◌}
use Rattle.cookie_cache.specs.Keepings.{moment_used}
use Rattle.port_pool.specs.declared.holder.Holder.{Holder}
use Rattle.port_pool.specs.declared.pairs.Lease as pairs
use Rattle.offer_answer.specs.Rounds.{Round, NewLeg}
use Rattle.offer_answer.specs.Rounds as round
use Rattle.call_board.specs.Acts.{Call, Lease, Offer, Answer, Act, Repeated, OutOfMemory, Failed, Undone, Offered, Answered, Deleted, Delayed, Queried, Told, Control, BoardEvent, Turn, Tick, Stop, BoardEntry}
use Rattle.call_board.specs.Calls.{due_after}
use Rattle.call_board.specs.Pairs.{closed_of}
use Rattle.call_board.specs.Views.{View, board_last_moment, view_at_moment, with_keeping, one_drawn, with_calls, with_new_call, with_leases, with_returned, without_call, goes_on, ends_by}

-- The legs that an offer leases pairs for: a lease for each leg that it demands, in order.

abbrev pub holder_of_new_leg : Call → pairs.Lease → NewLeg → Holder
holder_of_new_leg c lease leg = record { cell = c.cell; call = c.number; section = leg.section; side = leg.side; pair = lease.pair; generation = lease.generation }

abbrev pub holders_of_new_legs : Call → List pairs.Lease → List NewLeg → List Holder
holders_of_new_legs c [] legs = []
holders_of_new_legs c (lease ∷ leases) [] = []
holders_of_new_legs c (lease ∷ leases) (leg ∷ legs) = holder_of_new_leg c lease leg ∷ holders_of_new_legs c leases legs

-- Steps that several acts have.

-- that many keys were drawn, one after the other
abbrev pub with_draws : View → ℕ → View
with_draws v zero = v
with_draws v (suc count) = one_drawn (with_draws v count)

-- the reply of a datagram is kept
abbrev pub with_reply : ℕ → Control → View → View
with_reply now c v = with_keeping v (record { source = c.source; cookie = c.cookie; reply = c.reply; moment = moment_used v.keepings now })

-- the pairs of the legs that the entry closes of one call are given back, in lease order
abbrev pub with_closed : List BoardEntry → BoardEntry → Call → View → View
with_closed h e of v = with_returned v (map (λ leg. leg.pair) (closed_of h e of))

-- one more offer or answer of a live call is taken in
abbrev pub with_more : Call → Round → ℕ → View → View
with_more of round now v = with_calls v (goes_on of.number round now v.calls)

-- the first offer of a call is taken in
abbrev pub with_first : Call → Round → ℕ → View → View
with_first of round now v = with_new_call v (record { of = of; rounds = round ∷ []; first = now; last = now; due = None })

-- a live call is to end at this moment, or earlier if that is due
abbrev pub with_due_call : ℕ → ℕ → View → View
with_due_call number moment v = with_calls v (ends_by number moment v.calls)

-- these calls end, one after the other, and the pairs of each are given back
abbrev pub with_ended : List BoardEntry → BoardEntry → List Call → View → View
with_ended h e [] v = v
with_ended h e (of ∷ calls) v = with_ended h e calls (with_closed h e of (without_call v of.number))

-- What each act makes, from the moment of its datagram on.

-- a kept reply is sent again, or memory ran out: nothing is kept
abbrev pub after_nothing : View → View
after_nothing v = v

-- it failed, told or asked: the reply is kept
abbrev pub after_reply : BoardEntry → Control → View → View
after_reply e c v = with_reply e.moment c v

-- an offer that was undone leased its pairs and drew its keys, and gave the pairs back
abbrev pub after_undone : BoardEntry → Control → List Lease → List (List ℕ) → View → View
after_undone e c leases draws v =
    let leased = with_draws (with_leases v (map (λ lease. lease.pair) leases)) (length draws) in
    with_reply e.moment c (with_returned leased (map (λ lease. lease.pair) leases))

-- an accepted offer leased its pairs and drew its keys, was taken in, and gave back the pairs that it dropped
abbrev pub after_offer : List BoardEntry → BoardEntry → Control → Offer → View → View
after_offer h e c o v =
    let made : Round = round.Offered o.ask o.legs o.keys in
    let leased = with_draws (with_leases v (map (λ leg. leg.pair) o.legs)) (length o.keys) in
    let taken = if o.begins then with_first o.of made e.moment leased else with_more o.of made e.moment leased in
    with_reply e.moment c (with_closed h e o.of taken)

-- an accepted answer was taken in, and gave back the pairs that it rejected
abbrev pub after_answer : List BoardEntry → BoardEntry → Control → Answer → View → View
after_answer h e c a v = with_reply e.moment c (with_closed h e a.of (with_more a.of (round.Answered a.ask) e.moment v))

-- a delete ended its call and gave back the call's pairs
abbrev pub after_delete : List BoardEntry → BoardEntry → Control → Call → View → View
after_delete h e c of v = with_reply e.moment c (with_closed h e of (without_call v of.number))

-- a delete with a delay made its call ending
abbrev pub after_delay : BoardEntry → Control → Call → (seconds : ℕ) → View → View
after_delay e c of seconds v = with_reply e.moment c (with_due_call of.number (due_after e.moment seconds) v)

abbrev pub after_act : List BoardEntry → BoardEntry → Control → Act → View → View
after_act h e c Repeated v = after_nothing v
after_act h e c OutOfMemory v = after_nothing v
after_act h e c (Failed code) v = after_reply e c v
after_act h e c (Undone code leases draws) v = after_undone e c leases draws v
after_act h e c (Offered o) v = after_offer h e c o v
after_act h e c (Answered a) v = after_answer h e c a v
after_act h e c (Deleted of) v = after_delete h e c of v
after_act h e c (Delayed of seconds) v = after_delay e c of seconds v
after_act h e c (Queried of) v = after_reply e c v
after_act h e c Told v = after_reply e c v

-- a datagram and a tick raise the board's moment first, a stop does not
abbrev pub after_event : List BoardEntry → BoardEntry → BoardEvent → View → View
after_event h e (Turn c) v = after_act h e c c.act (view_at_moment v e.moment)
after_event h e (Tick calls) v = with_ended h e calls (view_at_moment v e.moment)
after_event h e (Stop calls) v = with_ended h e calls v

-- what the board keeps after one more entry
abbrev pub view_after : List BoardEntry → BoardEntry → View → View
view_after h e v = after_event h e e.event v

-- The moment of a datagram or a tick is not before the last one; that of a stop is the last one.
abbrev pub IsMomentOf : List BoardEntry → ℕ → BoardEvent → Type 0
IsMomentOf h moment (Turn c) = board_last_moment h ≤ moment
IsMomentOf h moment (Tick calls) = board_last_moment h ≤ moment
IsMomentOf h moment (Stop calls) = moment ≡ board_last_moment h

abbrev pub IsTimely : List BoardEntry → BoardEntry → Type 0
IsTimely h e = IsMomentOf h e.moment e.event

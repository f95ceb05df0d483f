-- Which reply a control datagram gets and what it does, after the history of the board.
use Rattle.std.specs.Prelude.{ℕ, Bool, true, false, not, ◌&&◌, ◌==◌, nat_le, List, [], map, length, take, Option, Some, None, Result, Ok, Err, if◌then◌else◌}
use Rattle.std.specs.List.{list_any}
use Rattle.histories.specs.Words.{or_else}
use Rattle.relay_outside.specs.declared.settings.Config.{Config}
use Rattle.ng_command.specs.declared.command.Options.{Options}
use Rattle.ng_command.specs.Meanings.{Said, Ping, Offer, Answer, Delete, Query, Listing}
use Rattle.ng_reply.specs.declared.code.ErrorCode.{ErrorCode}
use Rattle.ng_reply.specs.declared.code.ErrorCode.TheVariants.{E9, E10, E13, E14, E15, E16, E17, E19}
use Rattle.sdes_lines.specs.declared.crypto_line.CryptoLine.{CryptoLine}
use Rattle.port_pool.specs.Ports.{pair_port}
use Rattle.port_pool.specs.declared.reports.LegReport.{LegReport}
use Rattle.offer_answer.specs.Rounds.{Round, OfferAsk, AnswerAsk, Demand}
use Rattle.offer_answer.specs.Plan as plan
use Rattle.call_board.specs.Acts as act
use Rattle.call_board.specs.Acts.{Call, Act, Given, Control, BoardEvent, Turn, Tick, Stop, BoardEntry}
use Rattle.call_board.specs.Calls.{live, find_call, new_call, rounds, is_ending, first_moment, latest_moment}
use Rattle.call_board.specs.Pairs.{free_in, fronts, is_short, next_lease, leased_new_legs, drawn_keys_from, drawn}
use Rattle.call_board.specs.Replies.{Reply, Pong, Done, Warned, Described, Reported, Listed, Fault, reply_datagram}
use Rattle.call_board.specs.Requests.{asked}

-- a reply, and what is done
pub record Answering : Type 0 where
  pub reply : Reply
  pub act : Act

abbrev pub failing : ErrorCode → Answering
failing code = record { reply = Fault code; act = act.Failed code }

abbrev pub telling : Reply → Answering
telling reply = record { reply = reply; act = act.Told }

-- a call that is ending takes no offer or answer
abbrev pub ending_error : Bool → Option ErrorCode
ending_error false = None
ending_error true = Some E19

-- Offers.

abbrev pub offer_ask : List ℕ → List ℕ → Options → List (Option CryptoLine) → OfferAsk
offer_ask from_tag sdp options chosen = record { from_tag = from_tag; sdp = sdp; options = options; chosen = chosen }

-- the pairs that an offer leases
abbrev pub leased_pairs : Config → List BoardEntry → Demand → List ℕ
leased_pairs config h demand = fronts (free_in config h) demand.pairs

abbrev pub undoing : List BoardEntry → ErrorCode → List ℕ → List (List ℕ) → Answering
undoing h code pairs draws = record { reply = Fault code; act = act.Undone code (map (next_lease h) pairs) draws }

abbrev pub offering : Config → List Round → act.Offer → Answering
offering config before offer = record {
  reply = Described (plan.offer_text config before offer.ask (map (λ leg. pair_port config leg.pair) offer.legs) offer.keys);
  act = act.Offered offer;
}

-- an offer that has its pairs: the opens and the draws may fail
abbrev pub offer_leased : Config → List BoardEntry → Given → OfferAsk → Call → Bool → List Round → List ℕ → Answering
offer_leased config h given ask of begins before pairs =
    if list_any not given.opens then undoing h E15 pairs []
    else if given.draw_failed then undoing h E16 pairs given.draws
    else offering config before (record {
      of = of;
      begins = begins;
      ask = ask;
      legs = leased_new_legs h of pairs (plan.demand before ask).pairs;
      keys = drawn_keys_from (length (drawn h)) given.draws (plan.demand before ask).keys;
      dropped = (plan.demand before ask).dropped;
    })

-- an offer without a fault
abbrev pub offer_planned : Config → List BoardEntry → Given → OfferAsk → Call → Bool → List Round → Answering
offer_planned config h given ask of begins before =
    if begins && nat_le config.max_sessions (length (live h)) then failing E14
    else if is_short (free_in config h) (plan.demand before ask).pairs then failing E13
    else offer_leased config h given ask of begins before (leased_pairs config h (plan.demand before ask))

abbrev pub offer_unless : Config → List BoardEntry → Given → OfferAsk → Call → Bool → List Round → Option ErrorCode → Answering
offer_unless config h given ask of begins before (Some code) = failing code
offer_unless config h given ask of begins before None = offer_planned config h given ask of begins before

-- an offer to a live call, or to one that it begins
abbrev pub offer_to : Config → List BoardEntry → Given → List ℕ → OfferAsk → Option Call → Answering
offer_to config h given id ask None =
    offer_unless config h given ask (new_call h id) true [] (plan.offer_fault [] ask)
offer_to config h given id ask (Some of) =
    offer_unless config h given ask of false (rounds h of.number)
    (or_else (ending_error (is_ending h of.number)) (plan.offer_fault (rounds h of.number) ask))

-- Answers.

abbrev pub answer_ask : List ℕ → List ℕ → List ℕ → Options → List (Option CryptoLine) → AnswerAsk
answer_ask from_tag to_tag sdp options chosen =
    record { from_tag = from_tag; to_tag = to_tag; sdp = sdp; options = options; chosen = chosen }

abbrev pub answer_unless : Config → AnswerAsk → Call → List Round → Option ErrorCode → Answering
answer_unless config ask of before (Some code) = failing code
answer_unless config ask of before None = record {
  reply = Described (plan.answer_text config before ask);
  act = act.Answered (record { of = of; ask = ask; signal = plan.signal before ask });
}

abbrev pub answer_to : Config → List BoardEntry → AnswerAsk → Option Call → Answering
answer_to config h ask None = failing E9
answer_to config h ask (Some of) =
    answer_unless config ask of (rounds h of.number)
    (or_else (ending_error (is_ending h of.number)) (plan.answer_fault (rounds h of.number) ask))

-- Deletes.

-- the command names no tag, or one of a side
abbrev pub names_side : List Round → Option (List ℕ) → Bool
names_side before None = true
names_side before (Some tag) = plan.is_side before tag

-- a delete that finds nothing to end: an error where it is fatal, a warning otherwise
abbrev pub nothing_to_end : Bool → ErrorCode → Answering
nothing_to_end fatal code = if fatal then failing code else telling (Warned code)

-- a delete ends its call at once, or after a delay in seconds
abbrev pub deleting : Call → ℕ → Act
deleting of seconds = if seconds == 0 then act.Deleted of else act.Delayed of seconds

abbrev pub delete_of : List BoardEntry → Option (List ℕ) → (fatal : Bool) → (seconds : ℕ) → Option Call → Answering
delete_of h tag fatal seconds None = nothing_to_end fatal E9
delete_of h tag fatal seconds (Some of) =
    if names_side (rounds h of.number) tag then record { reply = Done; act = deleting of seconds } else nothing_to_end fatal E10

-- Queries.

abbrev pub reported_legs : Option (List LegReport) → List LegReport
reported_legs None = []
reported_legs (Some log) = log

abbrev pub query_of : List BoardEntry → Given → Option Call → Answering
query_of h given None = failing E9
query_of h given (Some of) = record {
  reply = Reported (record {
    created = first_moment h of.number;
    last_signal = latest_moment h of.number;
    rounds = rounds h of.number;
    legs = reported_legs given.report;
  });
  act = act.Queried of;
}

-- Any command.

abbrev pub answering_command : Config → List BoardEntry → Control → Said → Answering
answering_command config h c Ping = telling Pong
answering_command config h c (Offer id from_tag sdp options) =
    offer_to config h c.given id (offer_ask from_tag sdp options c.chosen) (find_call h id)
answering_command config h c (Answer id from_tag to_tag sdp options) =
    answer_to config h (answer_ask from_tag to_tag sdp options c.chosen) (find_call h id)
answering_command config h c (Delete id from_tag fatal seconds) = delete_of h from_tag fatal seconds (find_call h id)
answering_command config h c (Query id) = query_of h c.given (find_call h id)
answering_command config h c (Listing limit) = telling (Listed (take limit (map (λ call. call.id) (live h))))

abbrev pub answering_asked : Config → List BoardEntry → Control → Result Said ErrorCode → Answering
answering_asked config h c (Err code) = failing code
answering_asked config h c (Ok says) = answering_command config h c says

-- the reply that is due where nothing is kept and memory doesn't run out
abbrev pub answering : Config → List BoardEntry → Control → Answering
answering config h c = answering_asked config h c (asked config c.too_long c.pairs)

-- the datagram of a reply, and what is done
pub record Answered : Type 0 where
  pub bytes : List ℕ
  pub act : Act

abbrev pub spelled : Config → (cookie body : List ℕ) → Answering → Answered
spelled config cookie body a = record { bytes = reply_datagram config cookie body a.reply; act = a.act }

-- Which reply a datagram gets and what it does: a kept reply is sent again, as it was kept; the reply to any other datagram may be
-- that memory ran out; else it is the one that is due
abbrev pub answering_unless : Config → List BoardEntry → Control → Option (List ℕ) → Answered
answering_unless config h c (Some bytes) = record { bytes = bytes; act = act.Repeated }
answering_unless config h c None =
    if c.given.out_of_memory then record { bytes = reply_datagram config c.cookie c.body (Fault E17); act = act.OutOfMemory }
    else spelled config c.cookie c.body (answering config h c)

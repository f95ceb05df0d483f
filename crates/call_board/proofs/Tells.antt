-- An act tells what it stands for: the inversion of `Answers`.
use Rattle.std.proofs.Common.{◌≡◌, ◌∙◌, sym, ap, subst, ℕ, ◌<◌, List, [], length, refl, Bool, true, false, cond, not, Option, Some, None, Result, Ok, Err, arith}
use Rattle.std.specs.Prelude.{nat_le, ◌&&◌, ◌==◌}
use Rattle.std.proofs.lemmas.Bool.Decides.{nat_tests}
use Rattle.std.specs.List.{list_any}
use Rattle.relay_outside.specs.declared.settings.Config.{Config}
use Rattle.ng_command.specs.Meanings as said
use Rattle.ng_command.specs.Meanings.{Said}
use Rattle.ng_reply.specs.declared.code.ErrorCode.{ErrorCode}
use Rattle.ng_reply.specs.declared.code.ErrorCode.TheVariants.{E9, E10, E13, E14, E15, E16, E17}
use Rattle.histories.specs.Words.{In, here, there, or_else}
use Rattle.histories.proofs.Lists.{first_is_in, filtered, any_is_in}
use Rattle.offer_answer.specs.Rounds.{Round, OfferAsk, AnswerAsk, Demand}
use Rattle.offer_answer.specs.Plan as plan
use Rattle.call_board.specs.Acts as act
use Rattle.call_board.specs.Acts.{Call, Lease, Offer, Answer, Act, Given, Control, BoardEvent, Turn, Tick, Stop, BoardEntry, act, act_in}
use Rattle.call_board.specs.Calls.{live, ended_by, ended_in, ended_by_act, find_call, new_call, rounds, rounds_of_call, is_ending}
use Rattle.call_board.specs.Pairs.{free_in, is_short, leased_new_legs, drawn_keys_from, drawn}
use Rattle.call_board.specs.KeptReplies.{kept_reply}
use Rattle.call_board.specs.Requests.{asked}
use Rattle.call_board.specs.Replies.{Fault, Done, reply_datagram}
use Rattle.call_board.specs.Answers.{Answering, failing, ending_error, deleting, offering, undoing, leased_pairs, offer_ask, answer_ask, offer_leased, offer_unless, offer_to, answer_unless, answer_to, delete_of, nothing_to_end, names_side, query_of, answering_command, answering_asked, answering, answering_unless, spelled, Answered}
use Rattle.call_board.specs.Fits.{FitsBoard, FitsAt, FitsControl, GivesFor, GivesUndone, demanded, demanded_by, answered_in}
use Rattle.call_board.proofs.Once.{is_false}
use Rattle.call_board.proofs.Told.{Tells, IsTurn, IsCallOf, begins, goes_on, IsOffer, IsAnswer, IsDelay, of_ports, of_keys}

abbrev entry : ℕ → Control → BoardEntry
entry now c = record { moment = now; event = Turn c }

abbrev turn_is : (now : ℕ) (c : Control) (a : Act) → c.act ≡ a → IsTurn (entry now c) a
turn_is now c a is = record { control = c; is_turn = refl; acts = is }

found_is_live : (h : List BoardEntry) (id : List ℕ) (c : Call) → find_call h id ≡ Some c → In c (live h)
found_is_live h id c found = (filtered _ (live h) (first_is_in _ found)).0

-- Offers.

-- what is known of the turn of an offer
record Offers (config : Config) (h : List BoardEntry) (c : Control) (id : List ℕ) (ask : OfferAsk) (before : List Round) : Type 0 where
  before_is : before ≡ rounds_of_call h (find_call h id)
  demands : demanded config h c ≡ plan.demand before ask
  gives : GivesFor (demanded config h c) c.given c.act

abbrev pub leased_case : Config → List BoardEntry → Given → OfferAsk → Call → Bool → List Round → List ℕ → (failed drew : Bool) → Answering
leased_case config h given ask of new before pairs failed drew =
    cond failed (undoing h E15 pairs [])
    (cond drew (undoing h E16 pairs given.draws)
    (offering config before (record {
      of = of;
      begins = new;
      ask = ask;
      legs = leased_new_legs h of pairs (plan.demand before ask).pairs;
      keys = drawn_keys_from (length (drawn h)) given.draws (plan.demand before ask).keys;
      dropped = (plan.demand before ask).dropped;
    })))

pub false_in : (opens : List Bool) → list_any not opens ≡ true → In false opens
false_in opens h = let m = any_is_in not opens h in subst (λ b. In b opens) (is_false m.from m.makes) m.is_in

no_draws : (h : List BoardEntry) (c : Control) (code : ErrorCode) (leases : List Lease) (draws : List (List ℕ)) (d : Demand)
    → GivesFor d c.given c.act → c.act ≡ act.Undone code leases draws → list_any not c.given.opens ≡ true → c.given.draws ≡ []
no_draws h c code leases draws d gives is failed =
    let g = subst (λ a. GivesFor d c.given a) is gives in
    let u = subst (λ b. GivesUndone d c.given b) failed g.0 in
    u.1

leased_told : (config : Config) (h : List BoardEntry) (now : ℕ) (c : Control) (id : List ℕ) (ask : OfferAsk) (of : Call) (new : Bool) (before : List Round)
    → Offers config h c id ask before → is_short (free_in config h) (plan.demand before ask).pairs ≡ false
    → ((o : Offer) → o.of ≡ of → o.begins ≡ new → IsCallOf config h id o)
    → (failed drew : Bool) → list_any not c.given.opens ≡ failed → c.given.draw_failed ≡ drew
    → c.act ≡ (leased_case config h c.given ask of new before (leased_pairs config h (plan.demand before ask)) failed drew).act
    → Tells config h (entry now c) (leased_case config h c.given ask of new before (leased_pairs config h (plan.demand before ask)) failed drew).act
leased_told config h now c id ask of new before offers enough call_is true drew fails draws is = record {
  turn = turn_is now c _ is;
  id = id;
  demand = plan.demand before ask;
  enough = enough;
  leases_are = refl;
  failure = of_ports refl refl (no_draws h c _ _ _ (demanded config h c) offers.gives is fails) (false_in c.given.opens fails);
}
leased_told config h now c id ask of new before offers enough call_is false true fails draws is = record {
  turn = turn_is now c _ is;
  id = id;
  demand = plan.demand before ask;
  enough = enough;
  leases_are = refl;
  failure = of_keys refl refl draws;
}
leased_told config h now c id ask of new before offers enough call_is false false fails draws is = record {
  turn = turn_is now c _ is;
  id = id;
  call_is = call_is _ refl refl;
  demand = plan.demand before ask;
  demand_is = ap (λ rs. plan.demand rs ask) offers.before_is;
  enough = enough;
  legs_are = refl;
  draws = c.given.draws;
  drawn_are = refl;
  as_many = (subst (λ a. GivesFor (demanded config h c) c.given a) is offers.gives).1.all_drawn ∙ ap (λ (d : Demand). length d.keys) offers.demands;
  keys_are = refl;
  dropped_are = refl;
}

planned_told : (config : Config) (h : List BoardEntry) (now : ℕ) (c : Control) (id : List ℕ) (ask : OfferAsk) (of : Call) (new : Bool) (before : List Round)
    → Offers config h c id ask before
    → ((new && nat_le config.max_sessions (length (live h))) ≡ false → (o : Offer) → o.of ≡ of → o.begins ≡ new → IsCallOf config h id o)
    → (over short : Bool) → (new && nat_le config.max_sessions (length (live h))) ≡ over → is_short (free_in config h) (plan.demand before ask).pairs ≡ short
    → c.act ≡ (cond over (failing E14) (cond short (failing E13) (offer_leased config h c.given ask of new before (leased_pairs config h (plan.demand before ask))))).act
    → Tells config h (entry now c) (cond over (failing E14) (cond short (failing E13) (offer_leased config h c.given ask of new before (leased_pairs config h (plan.demand before ask))))).act
planned_told config h now c id ask of new before offers call_is true short overs shorts is = turn_is now c _ is
planned_told config h now c id ask of new before offers call_is false true overs shorts is = turn_is now c _ is
planned_told config h now c id ask of new before offers call_is false false overs shorts is =
    leased_told config h now c id ask of new before offers shorts (call_is overs) (list_any not c.given.opens) c.given.draw_failed refl refl is

unless_told : (config : Config) (h : List BoardEntry) (now : ℕ) (c : Control) (id : List ℕ) (ask : OfferAsk) (of : Call) (new : Bool) (before : List Round)
    → Offers config h c id ask before
    → ((new && nat_le config.max_sessions (length (live h))) ≡ false → (o : Offer) → o.of ≡ of → o.begins ≡ new → IsCallOf config h id o)
    → (fault : Option ErrorCode) → c.act ≡ (offer_unless config h c.given ask of new before fault).act
    → Tells config h (entry now c) (offer_unless config h c.given ask of new before fault).act
unless_told config h now c id ask of new before offers call_is (Some code) is = turn_is now c _ is
unless_told config h now c id ask of new before offers call_is None is =
    planned_told config h now c id ask of new before offers call_is (new && nat_le config.max_sessions (length (live h))) (is_short (free_in config h) (plan.demand before ask).pairs) refl refl is

below_limit : (limit count : ℕ) → nat_le limit count ≡ false → count < limit
below_limit limit count h = grind (arith, nat_tests)

offer_case : (config : Config) (h : List BoardEntry) (now : ℕ) (c : Control) (id : List ℕ) (ask : OfferAsk)
    → demanded config h c ≡ plan.demand (rounds_of_call h (find_call h id)) ask → GivesFor (demanded config h c) c.given c.act
    → (found : Option Call) → find_call h id ≡ found → c.act ≡ (offer_to config h c.given id ask found).act
    → Tells config h (entry now c) (offer_to config h c.given id ask found).act
offer_case config h now c id ask demands gives None found is =
    let rounds_are : rounds_of_call h (find_call h id) ≡ [] = ap (rounds_of_call h) found in
    unless_told config h now c id ask (new_call h id) true []
    (record { before_is = sym rounds_are; demands = demands ∙ ap (λ rs. plan.demand rs ask) rounds_are; gives = gives })
    (λ low o of_is new_is. begins new_is of_is found (below_limit _ _ low))
    (plan.offer_fault [] ask) is
offer_case config h now c id ask demands gives (Some of) found is =
    let rounds_are : rounds_of_call h (find_call h id) ≡ rounds h of.number = ap (rounds_of_call h) found in
    unless_told config h now c id ask of false (rounds h of.number)
    (record { before_is = sym rounds_are; demands = demands ∙ ap (λ rs. plan.demand rs ask) rounds_are; gives = gives })
    (λ low o of_is new_is. goes_on new_is (found ∙ ap Some (sym of_is)) (subst (λ x. In x (live h)) (sym of_is) (found_is_live h id of found)))
    (or_else (ending_error (is_ending h of.number)) (plan.offer_fault (rounds h of.number) ask)) is

-- Other commands.

abbrev done_by : Act → Answering
done_by a = record { reply = Done; act = a }

answered_told : (config : Config) (h : List BoardEntry) (now : ℕ) (c : Control) (id : List ℕ) (ask : AnswerAsk) (of : Call) → find_call h id ≡ Some of
    → (fault : Option ErrorCode) → c.act ≡ (answer_unless config ask of (rounds h of.number) fault).act
    → Tells config h (entry now c) (answer_unless config ask of (rounds h of.number) fault).act
answered_told config h now c id ask of found (Some code) is = turn_is now c _ is
answered_told config h now c id ask of found None is =
    record { turn = turn_is now c _ is; id = id; found = found; is_live = found_is_live h id of found; signal_is = refl }

answer_case : (config : Config) (h : List BoardEntry) (now : ℕ) (c : Control) (id : List ℕ) (ask : AnswerAsk)
    → (found : Option Call) → find_call h id ≡ found → c.act ≡ (answer_to config h ask found).act
    → Tells config h (entry now c) (answer_to config h ask found).act
answer_case config h now c id ask None found is = turn_is now c _ is
answer_case config h now c id ask (Some of) found is =
    answered_told config h now c id ask of found (or_else (ending_error (is_ending h of.number)) (plan.answer_fault (rounds h of.number) ask)) is

missing_told : (config : Config) (h : List BoardEntry) (now : ℕ) (c : Control) (code : ErrorCode) (fatal : Bool) → c.act ≡ (nothing_to_end fatal code).act
    → Tells config h (entry now c) (nothing_to_end fatal code).act
missing_told config h now c code true is = turn_is now c _ is
missing_told config h now c code false is = tt

done_told : (config : Config) (h : List BoardEntry) (now : ℕ) (c : Control) (of : Call) (seconds : ℕ) → In of (live h) → (at_once : Bool)
    → c.act ≡ cond at_once (act.Deleted of) (act.Delayed of seconds) → Tells config h (entry now c) (cond at_once (act.Deleted of) (act.Delayed of seconds))
done_told config h now c of seconds is_live true is = record { turn = turn_is now c _ is; is_live = is_live }
done_told config h now c of seconds is_live false is = record { turn = turn_is now c _ is; is_live = is_live }

named_told : (config : Config) (h : List BoardEntry) (now : ℕ) (c : Control) (of : Call) (fatal : Bool) (seconds : ℕ) → In of (live h) → (names : Bool)
    → c.act ≡ (cond names (done_by (deleting of seconds)) (nothing_to_end fatal E10)).act
    → Tells config h (entry now c) (cond names (done_by (deleting of seconds)) (nothing_to_end fatal E10)).act
named_told config h now c of fatal seconds is_live true is = done_told config h now c of seconds is_live (seconds == 0) is
named_told config h now c of fatal seconds is_live false is = missing_told config h now c E10 fatal is

delete_case : (config : Config) (h : List BoardEntry) (now : ℕ) (c : Control) (id : List ℕ) (tag : Option (List ℕ)) (fatal : Bool) (seconds : ℕ)
    → (found : Option Call) → find_call h id ≡ found → c.act ≡ (delete_of h tag fatal seconds found).act
    → Tells config h (entry now c) (delete_of h tag fatal seconds found).act
delete_case config h now c id tag fatal seconds None found is = missing_told config h now c E9 fatal is
delete_case config h now c id tag fatal seconds (Some of) found is =
    named_told config h now c of fatal seconds (found_is_live h id of found) (names_side (rounds h of.number) tag) is

query_case : (config : Config) (h : List BoardEntry) (now : ℕ) (c : Control) (id : List ℕ) → GivesFor (demanded config h c) c.given c.act
    → (found : Option Call) → find_call h id ≡ found → c.act ≡ (query_of h c.given found).act
    → Tells config h (entry now c) (query_of h c.given found).act
query_case config h now c id gives None found is = turn_is now c _ is
query_case config h now c id gives (Some of) found is = record {
  turn = turn_is now c _ is;
  is_live = found_is_live h id of found;
  report = (subst (λ a. GivesFor (demanded config h c) c.given a) is gives).1;
}

command_case : (config : Config) (h : List BoardEntry) (now : ℕ) (c : Control) (says : Said) → asked config c.too_long c.pairs ≡ Ok says → GivesFor (demanded config h c) c.given c.act
    → c.act ≡ (answering_command config h c says).act → Tells config h (entry now c) (answering_command config h c says).act
command_case config h now c said.Ping asks gives is = tt
command_case config h now c (said.Offer id from_tag sdp options) asks gives is =
    offer_case config h now c id (offer_ask from_tag sdp options c.chosen) (ap (demanded_by h c) asks) gives (find_call h id) refl is
command_case config h now c (said.Answer id from_tag to_tag sdp options) asks gives is =
    answer_case config h now c id (answer_ask from_tag to_tag sdp options c.chosen) (find_call h id) refl is
command_case config h now c (said.Delete id from_tag fatal seconds) asks gives is = delete_case config h now c id from_tag fatal seconds (find_call h id) refl is
command_case config h now c (said.Query id) asks gives is = query_case config h now c id gives (find_call h id) refl is
command_case config h now c (said.Listing limit) asks gives is = tt

asked_case : (config : Config) (h : List BoardEntry) (now : ℕ) (c : Control) (r : Result Said ErrorCode) → asked config c.too_long c.pairs ≡ r → GivesFor (demanded config h c) c.given c.act
    → c.act ≡ (answering_asked config h c r).act → Tells config h (entry now c) (answering_asked config h c r).act
asked_case config h now c (Err code) asks gives is = turn_is now c _ is
asked_case config h now c (Ok says) asks gives is = command_case config h now c says asks gives is

out_of_memory_case : (config : Config) (h : List BoardEntry) (now : ℕ) (c : Control) → GivesFor (demanded config h c) c.given c.act → (out_of_memory : Bool)
    → c.act ≡ cond out_of_memory act.OutOfMemory (answering config h c).act → Tells config h (entry now c) (cond out_of_memory act.OutOfMemory (answering config h c).act)
out_of_memory_case config h now c gives true is = turn_is now c _ is
out_of_memory_case config h now c gives false is = asked_case config h now c (asked config c.too_long c.pairs) refl gives is

out_of_memory_act : (config : Config) (h : List BoardEntry) (c : Control) (out_of_memory : Bool)
    → (cond out_of_memory (record { bytes = reply_datagram config c.cookie c.body (Fault E17); act = act.OutOfMemory }) (spelled config c.cookie c.body (answering config h c))).act ≡ cond out_of_memory act.OutOfMemory (answering config h c).act
out_of_memory_act config h c true = refl
out_of_memory_act config h c false = refl

kept_case : (config : Config) (h : List BoardEntry) (now : ℕ) (c : Control) → GivesFor (demanded config h c) c.given c.act
    → (o : Option (List ℕ)) → kept_reply h c.source c.cookie now ≡ o → answered_in c ≡ answering_unless config h c o → Tells config h (entry now c) (answering_unless config h c o).act
kept_case config h now c gives (Some bytes) is_kept is =
    record { turn = turn_is now c _ (ap (λ (a : Answered). a.act) is); is_kept = is_kept ∙ ap Some (sym (ap (λ (a : Answered). a.bytes) is)) }
kept_case config h now c gives None is_kept is =
    let acts = out_of_memory_act config h c c.given.out_of_memory in
    subst (Tells config h (entry now c)) (sym acts) (out_of_memory_case config h now c gives c.given.out_of_memory (ap (λ (a : Answered). a.act) is ∙ acts))

control_told : (config : Config) (h : List BoardEntry) (now : ℕ) (c : Control) → FitsControl config h now c → Tells config h (entry now c) c.act
control_told config h now c fits =
    subst (Tells config h (entry now c)) (sym (ap (λ (a : Answered). a.act) fits.answers))
    (kept_case config h now c fits.gives (kept_reply h c.source c.cookie now) refl fits.answers)

event_told : (config : Config) (h : List BoardEntry) (now : ℕ) (event : BoardEvent) → FitsAt config h now event → Tells config h (record { moment = now; event = event }) (act_in event)
event_told config h now (Turn c) fits = control_told config h now c fits
event_told config h now (Tick calls) fits = tt
event_told config h now (Stop calls) fits = tt

pub tells : (config : Config) (h : List BoardEntry) (e : BoardEntry) → FitsBoard config h e → Tells config h e (act e)
tells config h e fits = event_told config h e.moment e.event fits

pub tells_of : (config : Config) (h : List BoardEntry) (e : BoardEntry) (a : Act) → FitsBoard config h e → act e ≡ a → Tells config h e a
tells_of config h e a fits is = subst (Tells config h e) is (tells config h e fits)

pub offer_told : (config : Config) (h : List BoardEntry) (e : BoardEntry) (o : Offer) → FitsBoard config h e → act e ≡ act.Offered o → IsOffer config h e o
offer_told config h e o fits is = tells_of config h e (act.Offered o) fits is

pub answer_told : (config : Config) (h : List BoardEntry) (e : BoardEntry) (a : Answer) → FitsBoard config h e → act e ≡ act.Answered a → IsAnswer h e a
answer_told config h e a fits is = tells_of config h e (act.Answered a) fits is

pub delay_told : (config : Config) (h : List BoardEntry) (e : BoardEntry) (of : Call) (seconds : ℕ) → FitsBoard config h e → act e ≡ act.Delayed of seconds → IsDelay h e of seconds
delay_told config h e of seconds fits is = tells_of config h e (act.Delayed of seconds) fits is

ended_by_turn : (config : Config) (h : List BoardEntry) (e : BoardEntry) (c : Call) (a : Act) → Tells config h e a → In c (ended_by_act a) → In c (live h)
ended_by_turn config h e c (act.Deleted of) shown (here same) = subst (λ x. In x (live h)) (sym same) shown.is_live
ended_by_turn config h e c (act.Deleted of) shown (there i) = elim i [ ]
ended_by_turn config h e c act.Repeated shown i = elim i [ ]
ended_by_turn config h e c act.OutOfMemory shown i = elim i [ ]
ended_by_turn config h e c (act.Failed code) shown i = elim i [ ]
ended_by_turn config h e c (act.Undone code leases draws) shown i = elim i [ ]
ended_by_turn config h e c (act.Offered o) shown i = elim i [ ]
ended_by_turn config h e c (act.Answered a) shown i = elim i [ ]
ended_by_turn config h e c (act.Queried of) shown i = elim i [ ]
ended_by_turn config h e c act.Told shown i = elim i [ ]
ended_by_turn config h e c (act.Delayed of s) shown i = elim i [ ]

ended_event : (config : Config) (h : List BoardEntry) (now : ℕ) (c : Call) (event : BoardEvent) → FitsAt config h now event → In c (ended_in event) → In c (live h)
ended_event config h now c (Turn t) fits i = ended_by_turn config h (entry now t) c t.act (control_told config h now t fits) i
ended_event config h now c (Tick calls) fits i = (filtered _ (live h) (subst (λ xs. In c xs) fits.0 i)).0
ended_event config h now c (Stop calls) fits i = subst (λ xs. In c xs) fits i

-- a call that an entry ends was live
pub ended_live : (config : Config) (h : List BoardEntry) (e : BoardEntry) (c : Call) → FitsBoard config h e → In c (ended_by e) → In c (live h)
ended_live config h e c fits i = ended_event config h e.moment c e.event fits i

-- Which reply a datagram gets and what it does, case by case: each gives the act and the datagram of the reply together.
use Rattle.std.proofs.Common.{◌≡◌, ◌∙◌, sym, ap, subst, refl, ℕ, List, [], ◌∷◌, ◌++◌, map, length, take, Bool, true, false, cond, not, Option, Some, None, Result, Ok, Err}
use Rattle.std.specs.Prelude.{nat_lt}
use Rattle.std.specs.List.{list_any}
use Rattle.relay_outside.specs.declared.settings.Config.{Config}
use Rattle.ng_frame.specs.Frame.{frame}
use Rattle.ng_command.specs.Meanings as said
use Rattle.ng_command.specs.Meanings.{Said}
use Rattle.ng_reply.specs.declared.code.ErrorCode.{ErrorCode}
use Rattle.ng_reply.specs.declared.code.ErrorCode.TheVariants.{E9, E10, E13, E14, E15, E16, E17}
use Rattle.sdes_lines.specs.declared.crypto_line.CryptoLine.{CryptoLine}
use Rattle.port_pool.specs.declared.reports.LegReport.{LegReport}
use Rattle.offer_answer.specs.Rounds.{Round, OfferAsk, AnswerAsk}
use Rattle.offer_answer.specs.Plan as plan
use Rattle.call_board.specs.Acts as act
use Rattle.call_board.specs.Acts.{Act, Call, Control, BoardEntry}
use Rattle.call_board.specs.Calls.{live, find_call, rounds, first_moment, latest_moment}
use Rattle.call_board.specs.Pairs.{next_lease}
use Rattle.call_board.specs.KeptReplies.{kept_reply}
use Rattle.call_board.specs.Requests.{ReadsBody, asked}
use Rattle.call_board.specs.Replies.{Reply, Pong, Done, Warned, Described, Reported, Listed, Fault, reply_datagram}
use Rattle.call_board.specs.Reports.{Report}
use Rattle.call_board.specs.Answers.{Answering, Answered, failing, telling, offering, leased_pairs, offer_ask, answer_ask, offer_leased, offer_to, answer_to, deleting, delete_of, nothing_to_end, names_side, reported_legs, query_of, answering, answering_asked, answering_unless, spelled}
use Rattle.call_board.specs.Fits.{FitsControl, GivesFor, ReadsRequest, asks_after, demanded, demanded_by, is_read, is_request_read}
use Rattle.call_board.specs.Views.{view_of}
use Rattle.call_board.specs.Boards.{fronts_for}
use Rattle.call_board.specs.Plans.{PlansOffer, target}
use Rattle.call_board.specs.declared.board_plan.BoardPlan.{BoardPlan}
use Rattle.call_board.proofs.Dues.{IsAnswerDue, offer_leases}
use Rattle.call_board.proofs.Fixed.{unless_out_of_memory}
use Rattle.call_board.proofs.Offers.{offer_of}
use Rattle.call_board.proofs.Tells.{leased_case}

-- What is due.

-- this is the reply to the datagram and what it does at that moment; of the datagram its reply and its act are left out
abbrev pub IsDue : Config → List BoardEntry → (now : ℕ) → Control → Answered → Type 0
IsDue config h now c due = answering_unless config h c (kept_reply h c.source c.cookie now) ≡ due

-- an act, with the datagram of its reply
abbrev pub with_reply : Config → Control → Reply → Act → Answered
with_reply config c reply does = record { bytes = reply_datagram config c.cookie c.body reply; act = does }

-- nothing is kept for the datagram, memory doesn't run out, and this is what it asks
pub record Asks (config : Config) (h : List BoardEntry) (now : ℕ) (c : Control) (r : Result Said ErrorCode) : Type 0 where
  pub nothing_kept : kept_reply h c.source c.cookie now ≡ None
  pub not_out_of_memory : c.given.out_of_memory ≡ false
  pub is_asked : asked config c.too_long c.pairs ≡ r

-- The turn that is made so.

-- the datagram with its reply and its act
abbrev pub answered_as : Control → Answered → Control
answered_as c due = record c { reply = due.bytes; act = due.act }

same_answering : (config : Config) (h : List BoardEntry) (c : Control) (due : Answered) (r : Result Said ErrorCode)
    → answering_asked config h (answered_as c due) r ≡ answering_asked config h c r
same_answering config h c due (Err code) = refl
same_answering config h c due (Ok said.Ping) = refl
same_answering config h c due (Ok (said.Offer id from_tag sdp options)) = refl
same_answering config h c due (Ok (said.Answer id from_tag to_tag sdp options)) = refl
same_answering config h c due (Ok (said.Delete id from_tag fatal seconds)) = refl
same_answering config h c due (Ok (said.Query id)) = refl
same_answering config h c due (Ok (said.Listing limit)) = refl

same_due : (config : Config) (h : List BoardEntry) (c : Control) (due : Answered) (o : Option (List ℕ))
    → answering_unless config h (answered_as c due) o ≡ answering_unless config h c o
same_due config h c due (Some bytes) = refl
same_due config h c due None = ap (unless_out_of_memory config c.cookie c.body c.given.out_of_memory) (same_answering config h c due (asked config c.too_long c.pairs))

-- what is due, is due whatever stands for the reply and the act
pub due_as : (config : Config) (h : List BoardEntry) (now : ℕ) (c : Control) (due other : Answered) → IsDue config h now c due → IsDue config h now (answered_as c other) due
due_as config h now c due other is = same_due config h c other (kept_reply h c.source c.cookie now) ∙ is

same_hears : (h : List BoardEntry) (c : Control) (due : Answered) (r : Result Said ErrorCode) → ReadsRequest h c r → ReadsRequest h (answered_as c due) r
same_hears h c due (Err code) hears = tt
same_hears h c due (Ok said.Ping) hears = tt
same_hears h c due (Ok (said.Offer id from_tag sdp options)) hears = hears
same_hears h c due (Ok (said.Answer id from_tag to_tag sdp options)) hears = hears
same_hears h c due (Ok (said.Delete id from_tag fatal seconds)) hears = tt
same_hears h c due (Ok (said.Query id)) hears = tt
same_hears h c due (Ok (said.Listing limit)) hears = tt

same_demand : (h : List BoardEntry) (c : Control) (due : Answered) (r : Result Said ErrorCode) → demanded_by h (answered_as c due) r ≡ demanded_by h c r
same_demand h c due (Err code) = refl
same_demand h c due (Ok said.Ping) = refl
same_demand h c due (Ok (said.Offer id from_tag sdp options)) = refl
same_demand h c due (Ok (said.Answer id from_tag to_tag sdp options)) = refl
same_demand h c due (Ok (said.Delete id from_tag fatal seconds)) = refl
same_demand h c due (Ok (said.Query id)) = refl
same_demand h c due (Ok (said.Listing limit)) = refl

-- the turn of a datagram with the answer that is due is one that the board's history demands
pub due_fits : (config : Config) (h : List BoardEntry) (now : ℕ) (c : Control) (due : Answered) → IsDue config h now c due
    → frame (c.cookie ++ 32 ∷ c.body) ≡ Some (c.cookie, c.body) → c.too_long ≡ nat_lt 16384 (length (c.cookie ++ 32 ∷ c.body))
    → (is_read (answered_as c due) ≡ true → ReadsBody c.body c.pairs)
    → (is_request_read due.act ≡ true → ReadsRequest h c (asked config c.too_long c.pairs))
    → GivesFor (demanded config h c) c.given due.act
    → (due.act ≡ act.OutOfMemory → asks_after h (asked config c.too_long c.pairs) ≡ false → c.given.report ≡ None)
    → FitsControl config h now (answered_as c due)
due_fits config h now c due is framed length_is reads hears gives reports = record {
  framed = framed;
  length_is = length_is;
  reads = reads;
  hears = λ heard. same_hears h c due (asked config c.too_long c.pairs) (hears heard);
  gives = subst (λ d. GivesFor d c.given due.act) (sym (same_demand h c due (asked config c.too_long c.pairs))) gives;
  reports = reports;
  answers = sym (due_as config h now c due due is);
}

-- Before a command is carried out.

pub repeated_due : (config : Config) (h : List BoardEntry) (now : ℕ) (c : Control) (bytes : List ℕ) → kept_reply h c.source c.cookie now ≡ Some bytes
    → IsDue config h now c (record { bytes = bytes; act = act.Repeated })
repeated_due config h now c bytes is = ap (answering_unless config h c) is

pub out_of_memory_due : (config : Config) (h : List BoardEntry) (now : ℕ) (c : Control) → kept_reply h c.source c.cookie now ≡ None → c.given.out_of_memory ≡ true
    → IsDue config h now c (with_reply config c (Fault E17) act.OutOfMemory)
out_of_memory_due config h now c none out_of_memory =
    ap (answering_unless config h c) none ∙ ap (λ b. unless_out_of_memory config c.cookie c.body b (answering config h c)) out_of_memory

asked_due : (config : Config) (h : List BoardEntry) (now : ℕ) (c : Control) (r : Result Said ErrorCode) → Asks config h now c r
    → IsDue config h now c (spelled config c.cookie c.body (answering_asked config h c r))
asked_due config h now c r asks =
    ap (answering_unless config h c) asks.nothing_kept ∙ ap (λ b. unless_out_of_memory config c.cookie c.body b (answering config h c)) asks.not_out_of_memory
    ∙ ap (λ s. spelled config c.cookie c.body (answering_asked config h c s)) asks.is_asked

pub failed_due : (config : Config) (h : List BoardEntry) (now : ℕ) (c : Control) (code : ErrorCode) → Asks config h now c (Err code)
    → IsDue config h now c (with_reply config c (Fault code) (act.Failed code))
failed_due config h now c code asks = asked_due config h now c (Err code) asks

pub ping_due : (config : Config) (h : List BoardEntry) (now : ℕ) (c : Control) → Asks config h now c (Ok said.Ping) → IsDue config h now c (with_reply config c Pong act.Told)
ping_due config h now c asks = asked_due config h now c (Ok said.Ping) asks

-- Queries and lists.

query_due : (config : Config) (h : List BoardEntry) (now : ℕ) (c : Control) (id : List ℕ) (due : Answering)
    → Asks config h now c (Ok (said.Query id)) → query_of h c.given (find_call h id) ≡ due → IsDue config h now c (spelled config c.cookie c.body due)
query_due config h now c id due asks is = asked_due config h now c (Ok (said.Query id)) asks ∙ ap (spelled config c.cookie c.body) is

-- no live call has the call-id
pub query_unknown_due : (config : Config) (h : List BoardEntry) (now : ℕ) (c : Control) (id : List ℕ)
    → Asks config h now c (Ok (said.Query id)) → find_call h id ≡ None → IsDue config h now c (with_reply config c (Fault E9) (act.Failed E9))
query_unknown_due config h now c id asks none = query_due config h now c id (failing E9) asks (ap (query_of h c.given) none)

-- what is told of a call with these reports of its legs
abbrev pub report_of_call : List BoardEntry → Call → List LegReport → Report
report_of_call h of log = record { created = first_moment h of.number; last_signal = latest_moment h of.number; rounds = rounds h of.number; legs = log }

-- the call was read
pub queried_due : (config : Config) (h : List BoardEntry) (now : ℕ) (c : Control) (id : List ℕ) (of : Call) (all_reports : List LegReport)
    → Asks config h now c (Ok (said.Query id)) → find_call h id ≡ Some of → c.given.report ≡ Some all_reports
    → IsDue config h now c (with_reply config c (Reported (report_of_call h of all_reports)) (act.Queried of))
queried_due config h now c id of all_reports asks found read =
    query_due config h now c id (record { reply = Reported (report_of_call h of all_reports); act = act.Queried of }) asks
    (ap (query_of h c.given) found
    ∙ ap (λ (o : Option (List LegReport)). record { reply = Reported (report_of_call h of (reported_legs o)); act = act.Queried of }) read)

pub listed_due : (config : Config) (h : List BoardEntry) (now : ℕ) (c : Control) (limit : ℕ) → Asks config h now c (Ok (said.Listing limit))
    → IsDue config h now c (with_reply config c (Listed (take limit (map (λ (call : Call). call.id) (live h)))) act.Told)
listed_due config h now c limit asks = asked_due config h now c (Ok (said.Listing limit)) asks

-- Deletes.

delete_due : (config : Config) (h : List BoardEntry) (now : ℕ) (c : Control) (id : List ℕ) (tag : Option (List ℕ)) (fatal : Bool) (seconds : ℕ) (due : Answering)
    → Asks config h now c (Ok (said.Delete id tag fatal seconds)) → delete_of h tag fatal seconds (find_call h id) ≡ due → IsDue config h now c (spelled config c.cookie c.body due)
delete_due config h now c id tag fatal seconds due asks is = asked_due config h now c (Ok (said.Delete id tag fatal seconds)) asks ∙ ap (spelled config c.cookie c.body) is

-- no live call has the call-id: a fault where that is fatal, and a warning elsewhere
pub delete_unknown_due : (config : Config) (h : List BoardEntry) (now : ℕ) (c : Control) (id : List ℕ) (tag : Option (List ℕ)) (fatal : Bool) (seconds : ℕ)
    → Asks config h now c (Ok (said.Delete id tag fatal seconds)) → find_call h id ≡ None → fatal ≡ true → IsDue config h now c (with_reply config c (Fault E9) (act.Failed E9))
delete_unknown_due config h now c id tag fatal seconds asks none is =
    delete_due config h now c id tag fatal seconds (failing E9) asks (ap (delete_of h tag fatal seconds) none ∙ ap (λ b. nothing_to_end b E9) is)

pub delete_unknown_warned : (config : Config) (h : List BoardEntry) (now : ℕ) (c : Control) (id : List ℕ) (tag : Option (List ℕ)) (fatal : Bool) (seconds : ℕ)
    → Asks config h now c (Ok (said.Delete id tag fatal seconds)) → find_call h id ≡ None → fatal ≡ false → IsDue config h now c (with_reply config c (Warned E9) act.Told)
delete_unknown_warned config h now c id tag fatal seconds asks none is =
    delete_due config h now c id tag fatal seconds (telling (Warned E9)) asks (ap (delete_of h tag fatal seconds) none ∙ ap (λ b. nothing_to_end b E9) is)

delete_found : (h : List BoardEntry) (tag : Option (List ℕ)) (fatal : Bool) (seconds : ℕ) (of : Call) (names : Bool) (found : Option Call) → found ≡ Some of → names_side (rounds h of.number) tag ≡ names
    → delete_of h tag fatal seconds found ≡ cond names (record { reply = Done; act = deleting of seconds }) (nothing_to_end fatal E10)
delete_found h tag fatal seconds of names found is named =
    ap (delete_of h tag fatal seconds) is ∙ ap (λ b. cond b (record { reply = Done; act = deleting of seconds }) (nothing_to_end fatal E10)) named

-- the tag is of no side of the call
pub delete_stranger_due : (config : Config) (h : List BoardEntry) (now : ℕ) (c : Control) (id : List ℕ) (tag : Option (List ℕ)) (fatal : Bool) (seconds : ℕ) (of : Call)
    → Asks config h now c (Ok (said.Delete id tag fatal seconds)) → find_call h id ≡ Some of → names_side (rounds h of.number) tag ≡ false → fatal ≡ true
    → IsDue config h now c (with_reply config c (Fault E10) (act.Failed E10))
delete_stranger_due config h now c id tag fatal seconds of asks found names is =
    delete_due config h now c id tag fatal seconds (failing E10) asks (delete_found h tag fatal seconds of false (find_call h id) found names ∙ ap (λ b. nothing_to_end b E10) is)

pub delete_stranger_warned : (config : Config) (h : List BoardEntry) (now : ℕ) (c : Control) (id : List ℕ) (tag : Option (List ℕ)) (fatal : Bool) (seconds : ℕ) (of : Call)
    → Asks config h now c (Ok (said.Delete id tag fatal seconds)) → find_call h id ≡ Some of → names_side (rounds h of.number) tag ≡ false → fatal ≡ false
    → IsDue config h now c (with_reply config c (Warned E10) act.Told)
delete_stranger_warned config h now c id tag fatal seconds of asks found names is =
    delete_due config h now c id tag fatal seconds (telling (Warned E10)) asks (delete_found h tag fatal seconds of false (find_call h id) found names ∙ ap (λ b. nothing_to_end b E10) is)

-- the call ends, at once or after a delay
pub deleted_due : (config : Config) (h : List BoardEntry) (now : ℕ) (c : Control) (id : List ℕ) (tag : Option (List ℕ)) (fatal : Bool) (seconds : ℕ) (of : Call)
    → Asks config h now c (Ok (said.Delete id tag fatal seconds)) → find_call h id ≡ Some of → names_side (rounds h of.number) tag ≡ true
    → IsDue config h now c (with_reply config c Done (deleting of seconds))
deleted_due config h now c id tag fatal seconds of asks found names =
    delete_due config h now c id tag fatal seconds (record { reply = Done; act = deleting of seconds }) asks (delete_found h tag fatal seconds of true (find_call h id) found names)

-- Answers. What an answer asks has the crypto lines that were chosen for the datagram.

abbrev pub says_answer : List ℕ → AnswerAsk → Said
says_answer id ask = said.Answer id ask.from_tag ask.to_tag ask.sdp ask.options

-- by what the board's history demands of the answer
pub due_of_answer : (config : Config) (h : List BoardEntry) (now : ℕ) (c : Control) (id : List ℕ) (ask : AnswerAsk) (due : Answering)
    → Asks config h now c (Ok (says_answer id ask)) → ask.chosen ≡ c.chosen → answer_to config h ask (find_call h id) ≡ due → IsDue config h now c (spelled config c.cookie c.body due)
due_of_answer config h now c id ask due asks heard is =
    asked_due config h now c (Ok (says_answer id ask)) asks
    ∙ ap (λ (chosen : List (Option CryptoLine)). spelled config c.cookie c.body (answer_to config h (answer_ask ask.from_tag ask.to_tag ask.sdp ask.options chosen) (find_call h id))) (sym heard)
    ∙ ap (spelled config c.cookie c.body) is

-- by the board's plan of it (`Dues.answer_due`)
pub answer_plan_due : (config : Config) (h : List BoardEntry) (now : ℕ) (c : Control) (id : List ℕ) (ask : AnswerAsk) (lines : List (List ℕ)) (p : BoardPlan)
    → Asks config h now c (Ok (says_answer id ask)) → ask.chosen ≡ c.chosen → (due : IsAnswerDue config h lines ask p (find_call h id))
    → IsDue config h now c (with_reply config c (Described (plan.answer_text config (rounds h due.of.number) ask))
    (act.Answered (record { of = due.of; ask = ask; signal = plan.signal (rounds h due.of.number) ask })))
answer_plan_due config h now c id ask lines p asks heard due =
    due_of_answer config h now c id ask (record {
      reply = Described (plan.answer_text config (rounds h due.of.number) ask);
      act = act.Answered (record { of = due.of; ask = ask; signal = plan.signal (rounds h due.of.number) ask });
    }) asks heard due.due

-- Offers. What an offer asks has the crypto lines that were chosen for the datagram.

abbrev pub says_offer : List ℕ → OfferAsk → Said
says_offer id ask = said.Offer id ask.from_tag ask.sdp ask.options

-- by what the board's history demands of the offer
pub due_of_offer : (config : Config) (h : List BoardEntry) (now : ℕ) (c : Control) (id : List ℕ) (ask : OfferAsk) (due : Answering)
    → Asks config h now c (Ok (says_offer id ask)) → ask.chosen ≡ c.chosen → offer_to config h c.given id ask (find_call h id) ≡ due
    → IsDue config h now c (spelled config c.cookie c.body due)
due_of_offer config h now c id ask due asks heard is =
    asked_due config h now c (Ok (says_offer id ask)) asks
    ∙ ap (λ (chosen : List (Option CryptoLine)). spelled config c.cookie c.body (offer_to config h c.given id (offer_ask ask.from_tag ask.sdp ask.options chosen) (find_call h id))) (sym heard)
    ∙ ap (spelled config c.cookie c.body) is

-- it fails by its first fault or shortage (`Dues.offer_fails`, or by the board's history below)
pub offer_failed_due : (config : Config) (h : List BoardEntry) (now : ℕ) (c : Control) (id : List ℕ) (ask : OfferAsk) (code : ErrorCode)
    → Asks config h now c (Ok (says_offer id ask)) → ask.chosen ≡ c.chosen → offer_to config h c.given id ask (find_call h id) ≡ failing code
    → IsDue config h now c (with_reply config c (Fault code) (act.Failed code))
offer_failed_due config h now c id ask code asks heard is = due_of_offer config h now c id ask (failing code) asks heard is

-- it has its pairs, and the opens and the draws are still to come
pub record IsLeasing (config : Config) (h : List BoardEntry) (c : Control) (id : List ℕ) (ask : OfferAsk) (of : Call) (begins : Bool) (before : List Round) (pairs : List ℕ) : Type 0 where
  pub is : offer_to config h c.given id ask (find_call h id) ≡ offer_leased config h c.given ask of begins before pairs

-- by the board's plan of it, for the call of the plan and for each leg the front of its family's free pairs
pub plan_leases : (config : Config) (h : List BoardEntry) (c : Control) (id : List ℕ) (ask : OfferAsk) (p : BoardPlan) → PlansOffer config (view_of config h) id ask (Ok p)
    → IsLeasing config h c id ask (target (view_of config h) id).of (target (view_of config h) id).begins (target (view_of config h) id).rounds
    (fronts_for config (view_of config h) (plan.demand (target (view_of config h) id).rounds ask).pairs)
plan_leases config h c id ask p planned = record { is = offer_leases config h c.given id ask p planned }

leased_due : (config : Config) (h : List BoardEntry) (now : ℕ) (c : Control) (id : List ℕ) (ask : OfferAsk) (of : Call) (begins : Bool) (before : List Round) (pairs : List ℕ) (failed drew : Bool)
    → Asks config h now c (Ok (says_offer id ask)) → ask.chosen ≡ c.chosen → IsLeasing config h c id ask of begins before pairs
    → list_any not c.given.opens ≡ failed → c.given.draw_failed ≡ drew
    → IsDue config h now c (spelled config c.cookie c.body (leased_case config h c.given ask of begins before pairs failed drew))
leased_due config h now c id ask of begins before pairs failed drew asks heard leased opened is =
    due_of_offer config h now c id ask (leased_case config h c.given ask of begins before pairs failed drew) asks heard
    (leased.is ∙ ap (λ b. leased_case config h c.given ask of begins before pairs b c.given.draw_failed) opened
    ∙ ap (leased_case config h c.given ask of begins before pairs failed) is)

-- an open failed
pub offer_ports_due : (config : Config) (h : List BoardEntry) (now : ℕ) (c : Control) (id : List ℕ) (ask : OfferAsk) (of : Call) (begins : Bool) (before : List Round) (pairs : List ℕ)
    → Asks config h now c (Ok (says_offer id ask)) → ask.chosen ≡ c.chosen → IsLeasing config h c id ask of begins before pairs
    → list_any not c.given.opens ≡ true → IsDue config h now c (with_reply config c (Fault E15) (act.Undone E15 (map (next_lease h) pairs) []))
offer_ports_due config h now c id ask of begins before pairs asks heard leased opened =
    leased_due config h now c id ask of begins before pairs true c.given.draw_failed asks heard leased opened refl

-- all were opened, and a draw failed
pub offer_keys_due : (config : Config) (h : List BoardEntry) (now : ℕ) (c : Control) (id : List ℕ) (ask : OfferAsk) (of : Call) (begins : Bool) (before : List Round) (pairs : List ℕ)
    → Asks config h now c (Ok (says_offer id ask)) → ask.chosen ≡ c.chosen → IsLeasing config h c id ask of begins before pairs
    → list_any not c.given.opens ≡ false → c.given.draw_failed ≡ true
    → IsDue config h now c (with_reply config c (Fault E16) (act.Undone E16 (map (next_lease h) pairs) c.given.draws))
offer_keys_due config h now c id ask of begins before pairs asks heard leased opened drew =
    leased_due config h now c id ask of begins before pairs false true asks heard leased opened drew

-- it is accepted
pub offered_due : (config : Config) (h : List BoardEntry) (now : ℕ) (c : Control) (id : List ℕ) (ask : OfferAsk) (of : Call) (begins : Bool) (before : List Round) (pairs : List ℕ)
    → Asks config h now c (Ok (says_offer id ask)) → ask.chosen ≡ c.chosen → IsLeasing config h c id ask of begins before pairs
    → list_any not c.given.opens ≡ false → c.given.draw_failed ≡ false
    → IsDue config h now c (spelled config c.cookie c.body (offering config before (offer_of h c ask of begins before pairs)))
offered_due config h now c id ask of begins before pairs asks heard leased opened drew =
    leased_due config h now c id ask of begins before pairs false false asks heard leased opened drew

-- The faults and shortages of an offer, by the board's history.

-- the reply to an offer without a fault, by what it lacks
abbrev planned_case : Config → List BoardEntry → Control → OfferAsk → Call → Bool → List Round → (over short : Bool) → Answering
planned_case config h c ask of begins before over short =
    cond over (failing E14) (cond short (failing E13) (offer_leased config h c.given ask of begins before (leased_pairs config h (plan.demand before ask))))

-- What an accepted offer or answer asked: its command, and that it has no fault. So the rounds of a call are as they come about.
use Rattle.std.proofs.Common.{◌≡◌, ◌∙◌, sym, ap, refl, ℕ, ◌≤◌, List, [], Bool, true, false, cond, Option, Some, None, not, length}
use Rattle.std.specs.Prelude.{Result, Ok, Err}
use Rattle.std.specs.Prelude.{◌&&◌, ◌==◌, nat_le}
use Rattle.std.specs.List.{list_any}
use Rattle.relay_outside.specs.declared.settings.Config.{Config}
use Rattle.ng_bencode.specs.Tree.{Entries}
use Rattle.sdp_text.specs.Lines.{lines_of}
use Rattle.sdp_text.specs.Descriptions.{fault_in, v6_line_in}
use Rattle.sdp_text.specs.declared.fault.SdpFault.{SdpFault}
use Rattle.ng_command.specs.Meanings as said
use Rattle.ng_command.specs.Meanings.{Said}
use Rattle.ng_command.specs.declared.command.Options.{Options}
use Rattle.ng_reply.specs.declared.code.ErrorCode.{ErrorCode}
use Rattle.ng_reply.specs.declared.code.ErrorCode.TheVariants.{E9, E10, E13, E14, E17}
use Rattle.histories.specs.Words.{or_else}
use Rattle.offer_answer.specs.Rounds.{Round, OfferAsk, AnswerAsk}
use Rattle.offer_answer.specs.Sections.{most_sections, section_count}
use Rattle.offer_answer.specs.Plan as plan
use Rattle.offer_answer.proofs.Demanded.{few_sections}
use Rattle.call_board.specs.Acts as act
use Rattle.call_board.specs.Acts.{Call, Act, Given, Control, BoardEvent, Turn, Tick, Stop, BoardEntry}
use Rattle.call_board.specs.Calls.{live, find_call, new_call, rounds, rounds_of_call, is_ending}
use Rattle.call_board.specs.Pairs.{free_in, is_short}
use Rattle.call_board.specs.KeptReplies.{kept_reply}
use Rattle.call_board.specs.Requests.{asked, asked_by, command_in, sdp_error, description_error, unless, code_if, v6_error, family_error}
use Rattle.call_board.specs.Replies.{Fault, Done, reply_datagram}
use Rattle.call_board.specs.Answers.{failing, ending_error, deleting, offer_ask, answer_ask, leased_pairs, offer_leased, offer_unless, offer_to, answer_unless, answer_to, delete_of, nothing_to_end, names_side, query_of, answering_command, answering_asked, answering, answering_unless, spelled, Answered}
use Rattle.call_board.specs.Fits.{FitsControl}
use Rattle.call_board.proofs.Tells.{leased_case}

-- an accepted offer's call and what it asks
abbrev pub offer_in : Act → Option (Call × OfferAsk)
offer_in (act.Offered o) = Some (o.of, o.ask)
offer_in _ = None

abbrev pub answer_in : Act → Option (Call × AnswerAsk)
answer_in (act.Answered a) = Some (a.of, a.ask)
answer_in _ = None

-- Offers.

leased_is : (config : Config) (h : List BoardEntry) (given : Given) (ask : OfferAsk) (of : Call) (new : Bool) (before : List Round) (pairs : List ℕ)
    (p : Call × OfferAsk) → (failed drew : Bool) → offer_in (leased_case config h given ask of new before pairs failed drew).act ≡ Some p → (of, ask) ≡ p
leased_is config h given ask of new before pairs p true drew q = absurd (let e = q in cc)
leased_is config h given ask of new before pairs p false true q = absurd (let e = q in cc)
leased_is config h given ask of new before pairs p false false q = let e = q in cc

planned_is : (config : Config) (h : List BoardEntry) (given : Given) (ask : OfferAsk) (of : Call) (new : Bool) (before : List Round)
    (p : Call × OfferAsk) → (over short : Bool)
    → offer_in (cond over (failing E14) (cond short (failing E13) (offer_leased config h given ask of new before (leased_pairs config h (plan.demand before ask))))).act ≡ Some p
    → (of, ask) ≡ p
planned_is config h given ask of new before p true short q = absurd (let e = q in cc)
planned_is config h given ask of new before p false true q = absurd (let e = q in cc)
planned_is config h given ask of new before p false false q =
    leased_is config h given ask of new before (leased_pairs config h (plan.demand before ask)) p (list_any not given.opens) given.draw_failed q

unless_is : (config : Config) (h : List BoardEntry) (given : Given) (ask : OfferAsk) (of : Call) (new : Bool) (before : List Round)
    (p : Call × OfferAsk) → (fault : Option ErrorCode) → offer_in (offer_unless config h given ask of new before fault).act ≡ Some p
    → (fault ≡ None) × ((of, ask) ≡ p)
unless_is config h given ask of new before p (Some code) q = absurd (let e = q in cc)
unless_is config h given ask of new before p None q = (
  refl,
  planned_is config h given ask of new before p (new && nat_le config.max_sessions (length (live h))) (is_short (free_in config h) (plan.demand before ask).pairs) q,
)

-- the call of an offer is the one that its call-id finds, or else a new one
pub data IsItsCall (h : List BoardEntry) (id : List ℕ) (of : Call) : Type 0 where
  is_new : find_call h id ≡ None → of ≡ new_call h id → IsItsCall h id of
  is_found : find_call h id ≡ Some of → IsItsCall h id of

-- where neither of two is there, the second isn't
second_none : {X : Type 0} (a b : Option X) → or_else a b ≡ None → b ≡ None
second_none None b q = q
second_none (Some x) b q = absurd (let e = q in cc)

-- an offer to that call has no fault after the rounds of the call that its call-id finds
record IsTo (h : List BoardEntry) (id : List ℕ) (ask : OfferAsk) (p : Call × OfferAsk) : Type 0 where
  ask_is : p.1 ≡ ask
  call_is : IsItsCall h id p.0
  no_fault : plan.offer_fault (rounds_of_call h (find_call h id)) ask ≡ None

to_is : (config : Config) (h : List BoardEntry) (given : Given) (id : List ℕ) (ask : OfferAsk) (p : Call × OfferAsk) → (found : Option Call) → find_call h id ≡ found
    → offer_in (offer_to config h given id ask found).act ≡ Some p → IsTo h id ask p
to_is config h given id ask p None found q =
    let u = unless_is config h given ask (new_call h id) true [] p (plan.offer_fault [] ask) q in
    record { call_is = is_new found (sym (ap (λ (x : Call × OfferAsk). x.0) u.1)); ask_is = sym (ap (λ (x : Call × OfferAsk). x.1) u.1); no_fault = ap (λ (o : Option Call). plan.offer_fault (rounds_of_call h o) ask) found ∙ u.0 }
to_is config h given id ask p (Some of) found q =
    let fault = plan.offer_fault (rounds h of.number) ask in
    let u = unless_is config h given ask of false (rounds h of.number) p (or_else (ending_error (is_ending h of.number)) fault) q in
    record {
      call_is = is_found (found ∙ ap (λ (x : Call × OfferAsk). Some x.0) u.1);
      ask_is = sym (ap (λ (x : Call × OfferAsk). x.1) u.1);
      no_fault = ap (λ (o : Option Call). plan.offer_fault (rounds_of_call h o) ask) found ∙ second_none (ending_error (is_ending h of.number)) fault u.0;
    }

-- Answers.

answer_no_offer : (config : Config) (ask : AnswerAsk) (of : Call) (before : List Round) → (fault : Option ErrorCode)
    → offer_in (answer_unless config ask of before fault).act ≡ None
answer_no_offer config ask of before (Some code) = refl
answer_no_offer config ask of before None = refl

found_no_offer : (config : Config) (h : List BoardEntry) (ask : AnswerAsk) → (found : Option Call) → offer_in (answer_to config h ask found).act ≡ None
found_no_offer config h ask None = refl
found_no_offer config h ask (Some of) =
    answer_no_offer config ask of (rounds h of.number) (or_else (ending_error (is_ending h of.number)) (plan.answer_fault (rounds h of.number) ask))

answered_is : (config : Config) (ask : AnswerAsk) (of : Call) (before : List Round) (p : Call × AnswerAsk) → (fault : Option ErrorCode)
    → answer_in (answer_unless config ask of before fault).act ≡ Some p → (fault ≡ None) × ((of, ask) ≡ p)
answered_is config ask of before p (Some code) q = absurd (let e = q in cc)
answered_is config ask of before p None q = (refl, let e = q in cc)

-- an answer to a live call has no fault after its rounds
record IsBy (h : List BoardEntry) (id : List ℕ) (ask : AnswerAsk) (p : Call × AnswerAsk) : Type 0 where
  ask_is : p.1 ≡ ask
  found : find_call h id ≡ Some p.0
  no_fault : plan.answer_fault (rounds h p.0.number) ask ≡ None

by_is : (config : Config) (h : List BoardEntry) (id : List ℕ) (ask : AnswerAsk) (p : Call × AnswerAsk) → (found : Option Call) → find_call h id ≡ found
    → answer_in (answer_to config h ask found).act ≡ Some p → IsBy h id ask p
by_is config h id ask p None found q = absurd (let e = q in cc)
by_is config h id ask p (Some of) found q =
    let fault = plan.answer_fault (rounds h of.number) ask in
    let u = answered_is config ask of (rounds h of.number) p (or_else (ending_error (is_ending h of.number)) fault) q in
    let same : of ≡ p.0 = ap (λ (x : Call × AnswerAsk). x.0) u.1 in
    record {
      ask_is = sym (ap (λ (x : Call × AnswerAsk). x.1) u.1);
      found = found ∙ ap Some same;
      no_fault = ap (λ (c : Call). plan.answer_fault (rounds h c.number) ask) (sym same) ∙ second_none (ending_error (is_ending h of.number)) fault u.0;
    }

fault_no_answer : (config : Config) (h : List BoardEntry) (given : Given) (ask : OfferAsk) (of : Call) (new : Bool) (before : List Round) (pairs : List ℕ)
    → (failed drew : Bool) → answer_in (leased_case config h given ask of new before pairs failed drew).act ≡ None
fault_no_answer config h given ask of new before pairs true drew = refl
fault_no_answer config h given ask of new before pairs false true = refl
fault_no_answer config h given ask of new before pairs false false = refl

planned_no_answer : (config : Config) (h : List BoardEntry) (given : Given) (ask : OfferAsk) (of : Call) (new : Bool) (before : List Round) → (over short : Bool)
    → answer_in (cond over (failing E14) (cond short (failing E13) (offer_leased config h given ask of new before (leased_pairs config h (plan.demand before ask))))).act ≡ None
planned_no_answer config h given ask of new before true short = refl
planned_no_answer config h given ask of new before false true = refl
planned_no_answer config h given ask of new before false false =
    fault_no_answer config h given ask of new before (leased_pairs config h (plan.demand before ask)) (list_any not given.opens) given.draw_failed

unless_no_answer : (config : Config) (h : List BoardEntry) (given : Given) (ask : OfferAsk) (of : Call) (new : Bool) (before : List Round) → (fault : Option ErrorCode)
    → answer_in (offer_unless config h given ask of new before fault).act ≡ None
unless_no_answer config h given ask of new before (Some code) = refl
unless_no_answer config h given ask of new before None =
    planned_no_answer config h given ask of new before (new && nat_le config.max_sessions (length (live h))) (is_short (free_in config h) (plan.demand before ask).pairs)

to_no_answer : (config : Config) (h : List BoardEntry) (given : Given) (id : List ℕ) (ask : OfferAsk) → (found : Option Call)
    → answer_in (offer_to config h given id ask found).act ≡ None
to_no_answer config h given id ask None = unless_no_answer config h given ask (new_call h id) true [] (plan.offer_fault [] ask)
to_no_answer config h given id ask (Some of) =
    unless_no_answer config h given ask of false (rounds h of.number)
    (or_else (ending_error (is_ending h of.number)) (plan.offer_fault (rounds h of.number) ask))

-- Deletes and queries are neither.

missing_neither : (fatal : Bool) (code : ErrorCode) → (offer_in (nothing_to_end fatal code).act ≡ None) × (answer_in (nothing_to_end fatal code).act ≡ None)
missing_neither true code = (refl, refl)
missing_neither false code = (refl, refl)

deleting_neither : (of : Call) (seconds : ℕ) → (at_once : Bool)
    → (offer_in (cond at_once (act.Deleted of) (act.Delayed of seconds)) ≡ None) × (answer_in (cond at_once (act.Deleted of) (act.Delayed of seconds)) ≡ None)
deleting_neither of seconds true = (refl, refl)
deleting_neither of seconds false = (refl, refl)

named_neither : (names fatal : Bool) (of : Call) (seconds : ℕ)
    → (offer_in (cond names (record { reply = Done; act = deleting of seconds }) (nothing_to_end fatal E10)).act ≡ None)
    × (answer_in (cond names (record { reply = Done; act = deleting of seconds }) (nothing_to_end fatal E10)).act ≡ None)
named_neither true fatal of seconds = deleting_neither of seconds (seconds == 0)
named_neither false fatal of seconds = missing_neither fatal E10

delete_neither : (h : List BoardEntry) (tag : Option (List ℕ)) (fatal : Bool) (seconds : ℕ) → (found : Option Call)
    → (offer_in (delete_of h tag fatal seconds found).act ≡ None) × (answer_in (delete_of h tag fatal seconds found).act ≡ None)
delete_neither h tag fatal seconds None = missing_neither fatal E9
delete_neither h tag fatal seconds (Some of) = named_neither (names_side (rounds h of.number) tag) fatal of seconds

query_neither : (h : List BoardEntry) (given : Given) → (found : Option Call)
    → (offer_in (query_of h given found).act ≡ None) × (answer_in (query_of h given found).act ≡ None)
query_neither h given None = (refl, refl)
query_neither h given (Some of) = (refl, refl)

-- Any command.

none_some : {X : Type 0} {o : Option X} {x : X} → o ≡ None → o ≡ Some x → ⊥
none_some p q = let e = sym p ∙ q in cc

-- the offer of a datagram
pub record SaysOffer (config : Config) (h : List BoardEntry) (c : Control) (p : Call × OfferAsk) : Type 0 where
  pub id : List ℕ
  pub from_tag : List ℕ
  pub sdp : List ℕ
  pub options : Options
  pub asks : asked config c.too_long c.pairs ≡ Ok (said.Offer id from_tag sdp options)
  pub ask_is : p.1 ≡ offer_ask from_tag sdp options c.chosen
  pub call_is : IsItsCall h id p.0
  pub no_fault : plan.offer_fault (rounds_of_call h (find_call h id)) p.1 ≡ None

command_offers : (config : Config) (h : List BoardEntry) (c : Control) (p : Call × OfferAsk) → (says : Said) → asked config c.too_long c.pairs ≡ Ok says
    → offer_in (answering_command config h c says).act ≡ Some p → SaysOffer config h c p
command_offers config h c p said.Ping asks q = absurd (none_some refl q)
command_offers config h c p (said.Offer id from_tag sdp options) asks q =
    let ask = offer_ask from_tag sdp options c.chosen in
    let t = to_is config h c.given id ask p (find_call h id) refl q in
    record {
      id = id;
      from_tag = from_tag;
      sdp = sdp;
      options = options;
      asks = asks;
      ask_is = t.ask_is;
      call_is = t.call_is;
      no_fault = ap (λ (a : OfferAsk). plan.offer_fault (rounds_of_call h (find_call h id)) a) t.ask_is ∙ t.no_fault;
    }
command_offers config h c p (said.Answer id from_tag to_tag sdp options) asks q =
    absurd (none_some (found_no_offer config h (answer_ask from_tag to_tag sdp options c.chosen) (find_call h id)) q)
command_offers config h c p (said.Delete id from_tag fatal seconds) asks q = absurd (none_some (delete_neither h from_tag fatal seconds (find_call h id)).0 q)
command_offers config h c p (said.Query id) asks q = absurd (none_some (query_neither h c.given (find_call h id)).0 q)
command_offers config h c p (said.Listing limit) asks q = absurd (none_some refl q)

-- the reply to a datagram
pub record SaysAnswer (config : Config) (h : List BoardEntry) (c : Control) (p : Call × AnswerAsk) : Type 0 where
  pub id : List ℕ
  pub from_tag : List ℕ
  pub to_tag : List ℕ
  pub sdp : List ℕ
  pub options : Options
  pub asks : asked config c.too_long c.pairs ≡ Ok (said.Answer id from_tag to_tag sdp options)
  pub ask_is : p.1 ≡ answer_ask from_tag to_tag sdp options c.chosen
  pub found : find_call h id ≡ Some p.0
  pub no_fault : plan.answer_fault (rounds h p.0.number) p.1 ≡ None

command_answers : (config : Config) (h : List BoardEntry) (c : Control) (p : Call × AnswerAsk) → (says : Said) → asked config c.too_long c.pairs ≡ Ok says
    → answer_in (answering_command config h c says).act ≡ Some p → SaysAnswer config h c p
command_answers config h c p said.Ping asks q = absurd (none_some refl q)
command_answers config h c p (said.Offer id from_tag sdp options) asks q =
    absurd (none_some (to_no_answer config h c.given id (offer_ask from_tag sdp options c.chosen) (find_call h id)) q)
command_answers config h c p (said.Answer id from_tag to_tag sdp options) asks q =
    let ask = answer_ask from_tag to_tag sdp options c.chosen in
    let t = by_is config h id ask p (find_call h id) refl q in
    record {
      id = id;
      from_tag = from_tag;
      to_tag = to_tag;
      sdp = sdp;
      options = options;
      asks = asks;
      ask_is = t.ask_is;
      found = t.found;
      no_fault = ap (λ (a : AnswerAsk). plan.answer_fault (rounds h p.0.number) a) t.ask_is ∙ t.no_fault;
    }
command_answers config h c p (said.Delete id from_tag fatal seconds) asks q = absurd (none_some (delete_neither h from_tag fatal seconds (find_call h id)).1 q)
command_answers config h c p (said.Query id) asks q = absurd (none_some (query_neither h c.given (find_call h id)).1 q)
command_answers config h c p (said.Listing limit) asks q = absurd (none_some refl q)

asked_offers : (config : Config) (h : List BoardEntry) (c : Control) (p : Call × OfferAsk) → (r : Result Said ErrorCode) → asked config c.too_long c.pairs ≡ r
    → offer_in (answering_asked config h c r).act ≡ Some p → SaysOffer config h c p
asked_offers config h c p (Err code) asks q = absurd (none_some refl q)
asked_offers config h c p (Ok says) asks q = command_offers config h c p says asks q

asked_answers : (config : Config) (h : List BoardEntry) (c : Control) (p : Call × AnswerAsk) → (r : Result Said ErrorCode) → asked config c.too_long c.pairs ≡ r
    → answer_in (answering_asked config h c r).act ≡ Some p → SaysAnswer config h c p
asked_answers config h c p (Err code) asks q = absurd (none_some refl q)
asked_answers config h c p (Ok says) asks q = command_answers config h c p says asks q

-- what a datagram did that was neither repeated nor out of memory follows from what it asks
out_of_memory_is : {X : Type 0} (f : Act → Option X) (x : X) (config : Config) (h : List BoardEntry) (c : Control) → f act.OutOfMemory ≡ None → (out_of_memory : Bool)
    → f (cond out_of_memory (record { bytes = reply_datagram config c.cookie c.body (Fault E17); act = act.OutOfMemory }) (spelled config c.cookie c.body (answering config h c))).act ≡ Some x
    → f (answering config h c).act ≡ Some x
out_of_memory_is f x config h c none true q = absurd (none_some none q)
out_of_memory_is f x config h c none false q = q

kept_is : {X : Type 0} (f : Act → Option X) (x : X) (config : Config) (h : List BoardEntry) (c : Control) → f act.OutOfMemory ≡ None → f act.Repeated ≡ None → (o : Option (List ℕ))
    → f (answering_unless config h c o).act ≡ Some x → f (answering config h c).act ≡ Some x
kept_is f x config h c none also (Some bytes) q = absurd (none_some also q)
kept_is f x config h c none also None q = out_of_memory_is f x config h c none c.given.out_of_memory q

asks_it : {X : Type 0} (f : Act → Option X) (x : X) (config : Config) (h : List BoardEntry) (now : ℕ) (c : Control) → FitsControl config h now c → f act.OutOfMemory ≡ None
    → f act.Repeated ≡ None → f c.act ≡ Some x → f (answering config h c).act ≡ Some x
asks_it f x config h now c fits none also q =
    kept_is f x config h c none also (kept_reply h c.source c.cookie now) (ap f (sym (ap (λ (a : Answered). a.act) fits.answers)) ∙ q)

pub control_offers : (config : Config) (h : List BoardEntry) (now : ℕ) (c : Control) (o : act.Offer) → FitsControl config h now c → c.act ≡ act.Offered o
    → SaysOffer config h c (o.of, o.ask)
control_offers config h now c o fits q =
    asked_offers config h c (o.of, o.ask) (asked config c.too_long c.pairs) refl (asks_it offer_in (o.of, o.ask) config h now c fits refl refl (ap offer_in q))

pub control_answers : (config : Config) (h : List BoardEntry) (now : ℕ) (c : Control) (a : act.Answer) → FitsControl config h now c → c.act ≡ act.Answered a
    → SaysAnswer config h c (a.of, a.ask)
control_answers config h now c a fits q =
    asked_answers config h c (a.of, a.ask) (asked config c.too_long c.pairs) refl (asks_it answer_in (a.of, a.ask) config h now c fits refl refl (ap answer_in q))

-- Descriptions.

unless_none : (o : Option ErrorCode) (says said' : Said) → unless o says ≡ Ok said' → (o ≡ None) × (says ≡ said')
unless_none None says other q = (refl, let e = q in cc)
unless_none (Some code) says other q = absurd (let e = q in cc)

first_none : {X : Type 0} (a b : Option X) → or_else a b ≡ None → a ≡ None
first_none None b q = refl
first_none (Some x) b q = absurd (let e = q in cc)

later_none : {X : Type 0} (a b : Option X) → or_else a b ≡ None → b ≡ None
later_none None b q = q
later_none (Some x) b q = absurd (let e = q in cc)

no_fault_if : (o : Option SdpFault) → code_if o ≡ None → o ≡ None
no_fault_if None q = refl
no_fault_if (Some f) q = absurd (let e = q in cc)

no_sdp_fault : (config : Config) (sdp : List ℕ) → sdp_error config sdp ≡ None → fault_in (lines_of sdp) ≡ None
unfolding sdp_error
no_sdp_fault config sdp q =
    no_fault_if (fault_in (lines_of sdp)) (first_none (code_if (fault_in (lines_of sdp))) (v6_error config.interface6 (v6_line_in (lines_of sdp))) q)

offered_fault : (config : Config) (r : Result Said ErrorCode) (id from_tag sdp : List ℕ) (options : Options)
    → asked_by config r ≡ Ok (said.Offer id from_tag sdp options) → sdp_error config sdp ≡ None
offered_fault config (Err code) id from_tag sdp options q = absurd (let e = q in cc)
offered_fault config (Ok says) id from_tag sdp options q =
    let u = unless_none (description_error config says) says (said.Offer id from_tag sdp options) q in
    later_none (family_error options.family config.interface6) (sdp_error config sdp) (ap (description_error config) (sym u.1) ∙ u.0)

-- an offer in which crypto lines are chosen has at most 8 sections
pub offers_few : (config : Config) (too_long : Bool) (pairs : Option Entries) (id from_tag sdp : List ℕ) (options : Options)
    → asked config too_long pairs ≡ Ok (said.Offer id from_tag sdp options) → section_count sdp ≤ most_sections
unfolding asked
offers_few config too_long pairs id from_tag sdp options q =
    few_sections sdp (no_sdp_fault config sdp (offered_fault config (command_in too_long pairs) id from_tag sdp options q))

-- Where nothing read the body of a datagram, or no crypto lines were chosen, what is recorded of that decides nothing: its bytes
-- fix its reply and what it does.
use Rattle.std.proofs.Common.{◌≡◌, ◌∙◌, sym, ap, subst, refl, ℕ, List, [], length, Bool, true, false, cond, not, Option, Some, None, Result, Ok, Err}
use Rattle.std.specs.Prelude.{◌&&◌, ◌||◌, ◌==◌, nat_le, nat_lt, is_some}
use Rattle.std.specs.List.{list_any}
use Rattle.std.specs.Str.{bytes_eq}
use Rattle.relay_outside.specs.declared.settings.Config.{Config}
use Rattle.histories.specs.Words.{or_else}
use Rattle.ng_bencode.specs.Tree.{Entries}
use Rattle.ng_command.specs.declared.command.Options.{Options}
use Rattle.ng_command.specs.Meanings as said
use Rattle.ng_command.specs.Meanings.{Said}
use Rattle.ng_reply.specs.declared.code.ErrorCode.{ErrorCode}
use Rattle.ng_reply.specs.declared.code.ErrorCode.TheVariants.{E8, E10, E11, E12, E13, E14, E17, E20}
use Rattle.sdes_lines.specs.declared.crypto_line.CryptoLine.{CryptoLine}
use Rattle.offer_answer.specs.Rounds.{Round, OfferAsk, AnswerAsk}
use Rattle.offer_answer.specs.Sides.{MadeOffer, last_offer, is_some_sides}
use Rattle.offer_answer.specs.Sections.{active_sections, all_sections, section_count, committed_count}
use Rattle.offer_answer.specs.Faults.{is_strangers, lacks_line, may_answer, takes_no_line, fault_of_answer_to, misfits_offerer, misfits_answerer}
use Rattle.offer_answer.specs.Plan.{offer_fault, answer_fault}
use Rattle.offer_answer.specs.Plan as plan
use Rattle.call_board.specs.Acts as act
use Rattle.call_board.specs.Acts.{Call, Act, Given, Control, Turn, BoardEntry}
use Rattle.call_board.specs.Calls.{live, find_call, new_call, rounds, is_ending}
use Rattle.call_board.specs.Pairs.{free_in, is_short}
use Rattle.call_board.specs.KeptReplies.{kept_reply}
use Rattle.call_board.specs.Requests.{asked}
use Rattle.call_board.specs.Replies.{Fault, reply_datagram}
use Rattle.call_board.specs.Answers.{Answering, Answered, failing, ending_error, leased_pairs, offer_ask, answer_ask, offer_leased, offer_unless, offer_to, answer_unless, answer_to, answering_asked, answering_unless, spelled}
use Rattle.call_board.specs.Fits.{FitsControl, answered_in, is_repeat, is_read, is_request_read}
use Rattle.call_board.proofs.Told.{IsRepeat}
use Rattle.call_board.proofs.Tells.{leased_case, tells_of}

-- What is due, where memory may run out.

abbrev pub unless_out_of_memory : Config → (cookie body : List ℕ) → Bool → Answering → Answered
unless_out_of_memory config cookie body out_of_memory a = cond out_of_memory (record { bytes = reply_datagram config cookie body (Fault E17); act = act.OutOfMemory }) (spelled config cookie body a)

abbrev act_of : Answered → Act
act_of a = a.act

-- Where the body isn't read.

abbrev read_as : Control → Option Entries → List (Option CryptoLine) → Control
read_as c pairs chosen = record c { pairs = pairs; chosen = chosen }

repeats : (a : Act) → is_repeat a ≡ true → a ≡ act.Repeated
repeats act.Repeated is = refl
repeats act.OutOfMemory is = absurd (let e = is in cc)
repeats (act.Failed code) is = absurd (let e = is in cc)
repeats (act.Undone code leases draws) is = absurd (let e = is in cc)
repeats (act.Offered o) is = absurd (let e = is in cc)
repeats (act.Answered a) is = absurd (let e = is in cc)
repeats (act.Deleted of) is = absurd (let e = is in cc)
repeats (act.Queried of) is = absurd (let e = is in cc)
repeats act.Told is = absurd (let e = is in cc)
repeats (act.Delayed of s) is = absurd (let e = is in cc)

abbrev entry : ℕ → Control → BoardEntry
entry now c = record { moment = now; event = Turn c }

-- a repeat has a kept reply
kept_one : (config : Config) (h : List BoardEntry) (now : ℕ) (c : Control) → FitsControl config h now c → c.act ≡ act.Repeated
    → kept_reply h c.source c.cookie now ≡ None → ⊥
kept_one config h now c fits is none =
    let shown : IsRepeat h (entry now c) = tells_of config h (entry now c) act.Repeated fits is in
    let same : shown.turn.control ≡ c = (let e = shown.turn.is_turn in cc) in
    let there : kept_reply h c.source c.cookie now ≡ Some shown.turn.control.reply = subst (λ (x : Control). kept_reply h x.source x.cookie now ≡ Some shown.turn.control.reply) same shown.is_kept in
    let e = sym none ∙ there in cc

-- a datagram that is too long gets this reply, whatever it spells
long_alike : (config : Config) (h : List BoardEntry) (c d : Control) (pairs others : Option Entries) (too_long : Bool) → too_long ≡ true
    → answering_asked config h d (asked config too_long others) ≡ answering_asked config h c (asked config too_long pairs)
unfolding asked
long_alike config h c d pairs others true is = refl
long_alike config h c d pairs others false is = absurd (let e = is in cc)

unread_due : (config : Config) (h : List BoardEntry) (c d : Control) (pairs others : Option Entries) → (c.act ≡ act.Repeated → ⊥) → (repeat too_long out_of_memory log : Bool)
    → is_repeat c.act ≡ repeat → (not repeat && not too_long && (not out_of_memory || log)) ≡ false
    → unless_out_of_memory config c.cookie c.body out_of_memory (answering_asked config h d (asked config too_long others)) ≡ unless_out_of_memory config c.cookie c.body out_of_memory (answering_asked config h c (asked config too_long pairs))
unread_due config h c d pairs others once true too_long out_of_memory log is unread = absurd (once (repeats c.act is))
unread_due config h c d pairs others once false true out_of_memory log is unread =
    ap (unless_out_of_memory config c.cookie c.body out_of_memory) (long_alike config h c d pairs others true refl)
unread_due config h c d pairs others once false false true log is unread = refl
unread_due config h c d pairs others once false false false log is unread = absurd (let e : true ≡ false = unread in cc)

unread_case : (config : Config) (h : List BoardEntry) (now : ℕ) (c : Control) (pairs : Option Entries) (chosen : List (Option CryptoLine)) → FitsControl config h now c
    → is_read c ≡ false → (o : Option (List ℕ)) → kept_reply h c.source c.cookie now ≡ o → answering_unless config h (read_as c pairs chosen) o ≡ answering_unless config h c o
unread_case config h now c pairs chosen fits unread (Some bytes) is = refl
unread_case config h now c pairs chosen fits unread None is =
    unread_due config h c (read_as c pairs chosen) c.pairs pairs (λ repeated. kept_one config h now c fits repeated is)
    (is_repeat c.act) c.too_long c.given.out_of_memory (is_some c.given.report) refl unread

-- the reply to a datagram of which nothing is read, and what it does, are the same whatever its body is taken for
pub unread_answer : (config : Config) (h : List BoardEntry) (now : ℕ) (c : Control) (pairs : Option Entries) (chosen : List (Option CryptoLine)) → FitsControl config h now c
    → is_read c ≡ false → answered_in c ≡ answering_unless config h (read_as c pairs chosen) (kept_reply h c.source c.cookie now)
unread_answer config h now c pairs chosen fits unread =
    fits.answers ∙ sym (unread_case config h now c pairs chosen fits unread (kept_reply h c.source c.cookie now) refl)

-- Where no crypto lines are chosen.

abbrev heard_as : Control → List (Option CryptoLine) → Control
heard_as c chosen = record c { chosen = chosen }

leased_heard : (config : Config) (h : List BoardEntry) (given : Given) (ask : OfferAsk) (of : Call) (begins : Bool) (before : List Round) (pairs : List ℕ) (failed drew : Bool)
    → is_request_read (leased_case config h given ask of begins before pairs failed drew).act ≡ true
leased_heard config h given ask of begins before pairs true drew = refl
leased_heard config h given ask of begins before pairs false true = refl
leased_heard config h given ask of begins before pairs false false = refl

planned_heard : (config : Config) (h : List BoardEntry) (given : Given) (ask : OfferAsk) (of : Call) (begins : Bool) (before : List Round) (over short : Bool)
    → is_request_read (cond over (failing E14) (cond short (failing E13) (offer_leased config h given ask of begins before (leased_pairs config h (plan.demand before ask))))).act ≡ true
planned_heard config h given ask of begins before true short = refl
planned_heard config h given ask of begins before false true = refl
planned_heard config h given ask of begins before false false =
    leased_heard config h given ask of begins before (leased_pairs config h (plan.demand before ask)) (list_any not given.opens) given.draw_failed

-- the faults that stand before the choice
offer_alike : (config : Config) (h : List BoardEntry) (given : Given) (ask other : OfferAsk) (of : Call) (begins : Bool) (before : List Round) (stranger fewer differs lacks lacks_too : Bool)
    → is_request_read (offer_unless config h given ask of begins before (cond stranger (Some E10) (cond fewer (Some E12) (cond differs (Some E20) (cond lacks (Some E8) None))))).act ≡ false
    → offer_unless config h given other of begins before (cond stranger (Some E10) (cond fewer (Some E12) (cond differs (Some E20) (cond lacks_too (Some E8) None))))
    ≡ offer_unless config h given ask of begins before (cond stranger (Some E10) (cond fewer (Some E12) (cond differs (Some E20) (cond lacks (Some E8) None))))
offer_alike config h given ask other of begins before true fewer differs lacks lacks_too unheard = refl
offer_alike config h given ask other of begins before false true differs lacks lacks_too unheard = refl
offer_alike config h given ask other of begins before false false true lacks lacks_too unheard = refl
offer_alike config h given ask other of begins before false false false true lacks_too unheard = absurd (let e : true ≡ false = unheard in cc)
offer_alike config h given ask other of begins before false false false false lacks_too unheard =
    absurd (let e = unheard in
    let f = planned_heard config h given ask of begins before (begins && nat_le config.max_sessions (length (live h))) (is_short (free_in config h) (plan.demand before ask).pairs) in
    let clash = sym e ∙ f in cc)

offer_same : (config : Config) (h : List BoardEntry) (given : Given) (from_tag sdp : List ℕ) (options : Options) (chosen others : List (Option CryptoLine)) (of : Call) (begins : Bool) (before : List Round)
    → is_request_read (offer_unless config h given (offer_ask from_tag sdp options chosen) of begins before (offer_fault before (offer_ask from_tag sdp options chosen))).act ≡ false
    → offer_unless config h given (offer_ask from_tag sdp options others) of begins before (offer_fault before (offer_ask from_tag sdp options others))
    ≡ offer_unless config h given (offer_ask from_tag sdp options chosen) of begins before (offer_fault before (offer_ask from_tag sdp options chosen))
unfolding offer_fault
offer_same config h given from_tag sdp options chosen others of begins before unheard =
    offer_alike config h given (offer_ask from_tag sdp options chosen) (offer_ask from_tag sdp options others) of begins before
    (is_strangers before (offer_ask from_tag sdp options chosen)) (nat_lt (section_count sdp) (committed_count before))
    (list_any (misfits_offerer before (offer_ask from_tag sdp options chosen)) (active_sections sdp))
    (list_any (lacks_line (offer_ask from_tag sdp options chosen)) (active_sections sdp)) (list_any (lacks_line (offer_ask from_tag sdp options others)) (active_sections sdp)) unheard

ending_same : (config : Config) (h : List BoardEntry) (given : Given) (from_tag sdp : List ℕ) (options : Options) (chosen others : List (Option CryptoLine)) (of : Call) (before : List Round) (ending : Bool)
    → is_request_read (offer_unless config h given (offer_ask from_tag sdp options chosen) of false before (or_else (ending_error ending) (offer_fault before (offer_ask from_tag sdp options chosen)))).act ≡ false
    → offer_unless config h given (offer_ask from_tag sdp options others) of false before (or_else (ending_error ending) (offer_fault before (offer_ask from_tag sdp options others)))
    ≡ offer_unless config h given (offer_ask from_tag sdp options chosen) of false before (or_else (ending_error ending) (offer_fault before (offer_ask from_tag sdp options chosen)))
ending_same config h given from_tag sdp options chosen others of before true unheard = refl
ending_same config h given from_tag sdp options chosen others of before false unheard = offer_same config h given from_tag sdp options chosen others of false before unheard

offers_same : (config : Config) (h : List BoardEntry) (given : Given) (id from_tag sdp : List ℕ) (options : Options) (chosen others : List (Option CryptoLine)) (found : Option Call)
    → is_request_read (offer_to config h given id (offer_ask from_tag sdp options chosen) found).act ≡ false
    → offer_to config h given id (offer_ask from_tag sdp options others) found ≡ offer_to config h given id (offer_ask from_tag sdp options chosen) found
offers_same config h given id from_tag sdp options chosen others None unheard = offer_same config h given from_tag sdp options chosen others (new_call h id) true [] unheard
offers_same config h given id from_tag sdp options chosen others (Some of) unheard =
    ending_same config h given from_tag sdp options chosen others of (rounds h of.number) (is_ending h of.number) unheard

answer_alike : (config : Config) (ask other : AnswerAsk) (of : Call) (before : List Round) (wrong fewer differs takes_none takes_none_too : Bool)
    → is_request_read (answer_unless config ask of before (cond wrong (Some E11) (cond fewer (Some E12) (cond differs (Some E20) (cond takes_none (Some E8) None))))).act ≡ false
    → answer_unless config other of before (cond wrong (Some E11) (cond fewer (Some E12) (cond differs (Some E20) (cond takes_none_too (Some E8) None))))
    ≡ answer_unless config ask of before (cond wrong (Some E11) (cond fewer (Some E12) (cond differs (Some E20) (cond takes_none (Some E8) None))))
answer_alike config ask other of before true fewer differs takes_none takes_none_too unheard = refl
answer_alike config ask other of before false true differs takes_none takes_none_too unheard = refl
answer_alike config ask other of before false false true takes_none takes_none_too unheard = refl
answer_alike config ask other of before false false false true takes_none_too unheard = absurd (let e : true ≡ false = unheard in cc)
answer_alike config ask other of before false false false false takes_none_too unheard = absurd (let e : true ≡ false = unheard in cc)

abbrev answer_fault_by : List Round → Bool → Option MadeOffer → AnswerAsk → Option ErrorCode
answer_fault_by before unknown made ask = cond unknown (Some E10) (elim made [ None ↦ Some E10 | Some offer ↦ fault_of_answer_to before offer ask ])

answer_same : (config : Config) (from_tag to_tag sdp : List ℕ) (options : Options) (chosen others : List (Option CryptoLine)) (of : Call) (before : List Round)
    (unknown : Bool) (made : Option MadeOffer)
    → is_request_read (answer_unless config (answer_ask from_tag to_tag sdp options chosen) of before (answer_fault_by before unknown made (answer_ask from_tag to_tag sdp options chosen))).act ≡ false
    → answer_unless config (answer_ask from_tag to_tag sdp options others) of before (answer_fault_by before unknown made (answer_ask from_tag to_tag sdp options others))
    ≡ answer_unless config (answer_ask from_tag to_tag sdp options chosen) of before (answer_fault_by before unknown made (answer_ask from_tag to_tag sdp options chosen))
answer_same config from_tag to_tag sdp options chosen others of before true made unheard = refl
answer_same config from_tag to_tag sdp options chosen others of before false None unheard = refl
answer_same config from_tag to_tag sdp options chosen others of before false (Some offer) unheard =
    answer_alike config (answer_ask from_tag to_tag sdp options chosen) (answer_ask from_tag to_tag sdp options others) of before
    (not (bytes_eq from_tag offer.ask.from_tag)) (not (section_count sdp == section_count offer.ask.sdp))
    (list_any (misfits_answerer before offer (answer_ask from_tag to_tag sdp options chosen)) (active_sections sdp))
    (list_any (takes_no_line offer (answer_ask from_tag to_tag sdp options chosen)) (all_sections sdp))
    (list_any (takes_no_line offer (answer_ask from_tag to_tag sdp options others)) (all_sections sdp)) unheard

ending_answer_same : (config : Config) (from_tag to_tag sdp : List ℕ) (options : Options) (chosen others : List (Option CryptoLine)) (of : Call) (before : List Round)
    (unknown : Bool) (made : Option MadeOffer) (ending : Bool)
    → is_request_read (answer_unless config (answer_ask from_tag to_tag sdp options chosen) of before (or_else (ending_error ending) (answer_fault_by before unknown made (answer_ask from_tag to_tag sdp options chosen)))).act ≡ false
    → answer_unless config (answer_ask from_tag to_tag sdp options others) of before (or_else (ending_error ending) (answer_fault_by before unknown made (answer_ask from_tag to_tag sdp options others)))
    ≡ answer_unless config (answer_ask from_tag to_tag sdp options chosen) of before (or_else (ending_error ending) (answer_fault_by before unknown made (answer_ask from_tag to_tag sdp options chosen)))
ending_answer_same config from_tag to_tag sdp options chosen others of before unknown made true unheard = refl
ending_answer_same config from_tag to_tag sdp options chosen others of before unknown made false unheard =
    answer_same config from_tag to_tag sdp options chosen others of before unknown made unheard

answers_same : (config : Config) (h : List BoardEntry) (from_tag to_tag sdp : List ℕ) (options : Options) (chosen others : List (Option CryptoLine)) (found : Option Call)
    → is_request_read (answer_to config h (answer_ask from_tag to_tag sdp options chosen) found).act ≡ false
    → answer_to config h (answer_ask from_tag to_tag sdp options others) found ≡ answer_to config h (answer_ask from_tag to_tag sdp options chosen) found
unfolding answer_fault
answers_same config h from_tag to_tag sdp options chosen others None unheard = refl
answers_same config h from_tag to_tag sdp options chosen others (Some of) unheard =
    ending_answer_same config from_tag to_tag sdp options chosen others of (rounds h of.number)
    (not (is_some_sides (rounds h of.number) from_tag && may_answer (rounds h of.number) (answer_ask from_tag to_tag sdp options chosen)))
    (last_offer (rounds h of.number)) (is_ending h of.number) unheard

asked_same : (config : Config) (h : List BoardEntry) (c : Control) (chosen : List (Option CryptoLine)) (r : Result Said ErrorCode)
    → is_request_read (answering_asked config h c r).act ≡ false → answering_asked config h (heard_as c chosen) r ≡ answering_asked config h c r
asked_same config h c chosen (Err code) unheard = refl
asked_same config h c chosen (Ok said.Ping) unheard = refl
asked_same config h c chosen (Ok (said.Offer id from_tag sdp options)) unheard =
    offers_same config h c.given id from_tag sdp options c.chosen chosen (find_call h id) unheard
asked_same config h c chosen (Ok (said.Answer id from_tag to_tag sdp options)) unheard =
    answers_same config h from_tag to_tag sdp options c.chosen chosen (find_call h id) unheard
asked_same config h c chosen (Ok (said.Delete id from_tag fatal seconds)) unheard = refl
asked_same config h c chosen (Ok (said.Query id)) unheard = refl
asked_same config h c chosen (Ok (said.Listing limit)) unheard = refl

unheard_due : (config : Config) (h : List BoardEntry) (c : Control) (chosen : List (Option CryptoLine)) (out_of_memory : Bool) (r : Result Said ErrorCode)
    → is_request_read (unless_out_of_memory config c.cookie c.body out_of_memory (answering_asked config h c r)).act ≡ false
    → unless_out_of_memory config c.cookie c.body out_of_memory (answering_asked config h (heard_as c chosen) r) ≡ unless_out_of_memory config c.cookie c.body out_of_memory (answering_asked config h c r)
unheard_due config h c chosen true r unheard = refl
unheard_due config h c chosen false r unheard = ap (spelled config c.cookie c.body) (asked_same config h c chosen r unheard)

unheard_case : (config : Config) (h : List BoardEntry) (c : Control) (chosen : List (Option CryptoLine)) (o : Option (List ℕ))
    → is_request_read (answering_unless config h c o).act ≡ false → answering_unless config h (heard_as c chosen) o ≡ answering_unless config h c o
unheard_case config h c chosen (Some bytes) unheard = refl
unheard_case config h c chosen None unheard = unheard_due config h c chosen c.given.out_of_memory (asked config c.too_long c.pairs) unheard

-- the reply to a datagram for which no crypto lines are chosen, and what it does, are the same whatever lines are taken for chosen
pub unheard_answer : (config : Config) (h : List BoardEntry) (now : ℕ) (c : Control) (chosen : List (Option CryptoLine)) → FitsControl config h now c
    → is_request_read c.act ≡ false → answered_in c ≡ answering_unless config h (heard_as c chosen) (kept_reply h c.source c.cookie now)
unheard_answer config h now c chosen fits unheard =
    let due : is_request_read (answering_unless config h c (kept_reply h c.source c.cookie now)).act ≡ false =
    sym (ap (λ (a : Answered). is_request_read a.act) fits.answers) ∙ unheard in
    fits.answers ∙ sym (unheard_case config h c chosen (kept_reply h c.source c.cookie now) due)

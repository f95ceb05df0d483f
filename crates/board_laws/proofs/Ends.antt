-- A datagram for which nothing is kept gets a success, or an error that comes before the devices, where these don't fail.
use Rattle.std.proofs.Common.{◌≡◌, ◌∙◌, ap, refl, ℕ, List, [], length, Bool, true, false, cond, not, Option, Some, None, Result, Ok, Err}
use Rattle.std.specs.Prelude.{nat_le, ◌&&◌}
use Rattle.std.specs.List.{list_any}
use Rattle.histories.specs.Words.{or_else}
use Rattle.relay_outside.specs.declared.settings.Config.{Config}
use Rattle.ng_command.specs.Meanings as said
use Rattle.ng_command.specs.Meanings.{Said}
use Rattle.ng_reply.specs.declared.code.ErrorCode.{ErrorCode}
use Rattle.ng_reply.specs.declared.code.ErrorCode.TheVariants.{E9, E10, E13, E14}
use Rattle.sdes_lines.specs.declared.crypto_line.CryptoLine.{CryptoLine}
use Rattle.offer_answer.specs.Rounds.{Round, OfferAsk, AnswerAsk}
use Rattle.offer_answer.specs.Plan as plan
use Rattle.call_board.specs.Acts.{Call, Given, Control, BoardEntry}
use Rattle.call_board.specs.Calls.{live, find_call, new_call, rounds, is_ending}
use Rattle.call_board.specs.KeptReplies.{kept_reply}
use Rattle.call_board.specs.Pairs.{free_in, is_short}
use Rattle.call_board.specs.Replies.{Done}
use Rattle.call_board.specs.Requests.{asked}
use Rattle.call_board.specs.Answers.{Answering, failing, ending_error, deleting, leased_pairs, offer_ask, answer_ask, offer_unless, offer_to, answer_unless, answer_to, nothing_to_end, names_side, delete_of, query_of, answering, answering_asked, answering_unless, spelled}
use Rattle.call_board.specs.Fits.{FitsControl, answered_in}
use Rattle.call_board.proofs.Fixed.{unless_out_of_memory}
use Rattle.call_board.proofs.Tells.{leased_case, false_in}
use Rattle.board_turns.specs.Controls.{RequestRecord, unanswered, control_of, entry_pairs}
use Rattle.board_turns.specs.DeviceAnswers.{IsGivenBy}
use Rattle.relay_outside.specs.DeviceLogs.{Rose}
use Rattle.relay_outside.specs.declared.keys.KeyCall.{KeyCall}
use Rattle.relay_outside.specs.declared.ports.PortCall.{PortCall}
use Rattle.board_laws.specs.Answers.{FailsNowhere, ComesFirst, IsSuccess, given_this, IsAnswered, well, failed, no_memory}
use Rattle.board_laws.proofs.Answered.{act_of, bytes_of}
use Rattle.board_laws.proofs.Commands.{planned}
use Rattle.board_laws.proofs.First.{IsFirst, FailsFirst, asked_first, ending_first, offer_first, answer_first}

-- a success with what was given, or an error that comes first, whatever is given
data Ends (a : Given → Answering) (given : Given) : Type 0 where
  succeeds : IsSuccess (a given).reply → Ends a given
  fails : (code : ErrorCode) → ComesFirst code → ((g : Given) → a g ≡ failing code) → Ends a given

-- What was given.

not_so : (b : Bool) → (b ≡ true → ⊥) → b ≡ false
not_so true never = absurd (never refl)
not_so false never = refl

all_opened : (given : Given) → FailsNowhere given → list_any not given.opens ≡ false
all_opened given none = not_so (list_any not given.opens) (λ is. none.opened (false_in given.opens is))

-- Offers.

leased_ends : (config : Config) (h : List BoardEntry) (g : Given) (ask : OfferAsk) (of : Call) (begins : Bool) (before : List Round) (pairs : List ℕ) (failed drew : Bool)
    → failed ≡ false → drew ≡ false → IsSuccess (leased_case config h g ask of begins before pairs failed drew).reply
leased_ends config h g ask of begins before pairs true drew p q = absurd (let e = p in cc)
leased_ends config h g ask of begins before pairs false true p q = absurd (let e = q in cc)
leased_ends config h g ask of begins before pairs false false p q = tt

planned_ends : (config : Config) (h : List BoardEntry) (ask : OfferAsk) (of : Call) (begins : Bool) (before : List Round) (over short : Bool) (given : Given) → FailsNowhere given
    → Ends (λ g. planned config h ask of begins before over short g) given
planned_ends config h ask of begins before true short given none = fails E14 tt (λ g. refl)
planned_ends config h ask of begins before false true given none = fails E13 tt (λ g. refl)
planned_ends config h ask of begins before false false given none =
    succeeds (leased_ends config h given ask of begins before (leased_pairs config h (plan.demand before ask)) (list_any not given.opens) given.draw_failed
    (all_opened given none) (not_so given.draw_failed none.drew))

unless_ends : (config : Config) (h : List BoardEntry) (ask : OfferAsk) (of : Call) (begins : Bool) (before : List Round) (fault : Option ErrorCode) → IsFirst fault → (given : Given) → FailsNowhere given
    → Ends (λ g. offer_unless config h g ask of begins before fault) given
unless_ends config h ask of begins before (Some code) first given none = fails code first (λ g. refl)
unless_ends config h ask of begins before None first given none =
    planned_ends config h ask of begins before (begins && nat_le config.max_sessions (length (live h))) (is_short (free_in config h) (plan.demand before ask).pairs) given none

offer_ends : (config : Config) (h : List BoardEntry) (id : List ℕ) (ask : OfferAsk) (found : Option Call) (given : Given) → FailsNowhere given
    → Ends (λ g. offer_to config h g id ask found) given
offer_ends config h id ask None given none = unless_ends config h ask (new_call h id) true [] (plan.offer_fault [] ask) (offer_first [] ask) given none
offer_ends config h id ask (Some of) given none =
    let fault = plan.offer_fault (rounds h of.number) ask in
    unless_ends config h ask of false (rounds h of.number) (or_else (ending_error (is_ending h of.number)) fault)
    (ending_first (is_ending h of.number) fault (offer_first (rounds h of.number) ask)) given none

-- Answers, deletes and queries.

replied_ends : (config : Config) (ask : AnswerAsk) (of : Call) (before : List Round) (fault : Option ErrorCode) → IsFirst fault → (given : Given)
    → Ends (λ g. answer_unless config ask of before fault) given
replied_ends config ask of before (Some code) first given = fails code first (λ g. refl)
replied_ends config ask of before None first given = succeeds tt

answer_ends : (config : Config) (h : List BoardEntry) (ask : AnswerAsk) (found : Option Call) (given : Given) → Ends (λ g. answer_to config h ask found) given
answer_ends config h ask None given = fails E9 tt (λ g. refl)
answer_ends config h ask (Some of) given =
    let fault = plan.answer_fault (rounds h of.number) ask in
    replied_ends config ask of (rounds h of.number) (or_else (ending_error (is_ending h of.number)) fault)
    (ending_first (is_ending h of.number) fault (answer_first (rounds h of.number) ask)) given

missing_ends : (fatal : Bool) (code : ErrorCode) → ComesFirst code → (given : Given) → Ends (λ g. nothing_to_end fatal code) given
missing_ends true code first given = fails code first (λ g. refl)
missing_ends false code first given = succeeds tt

named_ends : (of : Call) (seconds : ℕ) (fatal named : Bool) (given : Given)
    → Ends (λ g. cond named (record { reply = Done; act = deleting of seconds }) (nothing_to_end fatal E10)) given
named_ends of seconds fatal true given = succeeds tt
named_ends of seconds fatal false given = missing_ends fatal E10 tt given

delete_ends : (h : List BoardEntry) (tag : Option (List ℕ)) (fatal : Bool) (seconds : ℕ) (found : Option Call) (given : Given)
    → Ends (λ g. delete_of h tag fatal seconds found) given
delete_ends h tag fatal seconds None given = missing_ends fatal E9 tt given
delete_ends h tag fatal seconds (Some of) given = named_ends of seconds fatal (names_side (rounds h of.number) tag) given

query_ends : (h : List BoardEntry) (found : Option Call) (given : Given) → Ends (λ g. query_of h g found) given
query_ends h None given = fails E9 tt (λ g. refl)
query_ends h (Some of) given = succeeds tt

-- Any command.

asked_ends : (config : Config) (h : List BoardEntry) (c : Control) (r : Result Said ErrorCode) → FailsFirst r → (given : Given) → FailsNowhere given
    → Ends (λ g. answering_asked config h (given_this c g) r) given
asked_ends config h c (Err code) first given none = fails code first (λ g. refl)
asked_ends config h c (Ok said.Ping) first given none = succeeds tt
asked_ends config h c (Ok (said.Offer id from_tag sdp options)) first given none =
    offer_ends config h id (offer_ask from_tag sdp options c.chosen) (find_call h id) given none
asked_ends config h c (Ok (said.Answer id from_tag to_tag sdp options)) first given none =
    answer_ends config h (answer_ask from_tag to_tag sdp options c.chosen) (find_call h id) given
asked_ends config h c (Ok (said.Delete id from_tag fatal seconds)) first given none = delete_ends h from_tag fatal seconds (find_call h id) given
asked_ends config h c (Ok (said.Query id)) first given none = query_ends h (find_call h id) given
asked_ends config h c (Ok (said.Listing limit)) first given none = succeeds tt

-- The reply.

by_memory : (config : Config) (h : List BoardEntry) (c : Control) (m : Bool) → c.given.out_of_memory ≡ m
    → answered_in c ≡ unless_out_of_memory config c.cookie c.body m (answering config h c) → Ends (λ g. answering config h (given_this c g)) c.given → IsAnswered config h c
by_memory config h c true is due ends = no_memory is (ap bytes_of due) (ap act_of due)
by_memory config h c false is due (succeeds good) = well is good due
by_memory config h c false is due (fails code first anyway) = failed code is first anyway (due ∙ ap (spelled config c.cookie c.body) (anyway c.given))

due_ends : (config : Config) (h : List BoardEntry) (c : Control) → answered_in c ≡ answering_unless config h c None → FailsNowhere c.given → IsAnswered config h c
due_ends config h c due none =
    by_memory config h c c.given.out_of_memory refl due
    (asked_ends config h c (asked config c.too_long c.pairs) (asked_first config c.too_long c.pairs) c.given none)

-- of a turn that the board's history demands
pub answered : (config : Config) (h : List BoardEntry) (now : ℕ) (c : Control) → FitsControl config h now c → kept_reply h c.source c.cookie now ≡ None → FailsNowhere c.given → IsAnswered config h c
answered config h now c fits unkept none = due_ends config h c (fits.answers ∙ ap (answering_unless config h c) unkept) none

-- what is due depends on nothing that the datagram got
unanswered_asked : (config : Config) (h : List BoardEntry) (c d : Control) (r : Result Said ErrorCode) → c.chosen ≡ d.chosen → c.given ≡ d.given
    → answering_asked config h c r ≡ answering_asked config h d r
unanswered_asked config h c d (Err code) chosen given = refl
unanswered_asked config h c d (Ok said.Ping) chosen given = refl
unanswered_asked config h c d (Ok (said.Offer id from_tag sdp options)) chosen given =
    ap (λ (xs : List (Option CryptoLine)). offer_to config h c.given id (offer_ask from_tag sdp options xs) (find_call h id)) chosen
    ∙ ap (λ (g : Given). offer_to config h g id (offer_ask from_tag sdp options d.chosen) (find_call h id)) given
unanswered_asked config h c d (Ok (said.Answer id from_tag to_tag sdp options)) chosen given =
    ap (λ (xs : List (Option CryptoLine)). answer_to config h (answer_ask from_tag to_tag sdp options xs) (find_call h id)) chosen
unanswered_asked config h c d (Ok (said.Delete id from_tag fatal seconds)) chosen given = refl
unanswered_asked config h c d (Ok (said.Query id)) chosen given = ap (λ (g : Given). query_of h g (find_call h id)) given
unanswered_asked config h c d (Ok (said.Listing limit)) chosen given = refl

-- of a turn as the board's history has it
pub control_answered : (config : Config) (h : List BoardEntry) (moment : ℕ) (x : RequestRecord) → kept_reply h x.source x.cookie moment ≡ None → FailsNowhere x.given
    → IsAnswered config h (control_of config h moment x)
control_answered config h moment x unkept none =
    let c = control_of config h moment x in
    let same : answering config h (unanswered x) ≡ answering config h c = unanswered_asked config h (unanswered x) c (asked config x.too_long x.pairs) refl refl in
    due_ends config h c (ap (answering_unless config h (unanswered x)) unkept ∙ ap (unless_out_of_memory config x.cookie x.body x.given.out_of_memory) same) none

-- of one in which no count of faults rose
pub counted : (config : Config) (h : List BoardEntry) (moment : ℕ) (x : RequestRecord) (ports ports_now keys keys_now : ℕ) (opened opened_now : Option (List PortCall)) (drew drew_now : Option (List KeyCall))
    → kept_reply h x.source x.cookie moment ≡ None → IsGivenBy config (entry_pairs config h moment x) x.given ports ports_now keys keys_now opened opened_now drew drew_now
    → (Rose ports ports_now → ⊥) → (Rose keys keys_now → ⊥) → IsAnswered config h (control_of config h moment x)
counted config h moment x ports ports_now keys keys_now opened opened_now drew drew_now unkept by no_port no_key =
    control_answered config h moment x unkept (record { opened = λ i. no_port (by.port_fault i); drew = λ i. no_key (by.key_fault i) })

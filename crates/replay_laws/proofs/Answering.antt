-- Two control turns that are alike make turns of the board that are alike.
use Rattle.std.proofs.Common.{◌≡◌, ◌∙◌, sym, ap, subst, refl, ℕ, ◌==◌, List, [], ◌∷◌, ◌++◌, map, filter, length, Bool, true, false, cond, not, Option, Some, None, Result, Ok, Err}
use Rattle.std.specs.Prelude.{◌&&◌, nat_le}
use Rattle.std.specs.List.{list_any}
use Rattle.relay_outside.specs.declared.address.Addr.{Addr}
use Rattle.relay_outside.specs.declared.settings.Config.{Config}
use Rattle.ng_command.specs.Meanings as said
use Rattle.ng_command.specs.Meanings.{Said}
use Rattle.ng_reply.specs.declared.code.ErrorCode.{ErrorCode}
use Rattle.ng_reply.specs.declared.code.ErrorCode.TheVariants.{E9, E10, E13, E14, E17}
use Rattle.histories.specs.Words.{has, or_else}
use Rattle.port_pool.specs.declared.holder.Holder.{Holder}
use Rattle.offer_answer.specs.Rounds.{Round, OfferAsk, AnswerAsk}
use Rattle.offer_answer.specs.Plan as plan
use Rattle.call_cell.specs.Cells.{Prepare, Commit, End}
use Rattle.call_board.specs.Acts as act
use Rattle.call_board.specs.Acts.{Act, Call, Given, Control, BoardEvent, Turn, BoardEntry}
use Rattle.call_board.specs.Calls.{live, find_call, new_call, is_ending, rounds, ended_by_act}
use Rattle.call_board.specs.Pairs.{held, free_in, is_short, closes_leg_act}
use Rattle.call_board.specs.KeptReplies.{kept_reply}
use Rattle.call_board.specs.Requests.{asked}
use Rattle.call_board.specs.Replies.{Done, Fault, reply_text, reply_datagram, fault_datagram}
use Rattle.call_board.specs.Answers.{Answered, failing, ending_error, deleting, leased_pairs, offer_ask, answer_ask, offer_leased, offer_unless, offer_to, answer_unless, answer_to, nothing_to_end, names_side, delete_of, query_of, answering, answering_asked, answering_unless}
use Rattle.call_board.specs.Fits.{FitsControl, GivesFor, demanded}
use Rattle.call_board.proofs.Fixed.{unless_out_of_memory}
use Rattle.call_board.proofs.Tells.{leased_case}
use Rattle.relay_core.specs.Scripts.{Owed, open_owed, closing, in_cell, reading, script, script_of_act}
use Rattle.board_laws.specs.Alike.{HasMemory}
use Rattle.replay_laws.specs.Alike.{bare_event}

-- Where memory doesn't run out, no turn says that it did.

abbrev runs_out : Act → Bool
runs_out act.OutOfMemory = true
runs_out _ = false

leased_fed : (config : Config) (h : List BoardEntry) (g : Given) (ask : OfferAsk) (of : Call) (begins : Bool) (before : List Round) (pairs : List ℕ) (failed drew : Bool)
    → runs_out (leased_case config h g ask of begins before pairs failed drew).act ≡ false
leased_fed config h g ask of begins before pairs true drew = refl
leased_fed config h g ask of begins before pairs false true = refl
leased_fed config h g ask of begins before pairs false false = refl

planned_fed : (config : Config) (h : List BoardEntry) (g : Given) (ask : OfferAsk) (of : Call) (begins : Bool) (before : List Round) (over short : Bool)
    → runs_out (cond over (failing E14) (cond short (failing E13) (offer_leased config h g ask of begins before (leased_pairs config h (plan.demand before ask))))).act ≡ false
planned_fed config h g ask of begins before true short = refl
planned_fed config h g ask of begins before false true = refl
planned_fed config h g ask of begins before false false =
    leased_fed config h g ask of begins before (leased_pairs config h (plan.demand before ask)) (list_any not g.opens) g.draw_failed

unless_fed : (config : Config) (h : List BoardEntry) (g : Given) (ask : OfferAsk) (of : Call) (begins : Bool) (before : List Round) (fault : Option ErrorCode)
    → runs_out (offer_unless config h g ask of begins before fault).act ≡ false
unless_fed config h g ask of begins before (Some code) = refl
unless_fed config h g ask of begins before None =
    planned_fed config h g ask of begins before (begins && nat_le config.max_sessions (length (live h))) (is_short (free_in config h) (plan.demand before ask).pairs)

offer_fed : (config : Config) (h : List BoardEntry) (g : Given) (id : List ℕ) (ask : OfferAsk) (o : Option Call) → runs_out (offer_to config h g id ask o).act ≡ false
offer_fed config h g id ask None = unless_fed config h g ask (new_call h id) true [] (plan.offer_fault [] ask)
offer_fed config h g id ask (Some of) =
    unless_fed config h g ask of false (rounds h of.number) (or_else (ending_error (is_ending h of.number)) (plan.offer_fault (rounds h of.number) ask))

replied_fed : (config : Config) (ask : AnswerAsk) (of : Call) (before : List Round) (fault : Option ErrorCode) → runs_out (answer_unless config ask of before fault).act ≡ false
replied_fed config ask of before (Some code) = refl
replied_fed config ask of before None = refl

answer_fed : (config : Config) (h : List BoardEntry) (ask : AnswerAsk) (o : Option Call) → runs_out (answer_to config h ask o).act ≡ false
answer_fed config h ask None = refl
answer_fed config h ask (Some of) =
    replied_fed config ask of (rounds h of.number) (or_else (ending_error (is_ending h of.number)) (plan.answer_fault (rounds h of.number) ask))

missing_fed : (fatal : Bool) (code : ErrorCode) → runs_out (nothing_to_end fatal code).act ≡ false
missing_fed true code = refl
missing_fed false code = refl

deleting_fed : (of : Call) (seconds : ℕ) (at_once : Bool) → runs_out (cond at_once (act.Deleted of) (act.Delayed of seconds)) ≡ false
deleting_fed of seconds true = refl
deleting_fed of seconds false = refl

named_fed : (of : Call) (seconds : ℕ) (fatal named : Bool) → runs_out (cond named (record { reply = Done; act = deleting of seconds }) (nothing_to_end fatal E10)).act ≡ false
named_fed of seconds fatal true = deleting_fed of seconds (seconds == 0)
named_fed of seconds fatal false = missing_fed fatal E10

delete_fed : (h : List BoardEntry) (tag : Option (List ℕ)) (fatal : Bool) (seconds : ℕ) (o : Option Call) → runs_out (delete_of h tag fatal seconds o).act ≡ false
delete_fed h tag fatal seconds None = missing_fed fatal E9
delete_fed h tag fatal seconds (Some of) = named_fed of seconds fatal (names_side (rounds h of.number) tag)

query_fed : (h : List BoardEntry) (g : Given) (o : Option Call) → runs_out (query_of h g o).act ≡ false
query_fed h g None = refl
query_fed h g (Some of) = refl

asked_fed : (config : Config) (h : List BoardEntry) (c : Control) (r : Result Said ErrorCode) → runs_out (answering_asked config h c r).act ≡ false
asked_fed config h c (Err code) = refl
asked_fed config h c (Ok said.Ping) = refl
asked_fed config h c (Ok (said.Offer id from_tag sdp options)) = offer_fed config h c.given id (offer_ask from_tag sdp options c.chosen) (find_call h id)
asked_fed config h c (Ok (said.Answer id from_tag to_tag sdp options)) = answer_fed config h (answer_ask from_tag to_tag sdp options c.chosen) (find_call h id)
asked_fed config h c (Ok (said.Delete id from_tag fatal seconds)) = delete_fed h from_tag fatal seconds (find_call h id)
asked_fed config h c (Ok (said.Query id)) = query_fed h c.given (find_call h id)
asked_fed config h c (Ok (said.Listing limit)) = refl

due_fed : (config : Config) (h : List BoardEntry) (c : Control) (o : Option (List ℕ)) → HasMemory c → runs_out (answering_unless config h c o).act ≡ false
due_fed config h c (Some bytes) fed = refl
due_fed config h c None fed =
    ap (λ (b : Bool). runs_out (unless_out_of_memory config c.cookie c.body b (answering config h c)).act) fed ∙ asked_fed config h c (asked config c.too_long c.pairs)

never : true ≡ false → ⊥
never e = cc

pub not_out_of_memory : (config : Config) (h : List BoardEntry) (now : ℕ) (c : Control) → FitsControl config h now c → HasMemory c → c.act ≡ act.OutOfMemory → ⊥
not_out_of_memory config h now c fits fed is =
    never (sym (ap runs_out is) ∙ ap (λ (a : Answered). runs_out a.act) fits.answers ∙ due_fed config h c (kept_reply h c.source c.cookie now) fed)

-- the same, of the reply that is due
flag_or_reply : (config : Config) (h : List BoardEntry) (c : Control) (ran_out : Bool) → (unless_out_of_memory config c.cookie c.body ran_out (answering config h c)).act ≡ act.OutOfMemory
    → (unless_out_of_memory config c.cookie c.body ran_out (answering config h c)).bytes ≡ reply_datagram config c.cookie c.body (Fault E17)
flag_or_reply config h c true is = refl
flag_or_reply config h c false is = absurd (never (sym (ap runs_out is) ∙ asked_fed config h c (asked config c.too_long c.pairs)))

-- a reply that says so is E17
pub says_so : (config : Config) (h : List BoardEntry) (c : Control) (o : Option (List ℕ)) → (answering_unless config h c o).act ≡ act.OutOfMemory
    → (answering_unless config h c o).bytes ≡ fault_datagram c.cookie c.body E17
unfolding reply_text
says_so config h c (Some bytes) is = absurd (let e = is in cc)
says_so config h c None is = flag_or_reply config h c c.given.out_of_memory is

abbrev act_of : Answered → Act
act_of a = a.act

-- a turn that doesn't say so had memory
pub has_memory : (config : Config) (h : List BoardEntry) (now : ℕ) (c : Control) → FitsControl config h now c → (c.act ≡ act.OutOfMemory → ⊥) → HasMemory c
has_memory config h now c fits fed = by_kept (kept_reply h c.source c.cookie now) refl
  where
    by_flag : (b : Bool) → c.given.out_of_memory ≡ b → kept_reply h c.source c.cookie now ≡ None → HasMemory c
    by_flag false flag none = flag
    by_flag true flag none =
        absurd (fed (ap act_of (fits.answers ∙ ap (answering_unless config h c) none ∙ ap (λ (b : Bool). unless_out_of_memory config c.cookie c.body b (answering config h c)) flag)))

    by_kept : (o : Option (List ℕ)) → kept_reply h c.source c.cookie now ≡ o → HasMemory c
    by_kept (Some bytes) is = (subst (GivesFor (demanded config h c) c.given) (ap act_of (fits.answers ∙ ap (answering_unless config h c) is)) fits.gives).2
    by_kept None is = by_flag c.given.out_of_memory refl is

-- What turns owe that do the same, and were given the same.

abbrev entry : ℕ → Control → BoardEntry
entry moment c = record { moment = moment; event = Turn c }

abbrev closes : Config → List BoardEntry → Act → Call → List Owed
closes config h a of =
    map (closing config) (filter (λ (leg : Holder). (leg.call == of.number) && (cond (has (map (λ (c : Call). c.number) (ended_by_act a)) leg.call) true (closes_leg_act a leg))) (held h))

act_owes : (config : Config) (h : List BoardEntry) (moment : ℕ) (c d : Control) → c.given ≡ d.given → c.act ≡ d.act → (a : Act) → (a ≡ act.OutOfMemory → ⊥)
    → script_of_act config h (entry moment c) c a ≡ script_of_act config h (entry moment d) d a
act_owes config h moment c d given same act.Repeated fed = refl
act_owes config h moment c d given same act.OutOfMemory fed = absurd (fed refl)
act_owes config h moment c d given same (act.Failed code) fed = refl
act_owes config h moment c d given same (act.Undone code leases draws) fed = refl
act_owes config h moment c d given same (act.Offered o) fed =
    ap (λ (a : Act). map (open_owed config) o.legs ++ in_cell o.of (Prepare o.of.number o.legs o.keys o.dropped) ∷ closes config h a o.of) same
act_owes config h moment c d given same (act.Answered x) fed = ap (λ (a : Act). in_cell x.of (Commit x.signal) ∷ closes config h a x.of) same
act_owes config h moment c d given same (act.Deleted of) fed = ap (λ (a : Act). in_cell of End ∷ closes config h a of) same
act_owes config h moment c d given same (act.Queried of) fed = ap (λ (g : Given). reading (Some of) g.report) given
act_owes config h moment c d given same act.Told fed = refl
act_owes config h moment c d given same (act.Delayed of s) fed = refl

pub owes_one : (config : Config) (h : List BoardEntry) (moment : ℕ) (c d : Control) → c.given ≡ d.given → c.act ≡ d.act → (c.act ≡ act.OutOfMemory → ⊥)
    → script config h (entry moment c) ≡ script config h (entry moment d)
owes_one config h moment c d given same fed =
    act_owes config h moment c d given same c.act fed ∙ ap (script_of_act config h (entry moment d) d) same

-- A turn without what decides nothing.

abbrev bared : Addr → List ℕ → List ℕ → Bool → Given → List ℕ → Act → BoardEvent
bared source cookie body long given reply does =
    Turn (record { source = source; cookie = cookie; body = body; too_long = long; pairs = None; chosen = []; given = given; reply = reply; act = does })

pub bare_one : (c d : Control) → c.source ≡ d.source → c.cookie ≡ d.cookie → c.body ≡ d.body → c.too_long ≡ d.too_long → c.given ≡ d.given → c.reply ≡ d.reply → c.act ≡ d.act
    → bare_event (Turn c) ≡ bare_event (Turn d)
bare_one c d source cookie body long given reply does =
    ap (λ (x : Addr). bared x c.cookie c.body c.too_long c.given c.reply c.act) source
    ∙ ap (λ (x : List ℕ). bared d.source x c.body c.too_long c.given c.reply c.act) cookie
    ∙ ap (λ (x : List ℕ). bared d.source d.cookie x c.too_long c.given c.reply c.act) body
    ∙ ap (λ (x : Bool). bared d.source d.cookie d.body x c.given c.reply c.act) long
    ∙ ap (λ (x : Given). bared d.source d.cookie d.body d.too_long x c.reply c.act) given
    ∙ ap (λ (x : List ℕ). bared d.source d.cookie d.body d.too_long d.given x c.act) reply
    ∙ ap (λ (x : Act). bared d.source d.cookie d.body d.too_long d.given d.reply x) does

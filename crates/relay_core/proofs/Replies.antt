-- A kept cookie gives its first reply and changes nothing; a valid offer fails only for a named shortage.
use Rattle.std.proofs.Common.{◌≡◌, ◌∙◌, sym, ap, subst, refl, ℕ, suc, List, [], ◌∷◌, length, Bool, true, false, cond, not, Option, Some, None, Ok}
use Rattle.std.specs.Prelude.{nat_le, ◌&&◌}
use Rattle.std.specs.List.{list_any}
use Rattle.relay_outside.specs.declared.settings.Config.{Config}
use Rattle.ng_command.specs.declared.command.Options.{Options}
use Rattle.ng_command.specs.Meanings as said
use Rattle.ng_reply.specs.declared.code.ErrorCode.{ErrorCode}
use Rattle.ng_reply.specs.declared.code.ErrorCode.TheVariants.{E13, E14, E17}
use Rattle.histories.specs.Words.{In, or_else}
use Rattle.offer_answer.specs.Plan as plan
use Rattle.offer_answer.specs.Rounds.{Round, OfferAsk}
use Rattle.call_board.specs.Acts as act
use Rattle.call_board.specs.Acts.{Act, Control, Turn, BoardEntry}
use Rattle.call_board.specs.Calls.{live, rounds, due_moment, find_call, new_call, is_ending}
use Rattle.call_board.specs.Pairs.{held, free, free_in, is_short, drawn}
use Rattle.call_board.specs.KeptReplies.{kept_reply}
use Rattle.call_board.specs.Requests.{ReadsBody, asked}
use Rattle.call_board.specs.Replies.{Fault, reply_datagram}
use Rattle.call_board.specs.Answers.{Answered, failing, ending_error, leased_pairs, offer_ask, offer_leased, offer_unless, offer_to, answering_asked, answering_unless, spelled}
use Rattle.call_board.specs.Fits.{FitsControl, is_read, is_request_read, ReadsRequest, answered_in}
use Rattle.relay_core.specs.Entries.{Board, Entry, is_nested, board_at, board_entry, board_history}
use Rattle.relay_core.specs.Scripts.{owed_by, script, script_of_act}
use Rattle.relay_core.specs.Legal.{Orderly}
use Rattle.relay_core.specs.Safe.{IsRepeat, IsValidOffer, IsOfferReply, well, no_pair, session_limit, port_fault, key_fault, no_memory}
use Rattle.relay_core.proofs.Histories.{good_history, same_at}
use Rattle.relay_core.proofs.Scripts.{nested_in}
use Rattle.relay_core.proofs.Boards.{moment}
use Rattle.call_board.proofs.Repeats.{kept_repeats, repeat_changes_nothing}
use Rattle.call_board.proofs.Offers.{OfferEnds, offer_ends}
use Rattle.call_board.proofs.Offers as ends
use Rattle.call_board.proofs.Tells.{leased_case}

-- the turn of a datagram, as an entry of the board
abbrev turn : Entry → Control → BoardEntry
turn e c = record { moment = e.moment; event = Turn c }

is_turn : (e : Entry) (c : Control) → e.event ≡ Board (Turn c) → board_entry e ≡ Some (turn e c)
is_turn e c q = ap (board_at e.moment) q

fits_turn : (config : Config) (l : List Entry) → Orderly config l → (e : Entry) (c : Control) → In e l → e.event ≡ Board (Turn c)
    → FitsControl config (board_history l e.number) e.moment c
fits_turn config l o e c i q = (o.board_fits e (turn e c) i (is_turn e c q)).1

-- what is recorded of a body and of its crypto lines is what it spells and says
pub bodies_are : (config : Config) (l : List Entry) → Orderly config l → (e : Entry) (c : Control) → In e l → e.event ≡ Board (Turn c)
    → is_read c ≡ true → ReadsBody c.body c.pairs
bodies_are config l o e c i q read = (fits_turn config l o e c i q).reads read

pub lines_are : (config : Config) (l : List Entry) → Orderly config l → (e : Entry) (c : Control) → In e l → e.event ≡ Board (Turn c)
    → is_request_read c.act ≡ true → ReadsRequest (board_history l e.number) c (asked config c.too_long c.pairs)
lines_are config l o e c i q heard = (fits_turn config l o e c i q).hears heard

-- each reply is the one that is due
pub replies_are : (config : Config) (l : List Entry) → Orderly config l → (e : Entry) (c : Control) → In e l → e.event ≡ Board (Turn c)
    → answered_in c ≡ answering_unless config (board_history l e.number) c (kept_reply (board_history l e.number) c.source c.cookie e.moment)
replies_are config l o e c i q = (fits_turn config l o e c i q).answers

-- a repeat owes nothing
owes_nothing : (config : Config) (l : List Entry) → Orderly config l → (e : Entry) (c : Control) → In e l → e.event ≡ Board (Turn c) → c.act ≡ act.Repeated
    → (f : Entry) → In f l → is_nested f.event ≡ true → f.board ≡ e.number → ⊥
owes_nothing config l o e c i q a f j t m =
    let b = nested_in config l o f j t in
    let one = same_at l o.numbered b.board e b.is_in i (b.at_board ∙ sym (o.board_fits e (turn e c) i (is_turn e c q)).0) (b.number_is ∙ m) in
    let both : Some b.entry ≡ Some (turn e c) = sym b.is ∙ ap board_entry one ∙ is_turn e c q in
    let entry_is : b.entry ≡ turn e c = cc in
    let there : In (owed_by f) (script config (board_history l b.board.number) (turn e c)) =
    subst (λ (x : BoardEntry). In (owed_by f) (script config (board_history l b.board.number) x)) entry_is b.is_owed in
    let none : In (owed_by f) [] = subst (λ (x : Act). In (owed_by f) (script_of_act config (board_history l b.board.number) (turn e c) c x)) a there in
    elim none [ ]

pub repeated : (config : Config) (l : List Entry) → Orderly config l → (e : Entry) (c : Control) (reply : List ℕ) → In e l → e.event ≡ Board (Turn c)
    → kept_reply (board_history l e.number) c.source c.cookie e.moment ≡ Some reply → IsRepeat config l e c reply
repeated config l o e c reply i q k =
    let h = board_history l e.number in
    let r = kept_repeats config h e.moment c reply (fits_turn config l o e c i q) k in
    let n = repeat_changes_nothing config (turn e c) h c refl r.0 in
    let m : board_history l (suc e.number) ≡ turn e c ∷ h = moment config l o e (turn e c) i (is_turn e c q) in
    record {
      first_reply = r.1;
      owes_nothing = owes_nothing config l o e c i q r.0;
      same_live = ap live m ∙ n.same_live;
      same_rounds = λ call. ap (λ t. rounds t call) m ∙ n.same_rounds call;
      same_due = λ call. ap (λ t. due_moment t call) m ∙ n.same_due call;
      same_held = ap held m ∙ n.same_held;
      same_free = ap (free config) m ∙ n.same_free;
      same_drawn = ap drawn m ∙ n.same_drawn;
      same_kept = λ source cookie now. ap (λ t. kept_reply t source cookie now) m ∙ n.same_kept source cookie now;
    }

-- What is told of a failure is its error.

abbrev Tells : Config → (cookie body reply : List ℕ) → Act → Type 0
Tells config cookie body reply (act.Failed code) = reply ≡ reply_datagram config cookie body (Fault code)
Tells config cookie body reply (act.Undone code leases draws) = reply ≡ reply_datagram config cookie body (Fault code)
Tells config cookie body reply act.OutOfMemory = reply ≡ reply_datagram config cookie body (Fault E17)
Tells config cookie body reply _ = Unit {0}

abbrev TellsIt : Config → (cookie body : List ℕ) → Answered → Type 0
TellsIt config cookie body a = Tells config cookie body a.bytes a.act

leased_tells : (config : Config) (cookie body : List ℕ) (h : List BoardEntry) (given : act.Given) (ask : OfferAsk) (of : act.Call) (new : Bool) (before : List Round) (pairs : List ℕ)
    (failed drew : Bool) → TellsIt config cookie body (spelled config cookie body (leased_case config h given ask of new before pairs failed drew))
leased_tells config cookie body h given ask of new before pairs true drew = refl
leased_tells config cookie body h given ask of new before pairs false true = refl
leased_tells config cookie body h given ask of new before pairs false false = tt

planned_tells : (config : Config) (cookie body : List ℕ) (h : List BoardEntry) (given : act.Given) (ask : OfferAsk) (of : act.Call) (new : Bool) (before : List Round)
    (over short : Bool) → TellsIt config cookie body (spelled config cookie body (cond over (failing E14)
    (cond short (failing E13) (offer_leased config h given ask of new before (leased_pairs config h (plan.demand before ask))))))
planned_tells config cookie body h given ask of new before true short = refl
planned_tells config cookie body h given ask of new before false true = refl
planned_tells config cookie body h given ask of new before false false =
    leased_tells config cookie body h given ask of new before (leased_pairs config h (plan.demand before ask)) (list_any not given.opens) given.draw_failed

unless_tells : (config : Config) (cookie body : List ℕ) (h : List BoardEntry) (given : act.Given) (ask : OfferAsk) (of : act.Call) (new : Bool) (before : List Round)
    (fault : Option ErrorCode) → TellsIt config cookie body (spelled config cookie body (offer_unless config h given ask of new before fault))
unless_tells config cookie body h given ask of new before (Some code) = refl
unless_tells config cookie body h given ask of new before None =
    planned_tells config cookie body h given ask of new before (new && nat_le config.max_sessions (length (live h)))
    (is_short (free_in config h) (plan.demand before ask).pairs)

found_tells : (config : Config) (cookie body : List ℕ) (h : List BoardEntry) (given : act.Given) (id : List ℕ) (ask : OfferAsk) (found : Option act.Call)
    → TellsIt config cookie body (spelled config cookie body (offer_to config h given id ask found))
found_tells config cookie body h given id ask None = unless_tells config cookie body h given ask (new_call h id) true [] (plan.offer_fault [] ask)
found_tells config cookie body h given id ask (Some of) =
    unless_tells config cookie body h given ask of false (rounds h of.number)
    (or_else (ending_error (is_ending h of.number)) (plan.offer_fault (rounds h of.number) ask))

out_of_memory_tells : (config : Config) (cookie body : List ℕ) (a : Answered) → TellsIt config cookie body a → (out_of_memory : Bool)
    → TellsIt config cookie body (cond out_of_memory (record { bytes = reply_datagram config cookie body (Fault E17); act = act.OutOfMemory }) a)
out_of_memory_tells config cookie body a log true = refl
out_of_memory_tells config cookie body a log false = log

-- the turn of an offer that isn't kept
offer_tells : (config : Config) (h : List BoardEntry) (now : ℕ) (c : Control) (id from_tag sdp : List ℕ) (options : Options) → FitsControl config h now c
    → kept_reply h c.source c.cookie now ≡ None → asked config c.too_long c.pairs ≡ Ok (said.Offer id from_tag sdp options) → Tells config c.cookie c.body c.reply c.act
offer_tells config h now c id from_tag sdp options fits none is_asked =
    let ask = offer_ask from_tag sdp options c.chosen in
    let unkept = fits.answers ∙ ap (answering_unless config h c) none in
    let asking = ap (λ r. cond c.given.out_of_memory (record { bytes = reply_datagram config c.cookie c.body (Fault E17); act = act.OutOfMemory }) (spelled config c.cookie c.body (answering_asked config h c r))) is_asked in
    subst (TellsIt config c.cookie c.body) (sym (unkept ∙ asking))
    (out_of_memory_tells config c.cookie c.body (spelled config c.cookie c.body (offer_to config h c.given id ask (find_call h id)))
    (found_tells config c.cookie c.body h c.given id ask (find_call h id)) c.given.out_of_memory)

offer_reply : (config : Config) (h : List BoardEntry) (c : Control) (id : List ℕ) (ask : OfferAsk) → Tells config c.cookie c.body c.reply c.act
    → OfferEnds config h c id ask → IsOfferReply config h c id ask
offer_reply config h c id ask log (ends.well o a b r) = well o a b r
offer_reply config h c id ask log (ends.no_pair a s) = no_pair (subst (Tells config c.cookie c.body c.reply) a log) a s
offer_reply config h c id ask log (ends.session_limit a f n) = session_limit (subst (Tells config c.cookie c.body c.reply) a log) a f n
offer_reply config h c id ask log (ends.port_fault leases a i) = port_fault leases (subst (Tells config c.cookie c.body c.reply) a log) a i
offer_reply config h c id ask log (ends.key_fault leases a t) = key_fault leases (subst (Tells config c.cookie c.body c.reply) a log) a t
offer_reply config h c id ask log (ends.no_memory a) = no_memory (subst (Tells config c.cookie c.body c.reply) a log) a

pub offers_answered : (config : Config) (l : List Entry) → Orderly config l → (e : Entry) (c : Control) (id : List ℕ) (ask : OfferAsk) → In e l → e.event ≡ Board (Turn c)
    → IsValidOffer config (board_history l e.number) c e.moment id ask → IsOfferReply config (board_history l e.number) c id ask
offers_answered config l o e c id ask i q v =
    let h = board_history l e.number in
    let fits = fits_turn config l o e c i q in
    offer_reply config h c id ask
    (offer_tells config h e.moment c id ask.from_tag ask.sdp ask.options fits v.nothing_kept v.is_asked)
    (offer_ends config h e.moment c id ask (good_history config l o e.number) fits v.nothing_kept v.is_asked v.is_heard v.not_ending v.no_fault)

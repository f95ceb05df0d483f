-- A valid offer is accepted, or something is lacking.
use Rattle.std.proofs.Common.{◌≡◌, ◌∙◌, sym, ap, subst, ℕ, ◌≤◌, List, [], length, Bool, true, false, cond, not, Option, Some, None, Ok, refl, arith}
use Rattle.std.specs.Prelude.{nat_le, ◌&&◌}
use Rattle.std.proofs.lemmas.Bool.Decides.{nat_tests}
use Rattle.std.specs.List.{list_any}
use Rattle.relay_outside.specs.declared.settings.Config.{Config}
use Rattle.ng_command.specs.Meanings as said
use Rattle.ng_reply.specs.declared.code.ErrorCode.TheVariants.{E13, E14, E15, E16, E17}
use Rattle.sdes_lines.specs.declared.crypto_line.CryptoLine.{CryptoLine}
use Rattle.histories.specs.Words.{In, or_else}
use Rattle.offer_answer.specs.Plan as plan
use Rattle.offer_answer.specs.Rounds.{Round, OfferAsk}
use Rattle.call_board.specs.Acts as act
use Rattle.call_board.specs.Acts.{Act, Call, Control, BoardEntry}
use Rattle.call_board.specs.Calls.{live, find_call, new_call, rounds, rounds_of_call, is_call_ending}
use Rattle.call_board.specs.Pairs.{free_in, is_short, leased_new_legs, drawn_keys_from, drawn}
use Rattle.call_board.specs.KeptReplies.{kept_reply}
use Rattle.call_board.specs.Requests.{asked}
use Rattle.call_board.specs.Replies.{Fault, reply_datagram}
use Rattle.call_board.specs.Answers.{Answered, failing, ending_error, leased_pairs, offer_ask, offer_leased, offer_unless, offer_to, answering_asked, answering_unless, offering, spelled}
use Rattle.call_board.specs.Fits.{FitsControl, IsFitting, answered_in}
use Rattle.call_board.proofs.Tells.{leased_case, false_in}
use Rattle.call_board.proofs.Cells.{live_bound}

-- the cases of the reply to a valid offer
pub data OfferEnds (config : Config) (h : List BoardEntry) (c : Control) (id : List ℕ) (ask : OfferAsk) : Type 0 where
  well : (o : act.Offer) → c.act ≡ act.Offered o → o.ask ≡ ask
      → c.reply ≡ (spelled config c.cookie c.body (offering config (rounds_of_call h (find_call h id)) o)).bytes → OfferEnds config h c id ask
  no_pair : c.act ≡ act.Failed E13
      → is_short (free_in config h) (plan.demand (rounds_of_call h (find_call h id)) ask).pairs ≡ true → OfferEnds config h c id ask
  session_limit : c.act ≡ act.Failed E14 → find_call h id ≡ None → length (live h) ≡ config.max_sessions → OfferEnds config h c id ask
  port_fault : (leases : List act.Lease) → c.act ≡ act.Undone E15 leases [] → In false c.given.opens → OfferEnds config h c id ask
  key_fault : (leases : List act.Lease) → c.act ≡ act.Undone E16 leases c.given.draws → c.given.draw_failed ≡ true → OfferEnds config h c id ask
  no_memory : c.act ≡ act.OutOfMemory → OfferEnds config h c id ask

abbrev act_of : Answered → Act
act_of a = a.act

abbrev bytes_of : Answered → List ℕ
bytes_of a = a.bytes

abbrev pub offer_of : List BoardEntry → Control → OfferAsk → Call → Bool → List Round → List ℕ → act.Offer
offer_of h c ask of new before pairs = record {
  of = of;
  begins = new;
  ask = ask;
  legs = leased_new_legs h of pairs (plan.demand before ask).pairs;
  keys = drawn_keys_from (length (drawn h)) c.given.draws (plan.demand before ask).keys;
  dropped = (plan.demand before ask).dropped;
}

-- The cases in order.

leased_ends : (config : Config) (h : List BoardEntry) (c : Control) (id : List ℕ) (ask : OfferAsk) (of : Call) (new : Bool) (before : List Round) (pairs : List ℕ)
    → before ≡ rounds_of_call h (find_call h id) → (failed drew : Bool) → list_any not c.given.opens ≡ failed → c.given.draw_failed ≡ drew
    → answered_in c ≡ spelled config c.cookie c.body (leased_case config h c.given ask of new before pairs failed drew) → OfferEnds config h c id ask
leased_ends config h c id ask of new before pairs before_is true drew fails draws is = port_fault _ (ap act_of is) (false_in c.given.opens fails)
leased_ends config h c id ask of new before pairs before_is false true fails draws is = key_fault _ (ap act_of is) draws
leased_ends config h c id ask of new before pairs before_is false false fails draws is =
    well _ (ap act_of is) refl (ap bytes_of is ∙ ap (λ (rs : List Round). (spelled config c.cookie c.body (offering config rs (offer_of h c ask of new before pairs))).bytes) before_is)

-- a limit that is reached and can't be passed
reached : (limit count : ℕ) → nat_le limit count ≡ true → count ≤ limit → count ≡ limit
reached limit count over bound = grind (arith, nat_tests)

planned_ends : (config : Config) (h : List BoardEntry) (c : Control) (id : List ℕ) (ask : OfferAsk) (of : Call) (new : Bool) (before : List Round)
    → before ≡ rounds_of_call h (find_call h id) → ((new && nat_le config.max_sessions (length (live h))) ≡ true → (find_call h id ≡ None) × (length (live h) ≡ config.max_sessions))
    → (over short : Bool) → (new && nat_le config.max_sessions (length (live h))) ≡ over → is_short (free_in config h) (plan.demand before ask).pairs ≡ short
    → answered_in c ≡ spelled config c.cookie c.body (cond over (failing E14) (cond short (failing E13) (offer_leased config h c.given ask of new before (leased_pairs config h (plan.demand before ask)))))
    → OfferEnds config h c id ask
planned_ends config h c id ask of new before before_is limit true short overs shorts is = let l = limit overs in session_limit (ap act_of is) l.0 l.1
planned_ends config h c id ask of new before before_is limit false true overs shorts is =
    no_pair (ap act_of is) (subst (λ rs. is_short (free_in config h) (plan.demand rs ask).pairs ≡ true) before_is shorts)
planned_ends config h c id ask of new before before_is limit false false overs shorts is =
    leased_ends config h c id ask of new before (leased_pairs config h (plan.demand before ask)) before_is (list_any not c.given.opens) c.given.draw_failed refl refl is

found_ends : (config : Config) (h : List BoardEntry) (c : Control) (id : List ℕ) (ask : OfferAsk) → length (live h) ≤ config.max_sessions
    → (found : Option Call) → find_call h id ≡ found → is_call_ending h found ≡ false → plan.offer_fault (rounds_of_call h found) ask ≡ None
    → answered_in c ≡ spelled config c.cookie c.body (offer_to config h c.given id ask found) → OfferEnds config h c id ask
found_ends config h c id ask bound None found not_ending no_fault is =
    planned_ends config h c id ask (new_call h id) true [] (sym (ap (rounds_of_call h) found))
    (λ over. (found, reached config.max_sessions (length (live h)) over bound))
    (nat_le config.max_sessions (length (live h))) (is_short (free_in config h) (plan.demand [] ask).pairs) refl refl
    (is ∙ ap (λ fault. spelled config c.cookie c.body (offer_unless config h c.given ask (new_call h id) true [] fault)) no_fault)
found_ends config h c id ask bound (Some of) found not_ending no_fault is =
    planned_ends config h c id ask of false (rounds h of.number) (sym (ap (rounds_of_call h) found))
    (λ over. absurd (let wrong : false ≡ true = over in cc))
    false (is_short (free_in config h) (plan.demand (rounds h of.number) ask).pairs) refl refl
    (is ∙ ap (λ ending. spelled config c.cookie c.body (offer_unless config h c.given ask of false (rounds h of.number) (or_else (ending_error ending) (plan.offer_fault (rounds h of.number) ask)))) not_ending
    ∙ ap (λ fault. spelled config c.cookie c.body (offer_unless config h c.given ask of false (rounds h of.number) fault)) no_fault)

out_of_memory_ends : (config : Config) (h : List BoardEntry) (c : Control) (id : List ℕ) (ask : OfferAsk) → length (live h) ≤ config.max_sessions
    → is_call_ending h (find_call h id) ≡ false → plan.offer_fault (rounds_of_call h (find_call h id)) ask ≡ None → (out_of_memory : Bool)
    → answered_in c ≡ cond out_of_memory (record { bytes = reply_datagram config c.cookie c.body (Fault E17); act = act.OutOfMemory }) (spelled config c.cookie c.body (offer_to config h c.given id ask (find_call h id)))
    → OfferEnds config h c id ask
out_of_memory_ends config h c id ask bound not_ending no_fault true is = no_memory (ap act_of is)
out_of_memory_ends config h c id ask bound not_ending no_fault false is = found_ends config h c id ask bound (find_call h id) refl not_ending no_fault is

pub offer_ends : (config : Config) (h : List BoardEntry) (now : ℕ) (c : Control) (id : List ℕ) (ask : OfferAsk) → IsFitting config h → FitsControl config h now c
    → kept_reply h c.source c.cookie now ≡ None → asked config c.too_long c.pairs ≡ Ok (said.Offer id ask.from_tag ask.sdp ask.options) → ask.chosen ≡ c.chosen
    → is_call_ending h (find_call h id) ≡ false → plan.offer_fault (rounds_of_call h (find_call h id)) ask ≡ None → OfferEnds config h c id ask
offer_ends config h now c id ask old fits none is_asked heard not_ending no_fault =
    let due = λ (ch : List (Option CryptoLine)). spelled config c.cookie c.body (offer_to config h c.given id (offer_ask ask.from_tag ask.sdp ask.options ch) (find_call h id)) in
    let unkept = fits.answers ∙ ap (answering_unless config h c) none in
    let asking = ap (λ r. cond c.given.out_of_memory (record { bytes = reply_datagram config c.cookie c.body (Fault E17); act = act.OutOfMemory }) (spelled config c.cookie c.body (answering_asked config h c r))) is_asked in
    let hearing = ap (λ ch. cond c.given.out_of_memory (record { bytes = reply_datagram config c.cookie c.body (Fault E17); act = act.OutOfMemory }) (due ch)) (sym heard) in
    out_of_memory_ends config h c id ask (live_bound config h old) not_ending no_fault c.given.out_of_memory (unkept ∙ asking ∙ hearing)

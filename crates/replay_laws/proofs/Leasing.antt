-- Two turns on one datagram, after one history of the board, that lease pairs lease the same ones, whatever the devices return.
use Rattle.std.proofs.Common.{◌≡◌, ◌∙◌, ◌⊎◌, inl, inr, sym, ap, subst, refl, ℕ, List, [], ◌∷◌, map, length, Bool, true, false, not, Option, Some, None, Result, Ok, Err, cond, arith}
use Rattle.std.specs.Prelude.{◌&&◌, ◌==◌, nat_le}
use Rattle.std.specs.List.{list_any}
use Rattle.histories.specs.Words.{or_else}
use Rattle.relay_outside.specs.declared.address.Addr.{Addr}
use Rattle.relay_outside.specs.declared.ports.PortCall.{PortCall}
use Rattle.relay_outside.specs.declared.settings.Config.{Config}
use Rattle.port_pool.specs.declared.holder.Holder.{Holder}
use Rattle.sdes_lines.specs.declared.crypto_line.CryptoLine.{CryptoLine}
use Rattle.ng_command.specs.declared.command.Options.{Options}
use Rattle.ng_command.specs.Meanings.{Said}
use Rattle.ng_command.specs.Meanings as said
use Rattle.ng_reply.specs.declared.code.ErrorCode.{ErrorCode}
use Rattle.ng_reply.specs.declared.code.ErrorCode.TheVariants.{E9, E10}
use Rattle.offer_answer.specs.Rounds.{Round, OfferAsk, AnswerAsk, NewLeg, Demand}
use Rattle.offer_answer.specs.Plan as plan
use Rattle.call_board.specs.Acts as act
use Rattle.call_board.specs.Acts.{Given, Call, Act, Control, BoardEntry}
use Rattle.call_board.specs.Calls.{live, find_call, new_call, rounds, rounds_of_call, is_ending}
use Rattle.call_board.specs.KeptReplies.{kept_reply}
use Rattle.call_board.specs.Requests.{asked}
use Rattle.call_board.specs.Pairs.{free_in, fronts, is_short, leased_by_act, leased_new_legs}
use Rattle.call_board.specs.Answers.{leased_pairs, offer_ask, answer_ask, offer_unless, offer_to, answer_unless, answer_to, deleting, nothing_to_end, names_side, delete_of, query_of, ending_error, answering_asked, answering, answering_unless}
use Rattle.call_board.specs.Replies.{Done}
use Rattle.call_board.specs.Fits.{FitsControl, demanded, demanded_by}
use Rattle.call_board.proofs.Demands.{fronts_length, enough_of}
use Rattle.call_board.proofs.Fixed.{unless_out_of_memory}
use Rattle.call_board.proofs.FreeAfter.{pairs_leased}
use Rattle.call_board.proofs.Tells.{leased_case}
use Rattle.media_ports.specs.Addresses.{pair_addresses}
use Rattle.media_ports.specs.Calls.{openings}
use Rattle.media_ports.specs.Openings.{OpensAt, opening_answers, opening_calls}
use Rattle.board_laws.specs.Alike.{AreOfOne, HasMemory}
use Rattle.board_laws.proofs.Commands.{planned}
use Rattle.board_laws.proofs.Answered.{act_of, same_asked}
use Rattle.replay_laws.proofs.Asked.{answers_alone}

-- What a turn leases: these pairs, or none.

abbrev pub LeasesWanted : (wanted leased : List ℕ) → Type 0
LeasesWanted wanted leased = (leased ≡ wanted) ⊎ (leased ≡ [])

legs_pairs : (h : List BoardEntry) (of : Call) (ps : List ℕ) (legs : List NewLeg) → length ps ≡ length legs → map (λ (leg : Holder). leg.pair) (leased_new_legs h of ps legs) ≡ ps
legs_pairs h of [] legs e = refl
legs_pairs h of (p ∷ ps) [] e = absurd (omega (arith, e))
legs_pairs h of (p ∷ ps) (leg ∷ legs) e = ap (λ (qs : List ℕ). p ∷ qs) (legs_pairs h of ps legs (let l = e in omega (arith, l)))

case_leases : (config : Config) (h : List BoardEntry) (g : Given) (ask : OfferAsk) (of : Call) (begins : Bool) (before : List Round) (pairs : List ℕ) (failed drew : Bool)
    → length pairs ≡ length (plan.demand before ask).pairs → leased_by_act (leased_case config h g ask of begins before pairs failed drew).act ≡ pairs
case_leases config h g ask of begins before pairs true drew e = pairs_leased h pairs
case_leases config h g ask of begins before pairs false true e = pairs_leased h pairs
case_leases config h g ask of begins before pairs false false e = legs_pairs h of pairs (plan.demand before ask).pairs e

planned_leases : (config : Config) (h : List BoardEntry) (g : Given) (ask : OfferAsk) (of : Call) (begins : Bool) (before : List Round) (over short : Bool)
    → is_short (free_in config h) (plan.demand before ask).pairs ≡ short
    → LeasesWanted (leased_pairs config h (plan.demand before ask)) (leased_by_act (planned config h ask of begins before over short g).act)
planned_leases config h g ask of begins before true short is = inr refl
planned_leases config h g ask of begins before false true is = inr refl
planned_leases config h g ask of begins before false false is =
    let legs : List NewLeg = (plan.demand before ask).pairs in
    inl (case_leases config h g ask of begins before (leased_pairs config h (plan.demand before ask)) (list_any not g.opens) g.draw_failed
    (fronts_length (free_in config h) legs (enough_of (free_in config h) legs is)))

unless_leases : (config : Config) (h : List BoardEntry) (g : Given) (ask : OfferAsk) (of : Call) (begins : Bool) (before : List Round) (fault : Option ErrorCode)
    → LeasesWanted (leased_pairs config h (plan.demand before ask)) (leased_by_act (offer_unless config h g ask of begins before fault).act)
unless_leases config h g ask of begins before (Some code) = inr refl
unless_leases config h g ask of begins before None =
    planned_leases config h g ask of begins before (begins && nat_le config.max_sessions (length (live h))) (is_short (free_in config h) (plan.demand before ask).pairs) refl

offer_leases : (config : Config) (h : List BoardEntry) (g : Given) (id : List ℕ) (ask : OfferAsk) (found : Option Call)
    → LeasesWanted (leased_pairs config h (plan.demand (rounds_of_call h found) ask)) (leased_by_act (offer_to config h g id ask found).act)
offer_leases config h g id ask None = unless_leases config h g ask (new_call h id) true [] (plan.offer_fault [] ask)
offer_leases config h g id ask (Some of) =
    unless_leases config h g ask of false (rounds h of.number) (or_else (ending_error (is_ending h of.number)) (plan.offer_fault (rounds h of.number) ask))

-- no other command leases a pair

answer_unless_leases : (config : Config) (ask : AnswerAsk) (of : Call) (before : List Round) (fault : Option ErrorCode) → leased_by_act (answer_unless config ask of before fault).act ≡ []
answer_unless_leases config ask of before (Some code) = refl
answer_unless_leases config ask of before None = refl

answer_leases : (config : Config) (h : List BoardEntry) (ask : AnswerAsk) (found : Option Call) → leased_by_act (answer_to config h ask found).act ≡ []
answer_leases config h ask None = refl
answer_leases config h ask (Some of) =
    answer_unless_leases config ask of (rounds h of.number) (or_else (ending_error (is_ending h of.number)) (plan.answer_fault (rounds h of.number) ask))

missing_leases : (fatal : Bool) (code : ErrorCode) → leased_by_act (nothing_to_end fatal code).act ≡ []
missing_leases true code = refl
missing_leases false code = refl

deleting_leases : (of : Call) (seconds : ℕ) (at_once : Bool) → leased_by_act (cond at_once (act.Deleted of) (act.Delayed of seconds)) ≡ []
deleting_leases of seconds true = refl
deleting_leases of seconds false = refl

named_leases : (fatal : Bool) (seconds : ℕ) (of : Call) (named : Bool)
    → leased_by_act (cond named (record { reply = Done; act = deleting of seconds }) (nothing_to_end fatal E10)).act ≡ []
named_leases fatal seconds of true = deleting_leases of seconds (seconds == 0)
named_leases fatal seconds of false = missing_leases fatal E10

delete_leases : (h : List BoardEntry) (tag : Option (List ℕ)) (fatal : Bool) (seconds : ℕ) (found : Option Call) → leased_by_act (delete_of h tag fatal seconds found).act ≡ []
delete_leases h tag fatal seconds None = missing_leases fatal E9
delete_leases h tag fatal seconds (Some of) = named_leases fatal seconds of (names_side (rounds h of.number) tag)

query_leases : (h : List BoardEntry) (g : Given) (found : Option Call) → leased_by_act (query_of h g found).act ≡ []
query_leases h g None = refl
query_leases h g (Some of) = refl

asked_leases : (config : Config) (h : List BoardEntry) (c : Control) (r : Result Said ErrorCode) → LeasesWanted (leased_pairs config h (demanded_by h c r)) (leased_by_act (answering_asked config h c r).act)
asked_leases config h c (Err code) = inr refl
asked_leases config h c (Ok said.Ping) = inr refl
asked_leases config h c (Ok (said.Offer id from_tag sdp options)) = offer_leases config h c.given id (offer_ask from_tag sdp options c.chosen) (find_call h id)
asked_leases config h c (Ok (said.Answer id from_tag to_tag sdp options)) = inr (answer_leases config h (answer_ask from_tag to_tag sdp options c.chosen) (find_call h id))
asked_leases config h c (Ok (said.Delete id from_tag fatal seconds)) = inr (delete_leases h from_tag fatal seconds (find_call h id))
asked_leases config h c (Ok (said.Query id)) = inr (query_leases h c.given (find_call h id))
asked_leases config h c (Ok (said.Listing limit)) = inr refl

memory_leases : (config : Config) (h : List BoardEntry) (c : Control) (out : Bool)
    → LeasesWanted (leased_pairs config h (demanded config h c)) (leased_by_act (unless_out_of_memory config c.cookie c.body out (answering config h c)).act)
memory_leases config h c true = inr refl
memory_leases config h c false = asked_leases config h c (asked config c.too_long c.pairs)

-- Both demand the same pairs.

pairs_by : (rs : List Round) (from_tag sdp : List ℕ) (options : Options) (xs ys : List (Option CryptoLine))
    → (plan.demand rs (offer_ask from_tag sdp options xs)).pairs ≡ (plan.demand rs (offer_ask from_tag sdp options ys)).pairs
unfolding plan.demand
pairs_by rs from_tag sdp options xs ys = refl

same_pairs : (h : List BoardEntry) (c d : Control) (r : Result Said ErrorCode) → (demanded_by h c r).pairs ≡ (demanded_by h d r).pairs
same_pairs h c d (Err code) = refl
same_pairs h c d (Ok said.Ping) = refl
same_pairs h c d (Ok (said.Offer id from_tag sdp options)) = pairs_by (rounds_of_call h (find_call h id)) from_tag sdp options c.chosen d.chosen
same_pairs h c d (Ok (said.Answer id from_tag to_tag sdp options)) = refl
same_pairs h c d (Ok (said.Delete id from_tag fatal seconds)) = refl
same_pairs h c d (Ok (said.Query id)) = refl
same_pairs h c d (Ok (said.Listing limit)) = refl

-- these are pairs of which each of both leases all or none
pub record LeaseOne (c d : Control) : Type 0 where
  pub wanted : List ℕ
  pub left : LeasesWanted wanted (leased_by_act c.act)
  pub right : LeasesWanted wanted (leased_by_act d.act)

kept_lease : (config : Config) (h : List BoardEntry) (now : ℕ) (c d : Control) → FitsControl config h now c → FitsControl config h now d → AreOfOne c d → HasMemory c → HasMemory d
    → (o : Option (List ℕ)) → kept_reply h c.source c.cookie now ≡ o → kept_reply h d.source d.cookie now ≡ o → LeaseOne c d
kept_lease config h now c d f g one fed_c fed_d (Some bytes) is_c is_d = record {
  wanted = [];
  left = inr (ap leased_by_act (ap act_of (f.answers ∙ ap (answering_unless config h c) is_c)));
  right = inr (ap leased_by_act (ap act_of (g.answers ∙ ap (answering_unless config h d) is_d)));
}
kept_lease config h now c d f g one fed_c fed_d None is_c is_d =
    let wanted : List ℕ = leased_pairs config h (demanded config h c) in
    let demands : (demanded config h d).pairs ≡ (demanded config h c).pairs =
    ap (λ (r : Result Said ErrorCode). (demanded_by h d r).pairs) (sym (same_asked config h now c d f g one fed_c fed_d is_c is_d))
    ∙ same_pairs h d c (asked config c.too_long c.pairs) in
    record {
      wanted = wanted;
      left = subst (λ (a : Act). LeasesWanted wanted (leased_by_act a)) (sym (ap act_of (f.answers ∙ ap (answering_unless config h c) is_c)))
          (memory_leases config h c c.given.out_of_memory);
      right = subst (λ (a : Act). LeasesWanted wanted (leased_by_act a)) (sym (ap act_of (g.answers ∙ ap (answering_unless config h d) is_d)))
          (subst (λ (ps : List NewLeg). LeasesWanted (fronts (free_in config h) ps) (leased_by_act (unless_out_of_memory config d.cookie d.body d.given.out_of_memory (answering config h d)).act)) demands
          (memory_leases config h d d.given.out_of_memory));
    }

pub one_lease : (config : Config) (h : List BoardEntry) (now : ℕ) (c d : Control) → FitsControl config h now c → FitsControl config h now d → AreOfOne c d → HasMemory c → HasMemory d → LeaseOne c d
one_lease config h now c d f g one fed_c fed_d =
    kept_lease config h now c d f g one fed_c fed_d (kept_reply h c.source c.cookie now) refl
    (sym (ap (λ (s : Addr). kept_reply h s c.cookie now) one.source ∙ ap (λ (k : List ℕ). kept_reply h d.source k now) one.cookie))

-- What is opened.

openings_none : (ats : List Addr) → openings ats [] ≡ []
openings_none [] = refl
openings_none (at ∷ ats) = refl

pub opens_wanted : (config : Config) (wanted leased : List ℕ) (answers : List Bool) (calls : List PortCall) → LeasesWanted wanted leased → OpensAt config leased answers calls → OpensAt config wanted answers calls
opens_wanted config wanted leased answers calls (inl is) o = subst (λ (pairs : List ℕ). OpensAt config pairs answers calls) is o
opens_wanted config wanted leased answers calls (inr none) o =
    let alone : OpensAt config [] answers calls = subst (λ (pairs : List ℕ). OpensAt config pairs answers calls) none o in
    let uncalled : opening_calls calls ≡ [] = alone.in_order in
    let unanswered : answers ≡ [] = sym alone.answered ∙ answers_alone calls ∙ ap opening_answers uncalled in
    record {
      answered = alone.answered;
      in_order = uncalled ∙ sym (ap (openings (pair_addresses config wanted)) unanswered ∙ openings_none (pair_addresses config wanted));
    }

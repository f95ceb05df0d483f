-- A datagram that asks an offer which the board plans: an entry is due by which it is accepted, whatever keys are drawn.
use Rattle.std.proofs.Common.{◌≡◌, ◌∙◌, refl, sym, ap, subst, ℕ, zero, suc, ◌*◌, ◌++◌, Bool, true, false, cond, not, List, [], ◌∷◌, length, Option, Some, None, Ok}
use Rattle.std.specs.Prelude.{nat_lt, replicate, Result}
use Rattle.std.specs.List.{list_any}
use Rattle.relay_outside.specs.declared.address.Addr.{Addr}
use Rattle.relay_outside.specs.declared.settings.Config.{Config}
use Rattle.ng_bencode.specs.Tree.{Entries}
use Rattle.ng_command.specs.declared.command.Options.{Options}
use Rattle.ng_command.specs.Meanings as said
use Rattle.ng_command.specs.Meanings.{Said}
use Rattle.ng_frame.specs.Frame.{frame}
use Rattle.ng_reply.specs.declared.code.ErrorCode.{ErrorCode}
use Rattle.ng_reply.specs.declared.code.ErrorCode.TheVariants.{E15}
use Rattle.sdes_lines.specs.declared.crypto_line.CryptoLine.{CryptoLine}
use Rattle.sdp_text.specs.Lines.{lines_of}
use Rattle.offer_answer.specs.Rounds.{Round, OfferAsk, Demand}
use Rattle.offer_answer.specs.Plan as plan
use Rattle.offer_answer.specs.Offers.{key_count}
use Rattle.call_board.specs.Acts as act
use Rattle.call_board.specs.Acts.{Call, Given, Control, Turn, BoardEntry}
use Rattle.call_board.specs.Calls.{find_call, rounds_of_call}
use Rattle.call_board.specs.KeptReplies.{kept_reply}
use Rattle.call_board.specs.Requests.{ReadsBody, asked}
use Rattle.call_board.specs.Answers.{offer_ask, offering, undoing, answering, answering_asked, answering_unless, spelled}
use Rattle.call_board.specs.Fits.{FitsControl, GivesFor, ReadsRequest, demanded, demanded_by}
use Rattle.call_board.specs.Replies.{reply_datagram}
use Rattle.call_board.specs.Views.{view_of}
use Rattle.call_board.specs.Plans.{Target, PlansOffer}
use Rattle.call_board.specs.declared.board_plan.BoardPlan.{BoardPlan}
use Rattle.call_board.proofs.Dues.{target_in, target_is, offer_leases}
use Rattle.offer_command.specs.Offers.{IsDue, CanOffer, target_of, demand_of, pairs_for, offer_of}
use Rattle.offer_command.proofs.Targets.{keys_count}

-- the datagram has a frame, its body was read and asks this offer, whose chosen keys are those of its description, and no reply to
-- it is kept
pub record IsAsked (config : Config) (h : List BoardEntry) (now : ℕ) (source : Addr) (cookie body : List ℕ) (too_long : Bool) (pairs : Option Entries)
    (chosen : List (Option CryptoLine)) (id from_tag sdp : List ℕ) (options : Options) : Type 0 where
  pub framed : frame (cookie ++ 32 ∷ body) ≡ Some (cookie, body)
  pub length_is : too_long ≡ nat_lt 16384 (length (cookie ++ 32 ∷ body))
  pub reads : ReadsBody body pairs
  pub asks : asked config too_long pairs ≡ Ok (said.Offer id from_tag sdp options)
  pub heard : plan.OfferRead (offer_ask from_tag sdp options chosen)
  pub none_kept : kept_reply h source cookie now ≡ None

none_fails : (n : ℕ) → list_any not (replicate n true) ≡ false
none_fails zero = refl
none_fails (suc n) = none_fails n

rounds_in : (h : List BoardEntry) (id : List ℕ) (o : Option Call) → rounds_of_call h o ≡ (target_in h id o).rounds
rounds_in h id None = refl
rounds_in h id (Some of) = refl

-- such an offer may be carried out
pub can_offer : (config : Config) (h : List BoardEntry) (now : ℕ) (source : Addr) (cookie body : List ℕ) (too_long : Bool) (pairs : Option Entries) (chosen : List (Option CryptoLine))
    (id from_tag sdp : List ℕ) (options : Options) (p : BoardPlan) → IsAsked config h now source cookie body too_long pairs chosen id from_tag sdp options →
    PlansOffer config (view_of config h) id (offer_ask from_tag sdp options chosen) (Ok p) → CanOffer config h id (offer_ask from_tag sdp options chosen) (lines_of sdp) p
can_offer config h now source cookie body too_long pairs chosen id from_tag sdp options p a plans = record { lines_are = refl; due = due }
  where
    ask : OfferAsk
    ask = offer_ask from_tag sdp options chosen

    t : Target
    t = target_of config h id

    o : List (List ℕ) → act.Offer
    o draws = offer_of config h id ask draws

    given : List (List ℕ) → Given
    given draws = record { out_of_memory = false; opens = replicate (2 * length (demand_of config h id ask).pairs) true; draws = draws; draw_failed = false; report = None }

    control : List (List ℕ) → Control
    control draws = record {
      source = source;
      cookie = cookie;
      body = body;
      too_long = too_long;
      pairs = pairs;
      chosen = chosen;
      given = given draws;
      reply = reply_datagram config cookie body (offering config t.rounds (o draws)).reply;
      act = act.Offered (o draws);
    }

    answer : (draws : List (List ℕ)) → answering config h (control draws) ≡ offering config t.rounds (o draws)
    answer draws =
        ap (answering_asked config h (control draws)) a.asks
        ∙ offer_leases config h (given draws) id ask p plans
        ∙ ap (λ (b : Bool). cond b (undoing h E15 (pairs_for config h id ask) []) (offering config t.rounds (o draws)))
        (none_fails (2 * length (demand_of config h id ask).pairs))

    same : (draws : List (List ℕ)) → demanded config h (control draws) ≡ demand_of config h id ask
    same draws =
        ap (demanded_by h (control draws)) a.asks
        ∙ ap (λ (rs : List Round). plan.demand rs ask) (rounds_in h id (find_call h id) ∙ ap (λ (x : Target). x.rounds) (sym (target_is config h id)))

    fits : (draws : List (List ℕ)) → length draws ≡ key_count p.plan → FitsControl config h now (control draws)
    fits draws count = record {
      framed = a.framed;
      length_is = a.length_is;
      reads = λ is. a.reads;
      hears = λ is. subst (λ (r : Result Said ErrorCode). ReadsRequest h (control draws) r) (sym a.asks) a.heard;
      gives = subst (λ (d : Demand). GivesFor d (given draws) (act.Offered (o draws))) (sym (same draws))
          (record { all_opened = refl }, record { all_drawn = count ∙ keys_count config h id ask p plans.1; none_failed = refl }, refl);
      reports = λ out_of_memory. absurd (let e = out_of_memory in cc);
      answers = sym (ap (answering_unless config h (control draws)) a.none_kept ∙ ap (spelled config cookie body) (answer draws));
    }

    due : (draws : List (List ℕ)) → length draws ≡ key_count p.plan → IsDue config h id ask p draws
    due draws count = record {
      plans = plans;
      entry = record { moment = now; event = Turn (control draws) };
      fits = fits draws count;
      acts = refl;
    }

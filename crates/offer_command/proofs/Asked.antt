-- A datagram that asks for an offer, and what is due to it.
use Rattle.std.proofs.Common.{◌≡◌, ◌∙◌, refl, sym, ap, subst, ℕ, zero, suc, ◌++◌, ◌∷◌, Bool, true, false, not, List, [], replicate, Option, Some, None, Result, Ok}
use Rattle.std.specs.List.{list_any}
use Rattle.relay_outside.specs.declared.settings.Config.{Config}
use Rattle.ng_bencode.specs.Tree.{Entries}
use Rattle.ng_command.specs.declared.command.OfferIn.{OfferIn}
use Rattle.ng_command.specs.Meanings.{Said}
use Rattle.ng_reply.specs.declared.code.ErrorCode.{ErrorCode}
use Rattle.sdes_lines.specs.declared.crypto_line.CryptoLine.{CryptoLine}
use Rattle.sdp_text.specs.Lines.{lines_of}
use Rattle.offer_answer.specs.Rounds.{Round}
use Rattle.offer_answer.specs.Plan as plan
use Rattle.offer_answer.specs.Plan.{OfferRead}
use Rattle.call_board.specs.Acts.{Call, BoardEntry}
use Rattle.call_board.specs.Requests.{asked, sdp_error_for}
use Rattle.call_board.specs.Calls.{find_call, rounds_of_call}
use Rattle.call_board.specs.Fits.{ReadsRequest, demanded, demanded_by}
use Rattle.call_board.specs.Plans.{Target, PlansOffer}
use Rattle.call_board.specs.Views.{view_of}
use Rattle.call_board.specs.declared.board_plan.BoardPlan.{BoardPlan}
use Rattle.call_board.proofs.Done.{Asks}
use Rattle.call_board.proofs.Dues.{target_in, target_is}
use Rattle.control_messages.specs.declared.request.Request.{Request}
use Rattle.board_turns.specs.declared.device_answers.DeviceAnswers.{DeviceAnswers}
use Rattle.board_turns.specs.Controls.{unanswered}
use Rattle.board_turns.specs.DeviceAnswers.{given_by}
use Rattle.board_turns.specs.Commands.{record_as}
use Rattle.board_turns.proofs.Asking.{asks_so}
use Rattle.offer_command.specs.Offers.{CanOffer, demand_of}
use Rattle.offer_command.proofs.Accepted.{can_offer}
use Rattle.board_turns.specs.PlainReplies.{IsAnew, IsAsking}
use Rattle.offer_command.specs.Commands.{AsksForOffer, offer_says, ask_of_offer}

-- it asks for the offer
pub is_asked : (config : Config) (h : List BoardEntry) (moment : ℕ) (request : Request) (pairs : Option Entries) (input : OfferIn) → AsksForOffer config h moment request pairs input
    → asked config request.too_long pairs ≡ Ok (offer_says input)
is_asked config h moment request pairs input c =
    ap (λ (long : Bool). asked config long pairs) c.asking.short ∙ asks_so config false pairs (offer_says input) c.asking.command c.fine

pub asks_offer : (config : Config) (h : List BoardEntry) (moment : ℕ) (request : Request) (pairs : Option Entries) (input : OfferIn) (chosen : List (Option CryptoLine)) (device_answers : DeviceAnswers)
    → AsksForOffer config h moment request pairs input → (given_by device_answers).out_of_memory ≡ false → Asks config h moment (unanswered (record_as request pairs chosen device_answers)) (Ok (offer_says input))
asks_offer config h moment request pairs input chosen device_answers c fed =
    record { nothing_kept = c.anew.not_kept; not_out_of_memory = fed; is_asked = is_asked config h moment request pairs input c }

pub hears_offer : (config : Config) (h : List BoardEntry) (moment : ℕ) (request : Request) (pairs : Option Entries) (input : OfferIn) (chosen : List (Option CryptoLine)) (device_answers : DeviceAnswers)
    → AsksForOffer config h moment request pairs input → OfferRead (ask_of_offer input chosen)
    → ReadsRequest h (unanswered (record_as request pairs chosen device_answers)) (asked config request.too_long pairs)
hears_offer config h moment request pairs input chosen device_answers c heard =
    subst (λ (r : Result Said ErrorCode). ReadsRequest h (unanswered (record_as request pairs chosen device_answers)) r) (sym (is_asked config h moment request pairs input c)) heard

rounds_in : (h : List BoardEntry) (id : List ℕ) (o : Option Call) → rounds_of_call h o ≡ (target_in h id o).rounds
rounds_in h id None = refl
rounds_in h id (Some of) = refl

-- what it demands is what the offer demands of the call that the board plans it for
pub demands_offer : (config : Config) (h : List BoardEntry) (moment : ℕ) (request : Request) (pairs : Option Entries) (input : OfferIn) (chosen : List (Option CryptoLine)) (device_answers : DeviceAnswers)
    → AsksForOffer config h moment request pairs input → demanded config h (unanswered (record_as request pairs chosen device_answers)) ≡ demand_of config h input.call_id.list (ask_of_offer input chosen)
demands_offer config h moment request pairs input chosen device_answers c =
    let id = input.call_id.list in
    ap (demanded_by h (unanswered (record_as request pairs chosen device_answers))) (is_asked config h moment request pairs input c)
    ∙ ap (λ (rs : List Round). plan.demand rs (ask_of_offer input chosen)) (rounds_in h id (find_call h id) ∙ ap (λ (t : Target). t.rounds) (sym (target_is config h id)))

-- a planned one may be carried out
pub may_offer : (config : Config) (h : List BoardEntry) (moment : ℕ) (request : Request) (pairs : Option Entries) (input : OfferIn) (chosen : List (Option CryptoLine)) (p : BoardPlan)
    → AsksForOffer config h moment request pairs input → OfferRead (ask_of_offer input chosen) → PlansOffer config (view_of config h) input.call_id.list (ask_of_offer input chosen) (Ok p)
    → CanOffer config h input.call_id.list (ask_of_offer input chosen) (lines_of input.sdp.list) p
may_offer config h moment request pairs input chosen p c heard plans =
    can_offer config h moment request.source request.cookie.now request.body.now request.too_long pairs chosen input.call_id.list input.from_tag.list input.sdp.list input.options p (record {
      framed = c.anew.framed;
      length_is = c.anew.length_is;
      reads = c.asking.reads;
      asks = is_asked config h moment request pairs input c;
      heard = heard;
      none_kept = c.anew.not_kept;
    }) plans

-- What the port maker returned to its opens.

pub none_fails : (n : ℕ) → list_any not (replicate n true) ≡ false
none_fails zero = refl
none_fails (suc n) = none_fails n

pub one_fails : (n : ℕ) → list_any not (replicate n true ++ false ∷ []) ≡ true
one_fails zero = refl
one_fails (suc n) = one_fails n

-- the description that was read has no error
pub asks_for : (config : Config) (h : List BoardEntry) (moment : ℕ) (request : Request) (pairs : Option Entries) (input : OfferIn) (text : List ℕ) → IsAnew h moment request
    → IsAsking request pairs (offer_says input) → text ≡ input.sdp.list → sdp_error_for config input.options.family text ≡ None → AsksForOffer config h moment request pairs input
asks_for config h moment request pairs input text anew asking is fine =
    record { anew = anew; asking = asking; fine = subst (λ (t : List ℕ). sdp_error_for config input.options.family t ≡ None) is fine }

-- the lines of the description that was read
pub lines_read : (input : OfferIn) (text : List ℕ) (lines : List (List ℕ)) → lines ≡ lines_of text → text ≡ input.sdp.list → lines_of input.sdp.list ≡ lines
lines_read input text lines are is = sym (are ∙ ap lines_of is)

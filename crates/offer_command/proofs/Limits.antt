-- What an offer that is due demands is within the limits of its board.
use Rattle.std.proofs.Common.{◌≡◌, ◌∙◌, refl, sym, ap, subst, ℕ, zero, suc, ◌≤◌, ◌<◌, ◌^◌, filter, length-append, List, [], ◌∷◌, length, Option, Some, None, arith}
use Rattle.relay_outside.specs.declared.settings.Config.{Config}
use Rattle.std.specs.Prelude.{replicate}
use Rattle.std.specs.List.{filter_map, cons_option}
use Rattle.std.proofs.lemmas.List.{length-replicate}
use Rattle.sdp_text.specs.Lines.{lines_of}
use Rattle.sdp_text.specs.Descriptions.{fault_in}
use Rattle.offer_answer.specs.Rounds.{OfferAsk}
use Rattle.offer_answer.specs.Offers.{key_count}
use Rattle.call_board.specs.Acts.{BoardEvent, BoardEntry}
use Rattle.call_board.specs.Calls.{begun}
use Rattle.call_board.specs.Fits.{FitsAt, IsFitting}
use Rattle.call_board.specs.declared.board.Board.{Board}
use Rattle.call_board.specs.declared.board_plan.BoardPlan.{BoardPlan}
use Rattle.call_board.specs.declared.board_plan.NewCall.{NewCall}
use Rattle.call_board.specs.Views.{View, CallView, view_of, call_view, call_numbered}
use Rattle.call_board.specs.Boards.{BoardMatches, KeepsCalls}
use Rattle.call_board.specs.Plans.{CallRoom, BeginsFor, OfferPlanFor, leased}
use Rattle.call_board.specs.NextBoards.{MayApply}
use Rattle.call_board.proofs.Bounds.{offer_sound, may_begin}
use Rattle.call_board.proofs.Dues.{goes_on_with}
use Rattle.call_board.proofs.Found.{found_by_number, found_is_live}
use Rattle.call_board.proofs.Tells.{offer_told}
use Rattle.relay_core.specs.Entries.{Entry, is_at, history, board_entry, board_history}
use Rattle.relay_core.specs.Turns.{Numbered}
use Rattle.relay_core.proofs.Asks.{control_offers}
use Rattle.relay_core.proofs.Histories.{Step, nothing, single, step}
use Rattle.offer_command.specs.Offers.{IsDue, CanOffer, target_of, offer_of}

-- its description has no fault
pub sound_of : (config : Config) (h : List BoardEntry) (id : List ℕ) (ask : OfferAsk) (p : BoardPlan) (draws : List (List ℕ)) → IsDue config h id ask p draws →
    fault_in (lines_of ask.sdp) ≡ None
sound_of config h id ask p draws d =
    let o = offer_of config h id ask draws in
    let shown = offer_told config h d.entry o d.fits d.acts in
    let control = shown.turn.control in
    let s = control_offers config h d.entry.moment control o (subst (λ (x : BoardEvent). FitsAt config h d.entry.moment x) shown.turn.is_turn d.fits) shown.turn.acts in
    subst (λ (a : OfferAsk). fault_in (lines_of a.sdp) ≡ None) (sym s.ask_is) (offer_sound config control.too_long control.pairs s.id s.from_tag s.sdp s.options s.asks)

-- it is due for some keys
pub some_due : (config : Config) (h : List BoardEntry) (id : List ℕ) (ask : OfferAsk) (lines : List (List ℕ)) (p : BoardPlan) → CanOffer config h id ask lines p →
    IsDue config h id ask p (replicate (key_count p.plan) [])
some_due config h id ask lines p can = can.due (replicate (key_count p.plan) []) (length-replicate (key_count p.plan) [])

apply_case : (config : Config) (h : List BoardEntry) (id : List ℕ) (ask : OfferAsk) (p : BoardPlan) (old board : Board) (v : View) → IsFitting config h → BoardMatches config board v →
    v.calls ≡ (view_of config h).calls → v.begun ≡ length (begun h) → length h < 2 ^ 56 → KeepsCalls old board → p.call ≡ (target_of config h id).of.number →
    (new : Option NewCall) → BeginsFor config (target_of config h id) ask.from_tag new → CallRoom old new → MayApply board p new
apply_case config h id ask p old board v good shows calls_are begun_is short keeps call_is None goes room =
    let t = target_of config h id in
    let g = goes_on_with config h id goes in
    let found : call_numbered v p.call ≡ Some (call_view h t.of) =
    ap (λ (n : ℕ). call_numbered v n) call_is
    ∙ ap (λ (cs : List CallView). call_numbered (record (view_of config h) { calls = cs }) t.of.number) calls_are
    ∙ found_by_number config h t.of good g.is_live in
    found_is_live config board v p.call (call_view h t.of) shows found
apply_case config h id ask p old board v good shows calls_are begun_is short keeps call_is (Some new) goes room =
    (subst (λ calls. 0 < calls.spare) (sym keeps.calls_are) room, may_begin config h board v shows begun_is short)

-- the board may take its plan in, when its pairs were leased and its keys drawn
pub may_apply : (config : Config) (h : List BoardEntry) (id : List ℕ) (ask : OfferAsk) (p : BoardPlan) (old board : Board) (v : View) → IsFitting config h → BoardMatches config board v →
    v.calls ≡ (view_of config h).calls → v.begun ≡ length (begun h) → length h < 2 ^ 56 → KeepsCalls old board → OfferPlanFor config (target_of config h id) ask p → CallRoom old p.begun →
    MayApply board p p.begun
may_apply config h id ask p old board v good shows calls_are begun_is short keeps planned room =
    apply_case config h id ask p old board v good shows calls_are begun_is short keeps planned.call_is p.begun planned.begins room

-- an offer is due, too, when its leases were handed out
pub due_leased : (config : Config) (h : List BoardEntry) (id : List ℕ) (ask : OfferAsk) (p q : BoardPlan) (draws : List (List ℕ)) → q ≡ leased p → IsDue config h id ask p draws →
    IsDue config h id ask q draws
due_leased config h id ask p q draws same d =
    subst (λ (x : BoardPlan). IsDue config h id ask x draws) (sym same) (record {
      plans = (
        d.plans.0,
        record {
          call_is = d.plans.1.call_is;
          cell_is = d.plans.1.cell_is;
          plan_for = d.plans.1.plan_for;
          begins = d.plans.1.begins;
        },
      );
      entry = d.entry;
      fits = d.fits;
      acts = d.acts;
    })

-- The board's history.

few_kept : {A B : Type 0} (f : A → Option B) (xs : List A) → length (filter_map f xs) ≤ length xs
few_kept f [] = omega arith
few_kept f (x ∷ xs) = go (f x) (few_kept f xs)
  where
    go : (o : Option _) → length (filter_map f xs) ≤ length xs → length (cons_option o (filter_map f xs)) ≤ suc (length xs)
    go None rest = omega (arith, rest)
    go (Some y) rest = omega (arith, rest)

one_at : (l : List Entry) (place n : ℕ) → Step l place n → length (filter (is_at place n) l) ≤ 1
one_at l place n (nothing is) = let none = ap length is in omega (arith, none)
one_at l place n (single e i p q is) = let one = ap length is in omega (arith, one)

history_short : (l : List Entry) (place n : ℕ) → Numbered l → length (history l place n) ≤ n
history_short l place zero numbered = omega arith
history_short l place (suc n) numbered =
    let rest = history_short l place n numbered in
    let one = one_at l place n (step l numbered place n) in
    let sum = length-append (filter (is_at place n) l) (history l place n) in
    omega (arith, rest, one, sum)

-- the board's history before its entry of number n has at most n entries
pub board_history_short : (l : List Entry) (n : ℕ) → Numbered l → length (board_history l n) ≤ n
board_history_short l n numbered =
    let few = few_kept board_entry (history l 0 n) in
    let short = history_short l 0 n numbered in
    omega (arith, few, short)

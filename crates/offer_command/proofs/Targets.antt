-- The call of an offer that is due, and what it demands.
use Rattle.std.proofs.Common.{◌≡◌, ◌∙◌, refl, sym, ap, ℕ, ◌+◌, ◌≤◌, Bool, true, false, List, [], ◌∷◌, length, arith}
use Rattle.std.proofs.lemmas.List.{length-map}
use Rattle.relay_outside.specs.declared.settings.Config.{Config}
use Rattle.port_pool.specs.declared.pairs.Lease as pairs
use Rattle.port_pool.specs.declared.holder.Holder.{Holder}
use Rattle.port_pool.specs.Signals.{NewKey}
use Rattle.offer_answer.specs.Rounds.{OfferAsk, KeyPlace}
use Rattle.offer_answer.specs.Nexts.{numbered_keys}
use Rattle.offer_answer.specs.Offers.{pairs_demanded, key_count, leg_asked, key_asked}
use Rattle.call_board.specs.Acts.{Call, BoardEntry}
use Rattle.call_board.specs.Calls.{begun, rounds}
use Rattle.call_board.specs.Pairs.{drawn, drawn_keys_from}
use Rattle.call_board.specs.Fits.{IsFitting}
use Rattle.call_board.specs.Views.{view_of}
use Rattle.call_board.specs.Boards.{leases_at, fronts_for}
use Rattle.call_board.specs.Plans.{OfferPlanFor}
use Rattle.call_board.specs.Whole.{holders_of_new_legs}
use Rattle.call_board.specs.declared.board_plan.BoardPlan.{BoardPlan}
use Rattle.call_board.proofs.Calls.{offered_live}
use Rattle.call_board.proofs.Cells.{live_cell}
use Rattle.call_board.proofs.Dues.{goes_on_with, begins_new, legs_leased_are}
use Rattle.relay_core.proofs.CallRounds.{no_rounds}
use Rattle.offer_command.specs.Leases.{planned_pairs}
use Rattle.offer_command.specs.Legs.{LegsFor}
use Rattle.offer_command.specs.Offers.{IsDue, target_of, demand_of, pairs_for, offer_of}

rounds_case : (config : Config) (h : List BoardEntry) (id : List ℕ) → IsFitting config h → (b : Bool) → (target_of config h id).begins ≡ b →
    (target_of config h id).rounds ≡ rounds h (target_of config h id).of.number
rounds_case config h id good true new =
    let b = begins_new config h id new in
    let number : (target_of config h id).of.number ≡ length (begun h) = ap (λ (c : Call). c.number) b.of_is in
    b.no_rounds ∙ sym (no_rounds config h (target_of config h id).of.number good (omega (arith, number)))
rounds_case config h id good false old = (goes_on_with config h id old).rounds_are

-- the rounds of its call
pub rounds_are : (config : Config) (h : List BoardEntry) (id : List ℕ) → IsFitting config h → (target_of config h id).rounds ≡ rounds h (target_of config h id).of.number
rounds_are config h id good = rounds_case config h id good (target_of config h id).begins refl

-- its cell is one
pub cell_within : (config : Config) (h : List BoardEntry) (id : List ℕ) (ask : OfferAsk) (p : BoardPlan) (draws : List (List ℕ)) → IsFitting config h → IsDue config h id ask p draws →
    (1 ≤ (target_of config h id).of.cell) × ((target_of config h id).of.cell ≤ config.max_sessions)
cell_within config h id ask p draws good d =
    live_cell config (d.entry ∷ h) (target_of config h id).of (d.fits, good) (offered_live config h d.entry (offer_of config h id ask draws) good d.fits d.acts)

-- it demands as many pairs and keys as its plan
pub pairs_count : (config : Config) (h : List BoardEntry) (id : List ℕ) (ask : OfferAsk) (p : BoardPlan) → OfferPlanFor config (target_of config h id) ask p →
    pairs_demanded p.plan ≡ length (demand_of config h id ask).pairs
pairs_count config h id ask p planned = sym (length-map p.plan.legs.items leg_asked) ∙ ap length planned.plan_for.demands.pairs_are

pub keys_count : (config : Config) (h : List BoardEntry) (id : List ℕ) (ask : OfferAsk) (p : BoardPlan) → OfferPlanFor config (target_of config h id) ask p →
    key_count p.plan ≡ length (demand_of config h id ask).keys
keys_count config h id ask p planned = sym (length-map p.plan.key_places.items key_asked) ∙ ap length planned.plan_for.demands.keys_are

-- and leases the pairs that the board planned
pub planned_are : (config : Config) (h : List BoardEntry) (id : List ℕ) (ask : OfferAsk) (p : BoardPlan) → OfferPlanFor config (target_of config h id) ask p →
    planned_pairs config (view_of config h) p ≡ pairs_for config h id ask
planned_are config h id ask p planned = ap (fronts_for config (view_of config h)) planned.plan_for.demands.pairs_are

-- its legs are those that the leases give
pub legs_are : (config : Config) (h : List BoardEntry) (id : List ℕ) (ask : OfferAsk) (p : BoardPlan) (draws : List (List ℕ)) (leases : List pairs.Lease) (legs : List Holder) →
    OfferPlanFor config (target_of config h id) ask p → leases ≡ leases_at config (view_of config h) (planned_pairs config (view_of config h) p) → LegsFor p.plan p.call p.cell leases legs →
    legs ≡ (offer_of config h id ask draws).legs
legs_are config h id ask p draws leases legs planned is made =
    let of = (target_of config h id).of in
    let asked = demand_of config h id ask in
    made asked of planned.plan_for.demands (sym planned.call_is) (sym planned.cell_is)
    ∙ ap (λ (ls : List pairs.Lease). holders_of_new_legs of ls asked.pairs) (is ∙ ap (leases_at config (view_of config h)) (planned_are config h id ask p planned))
    ∙ sym (legs_leased_are config h of (pairs_for config h id ask) asked.pairs)

-- its keys are those that were drawn
pub keys_are : (config : Config) (h : List BoardEntry) (id : List ℕ) (ask : OfferAsk) (p : BoardPlan) (draws : List (List ℕ)) (first : ℕ) (keys : List NewKey) →
    first ≡ length (drawn h) → keys ≡ drawn_keys_from first draws (demand_of config h id ask).keys → keys ≡ (offer_of config h id ask draws).keys
keys_are config h id ask p draws first keys is made = made ∙ ap (λ (n : ℕ). drawn_keys_from n draws (demand_of config h id ask).keys) is

-- the keys that a plan is filled with
pub keys_numbered : (first : ℕ) (draws : List (List ℕ)) (places : List KeyPlace) → numbered_keys first draws places ≡ drawn_keys_from first draws places
keys_numbered first [] places = refl
keys_numbered first (bytes ∷ draws) [] = refl
keys_numbered first (bytes ∷ draws) (place ∷ places) =
    ap (λ (ks : List NewKey). record { number = first; section = place.section; side = place.side; suite = place.suite; bytes = bytes } ∷ ks) (keys_numbered (first + 1) draws places)

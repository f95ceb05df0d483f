-- What the board takes in by the plan of an offer that is due.
use Rattle.std.proofs.Common.{◌≡◌, ◌∙◌, refl, sym, ap, subst, ℕ, ◌≤◌, Bool, true, List, [], ◌∷◌, map, length, length-append, Option, Some, None, arith}
use Rattle.relay_outside.specs.declared.address.Family.{Family}
use Rattle.relay_outside.specs.declared.settings.Config.{Config}
use Rattle.port_pool.specs.Ports.{pair_port, pairs_of_family}
use Rattle.port_pool.specs.declared.pairs.Lease as pairs
use Rattle.port_pool.specs.declared.holder.Holder.{Holder}
use Rattle.offer_answer.specs.Rounds.{Round, OfferAsk, NewLeg, KeyPlace}
use Rattle.offer_answer.specs.Rounds as round
use Rattle.offer_answer.specs.Demands as demands
use Rattle.offer_answer.specs.Laws.{new_leg_place}
use Rattle.offer_answer.specs.Plan.{demand}
use Rattle.offer_answer.specs.Plans.{OfferFilled}
use Rattle.offer_answer.specs.PortsAndKeys.{AreDemandedLegs}
use Rattle.offer_answer.specs.Nexts.{numbered_keys}
use Rattle.call_board.specs.Acts.{Call, BoardEntry}
use Rattle.call_board.specs.Pairs.{first_of, without_front, fronts, free, drawn_keys_from, leased_new_legs}
use Rattle.call_board.specs.Fits.{IsFitting}
use Rattle.call_board.specs.Views.{View, CallView, call_view, view_of, call_numbered}
use Rattle.call_board.specs.Boards.{lease_at, leases_at}
use Rattle.call_board.specs.Answers.{ending_error}
use Rattle.call_board.specs.Plans.{BeginsFor, fault_or_shortage}
use Rattle.call_board.specs.NextBoards.{IsNext, IsPlanOf, TakesRoundIn, taken_in}
use Rattle.call_board.specs.declared.board_plan.BoardPlan.{BoardPlan}
use Rattle.call_board.specs.declared.board_plan.NewCall.{NewCall}
use Rattle.call_board.proofs.Dues.{goes_on_with, begins_new, next_is, taken_is, no_fault}
use Rattle.call_board.proofs.Found.{found_by_number, live_is_begun}
use Rattle.relay_core.proofs.CallRounds.{offer_round}
use Rattle.offer_command.specs.Offers.{IsDue, next_key_number, target_of, demand_of, pairs_for, offer_of, ports_of_legs, with_offer}
use Rattle.offer_command.specs.Brings.{rtp_ports}
use Rattle.offer_command.proofs.Targets.{rounds_are, keys_numbered}

-- The ports of the legs are those of the leases.

legs_pairs : (h : List BoardEntry) (c : Call) (ps : List ℕ) (legs : List NewLeg) → length ps ≤ length legs → map (λ (leg : Holder). leg.pair) (leased_new_legs h c ps legs) ≡ ps
legs_pairs h c [] legs less = refl
legs_pairs h c (p ∷ ps) [] less = absurd (omega (arith, less))
legs_pairs h c (p ∷ ps) (leg ∷ legs) less = ap (λ (qs : List ℕ). p ∷ qs) (legs_pairs h c ps legs (omega (arith, less)))

one_at_most : (xs : List ℕ) → length (first_of xs) ≤ 1
one_at_most [] = omega arith
one_at_most (x ∷ xs) = omega arith

fronts_less : (lists : Family → List ℕ) (legs : List NewLeg) → length (fronts lists legs) ≤ length legs
fronts_less lists [] = omega arith
fronts_less lists (leg ∷ legs) =
    let rest = fronts_less (without_front lists leg.family) legs in
    let one = one_at_most (lists leg.family) in
    let both = length-append (first_of (lists leg.family)) (fronts (without_front lists leg.family) legs) in
    omega (arith, rest, one, both)

-- the pairs of its legs are those that it leases
pub pairs_of_legs : (config : Config) (h : List BoardEntry) (id : List ℕ) (ask : OfferAsk) (draws : List (List ℕ)) →
    map (λ (leg : Holder). leg.pair) (offer_of config h id ask draws).legs ≡ pairs_for config h id ask
pairs_of_legs config h id ask draws =
    legs_pairs h (target_of config h id).of (pairs_for config h id ask) (demand_of config h id ask).pairs (fronts_less (pairs_of_family config (free config h)) (demand_of config h id ask).pairs)

ports_by : (config : Config) (f : ℕ → ℕ) (ps : List ℕ) → rtp_ports (map (lease_at config f) ps) ≡ map (pair_port config) ps
ports_by config f [] = refl
ports_by config f (p ∷ ps) = ap (λ (qs : List ℕ). pair_port config p ∷ qs) (ports_by config f ps)

ports_at : (config : Config) (legs : List Holder) → map (λ (leg : Holder). pair_port config leg.pair) legs ≡ map (pair_port config) (map (λ (leg : Holder). leg.pair) legs)
ports_at config [] = refl
ports_at config (leg ∷ legs) = ap (λ (qs : List ℕ). pair_port config leg.pair ∷ qs) (ports_at config legs)

pub ports_are : (config : Config) (h : List BoardEntry) (id : List ℕ) (ask : OfferAsk) (draws : List (List ℕ)) (those : List ℕ) (leases : List pairs.Lease) →
    leases ≡ leases_at config (view_of config h) those → those ≡ pairs_for config h id ask → rtp_ports leases ≡ ports_of_legs config (offer_of config h id ask draws)
ports_are config h id ask draws those leases is same =
    ap rtp_ports is
    ∙ ports_by config (view_of config h).leases those
    ∙ ap (map (pair_port config)) same
    ∙ ap (map (pair_port config)) (sym (pairs_of_legs config h id ask draws))
    ∙ sym (ports_at config (offer_of config h id ask draws).legs)

-- The plan, filled.

demanded_legs : (rs : List Round) (ask : OfferAsk) → map new_leg_place (demand rs ask).pairs ≡ map new_leg_place (demands.new_legs rs ask)
unfolding demand
demanded_legs rs ask = refl

module _ (config : Config) (h : List BoardEntry) (id : List ℕ) (ask : OfferAsk) (draws : List (List ℕ)) (good : IsFitting config h) (p : BoardPlan) (d : IsDue config h id ask p draws) where
  leased : AreDemandedLegs config (target_of config h id).rounds ask (ports_of_legs config (offer_of config h id ask draws)) (offer_of config h id ask draws).legs
  leased = record {
    places_are = (offer_round config h d.entry (offer_of config h id ask draws) good d.fits d.acts).comes.leased
        ∙ ap (λ (rs : List Round). map new_leg_place (demand rs ask).pairs) (sym (rounds_are config h id good))
        ∙ demanded_legs (target_of config h id).rounds ask;
    ports_are = refl;
  }

  pub keys_filled : (first : ℕ) → first ≡ next_key_number h →
      numbered_keys first draws (demand_of config h id ask).keys ≡ (offer_of config h id ask draws).keys
  keys_filled first is =
      keys_numbered first draws (demand_of config h id ask).keys ∙ ap (λ (n : ℕ). drawn_keys_from n draws (demand_of config h id ask).keys) is

  is_plan : (filled : BoardPlan) → OfferFilled config (target_of config h id).rounds ask (ports_of_legs config (offer_of config h id ask draws)) (offer_of config h id ask draws).keys filled.plan.next →
      IsPlanOf config (target_of config h id).rounds (round.Offered ask (offer_of config h id ask draws).legs (offer_of config h id ask draws).keys) filled.plan
  is_plan filled is = (ports_of_legs config (offer_of config h id ask draws), is, leased)

  next_case : (v : View) → v.calls ≡ (view_of config h).calls → v.begun ≡ (view_of config h).begun → (target_of config h id).begins ≡ true → IsNext config v (target_of config h id).of
  next_case v calls_are begun_is new =
      let b = begins_new config h id new in
      let t = target_of config h id in
      subst (λ (c : Call). IsNext config v c) (sym b.of_is)
      (next_is config h v id ask
      (ap (λ (rs : List Round). fault_or_shortage config (view_of config h) true rs ask) (sym b.no_rounds)
      ∙ ap (λ (x : Bool). fault_or_shortage config (view_of config h) x t.rounds ask) (sym new)
      ∙ no_fault (ending_error t.ending) (fault_or_shortage config (view_of config h) t.begins t.rounds ask) d.plans.0)
      begun_is calls_are b.none)

  takes_case : (v : View) (filled : BoardPlan) → v.calls ≡ (view_of config h).calls → v.begun ≡ (view_of config h).begun → filled.call ≡ (target_of config h id).of.number →
      filled.cell ≡ (target_of config h id).of.cell →
      OfferFilled config (target_of config h id).rounds ask (ports_of_legs config (offer_of config h id ask draws)) (offer_of config h id ask draws).keys filled.plan.next →
      (new : Option NewCall) → BeginsFor config (target_of config h id) ask.from_tag new →
      TakesRoundIn config v (target_of config h id).of (round.Offered ask (offer_of config h id ask draws).legs (offer_of config h id ask draws).keys) filled new
  takes_case v filled calls_are begun_is call_is cell_is is None old =
      let g = goes_on_with config h id old in
      let t = target_of config h id in
      let o = offer_of config h id ask draws in
      let found : call_numbered v filled.call ≡ Some (call_view h t.of) =
      ap (λ (n : ℕ). call_numbered v n) call_is
      ∙ ap (λ (cs : List CallView). call_numbered (record (view_of config h) { calls = cs }) t.of.number) calls_are
      ∙ found_by_number config h t.of good g.is_live in (
        call_view h t.of,
        found,
        live_is_begun h t.of g.is_live,
        subst (λ (rs : List Round). IsPlanOf config rs (round.Offered ask o.legs o.keys) filled.plan) g.rounds_are (is_plan filled is),
      )
  takes_case v filled calls_are begun_is call_is cell_is is (Some new) begins =
      let b = begins_new config h id begins.0 in
      let o = offer_of config h id ask draws in (
        next_case v calls_are begun_is begins.0,
        call_is,
        cell_is,
        begins.1,
        subst (λ (rs : List Round). IsPlanOf config rs (round.Offered ask o.legs o.keys) filled.plan) b.no_rounds (is_plan filled is),
      )

  -- the board takes it in
  pub takes_in : (v : View) (filled : BoardPlan) → v.calls ≡ (view_of config h).calls → v.begun ≡ (view_of config h).begun →
      filled ≡ record p { plan = filled.plan } →
      OfferFilled config (target_of config h id).rounds ask (ports_of_legs config (offer_of config h id ask draws)) (offer_of config h id ask draws).keys filled.plan.next →
      TakesRoundIn config v (target_of config h id).of (round.Offered ask (offer_of config h id ask draws).legs (offer_of config h id ask draws).keys) filled filled.begun
  takes_in v filled calls_are begun_is rest is =
      takes_case v filled calls_are begun_is (ap (λ (x : BoardPlan). x.call) rest ∙ d.plans.1.call_is) (ap (λ (x : BoardPlan). x.cell) rest ∙ d.plans.1.cell_is) is filled.begun
      (subst (λ (new : Option NewCall). BeginsFor config (target_of config h id) ask.from_tag new) (sym (ap (λ (x : BoardPlan). x.begun) rest)) d.plans.1.begins)

  -- and keeps the offer then
  pub taken_with : (v : View) (now : ℕ) (filled : BoardPlan) → filled ≡ record p { plan = filled.plan } →
      taken_in v (target_of config h id).of (round.Offered ask (offer_of config h id ask draws).legs (offer_of config h id ask draws).keys) now filled filled.begun
      ≡ with_offer (offer_of config h id ask draws) now v
  taken_with v now filled rest =
      taken_is config v (target_of config h id) ask.from_tag (round.Offered ask (offer_of config h id ask draws).legs (offer_of config h id ask draws).keys) now filled filled.begun
      (ap (λ (x : BoardPlan). x.call) rest ∙ d.plans.1.call_is)
      (subst (λ (new : Option NewCall). BeginsFor config (target_of config h id) ask.from_tag new) (sym (ap (λ (x : BoardPlan). x.begun) rest)) d.plans.1.begins)

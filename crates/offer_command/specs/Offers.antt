-- The offer that the board's next entry accepts: which one it is, and when it is due.
use Rattle.std.specs.Prelude.{◌≡◌, ◌&&◌, ◌==◌, ℕ, List, [], ◌∷◌, ◌++◌, Ok, filter, length, map, if◌then◌else◌}
use Rattle.relay_outside.specs.declared.settings.Config.{Config}
use Rattle.sdp_text.specs.Lines.{lines_of}
use Rattle.histories.specs.Words.{has}
use Rattle.port_pool.specs.Ports.{pair_port}
use Rattle.port_pool.specs.declared.holder.Holder.{Holder}
use Rattle.call_cell.specs.Cells.{Prepare}
use Rattle.offer_answer.specs.Rounds.{Round, OfferAsk, Demand}
use Rattle.offer_answer.specs.Rounds as round
use Rattle.offer_answer.specs.Plan.{demand, offer_text}
use Rattle.offer_answer.specs.Offers.{key_count}
use Rattle.call_board.specs.Acts.{Lease, Offer, Offered, BoardEntry, act}
use Rattle.call_board.specs.Pairs.{drawn, held, next_lease, drawn_keys_from, leased_new_legs}
use Rattle.call_board.specs.Fits.{FitsBoard}
use Rattle.call_board.specs.Views.{View, view_of, view_at_moment, with_leases}
use Rattle.call_board.specs.Boards.{fronts_for}
use Rattle.call_board.specs.Whole.{with_draws, with_first, with_more}
use Rattle.call_board.specs.Plans.{Target, target, PlansOffer}
use Rattle.call_board.specs.declared.board_plan.BoardPlan.{BoardPlan}
use Rattle.relay_core.specs.Scripts.{Owed, in_cell, open_owed}

-- the number that the next drawn key has
abbrev pub next_key_number : List BoardEntry → ℕ
next_key_number h = length (drawn h)

-- the call that an offer of this call-id is of: the live one, or else the one that it begins
abbrev pub target_of : Config → List BoardEntry → (id : List ℕ) → Target
target_of config h id = target (view_of config h) id

-- what the offer demands
abbrev pub demand_of : Config → List BoardEntry → (id : List ℕ) → OfferAsk → Demand
demand_of config h id ask = demand (target_of config h id).rounds ask

-- the pairs that it leases: for each new leg the pair of its family that has been free for longest
abbrev pub pairs_for : Config → List BoardEntry → (id : List ℕ) → OfferAsk → List ℕ
pairs_for config h id ask = fronts_for config (view_of config h) (demand_of config h id ask).pairs

-- the accepted offer, where these keys were drawn for it
abbrev pub offer_of : Config → List BoardEntry → (id : List ℕ) → OfferAsk → (draws : List (List ℕ)) → Offer
offer_of config h id ask draws =
    let t = target_of config h id in
    let asked = demand_of config h id ask in
    record {
      of = t.of;
      begins = t.begins;
      ask = ask;
      legs = leased_new_legs h t.of (pairs_for config h id ask) asked.pairs;
      keys = drawn_keys_from (next_key_number h) draws asked.keys;
      dropped = asked.dropped;
    }

-- the leases of the offer, where it is undone
abbrev pub undone_leases : Config → List BoardEntry → (id : List ℕ) → OfferAsk → List Lease
undone_leases config h id ask = map (next_lease h) (pairs_for config h id ask)

-- The board planned this offer so, and after that history an entry is due by which the offer is accepted, where these keys are
-- drawn for it
pub record IsDue (config : Config) (h : List BoardEntry) (id : List ℕ) (ask : OfferAsk) (p : BoardPlan) (draws : List (List ℕ)) : Type 0 where
  pub plans : PlansOffer config (view_of config h) id ask (Ok p)
  pub entry : BoardEntry
  pub fits : FitsBoard config h entry
  pub acts : act entry ≡ Offered (offer_of config h id ask draws)

-- The board planned this offer so, its description has these lines, and whatever keys are drawn for it, an entry is due by which
-- it is accepted
pub record CanOffer (config : Config) (h : List BoardEntry) (id : List ℕ) (ask : OfferAsk) (lines : List (List ℕ)) (p : BoardPlan) : Type 0 where
  pub lines_are : lines_of ask.sdp ≡ lines
  pub due : (draws : List (List ℕ)) → length draws ≡ key_count p.plan → IsDue config h id ask p draws

-- the legs whose sections an offer drops
abbrev pub dropped_legs : List BoardEntry → Offer → List Holder
dropped_legs h o = filter (λ leg. (leg.call == o.of.number) && has o.dropped leg.section) (held h)

-- what an accepted offer opens and prepares, in order
abbrev pub bringing_of : Config → Offer → List Owed
bringing_of config o = map (open_owed config) o.legs ++ in_cell o.of (Prepare o.of.number o.legs o.keys o.dropped) ∷ []

-- the ports for RTP of its legs, in order
abbrev pub ports_of_legs : Config → Offer → List ℕ
ports_of_legs config o = map (λ leg. pair_port config leg.pair) o.legs

-- the description that the other side gets by it
abbrev pub offered_text : Config → List BoardEntry → (id : List ℕ) → Offer → List ℕ
offered_text config h id o = offer_text config (target_of config h id).rounds o.ask (ports_of_legs config o) o.keys

-- what the board keeps at that moment, once these pairs were leased and that many keys drawn
abbrev pub leased_view : Config → List BoardEntry → (moment : ℕ) → (pairs : List ℕ) → (keys : ℕ) → View
leased_view config h moment pairs keys = with_draws (with_leases (view_at_moment (view_of config h) moment) pairs) keys

-- the offer is taken in at that moment, as the first one of its call or as one more
abbrev pub with_offer : Offer → ℕ → View → View
with_offer o now v =
    let made : Round = round.Offered o.ask o.legs o.keys in
    if o.begins then with_first o.of made now v else with_more o.of made now v

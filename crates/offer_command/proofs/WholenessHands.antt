-- What the cells and the boxes keep after the steps of an offer's turn.
use Rattle.std.proofs.Common.{◌≡◌, ◌∙◌, refl, sym, ap, subst, ℕ, ◌+◌, List, [], ◌∷◌, ◌++◌, map, length, Option, append_assoc, arith}
use Rattle.relay_outside.specs.declared.settings.Config.{Config}
use Rattle.turn_table.specs.declared.hands.Hand.{Hand}
use Rattle.turn_table.specs.Hands.{starts}
use Rattle.port_pool.specs.declared.holder.Holder.{Holder}
use Rattle.port_pool.specs.declared.pairs.Lease.{Lease}
use Rattle.port_pool.specs.Signals.{NewKey}
use Rattle.offer_answer.specs.Rounds.{KeyPlace, OfferAsk}
use Rattle.offer_answer.specs.Laws.{key_place}
use Rattle.offer_answer.specs.Nexts.{numbered_keys}
use Rattle.offer_answer.specs.Offers.{legs_demanded}
use Rattle.offer_answer.specs.Shapes.{drops_at, keys_demanded}
use Rattle.call_cell.specs.Cells.{Prepare}
use Rattle.call_cell.specs.Shapes.{CellShape}
use Rattle.call_board.specs.Acts.{Call, Offer, BoardEntry}
use Rattle.call_board.specs.Boards.{leases_at, pairs_in}
use Rattle.call_board.specs.Pairs.{drawn_keys_from}
use Rattle.call_board.specs.Plans.{OfferPlanFor}
use Rattle.call_board.specs.Views.{view_of}
use Rattle.call_board.specs.Whole.{holders_of_new_legs}
use Rattle.call_board.specs.declared.board_plan.BoardPlan.{BoardPlan}
use Rattle.call_board.proofs.Dues.{legs_leased_are}
use Rattle.call_shapes.specs.Turns.{pairs_held}
use Rattle.relay_core.specs.Records.{Made}
use Rattle.relay_core.specs.Scripts.{Owed, in_cell, open_owed}
use Rattle.relay_core.specs.Turns.{GainsNested, made_by}
use Rattle.relay_core.specs.KeptAfter.{cell_shape_after, cells_after, holder_after, holders_after}
use Rattle.relay_core.specs.declared.part.Part.{Part}
use Rattle.relay_core.proofs.KeptGained.{hand_cells, hand_holders}
use Rattle.relay_core.proofs.KeptScripts.{one_turn, opened_cells}
use Rattle.board_turns.specs.Closings.{closings_of, leases_of_legs}
use Rattle.board_turns.specs.Departures.{cell_kept}
use Rattle.board_turns.proofs.Nesting.{gains_more}
use Rattle.offer_command.specs.Leases.{planned_pairs}
use Rattle.offer_command.specs.Offers.{bringing_of, demand_of, next_key_number, offer_of, pairs_for, target_of}
use Rattle.offer_command.proofs.Targets.{keys_numbered, planned_are}
use Rattle.offer_command.proofs.WholenessLegs.{closings_are}

-- the legs that an offer brings, by its leases
pub legs_brought : (config : Config) (h : List BoardEntry) (id : List ℕ) (ask : OfferAsk) (p : BoardPlan) (draws : List (List ℕ)) (leases : List Lease) →
    OfferPlanFor config (target_of config h id) ask p → leases ≡ leases_at config (view_of config h) (planned_pairs config (view_of config h) p) →
    holders_of_new_legs (target_of config h id).of leases (legs_demanded p.plan) ≡ (offer_of config h id ask draws).legs
legs_brought config h id ask p draws leases planned is =
    let of = (target_of config h id).of in
    let asked = demand_of config h id ask in
    ap (holders_of_new_legs of leases) planned.plan_for.demands.pairs_are
    ∙ ap (λ (ls : List Lease). holders_of_new_legs of ls asked.pairs) (is ∙ ap (leases_at config (view_of config h)) (planned_are config h id ask p planned))
    ∙ sym (legs_leased_are config h of (pairs_for config h id ask) asked.pairs)

-- its keys, by its plan
pub keys_brought : (config : Config) (h : List BoardEntry) (id : List ℕ) (ask : OfferAsk) (p : BoardPlan) (draws : List (List ℕ)) (first : ℕ) →
    OfferPlanFor config (target_of config h id) ask p → first ≡ next_key_number h → numbered_keys first draws (keys_demanded p.plan) ≡ (offer_of config h id ask draws).keys
keys_brought config h id ask p draws first planned is =
    ap (numbered_keys first draws) planned.plan_for.demands.keys_are
    ∙ keys_numbered first draws (demand_of config h id ask).keys
    ∙ ap (λ (n : ℕ). drawn_keys_from n draws (demand_of config h id ask).keys) is

-- which are for the places that it demands keys for
pub places_numbered : (first : ℕ) (draws : List (List ℕ)) (places : List KeyPlace) → length draws ≡ length places → map key_place (numbered_keys first draws places) ≡ places
places_numbered first [] [] many = refl
places_numbered first [] (place ∷ places) many = absurd (omega (arith, many))
places_numbered first (bytes ∷ draws) [] many = absurd (omega (arith, many))
places_numbered first (bytes ∷ draws) (place ∷ places) many = ap (λ (ks : List KeyPlace). place ∷ ks) (places_numbered (first + 1) draws places (omega (arith, many)))

-- the events of the turn
events_are : {E : Type 0} (config : Config) (o : Offer) (came : List Holder) (gone : List (Lease × E × E)) (legs : List Holder) → came ≡ o.legs → pairs_in (leases_of_legs gone) ≡ pairs_held legs
    → bringing_of config o ++ closings_of config gone ≡ one_turn config came o.of (Prepare o.of.number came o.keys o.dropped) legs
events_are config o came gone legs are same =
    append_assoc (map (open_owed config) o.legs) (in_cell o.of (Prepare o.of.number o.legs o.keys o.dropped) ∷ []) (closings_of config gone)
    ∙ ap (λ (ws : List Owed). map (open_owed config) o.legs ++ in_cell o.of (Prepare o.of.number o.legs o.keys o.dropped) ∷ ws) (closings_are config gone legs same)
    ∙ ap (λ (ls : List Holder). one_turn config ls o.of (Prepare o.of.number ls o.keys o.dropped) legs) (sym are)

module _ {M I O T : Type 0} {g : _} (config : Config) (number moment : ℕ) where
  -- opened boxes leave the cells as they were
  pub kept_opened : (legs : List Holder) (old new : Hand M (Part I O) Made T g) → starts new ≡ starts old → GainsNested number moment (map (open_owed config) legs) old new
      → (k : ℕ) → cell_kept config new k ≡ cell_kept config old k
  kept_opened legs old new same gains k =
      hand_cells config number moment (map (open_owed config) legs) old new same gains k
      ∙ opened_cells config legs (cell_shape_after config (starts old) (made_by old)) k

  -- what the cells and the boxes keep after the offer was brought and its dropped legs were closed
  pub offer_moves : {E : Type 0} (o : Offer) (came : List Holder) (gone : List (Lease × E × E)) (old mid new : Hand M (Part I O) Made T g) → starts new ≡ starts old → came ≡ o.legs
      → GainsNested number moment (bringing_of config o) old mid → GainsNested number moment (closings_of config gone) mid new
      → (legs : List Holder) → pairs_in (leases_of_legs gone) ≡ pairs_held legs
      → ((k : ℕ) → cell_shape_after config (starts new) (made_by new) k
      ≡ cells_after (one_turn config came o.of (Prepare o.of.number came o.keys o.dropped) legs) (cell_shape_after config (starts old) (made_by old)) k)
      × ((pair : ℕ) → holder_after config (starts new) (made_by new) pair
      ≡ holders_after config (one_turn config came o.of (Prepare o.of.number came o.keys o.dropped) legs) (holder_after config (starts old) (made_by old)) pair)
  offer_moves o came gone old mid new same are brings closes legs pairs =
      let events = bringing_of config o ++ closings_of config gone in
      let is = events_are config o came gone legs are pairs in
      let gains = gains_more number moment (bringing_of config o) (closings_of config gone) old mid new brings closes in (
        λ k. hand_cells config number moment events old new same gains k
            ∙ ap (λ (ws : List Owed). cells_after ws (cell_shape_after config (starts old) (made_by old)) k) is,
        λ pair. hand_holders config number moment events old new same gains pair
            ∙ ap (λ (ws : List Owed). holders_after config ws (holder_after config (starts old) (made_by old)) pair) is,
      )

-- What the board, the cells and the boxes keep goes together after an accepted offer.
use Rattle.std.proofs.Common.{◌≡◌, ◌∙◌, refl, sym, ap, subst, ℕ, ◌+◌, ◌<◌, Bool, true, List, [], ◌∷◌, ◌++◌, map, filter, length, Option, Some, None, ◌==◌}
use Rattle.relay_outside.specs.declared.settings.Config.{Config}
use Rattle.histories.specs.Words.{In, first, has}
use Rattle.histories.proofs.Lists.{filtered, first_is_in}
use Rattle.port_pool.specs.declared.holder.Holder.{Holder}
use Rattle.port_pool.specs.declared.pairs.Lease.{Lease}
use Rattle.port_pool.specs.Pools.{Pairs}
use Rattle.port_pool.specs.Signals.{NewKey}
use Rattle.offer_answer.specs.Rounds.{NewLeg, KeyPlace}
use Rattle.offer_answer.specs.Laws.{key_place}
use Rattle.offer_answer.specs.Offers.{legs_demanded}
use Rattle.offer_answer.specs.Shapes.{DialogShape, SectionShape, dialog_shape, drops_at, keys_demanded, shape_of, shape_offered}
use Rattle.offer_answer.specs.OfferPlaces.{OfferPlaces}
use Rattle.offer_answer.specs.declared.dialog.Dialog.{Dialog}
use Rattle.call_cell.specs.Shapes.{CellLegShape, CellShape, ended_shape}
use Rattle.call_board.specs.Acts.{Call}
use Rattle.call_board.specs.Boards.{KeepsCalls, pairs_in}
use Rattle.call_board.specs.Shapes.{BoardShape, LiveShape, IsFreeCell, PlansLive, PlansFirst, LeasesLegs, PlansOfferOf, after_returns, board_shape, live_shape, live_shapes, shape_numbered, shape_returns, with_dialog_of, with_mark}
use Rattle.call_board.specs.declared.board.Board.{Board}
use Rattle.call_board.specs.declared.board_plan.BoardPlan.{BoardPlan}
use Rattle.call_board.specs.declared.board_plan.NewCall.{NewCall}
use Rattle.call_board.specs.declared.live_call.LiveCall.{LiveCall}
use Rattle.call_shapes.specs.Agreement.{IsLegOf}
use Rattle.call_shapes.specs.Events.{shape_after_event}
use Rattle.call_shapes.specs.WholeRelay.{held_legs}
use Rattle.call_shapes.specs.NumberedTurns.{OffersNumbered, OffersFirst, UndoesOffer, gone_by_offer}
use Rattle.call_shapes.specs.OfferFits.{Offering, OfferFits, new_holders, offer_event, ports_leased}
use Rattle.call_shapes.specs.Turns.{RelayShape, IsWholeRelay, BoxesMove, pairs_held}
use Rattle.call_shapes.proofs.Beginning.{begins_whole}
use Rattle.call_shapes.proofs.Ending.{undone_whole}
use Rattle.call_shapes.proofs.Needs.{spare_is_empty}
use Rattle.call_shapes.proofs.NewHolders.{as_many_leases}
use Rattle.call_shapes.proofs.NumberedSteps.{offer_goes_on, offer_begins, undoes_offer}
use Rattle.call_shapes.proofs.PlanOffers.{plan_fits, IsOfPlan}
use Rattle.call_shapes.proofs.Pools.{returns_none}
use Rattle.call_shapes.proofs.Relays.{goes_on_whole}
use Rattle.relay_core.specs.KeptAfter.{cells_after, holders_after}
use Rattle.relay_core.proofs.KeptScripts.{one_turn, turn_boxes, turn_cell, turn_other_cells}
use Rattle.board_turns.specs.Departures.{AllHaveEnds, leases_going}
use Rattle.offer_command.specs.Brings.{rtp_ports}
use Rattle.offer_command.specs.Shapes.{DialogOffered, FirstOffered, LiveOffered, OfferedBy, ShapeTakes, ShapeUndoes}
use Rattle.offer_command.proofs.WholenessLegs.{call_held, came_apart, came_own, going_pairs, leases_within, live_found, ports_follow}

module _ (config : Config) (b0 b1 b2 b3 : Board) (cells since : ℕ → CellShape) (holders now : ℕ → Option Holder)
    (whole : IsWholeRelay config (record { board = board_shape b0; cells = cells; holders = holders }))
    (p : BoardPlan) (of : Call) (number_is : of.number ≡ p.call) (cell_is : of.cell ≡ p.cell)
    (leases : List Lease) (keys : List NewKey) (dropped : List ℕ) (ports : List ℕ) (lost : List Lease)
    (takes : ShapeTakes (legs_demanded p.plan) leases (board_shape b0) (board_shape b1)) (calls : KeepsCalls b0 b1)
    (ports_are : ports ≡ rtp_ports leases) (keys_are : map key_place keys ≡ keys_demanded p.plan)
    (drops_are : (section : ℕ) → has dropped section ≡ drops_at p.plan section)
    (returned : board_shape b3 ≡ shape_returns (pairs_in lost) (board_shape b2))
    (left : AllHaveEnds (cells of.cell) → lost ≡ leases_going (λ leg. has dropped leg.section) (cells of.cell)) where
  abbrev offer : Offering
  offer = record { legs = legs_demanded p.plan; leases = leases; keys = keys; dropped = dropped }

  abbrev old : RelayShape
  old = record { board = board_shape b0; cells = cells; holders = holders }

  abbrev new : RelayShape
  new = record { board = board_shape b3; cells = since; holders = now }

  -- what the cells and the boxes keep, by the legs that went
  abbrev Moves : Type 0
  Moves = (gone : List Holder) → pairs_in lost ≡ pairs_held gone →
      ((k : ℕ) → since k ≡ cells_after (one_turn config (new_holders of offer) of (offer_event of offer) gone) cells k)
      × ((pair : ℕ) → now pair ≡ holders_after config (one_turn config (new_holders of offer) of (offer_event of offer) gone) holders pair)

  of_plan : (was is : Dialog) → DialogOffered p.plan ports keys was is → IsOfPlan config p.plan offer was is
  of_plan was is offered = record {
    legs_are = refl;
    keys_are = keys_are;
    drops_are = λ section below. drops_are section;
    as_many = as_many_leases b0.pool b1.pool (legs_demanded p.plan) leases takes.leased;
    pairs = leases_within config old whole of (legs_demanded p.plan) leases b1.pool takes.leased;
    shapes_are = λ section below. offered.sections section below
        ∙ ap (λ (ps : List ℕ). shape_offered p.plan ps keys section (shape_of was section))
        (ports_are ∙ ports_follow config old whole of (legs_demanded p.plan) leases b1.pool takes.leased);
    counts = offered.counts;
  }

  fits : (was is : Dialog) → OfferPlaces p.plan was → DialogOffered p.plan ports keys was is → OfferFits config offer (dialog_shape was) (dialog_shape is)
  fits was is places offered = plan_fits config p.plan offer was is places (of_plan was is offered)

  boxes_moved : Moves → (gone : List Holder) → pairs_in lost ≡ pairs_held gone → ((leg : Holder) → In leg gone → In leg (held_legs cells (board_shape b0).calls))
      → BoxesMove (new_holders of offer) gone holders now
  boxes_moved moves gone same from =
      let m = turn_boxes config (new_holders of offer) of (offer_event of offer) gone holders
      (came_own config old whole of (legs_demanded p.plan) leases b1.pool takes.leased)
      (came_apart config old whole of (legs_demanded p.plan) leases b1.pool takes.leased gone from) in
      let at = (moves gone same).1 in
      record {
        opened = λ leg i. at leg.pair ∙ m.opened leg i;
        shut = λ leg i. at leg.pair ∙ m.shut leg i;
        others = λ pair none_came none_gone. at pair ∙ m.others pair none_came none_gone;
      }

  -- An offer of a live call.

  live_step : Moves → PlansLive b0 p → LiveOffered p ports keys b1 b2 → OffersNumbered config old new
  live_step moves plans o =
      let call = live_shape plans.call in
      let found : shape_numbered (board_shape b0) p.call ≡ Some (live_shape plans.call) = live_found p.call b0.calls.list plans.call plans.found in
      let live : In (live_shape plans.call) (board_shape b0).calls
      = (filtered (λ (c : LiveShape). c.number == p.call) (live_shapes b0.calls.list) (first_is_in (filter (λ (c : LiveShape). c.number == p.call) (live_shapes b0.calls.list)) found)).0 in
      let at : of.cell ≡ plans.call.cell = cell_is ∙ plans.cell_is in
      let legs = subst (λ (k : ℕ). (leg : CellLegShape) → In leg (cells k).legs → IsLegOf config k plans.call.number leg) (sym at) (whole.calls (live_shape plans.call) live).legs in
      let gone = gone_by_offer offer (cells of.cell) in
      let same : pairs_in lost ≡ pairs_held (gone_by_offer offer (cells of.cell))
      = ap pairs_in (left (λ leg i. (legs leg i).has_ends))
      ∙ going_pairs (λ (leg : Holder). has dropped leg.section) (cells of.cell).legs (λ leg i. ap (λ (l : Lease). l.pair) (legs leg i).lease_is) in
      let one : o.call ≡ plans.call = (let e : Some o.call ≡ Some plans.call = sym o.found ∙ ap (λ cs. first (filter (λ (c : LiveCall). c.number == p.call) cs.list)) calls.calls_are ∙ plans.found in cc) in
      let offered = subst (λ (c : LiveCall). DialogOffered p.plan ports keys c.dialog.value o.dialog) one o.offered in
      let boxes = boxes_moved moves (gone_by_offer offer (cells of.cell)) same
      (λ leg i. call_held old (live_shape plans.call) live (λ (l : Holder). has dropped l.section) leg
      (subst (λ (k : ℕ). In leg (gone_by_offer offer (cells k))) at i)) in
      record {
        «of» = of;
        call = live_shape plans.call;
        found = subst (λ (n : ℕ). shape_numbered (board_shape b0) n ≡ Some (live_shape plans.call)) (sym number_is) found;
        cell_of = at;
        offer = offer;
        dialog = dialog_shape o.dialog;
        fits = fits plans.call.dialog.value o.dialog plans.places offered;
        between = b1.pool;
        leased = takes.leased;
        calls_are = ap (λ (s : BoardShape). s.calls) returned ∙ ap (λ (s : BoardShape). s.calls) o.shape_is
            ∙ ap (λ (cs : List LiveShape). with_dialog_of p.call (dialog_shape o.dialog) cs) takes.calls_are
            ∙ ap (λ (n : ℕ). with_dialog_of n (dialog_shape o.dialog) (board_shape b0).calls) (sym number_is);
        rest = record {
          config_is = ap (λ (s : BoardShape). s.config) returned ∙ ap (λ (s : BoardShape). s.config) o.shape_is ∙ takes.rest.config_is;
          begun_is = ap (λ (s : BoardShape). s.begun) returned ∙ ap (λ (s : BoardShape). s.begun) o.shape_is ∙ takes.rest.begun_is;
          taken_is = ap (λ (s : BoardShape). s.taken) returned ∙ ap (λ (s : BoardShape). s.taken) o.shape_is ∙ takes.rest.taken_is;
        };
        pool_is = ap (λ (s : BoardShape). s.pool) returned
            ∙ ap (λ (pool : Pairs). after_returns pool (pairs_in lost)) (ap (λ (s : BoardShape). s.pool) o.shape_is)
            ∙ ap (after_returns b1.pool) same
            ∙ ap (λ (k : ℕ). after_returns b1.pool (pairs_held (gone_by_offer offer (cells k)))) at;
        cell_is = subst (λ (k : ℕ). since k ≡ shape_after_event (offer_event of offer) (cells k)) at
            ((moves gone same).0 of.cell ∙ turn_cell config (new_holders of offer) of (offer_event of offer) gone cells);
        others = λ k apart. (moves gone same).0 k ∙ turn_other_cells config (new_holders of offer) of (offer_event of offer) gone cells k (λ e. apart (e ∙ at));
        boxes = subst (λ (k : ℕ). BoxesMove (new_holders of offer) (gone_by_offer offer (cells k)) holders now) at boxes;
      }

  -- The first offer of a call.

  first_step : Moves → (begun : NewCall) → PlansFirst b0 p begun → FirstOffered begun p ports keys b1 b2 → OffersFirst config old new
  first_step moves begun plans o =
      let free : IsFreeCell config.max_sessions (board_shape b0).taken of.cell
      = subst (λ (c : Config). IsFreeCell c.max_sessions (board_shape b0).taken of.cell) whole.config_is
      (subst (λ (k : ℕ). IsFreeCell b0.config.max_sessions (board_shape b0).taken k) (sym cell_is) plans.cell_is) in
      let empty = spare_is_empty config (board_shape b0) cells holders of.cell whole free in
      let none : lost ≡ [] = left (subst AllHaveEnds (sym empty) (λ leg i. elim i [ ])) ∙ ap (leases_going (λ leg. has dropped leg.section)) empty in
      let same : pairs_in lost ≡ pairs_held [] = ap pairs_in none in
      let pool : b3.pool ≡ b1.pool
      = ap (λ (s : BoardShape). s.pool) returned ∙ ap (λ (ls : List Lease). after_returns b2.pool (pairs_in ls)) none ∙ returns_none b2.pool ∙ ap (λ (s : BoardShape). s.pool) o.shape_is in
      record {
        «of» = of;
        number_is = number_is ∙ plans.call_is;
        cell_of = free;
        offer = offer;
        dialog = dialog_shape o.dialog;
        fits = subst (λ (d : DialogShape). OfferFits config offer d (dialog_shape o.dialog)) plans.bare (fits begun.dialog.value o.dialog plans.places o.offered);
        leased = subst (λ (pool : Pairs). LeasesLegs b0.pool (legs_demanded p.plan) leases pool) (sym pool) takes.leased;
        calls_are = ap (λ (s : BoardShape). s.calls) returned ∙ ap (λ (s : BoardShape). s.calls) o.shape_is
            ∙ ap (λ (cs : List LiveShape). cs ++ record { number = b1.begun; cell = p.cell; dialog = dialog_shape o.dialog } ∷ []) takes.calls_are
            ∙ ap (λ (n : ℕ). (board_shape b0).calls ++ record { number = n; cell = p.cell; dialog = dialog_shape o.dialog } ∷ []) (takes.rest.begun_is ∙ sym plans.call_is ∙ sym number_is)
            ∙ ap (λ (k : ℕ). (board_shape b0).calls ++ record { number = of.number; cell = k; dialog = dialog_shape o.dialog } ∷ []) (sym cell_is);
        config_is = ap (λ (s : BoardShape). s.config) returned ∙ ap (λ (s : BoardShape). s.config) o.shape_is ∙ takes.rest.config_is;
        begun_is = ap (λ (s : BoardShape). s.begun) returned ∙ ap (λ (s : BoardShape). s.begun) o.shape_is ∙ ap (λ (n : ℕ). n + 1) takes.rest.begun_is;
        taken_is = ap (λ (s : BoardShape). s.taken) returned ∙ ap (λ (s : BoardShape). s.taken) o.shape_is
            ∙ ap (λ (marks : List Bool). with_mark p.cell true marks) takes.rest.taken_is
            ∙ ap (λ (k : ℕ). with_mark k true (board_shape b0).taken) (sym cell_is);
        cell_is = (moves [] same).0 of.cell ∙ turn_cell config (new_holders of offer) of (offer_event of offer) [] cells;
        others = λ k apart. (moves [] same).0 k ∙ turn_other_cells config (new_holders of offer) of (offer_event of offer) [] cells k apart;
        boxes = boxes_moved moves [] same (λ leg i. elim i [ ]);
      }

  offered_case : Moves → (begun : Option NewCall) → PlansOfferOf b0 p begun → OfferedBy p begun ports keys b1 b2 → IsWholeRelay config new
  offered_case moves None plans o = goes_on_whole config old new whole (offer_goes_on config old new whole (live_step moves plans o))
  offered_case moves (Some begun) plans o = begins_whole config old new whole (offer_begins config old new whole (first_step moves begun plans o))

  pub accepted_whole : Moves → PlansOfferOf b0 p p.begun → OfferedBy p p.begun ports keys b1 b2 → IsWholeRelay config new
  accepted_whole moves plans o = offered_case moves p.begun plans o

-- An offer that is undone.

pub undone_stays : (config : Config) (was is : BoardShape) (cells : ℕ → CellShape) (holders : ℕ → Option Holder) (legs : List NewLeg) → ShapeUndoes legs was is
    → IsWholeRelay config (record { board = was; cells = cells; holders = holders }) → IsWholeRelay config (record { board = is; cells = cells; holders = holders })
undone_stays config was is cells holders legs undone whole =
    let old : RelayShape = record { board = was; cells = cells; holders = holders } in
    let new : RelayShape = record { board = is; cells = cells; holders = holders } in
    undone_whole config old new whole (undoes_offer old new (record {
      legs = legs;
      leases = undone.leases;
      between = undone.between;
      leased = undone.leased;
      calls_are = undone.calls_are;
      rest = undone.rest;
      pool_is = undone.pool_is;
      cells_are = λ k. refl;
      holders_are = λ pair. refl;
    }))

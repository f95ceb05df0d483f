-- The plan of an offer, by what the board keeps, and what the board makes of it.
use Rattle.std.proofs.Common.{◌≡◌, ◌∙◌, refl, sym, ap, subst, ℕ, ◌+◌, ◌<◌, ◌==◌, Bool, false, List, filter, Option, Some, None, arith}
use Rattle.std.specs.List.{list_any}
use Rattle.std.specs.Str.{bytes_eq}
use Rattle.relay_outside.specs.declared.settings.Config.{Config}
use Rattle.histories.specs.Words.{first}
use Rattle.port_pool.specs.declared.pairs.Lease.{Lease}
use Rattle.port_pool.specs.Pools.{Pairs}
use Rattle.port_pool.specs.Signals.{NewKey}
use Rattle.offer_answer.specs.Rounds.{NewLeg}
use Rattle.offer_answer.specs.Shapes.{FilledShapes, OfferShapes, dialog_shape}
use Rattle.offer_answer.specs.OfferPlaces.{SameCounts}
use Rattle.offer_answer.specs.declared.dialog.Dialog.{Dialog}
use Rattle.call_board.specs.Boards.{pairs_in}
use Rattle.call_board.specs.Plans.{leased}
use Rattle.call_board.specs.Shapes.{BoardShape, DialogApplies, IsFreeCell, LeasesLegs, LiveTakesIn, NewTakesIn, PlansFirst, PlansLive, PlansOfferOf, ShapeLeases, TakesPlanIn, after_returns, board_shape, live_numbered, shape_begun, shape_gone_on, shape_returns, shape_with_draw}
use Rattle.call_board.specs.declared.board.Board.{Board}
use Rattle.call_board.specs.declared.board_plan.BoardPlan.{BoardPlan}
use Rattle.call_board.specs.declared.board_plan.NewCall.{NewCall}
use Rattle.call_board.specs.declared.live_call.LiveCall.{LiveCall}
use Rattle.offer_command.specs.Shapes.{DialogOffered, FirstOffered, LiveOffered, OfferedBy, ShapeTakes, ShapeUndoes, shape_with_draws}

-- The plan, of a board that keeps the same calls and marks.

module _ (old new : Board) (p : BoardPlan) (calls : new.calls.list ≡ old.calls.list) (begun_is : new.begun ≡ old.begun)
    (config : new.config ≡ old.config) (taken : new.taken.items ≡ old.taken.items) where
  plans_case : (begun : Option NewCall) → PlansOfferOf old p begun → PlansOfferOf new p begun
  plans_case None plans = record {
    call = plans.call;
    found = ap (λ (cs : List LiveCall). first (filter (λ (c : LiveCall). c.number == p.call) cs)) calls ∙ plans.found;
    cell_is = plans.cell_is;
    shapes = plans.shapes;
    places = plans.places;
  }
  plans_case (Some begun) plans = record {
    call_is = plans.call_is ∙ sym begun_is;
    cell_is = subst (λ (c : Config). IsFreeCell c.max_sessions new.taken.items p.cell) (sym config)
        (subst (λ (marks : List Bool). IsFreeCell old.config.max_sessions marks p.cell) (sym taken) plans.cell_is);
    id_is_new = ap (λ (cs : List LiveCall). list_any (λ (call : LiveCall). bytes_eq call.id.list begun.id.list) cs) calls ∙ plans.id_is_new;
    bare = plans.bare;
    shapes = plans.shapes;
    places = plans.places;
  }

  pub plans_kept : PlansOfferOf old p p.begun → PlansOfferOf new p p.begun
  plans_kept plans = plans_case p.begun plans

leased_case : (board : Board) (p : BoardPlan) (begun : Option NewCall) → PlansOfferOf board p begun → PlansOfferOf board (leased p) begun
leased_case board p None plans = record { call = plans.call; found = plans.found; cell_is = plans.cell_is; shapes = plans.shapes; places = plans.places }
leased_case board p (Some begun) plans = record {
  call_is = plans.call_is;
  cell_is = plans.cell_is;
  id_is_new = plans.id_is_new;
  bare = plans.bare;
  shapes = plans.shapes;
  places = plans.places;
}

-- and once its leases were handed out
pub plans_leased : (board : Board) (p q : BoardPlan) → q ≡ leased p → PlansOfferOf board p p.begun → PlansOfferOf board q q.begun
plans_leased board p q is plans = subst (λ (x : BoardPlan). PlansOfferOf board x x.begun) (sym is) (leased_case board p p.begun plans)

-- Its leases.

pub takes_drawn : (legs : List NewLeg) (leases : List Lease) (old mid new : BoardShape) (count : ℕ) → ShapeLeases legs leases old mid → new ≡ shape_with_draws count mid → ShapeTakes legs leases old new
takes_drawn legs leases old mid new count taken drawn = record {
  leased = subst (λ (pool : Pairs). LeasesLegs old.pool legs leases pool) (sym (ap (λ (s : BoardShape). s.pool) drawn)) taken.leases_are;
  calls_are = ap (λ (s : BoardShape). s.calls) drawn ∙ ap (λ (s : BoardShape). s.calls) taken.shape_is;
  rest = record {
    config_is = ap (λ (s : BoardShape). s.config) drawn ∙ ap (λ (s : BoardShape). s.config) taken.shape_is;
    begun_is = ap (λ (s : BoardShape). s.begun) drawn ∙ ap (λ (s : BoardShape). s.begun) taken.shape_is;
    taken_is = ap (λ (s : BoardShape). s.taken) drawn ∙ ap (λ (s : BoardShape). s.taken) taken.shape_is;
  };
}

pub undoes_drawn : (legs : List NewLeg) (leases : List Lease) (old mid then new : BoardShape) (count : ℕ) → ShapeLeases legs leases old mid → then ≡ shape_with_draws count mid
    → new ≡ shape_returns (pairs_in leases) then → ShapeUndoes legs old new
undoes_drawn legs leases old mid then new count taken drawn returned = record {
  leases = leases;
  between = mid.pool;
  leased = taken.leases_are;
  pool_is = ap (λ (s : BoardShape). s.pool) returned ∙ ap (λ (s : BoardShape). after_returns s.pool (pairs_in leases)) drawn;
  calls_are = ap (λ (s : BoardShape). s.calls) returned ∙ ap (λ (s : BoardShape). s.calls) drawn ∙ ap (λ (s : BoardShape). s.calls) taken.shape_is;
  rest = record {
    config_is = ap (λ (s : BoardShape). s.config) returned ∙ ap (λ (s : BoardShape). s.config) drawn ∙ ap (λ (s : BoardShape). s.config) taken.shape_is;
    begun_is = ap (λ (s : BoardShape). s.begun) returned ∙ ap (λ (s : BoardShape). s.begun) drawn ∙ ap (λ (s : BoardShape). s.begun) taken.shape_is;
    taken_is = ap (λ (s : BoardShape). s.taken) returned ∙ ap (λ (s : BoardShape). s.taken) drawn ∙ ap (λ (s : BoardShape). s.taken) taken.shape_is;
  };
}

pub draws_none : (shape : BoardShape) → shape ≡ shape_with_draws 0 shape
draws_none shape = ap (λ (n : ℕ). record shape { drawn = n }) (let z : shape.drawn ≡ shape.drawn + 0 = omega arith in z)

pub draws_next : (old mid new : BoardShape) (count : ℕ) → mid ≡ shape_with_draws count old → new ≡ shape_with_draw mid → new ≡ shape_with_draws (count + 1) old
draws_next old mid new count were is =
    let z : (old.drawn + count) + 1 ≡ old.drawn + (count + 1) = omega arith in
    is ∙ ap shape_with_draw were ∙ ap (λ (n : ℕ). record old { drawn = n }) z

-- What the board makes of it.

module _ (p filled : BoardPlan) (ports : List ℕ) (keys : List NewKey) (old new : Board) (call_is : filled.call ≡ p.call) (cell_is : filled.cell ≡ p.cell)
    (fills : (dialog : Dialog) → OfferShapes p.plan dialog p.plan.next → FilledShapes p.plan dialog ports keys filled.plan.next)
    (same : SameCounts p.plan.next filled.plan.next) where
  dialog_offered : (was is : Dialog) → OfferShapes p.plan was p.plan.next → DialogApplies filled.plan was is → DialogOffered p.plan ports keys was is
  dialog_offered was is shapes applies = record {
    sections = λ section below. applies.offered p.plan ports keys (fills was shapes) section below;
    counts = record {
      offered_is = applies.counts.offered_is ∙ same.offered_is was;
      committed_is = applies.counts.committed_is ∙ same.committed_is was;
    };
  }

  live_offered : PlansLive old p → LiveTakesIn filled.call filled.plan old new → LiveOffered p ports keys old new
  live_offered plans t =
      let found : live_numbered old p.call ≡ Some t.call = subst (λ (n : ℕ). live_numbered old n ≡ Some t.call) call_is t.found in
      let one : plans.call ≡ t.call = (let e : Some plans.call ≡ Some t.call = sym plans.found ∙ found in cc) in
      record {
        call = t.call;
        found = found;
        dialog = t.dialog;
        offered = dialog_offered t.call.dialog.value t.dialog (subst (λ (c : LiveCall). OfferShapes p.plan c.dialog.value p.plan.next) one plans.shapes) t.applies;
        shape_is = t.shape_is ∙ ap (λ (n : ℕ). shape_gone_on n (dialog_shape t.dialog) (board_shape old)) call_is;
      }

  first_offered : (begun : NewCall) → PlansFirst old p begun → NewTakesIn begun filled.cell filled.plan old new → FirstOffered begun p ports keys old new
  first_offered begun plans t = record {
    dialog = t.dialog;
    offered = dialog_offered begun.dialog.value t.dialog plans.shapes t.applies;
    shape_is = t.shape_is ∙ ap (λ (k : ℕ). shape_begun k (dialog_shape t.dialog) (board_shape old)) cell_is;
  }

  offered_case : (begun : Option NewCall) → PlansOfferOf old p begun → TakesPlanIn filled begun old new → OfferedBy p begun ports keys old new
  offered_case None plans t = live_offered plans t
  offered_case (Some begun) plans t = first_offered begun plans (t plans.id_is_new)

  pub plan_offered : filled.begun ≡ p.begun → PlansOfferOf old p p.begun → TakesPlanIn filled filled.begun old new → OfferedBy p p.begun ports keys old new
  plan_offered begun_is plans t = offered_case p.begun plans (subst (λ (begun : Option NewCall). TakesPlanIn filled begun old new) begun_is t)

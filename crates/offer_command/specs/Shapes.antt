-- What an offer makes of what the board keeps, whatever the board's history.
use Rattle.std.specs.Prelude.{◌≡◌, ◌<◌, ◌+◌, ℕ, List, Option, Some, None}
use Rattle.port_pool.specs.declared.pairs.Lease.{Lease}
use Rattle.port_pool.specs.Pools.{Pairs}
use Rattle.port_pool.specs.Signals.{NewKey}
use Rattle.offer_answer.specs.Rounds.{NewLeg}
use Rattle.offer_answer.specs.Shapes.{dialog_shape, shape_of, shape_offered}
use Rattle.offer_answer.specs.OfferPlaces.{TakesCounts}
use Rattle.offer_answer.specs.declared.dialog.Dialog.{Dialog}
use Rattle.offer_answer.specs.declared.plan.Plan.{Plan}
use Rattle.call_board.specs.declared.board.Board.{Board}
use Rattle.call_board.specs.declared.board_plan.BoardPlan.{BoardPlan}
use Rattle.call_board.specs.declared.board_plan.NewCall.{NewCall}
use Rattle.call_board.specs.declared.live_call.LiveCall.{LiveCall}
use Rattle.call_board.specs.Boards.{pairs_in}
use Rattle.call_board.specs.Shapes.{BoardShape, LeasesLegs, after_returns, board_shape, live_numbered, shape_begun, shape_gone_on}
use Rattle.call_shapes.specs.NumberedTurns.{KeepsRest}

-- that many keys were drawn
abbrev pub shape_with_draws : ℕ → BoardShape → BoardShape
shape_with_draws count shape = record shape { drawn = shape.drawn + count }

-- Pairs are leased for these legs, keys may be drawn, and nothing else changes.
pub record ShapeTakes (legs : List NewLeg) (leases : List Lease) (old new : BoardShape) : Type 0 where
  pub leased : LeasesLegs old.pool legs leases new.pool
  pub calls_are : new.calls ≡ old.calls
  pub rest : KeepsRest old new

-- Pairs were leased for these legs and came back in order, keys may be drawn, and nothing else changes.
pub record ShapeUndoes (legs : List NewLeg) (old new : BoardShape) : Type 0 where
  pub leases : List Lease
  pub between : Pairs
  pub leased : LeasesLegs old.pool legs leases between
  pub pool_is : new.pool ≡ after_returns between (pairs_in leases)
  pub calls_are : new.calls ≡ old.calls
  pub rest : KeepsRest old new

-- what the plan's offer makes of a dialog, with these ports and keys
pub record DialogOffered (made : Plan) (ports : List ℕ) (keys : List NewKey) (old new : Dialog) : Type 0 where
  pub sections : (section : ℕ) → section < 8 → shape_of new section ≡ shape_offered made ports keys section (shape_of old section)
  pub counts : TakesCounts old made.next new

-- the live call of the plan takes its offer
pub record LiveOffered (p : BoardPlan) (ports : List ℕ) (keys : List NewKey) (old new : Board) : Type 0 where
  pub call : LiveCall
  pub found : live_numbered old p.call ≡ Some call
  pub dialog : Dialog
  pub offered : DialogOffered p.plan ports keys call.dialog.value dialog
  pub shape_is : board_shape new ≡ shape_gone_on p.call (dialog_shape dialog) (board_shape old)

-- the call that it begins does
pub record FirstOffered (begun : NewCall) (p : BoardPlan) (ports : List ℕ) (keys : List NewKey) (old new : Board) : Type 0 where
  pub dialog : Dialog
  pub offered : DialogOffered p.plan ports keys begun.dialog.value dialog
  pub shape_is : board_shape new ≡ shape_begun p.cell (dialog_shape dialog) (board_shape old)

abbrev pub OfferedBy : BoardPlan → Option NewCall → (ports : List ℕ) → (keys : List NewKey) → Board → Board → Type 0
OfferedBy p None ports keys old new = LiveOffered p ports keys old new
OfferedBy p (Some begun) ports keys old new = FirstOffered begun p ports keys old new

-- What an offer, an answer and the end of a call make of the relay, with the call by its number.
use Rattle.std.specs.Prelude.{◌≡◌, ◌+◌, ℕ, true, false, List, [], ◌∷◌, ◌++◌, filter, Some}
use Rattle.relay_outside.specs.declared.settings.Config.{Config}
use Rattle.port_pool.specs.declared.holder.Holder.{Holder}
use Rattle.port_pool.specs.declared.signal.SectionSignal.{SectionSignal}
use Rattle.port_pool.specs.Pools.{Pairs}
use Rattle.port_pool.specs.Signals.{is_rejected}
use Rattle.port_pool.specs.declared.pairs.Lease.{Lease}
use Rattle.offer_answer.specs.Rounds.{NewLeg}
use Rattle.offer_answer.specs.Shapes.{DialogShape}
use Rattle.call_cell.specs.Cells.{Commit, End}
use Rattle.call_cell.specs.Shapes.{CellShape}
use Rattle.call_board.specs.Acts.{Call}
use Rattle.call_board.specs.Boards.{pairs_in}
use Rattle.call_board.specs.Shapes.{LiveShape, BoardShape, IsFreeCell, LeasesLegs, after_returns, bare_dialog, shape_numbered, with_dialog_of, with_mark, without_live}
use Rattle.call_shapes.specs.Events.{shape_after_event}
use Rattle.call_shapes.specs.OfferFits.{Offering, OfferFits, cell_holders, dropped_holders, new_holders, offer_event}
use Rattle.call_shapes.specs.Turns.{RelayShape, DialogAnswered, BoxesMove, pairs_held}

-- the same configuration, number of the next call and marks
pub record KeepsRest (old new : BoardShape) : Type 0 where
  pub config_is : new.config ≡ old.config
  pub begun_is : new.begun ≡ old.begun
  pub taken_is : new.taken ≡ old.taken

-- the legs that go when a cell is told of an offer, and of an answer
abbrev pub gone_by_offer : Offering → CellShape → List Holder
gone_by_offer offer shape = dropped_holders offer.dropped (cell_holders shape)

abbrev pub gone_by_answer : List SectionSignal → CellShape → List Holder
gone_by_answer signal shape = filter (λ (leg : Holder). is_rejected signal leg.section) (cell_holders shape)

-- The live call takes an offer that goes with it: pairs are leased for the legs that it demands, the call has the new dialog, its cell is
-- told, the pairs of the dropped legs come back and are shut, and those of the new ones are opened.
pub record OffersNumbered (config : Config) (old new : RelayShape) : Type 0 where
  pub of : Call
  pub call : LiveShape
  pub found : shape_numbered old.board of.number ≡ Some call
  pub cell_of : of.cell ≡ call.cell
  pub offer : Offering
  pub dialog : DialogShape
  pub fits : OfferFits config offer call.dialog dialog
  pub between : Pairs
  pub leased : LeasesLegs old.board.pool offer.legs offer.leases between
  pub calls_are : new.board.calls ≡ with_dialog_of of.number dialog old.board.calls
  pub rest : KeepsRest old.board new.board
  pub pool_is : new.board.pool ≡ after_returns between (pairs_held (gone_by_offer offer (old.cells call.cell)))
  pub cell_is : new.cells call.cell ≡ shape_after_event (offer_event of offer) (old.cells call.cell)
  pub others : (k : ℕ) → (k ≡ call.cell → ⊥) → new.cells k ≡ old.cells k
  pub boxes : BoxesMove (new_holders of offer) (gone_by_offer offer (old.cells call.cell)) old.holders new.holders

-- The first offer of a call: it begins with the next number, in a cell that isn't taken.
pub record OffersFirst (config : Config) (old new : RelayShape) : Type 0 where
  pub of : Call
  pub number_is : of.number ≡ old.board.begun
  pub cell_of : IsFreeCell config.max_sessions old.board.taken of.cell
  pub offer : Offering
  pub dialog : DialogShape
  pub fits : OfferFits config offer bare_dialog dialog
  pub leased : LeasesLegs old.board.pool offer.legs offer.leases new.board.pool
  pub calls_are : new.board.calls ≡ old.board.calls ++ record { number = of.number; cell = of.cell; dialog = dialog } ∷ []
  pub config_is : new.board.config ≡ old.board.config
  pub begun_is : new.board.begun ≡ old.board.begun + 1
  pub taken_is : new.board.taken ≡ with_mark of.cell true old.board.taken
  pub cell_is : new.cells of.cell ≡ shape_after_event (offer_event of offer) (old.cells of.cell)
  pub others : (k : ℕ) → (k ≡ of.cell → ⊥) → new.cells k ≡ old.cells k
  pub boxes : BoxesMove (new_holders of offer) [] old.holders new.holders

-- The live call takes an answer: the call has the new dialog, its cell is told, and the pairs of the rejected legs come back and are shut.
pub record AnswersNumbered (config : Config) (old new : RelayShape) : Type 0 where
  pub number : ℕ
  pub call : LiveShape
  pub found : shape_numbered old.board number ≡ Some call
  pub signal : List SectionSignal
  pub dialog : DialogShape
  pub answered : DialogAnswered signal call.dialog dialog
  pub calls_are : new.board.calls ≡ with_dialog_of number dialog old.board.calls
  pub rest : KeepsRest old.board new.board
  pub pool_is : new.board.pool ≡ after_returns old.board.pool (pairs_held (gone_by_answer signal (old.cells call.cell)))
  pub cell_is : new.cells call.cell ≡ shape_after_event (Commit signal) (old.cells call.cell)
  pub others : (k : ℕ) → (k ≡ call.cell → ⊥) → new.cells k ≡ old.cells k
  pub boxes : BoxesMove [] (gone_by_answer signal (old.cells call.cell)) old.holders new.holders

-- The live call ends: it is live no more, its cell is told and isn't taken, and the pairs of its legs come back and are shut.
pub record EndsNumbered (config : Config) (old new : RelayShape) : Type 0 where
  pub number : ℕ
  pub call : LiveShape
  pub found : shape_numbered old.board number ≡ Some call
  pub calls_are : new.board.calls ≡ without_live number old.board.calls
  pub config_is : new.board.config ≡ old.board.config
  pub begun_is : new.board.begun ≡ old.board.begun
  pub taken_is : new.board.taken ≡ with_mark call.cell false old.board.taken
  pub pool_is : new.board.pool ≡ after_returns old.board.pool (pairs_held (cell_holders (old.cells call.cell)))
  pub cell_is : new.cells call.cell ≡ shape_after_event End (old.cells call.cell)
  pub others : (k : ℕ) → (k ≡ call.cell → ⊥) → new.cells k ≡ old.cells k
  pub boxes : BoxesMove [] (cell_holders (old.cells call.cell)) old.holders new.holders

-- An offer is undone: its pairs were leased and come back in order, and no call, cell or box changes.
pub record UndoesOffer (old new : RelayShape) : Type 0 where
  pub legs : List NewLeg
  pub leases : List Lease
  pub between : Pairs
  pub leased : LeasesLegs old.board.pool legs leases between
  pub calls_are : new.board.calls ≡ old.board.calls
  pub rest : KeepsRest old.board new.board
  pub pool_is : new.board.pool ≡ after_returns between (pairs_in leases)
  pub cells_are : (k : ℕ) → new.cells k ≡ old.cells k
  pub holders_are : (pair : ℕ) → new.holders pair ≡ old.holders pair

-- What a turn changes of the legs, of the pool and of the boxes.
use Rattle.std.specs.Prelude.{◌≡◌, ◌<◌, ◌≤◌, ◌+◌, ℕ, Bool, true, false, not, List, [], ◌∷◌, ◌++◌, map, filter, length, Option, Some, None, slice_get}
use Rattle.relay_outside.specs.declared.address.Family.{Family}
use Rattle.relay_outside.specs.declared.settings.Config.{Config}
use Rattle.histories.specs.Words.{In, has}
use Rattle.port_pool.specs.declared.holder.Holder.{Holder}
use Rattle.port_pool.specs.declared.pairs.Lease.{Lease}
use Rattle.port_pool.specs.Ports.{pair_count}
use Rattle.port_pool.specs.Pools.{Pairs, generation, free_pairs, after_lease}
use Rattle.port_pool.specs.declared.signal.SectionSignal.{SectionSignal}
use Rattle.offer_answer.specs.AnswerShapes.{ShapeAnswered}
use Rattle.call_cell.specs.Shapes.{CellLegShape, CellShape, ended_shape}
use Rattle.offer_answer.specs.Shapes.{DialogShape}
use Rattle.call_board.specs.Shapes.{LiveShape, BoardShape, IsFreshShape, IsFreeCell, after_returns, with_mark, with_dialog_of, without_live}
use Rattle.call_shapes.specs.Agreement.{CallAgrees, section_kept}
use Rattle.call_shapes.specs.WholeRelay.{AreWhole}

abbrev pub pairs_held : List Holder → List ℕ
pairs_held legs = map (λ (leg : Holder). leg.pair) legs

abbrev pub holders_of : List CellLegShape → List Holder
holders_of legs = map (λ (leg : CellLegShape). leg.holder) legs

-- The signal says something of as many sections as the last offer has, and the answer commits that offer: of each section the dialog keeps
-- what the signal makes of it.
pub record DialogAnswered (signal : List SectionSignal) (old new : DialogShape) : Type 0 where
  pub as_many : length signal ≡ old.offered_count
  pub offered_is : new.offered_count ≡ old.offered_count
  pub committed_is : new.committed_count ≡ old.offered_count
  pub sections : (section : ℕ) → section < 8 → ShapeAnswered (slice_get signal section) (section_kept old section) (section_kept new section)

-- each of these legs in turn gets the front of a family's queue, in the next lease of that pair
abbrev pub LegsLeased : Pairs → List Holder → Pairs → Type 0
LegsLeased old [] new = new ≡ old
LegsLeased old (leg ∷ legs) new =
    (family : Family) × (rest : List ℕ) × (free_pairs old family ≡ leg.pair ∷ rest) × (leg.generation ≡ generation old leg.pair + 1)
    × LegsLeased (after_lease old family leg.pair rest) legs new

-- a leg holds its pair by a lease
pub record HoldsBy (leg : Holder) (lease : Lease) : Type 0 where
  pub pair_is : leg.pair ≡ lease.pair
  pub generation_is : leg.generation ≡ lease.generation

-- these legs got pairs, and then the pairs of those came back
pub record PoolMoves (came gone : List Holder) (old new : Pairs) : Type 0 where
  pub between : Pairs
  pub leases : LegsLeased old came between
  pub returns : new ≡ after_returns between (pairs_held gone)

-- of the old legs those that pass went, and the new ones came after the others
pub record LegsMove (goes : Holder → Bool) (came gone old new : List Holder) : Type 0 where
  pub went : gone ≡ filter goes old
  pub stay : new ≡ filter (λ leg. not (goes leg)) old ++ came

-- the boxes of the legs that came are open for them, those of the legs that went are shut, and the others are as they were
pub record BoxesMove (came gone : List Holder) (old new : ℕ → Option Holder) : Type 0 where
  pub opened : (leg : Holder) → In leg came → new leg.pair ≡ Some leg
  pub shut : (leg : Holder) → In leg gone → new leg.pair ≡ None
  pub others : (pair : ℕ) → has (pairs_held came) pair ≡ false → has (pairs_held gone) pair ≡ false → new pair ≡ old pair

-- What the board, the cells, from 1, and the boxes of the pairs keep.
pub record RelayShape : Type 0 where
  pub board : BoardShape
  pub cells : ℕ → CellShape
  pub holders : ℕ → Option Holder

abbrev pub IsWholeRelay : Config → RelayShape → Type 0
IsWholeRelay config relay = AreWhole config relay.board relay.cells relay.holders

-- A relay begins: no call is live, all pairs are free, all cells are empty and all boxes shut.
pub record RelayBegins (config : Config) (relay : RelayShape) : Type 0 where
  pub board : IsFreshShape config relay.board
  pub cells : (k : ℕ) → 1 ≤ k → k ≤ config.max_sessions → relay.cells k ≡ ended_shape config
  pub boxes : (pair : ℕ) → pair < pair_count config → relay.holders pair ≡ None

-- A live call took one more offer or answer: the board keeps its new dialog in place of the old one, its cell has a shape that agrees, the
-- new legs got pairs and boxes, and those of the legs that went came back and were shut.
pub record CallChanges (config : Config) (old new : RelayShape) : Type 0 where
  pub call : LiveShape
  pub dialog : DialogShape
  pub front : List LiveShape
  pub back : List LiveShape
  pub calls_were : old.board.calls ≡ front ++ call ∷ back
  pub calls_are : new.board.calls ≡ front ++ (record call { dialog = dialog }) ∷ back
  pub config_is : new.board.config ≡ old.board.config
  pub begun_is : new.board.begun ≡ old.board.begun
  pub taken_is : new.board.taken ≡ old.board.taken
  pub goes : Holder → Bool
  pub came : List Holder
  pub gone : List Holder
  pub legs : LegsMove goes came gone (holders_of (old.cells call.cell).legs) (holders_of (new.cells call.cell).legs)
  pub agrees : CallAgrees config call.cell call.number dialog (new.cells call.cell)
  pub others : (k : ℕ) → (k ≡ call.cell → ⊥) → new.cells k ≡ old.cells k
  pub pool : PoolMoves came gone old.board.pool new.board.pool
  pub boxes : BoxesMove came gone old.holders new.holders

-- A call began: it stands behind all others, with the next number and in a cell that wasn't taken, which holds it.
pub record CallComes (config : Config) (old new : RelayShape) : Type 0 where
  pub call : LiveShape
  pub calls_are : new.board.calls ≡ old.board.calls ++ call ∷ []
  pub number_is : call.number ≡ old.board.begun
  pub cell_is : IsFreeCell config.max_sessions old.board.taken call.cell
  pub config_is : new.board.config ≡ old.board.config
  pub begun_is : new.board.begun ≡ old.board.begun + 1
  pub taken_is : new.board.taken ≡ with_mark call.cell true old.board.taken
  pub came : List Holder
  pub legs : holders_of (new.cells call.cell).legs ≡ came
  pub agrees : CallAgrees config call.cell call.number call.dialog (new.cells call.cell)
  pub others : (k : ℕ) → (k ≡ call.cell → ⊥) → new.cells k ≡ old.cells k
  pub pool : PoolMoves came [] old.board.pool new.board.pool
  pub boxes : BoxesMove came [] old.holders new.holders

-- A live call ended: the board keeps it no more, its cell holds no call and isn't taken, and the pairs of its legs came back and were shut.
pub record CallLeaves (config : Config) (old new : RelayShape) : Type 0 where
  pub call : LiveShape
  pub front : List LiveShape
  pub back : List LiveShape
  pub calls_were : old.board.calls ≡ front ++ call ∷ back
  pub calls_are : new.board.calls ≡ front ++ back
  pub config_is : new.board.config ≡ old.board.config
  pub begun_is : new.board.begun ≡ old.board.begun
  pub taken_is : new.board.taken ≡ with_mark call.cell false old.board.taken
  pub gone : List Holder
  pub legs : gone ≡ holders_of (old.cells call.cell).legs
  pub ended : new.cells call.cell ≡ ended_shape config
  pub others : (k : ℕ) → (k ≡ call.cell → ⊥) → new.cells k ≡ old.cells k
  pub pool : new.board.pool ≡ after_returns old.board.pool (pairs_held gone)
  pub boxes : BoxesMove [] gone old.holders new.holders

-- several in turn
pub data CallsLeave (config : Config) (old : RelayShape) : RelayShape → Type 0 where
  none_more : CallsLeave config old old
  one_more : {between new : RelayShape} → CallsLeave config old between → CallLeaves config between new → CallsLeave config old new

-- An offer was undone: its pairs were leased and came back, and no call, cell or box changed.
pub record OfferIsUndone (old new : RelayShape) : Type 0 where
  pub legs : List Holder
  pub calls_are : new.board.calls ≡ old.board.calls
  pub config_is : new.board.config ≡ old.board.config
  pub begun_is : new.board.begun ≡ old.board.begun
  pub taken_is : new.board.taken ≡ old.board.taken
  pub cells_are : (k : ℕ) → new.cells k ≡ old.cells k
  pub holders_are : (pair : ℕ) → new.holders pair ≡ old.holders pair
  pub pool : PoolMoves legs legs old.board.pool new.board.pool

-- the first of these live calls with this number, those before it and those behind it
pub record PlaceOfNumber (number : ℕ) (dialog : DialogShape) (calls : List LiveShape) (call : LiveShape) : Type 0 where
  pub number_is : call.number ≡ number
  pub front : List LiveShape
  pub back : List LiveShape
  pub calls_are : calls ≡ front ++ call ∷ back
  pub changed : with_dialog_of number dialog calls ≡ front ++ (record call { dialog = dialog }) ∷ back
  pub without : without_live number calls ≡ front ++ back

-- the box of a pair is open for this leg of a live call, whose cell has it
pub record IsOpenFor (board : BoardShape) (cells : ℕ → CellShape) (pair : ℕ) (holder : Holder) : Type 0 where
  pub call : LiveShape
  pub leg : CellLegShape
  pub is_live : In call board.calls
  pub is_leg : In leg (cells call.cell).legs
  pub holder_is : leg.holder ≡ holder
  pub pair_is : holder.pair ≡ pair
  pub cell_is : holder.cell ≡ call.cell
  pub call_is : holder.call ≡ call.number

-- Records that go together, and what is loaded of them.
use Rattle.std.proofs.Common.{◌≡◌, ◌∙◌, refl, sym, ap, subst, ℕ, ◌+◌, ◌≤◌, Bool, false, List, [], ◌∷◌, ◌++◌, length, Option, arith}
use Rattle.relay_outside.specs.declared.settings.Config.{Config}
use Rattle.relay_outside.specs.Settings.{AreFamilies}
use Rattle.histories.specs.Words.{In, here, there, has}
use Rattle.histories.proofs.Lists.{maps}
use Rattle.port_pool.specs.declared.holder.Holder.{Holder}
use Rattle.port_pool.specs.Pools.{Pairs, AreFree, AreFrom}
use Rattle.port_pool.specs.SavedPools.{saved_pairs}
use Rattle.call_cell.specs.declared.saved.CellSaved.{CellSaved}
use Rattle.call_cell.specs.Shapes.{CellShape, ended_shape}
use Rattle.call_board.specs.declared.live_call.LiveCall.{LiveCall}
use Rattle.call_board.specs.declared.board.Board.{Board}
use Rattle.call_board.specs.declared.saved_board.BoardSaved.{BoardSaved}
use Rattle.call_board.specs.CallNumbers.{AreBelow}
use Rattle.call_board.specs.SavedBoards.{BoardSaves, WholeBoard, MarksCells, cells_of_live}
use Rattle.call_board.specs.Shapes.{LiveShape, live_shapes, board_shape}
use Rattle.call_shapes.specs.Agreement.{CallAgrees}
use Rattle.call_shapes.specs.WholeRelay.{AreWhole, PoolHolds, ShapesRise, AreMarked, cells_of_calls, held_legs, holder_among}
use Rattle.call_shapes.specs.Turns.{holders_of}
use Rattle.call_shapes.proofs.Rising.{cell_low, cell_high}
use Rattle.whole_records.specs.SavedShapes.{saved_live_shapes, saved_cell_at, AreSavedCells}
use Rattle.whole_records.specs.Records.{RecordsAgree}
use Rattle.whole_records.proofs.HeldShapes.{calls_held}

rise_of : (from : ℕ) (calls : List LiveCall) (below : ℕ) → AreBelow from calls below → ShapesRise from (live_shapes calls) below
rise_of from [] below h = h
rise_of from (call ∷ calls) below h = (h.0, rise_of (call.number + 1) calls below h.1)

cells_of : (calls : List LiveCall) → cells_of_live calls ≡ cells_of_calls (live_shapes calls)
cells_of [] = refl
cells_of (call ∷ calls) = ap (λ (l : List ℕ). call.cell ∷ l) (cells_of calls)

marked_of : (count : ℕ) (taken : List Bool) (cells : List ℕ) → MarksCells count taken cells → AreMarked count taken cells
marked_of count taken cells h = record {
  count_is = h.count_is;
  marks = λ k d below. h.marks_are k d below ∙ ap (has cells) (let e : 1 + k ≡ k + 1 = omega arith in e);
}

-- the same legs, where the cells of the calls are the same
held_same : (a b : ℕ → CellShape) (calls : List LiveShape) → ((call : LiveShape) → In call calls → a call.cell ≡ b call.cell) → held_legs a calls ≡ held_legs b calls
held_same a b [] same = refl
held_same a b (call ∷ calls) same = λ i. holders_of (same call (here refl) i).legs ++ held_same a b calls (λ other at. same other (there at)) i

-- the cell of a call is one of the cells
cell_within : (count : ℕ) (calls : List LiveShape) → AreFree (count + 1) (cells_of_calls calls) → AreFrom 1 (cells_of_calls calls)
    → (call : LiveShape) → In call calls → (1 ≤ call.cell) × (call.cell ≤ count)
cell_within count calls apart low call is_live =
    let at = maps (λ (one : LiveShape). one.cell) calls is_live in
    let below = cell_high (count + 1) (cells_of_calls calls) apart call.cell at in
    (cell_low 1 (cells_of_calls calls) low call.cell at, omega (arith, below))

-- What is said of the calls and of the cells by their shapes.
record SavedAgree (config : Config) (pool : Pairs) (calls : List LiveShape) (places : ℕ → CellShape) : Type 0 where
  agrees : (call : LiveShape) → In call calls → CallAgrees config call.cell call.number call.dialog (places call.cell)
  others : (k : ℕ) → 1 ≤ k → k ≤ config.max_sessions → has (cells_of_calls calls) k ≡ false → places k ≡ ended_shape config
  pairs : PoolHolds config pool (held_legs places calls)

-- of cells that are the same from 1 on it holds too
moved : (config : Config) (pool : Pairs) (calls : List LiveShape) (a b : ℕ → CellShape) → ((k : ℕ) → 1 ≤ k → k ≤ config.max_sessions → a k ≡ b k)
    → AreFree (config.max_sessions + 1) (cells_of_calls calls) → AreFrom 1 (cells_of_calls calls) → SavedAgree config pool calls a → SavedAgree config pool calls b
moved config pool calls a b same apart low h =
    let at = λ (call : LiveShape) (is_live : In call calls). (
    let within = cell_within config.max_sessions calls apart low call is_live in same call.cell within.0 within.1) in
    record {
      agrees = λ call is_live. subst (CallAgrees config call.cell call.number call.dialog) (at call is_live) (h.agrees call is_live);
      others = λ k from below out. sym (same k from below) ∙ h.others k from below out;
      pairs = subst (PoolHolds config pool) (held_same a b calls at) h.pairs;
    }

pub agreeing_whole : (config : Config) (board : Board) (saved : BoardSaved) (cells : List CellSaved) (places : ℕ → CellShape) → AreFamilies config → saved.config ≡ config
    → WholeBoard board → BoardSaves board saved → AreSavedCells config cells places → RecordsAgree config saved.pool saved.calls.items cells
    → AreWhole config (board_shape board) places (holder_among (held_legs places (board_shape board).calls))
agreeing_whole config board saved cells places families is_config whole saves loaded agree =
    let list = board.calls.list in
    let shapes : live_shapes list ≡ saved_live_shapes saved.calls.items = calls_held list saved.calls.items saves.calls_are in
    let own : board.config ≡ config = saves.config_is ∙ is_config in
    let most : board.config.max_sessions ≡ config.max_sessions = ap (λ (c : Config). c.max_sessions) own in
    let apart : AreFree (config.max_sessions + 1) (cells_of_calls (live_shapes list)) =
    subst (AreFree (config.max_sessions + 1)) (cells_of list) (subst (λ n. AreFree (n + 1) (cells_of_live list)) most whole.calls.cells) in
    let low : AreFrom 1 (cells_of_calls (live_shapes list)) = subst (AreFrom 1) (cells_of list) whole.calls.from_one in
    let read : SavedAgree config (saved_pairs saved.pool) (saved_live_shapes saved.calls.items) (saved_cell_at config cells) =
    record { agrees = agree.agree; others = agree.empty; pairs = agree.pairs_hold } in
    let own_calls : SavedAgree config (saved_pairs saved.pool) (live_shapes list) (saved_cell_at config cells) =
    subst (λ (calls : List LiveShape). SavedAgree config (saved_pairs saved.pool) calls (saved_cell_at config cells)) (sym shapes) read in
    let own_pool : SavedAgree config board.pool (live_shapes list) (saved_cell_at config cells) =
    subst (λ (pool : Pairs). SavedAgree config pool (live_shapes list) (saved_cell_at config cells)) (sym saves.pool_is) own_calls in
    let all : SavedAgree config board.pool (live_shapes list) places =
    moved config board.pool (live_shapes list) (saved_cell_at config cells) places (λ k from below. sym (loaded k from below)) apart low own_pool in
    record {
      families = families;
      config_is = own;
      numbers = rise_of 0 list board.begun whole.calls.numbers;
      apart = apart;
      low = low;
      marked = subst (AreMarked config.max_sessions board.taken.items) (cells_of list)
          (subst (λ n. AreMarked n board.taken.items (cells_of_live list)) most (marked_of board.config.max_sessions board.taken.items (cells_of_live list) whole.marks));
      calls = all.agrees;
      empty = all.others;
      pool = all.pairs;
      held = λ pair below. refl;
    }

pub whole_agreeing : (config : Config) (board : Board) (saved : BoardSaved) (cells : List CellSaved) (places : ℕ → CellShape) (holders : ℕ → Option Holder)
    → AreWhole config (board_shape board) places holders → BoardSaves board saved → AreSavedCells config cells places → length cells ≡ config.max_sessions
    → RecordsAgree config saved.pool saved.calls.items cells
whole_agreeing config board saved cells places holders whole saves loaded count =
    let list = board.calls.list in
    let shapes : live_shapes list ≡ saved_live_shapes saved.calls.items = calls_held list saved.calls.items saves.calls_are in
    let own : SavedAgree config board.pool (live_shapes list) places = record { agrees = whole.calls; others = whole.empty; pairs = whole.pool } in
    let read : SavedAgree config board.pool (live_shapes list) (saved_cell_at config cells) =
    moved config board.pool (live_shapes list) places (saved_cell_at config cells) loaded whole.apart whole.low own in
    let held_pool : SavedAgree config (saved_pairs saved.pool) (live_shapes list) (saved_cell_at config cells) =
    subst (λ (pool : Pairs). SavedAgree config pool (live_shapes list) (saved_cell_at config cells)) saves.pool_is read in
    let all : SavedAgree config (saved_pairs saved.pool) (saved_live_shapes saved.calls.items) (saved_cell_at config cells) =
    subst (λ (calls : List LiveShape). SavedAgree config (saved_pairs saved.pool) calls (saved_cell_at config cells)) shapes held_pool in
    record { count_is = count; agree = all.agrees; empty = all.others; pairs_hold = all.pairs }

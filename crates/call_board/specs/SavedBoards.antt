-- What the saved form of a board holds of it, and which boards are saved.
use Rattle.std.specs.Prelude.{◌≡◌, ℕ, ◌+◌, ◌-◌, ◌<◌, ◌≤◌, Bool, false, List, [], ◌∷◌, ◌++◌, map, length, slice_index_or}
use Rattle.std.specs.List.{list_any}
use Rattle.std.specs.Str.{bytes_eq}
use Rattle.histories.specs.Words.{has}
use Rattle.port_pool.specs.Pools.{AreFree, AreFrom}
use Rattle.port_pool.specs.SavedPools.{FitsPool, SavesPool}
use Rattle.cookie_cache.specs.Saved.{FitsCache, SavesCache}
use Rattle.offer_answer.specs.SavedDialogs.{DialogSaves}
use Rattle.call_board.specs.declared.live_call.LiveCall.{LiveCall}
use Rattle.call_board.specs.declared.board.Board.{Board}
use Rattle.call_board.specs.declared.saved_board.CallSaved.{CallSaved}
use Rattle.call_board.specs.declared.saved_board.BoardSaved.{BoardSaved}
use Rattle.call_board.specs.CallNumbers.{AreBelow}

-- this is held of a live call
pub record CallSaves (call : LiveCall) (saved : CallSaved) : Type 0 where
  pub number_is : call.number ≡ saved.number
  pub cell_is : call.cell ≡ saved.cell
  pub id_is : call.id.list ≡ saved.id.list
  pub dialog_is : DialogSaves call.dialog.value saved.dialog
  pub first_is : call.first_moment ≡ saved.first_moment
  pub last_is : call.last_moment ≡ saved.last_moment
  pub due_is : call.due_moment ≡ saved.due_moment

-- of each call in order
abbrev pub CallsSave : List LiveCall → List CallSaved → Type 0
CallsSave [] [] = Unit {0}
CallsSave [] (one ∷ saved) = ⊥
CallsSave (call ∷ calls) [] = ⊥
CallsSave (call ∷ calls) (one ∷ saved) = CallSaves call one × CallsSave calls saved

-- The record holds all of the board but its spare room. Which cells are taken isn't held: the calls say it.
pub record BoardSaves (board : Board) (saved : BoardSaved) : Type 0 where
  pub config_is : board.config ≡ saved.config
  pub moment_is : board.moment ≡ saved.moment
  pub begun_is : board.begun ≡ saved.begun
  pub drawn_is : board.drawn ≡ saved.drawn
  pub calls_are : CallsSave board.calls.list saved.calls.items
  pub pool_is : SavesPool board.pool saved.pool
  pub replies_are : SavesCache board.replies saved.replies

abbrev pub cells_of_live : List LiveCall → List ℕ
cells_of_live calls = map (λ (call : LiveCall). call.cell) calls

abbrev pub ids_of_live : List LiveCall → List (List ℕ)
ids_of_live calls = map (λ (call : LiveCall). call.id.list) calls

-- the marks say of each cell, from 1, whether it is one of these
pub record MarksCells (count : ℕ) (taken : List Bool) (cells : List ℕ) : Type 0 where
  pub count_is : length taken ≡ count
  pub marks_are : (k : ℕ) (d : Bool) → k < length taken → slice_index_or taken k d ≡ has cells (1 + k)

-- no two call-ids are the same
abbrev pub IdsApart : List (List ℕ) → Type 0
IdsApart [] = Unit {0}
IdsApart (id ∷ ids) = (list_any (λ other. bytes_eq other id) ids ≡ false) × IdsApart ids

-- The numbers of the calls rise and are below that of the next one, no two have one call-id or one cell, and each has one of the cells from 1 to
-- the count.
pub record AreWholeCalls (begun count : ℕ) (calls : List LiveCall) : Type 0 where
  pub numbers : AreBelow 0 calls begun
  pub ids : IdsApart (ids_of_live calls)
  pub cells : AreFree (count + 1) (cells_of_live calls)
  pub from_one : AreFrom 1 (cells_of_live calls)

-- what holds of every board that stands for a history
pub record WholeBoard (board : Board) : Type 0 where
  pub calls : AreWholeCalls board.begun board.config.max_sessions board.calls.list
  pub marks : MarksCells board.config.max_sessions board.taken.items (cells_of_live board.calls.list)
  pub pool : FitsPool board.pool
  pub replies : FitsCache board.replies

-- this saved call may follow the live ones, of which the next has at least that number, where so many were begun and these cells are taken
pub record CallFollows (next begun : ℕ) (taken : List Bool) (calls : List LiveCall) (saved : CallSaved) : Type 0 where
  pub later : next ≤ saved.number
  pub earlier : saved.number < begun
  pub low : 1 ≤ saved.cell
  pub high : saved.cell ≤ length taken
  pub free : slice_index_or taken (saved.cell - 1) false ≡ false
  pub new : list_any (λ (live : LiveCall). bytes_eq live.id.list saved.id.list) calls ≡ false

-- the calls have one more at the end, which is saved so
abbrev pub GainsSaved : List LiveCall → List LiveCall → CallSaved → Type 0
GainsSaved old new saved = (call : LiveCall) × CallSaves call saved × (new ≡ old ++ call ∷ [])

-- no board is saved as this record
abbrev pub NoBoardSaves : BoardSaved → Type 0
NoBoardSaves saved = (board : Board) → WholeBoard board → BoardSaves board saved → ⊥

-- Which live calls a board has.
use Rattle.std.specs.Prelude.{ℕ, ◌+◌, ◌<◌, ◌≤◌, ◌^◌, List, [], ◌∷◌, map, Vec}
use Rattle.std.specs.Global.{Global}
use Rattle.port_pool.specs.Pools.{AreFree, AreFrom}
use Rattle.ng_bencode.specs.Spells.{Spells}
use Rattle.call_board.specs.declared.saved_board.CallSaved.{CallSaved}
use Rattle.call_board.specs.SavedBoards.{IdsApart}
use Rattle.state_values.specs.CallTrees.{calls_tree}

abbrev pub saved_numbers : List CallSaved → List ℕ
saved_numbers calls = map (λ (call : CallSaved). call.number) calls

abbrev pub saved_cells : List CallSaved → List ℕ
saved_cells calls = map (λ (call : CallSaved). call.cell) calls

abbrev pub saved_ids : List CallSaved → List (List ℕ)
saved_ids calls = map (λ (call : CallSaved). call.id.list) calls

-- the numbers rise from the first of these two on, and stay below the other
abbrev pub AreRising : ℕ → List ℕ → ℕ → Type 0
AreRising from [] below = from ≤ below
AreRising from (number ∷ numbers) below = (from ≤ number) × AreRising (number + 1) numbers below

-- each once, and one of the cells from 1 to the count
pub record AreCellsOf (count : ℕ) (cells : List ℕ) : Type 0 where
  pub once : AreFree (count + 1) cells
  pub from_one : AreFrom 1 cells

-- The numbers rise and are below that of the next call, and no two calls have one call-id or one cell, of the cells from 1 to the count
pub record CallsStand (begun count : ℕ) (numbers cells : List ℕ) (ids : List (List ℕ)) : Type 0 where
  pub rise : AreRising 0 numbers begun
  pub apart : IdsApart ids
  pub placed : AreCellsOf count cells

-- The third value: the live calls of a board that began so many, and has so many cells
pub record IsCallsText (begun count : ℕ) (text : List ℕ) (calls : List CallSaved) : Type 0 where
  pub spelled : Spells text (calls_tree calls)
  pub stand : CallsStand begun count (saved_numbers calls) (saved_cells calls) (saved_ids calls)

-- the same of the calls in this memory
abbrev pub AreCallsOf : (begun count : ℕ) → List ℕ → Vec CallSaved Global → Type 0
AreCallsOf begun count text calls = IsCallsText begun count text calls.items

-- the ranges of these numbers of a call
pub record CallRanges (call : CallSaved) : Type 0 where
  pub number : call.number < 2 ^ 64
  pub cell : call.cell < 2 ^ 32

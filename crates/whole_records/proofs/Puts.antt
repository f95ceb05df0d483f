-- Pairs that are put behind others, list by list.
use Rattle.std.proofs.Common.{◌≡◌, ◌∙◌, refl, sym, ap, ℕ, List, [], ◌∷◌, ◌++◌, map}
use Rattle.std.proofs.lemmas.List.{append_assoc, append-nil}
use Rattle.relay_outside.specs.declared.settings.Config.{Config}
use Rattle.port_pool.specs.declared.holder.Holder.{Holder}
use Rattle.call_cell.specs.declared.saved.LegSaved.{LegSaved}
use Rattle.call_cell.specs.declared.saved.CellSaved.{CellSaved}
use Rattle.call_board.specs.declared.saved_board.CallSaved.{CallSaved}
use Rattle.call_shapes.specs.Turns.{pairs_held, holders_of}
use Rattle.call_shapes.specs.WholeRelay.{cells_of_calls}
use Rattle.call_shapes.proofs.Pools.{pairs_append}
use Rattle.whole_records.specs.SavedShapes.{saved_leg_shapes, saved_live_shapes, saved_cell_at}
use Rattle.whole_records.specs.Records.{saved_held_legs}

-- one more
pub one_put : {A : Type 0} (f : A → ℕ) (pairs new start : List ℕ) (x : A) (left rest all : List A) → pairs ++ map f left ≡ start ++ map f all → left ≡ x ∷ rest
    → new ≡ pairs ++ f x ∷ [] → new ++ map f rest ≡ start ++ map f all
one_put {A} f pairs new start x left rest all is first one =
    ap (λ (l : List ℕ). l ++ map f rest) one ∙ append_assoc pairs (f x ∷ []) (map f rest) ∙ ap (λ (l : List A). pairs ++ map f l) (sym first) ∙ is

-- and all
pub all_put : {A : Type 0} (f : A → ℕ) (pairs start : List ℕ) (left all : List A) → pairs ++ map f left ≡ start ++ map f all → left ≡ [] → pairs ≡ start ++ map f all
all_put {A} f pairs start left all is none = sym (append-nil pairs) ∙ ap (λ (l : List A). pairs ++ map f l) (sym none) ∙ is

-- the pairs of a cell's legs
pub leg_pairs : (legs : List LegSaved) → map (λ (leg : LegSaved). leg.holder.pair) legs ≡ pairs_held (holders_of (saved_leg_shapes legs))
leg_pairs [] = refl
leg_pairs (leg ∷ legs) = ap (λ (l : List ℕ). leg.holder.pair ∷ l) (leg_pairs legs)

-- those of one cell more
pub cell_put : (config : Config) (cells : List CellSaved) (pairs new start : List ℕ) (call : CallSaved) (left rest all : List CallSaved)
    → pairs ++ pairs_held (saved_held_legs config left cells) ≡ start ++ pairs_held (saved_held_legs config all cells) → left ≡ call ∷ rest
    → new ≡ pairs ++ pairs_held (holders_of (saved_cell_at config cells call.cell).legs)
    → new ++ pairs_held (saved_held_legs config rest cells) ≡ start ++ pairs_held (saved_held_legs config all cells)
cell_put config cells pairs new start call left rest all is first one =
    let own : List Holder = holders_of (saved_cell_at config cells call.cell).legs in
    let more : List Holder = saved_held_legs config rest cells in
    ap (λ (l : List ℕ). l ++ pairs_held more) one ∙ append_assoc pairs (pairs_held own) (pairs_held more)
    ∙ ap (λ (l : List ℕ). pairs ++ l) (sym (pairs_append own more))
    ∙ ap (λ (l : List CallSaved). pairs ++ pairs_held (saved_held_legs config l cells)) (sym first) ∙ is

pub cells_put : (config : Config) (cells : List CellSaved) (pairs start : List ℕ) (left all : List CallSaved)
    → pairs ++ pairs_held (saved_held_legs config left cells) ≡ start ++ pairs_held (saved_held_legs config all cells) → left ≡ []
    → pairs ≡ start ++ pairs_held (saved_held_legs config all cells)
cells_put config cells pairs start left all is none =
    sym (append-nil pairs) ∙ ap (λ (l : List CallSaved). pairs ++ pairs_held (saved_held_legs config l cells)) (sym none) ∙ is

-- the calls' cells
pub call_cells : (calls : List CallSaved) → map (λ (call : CallSaved). call.cell) calls ≡ cells_of_calls (saved_live_shapes calls)
call_cells [] = refl
call_cells (call ∷ calls) = ap (λ (l : List ℕ). call.cell ∷ l) (call_cells calls)

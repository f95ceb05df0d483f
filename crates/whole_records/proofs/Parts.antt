-- The records go together exactly where their parts do.
use Rattle.std.proofs.Common.{◌≡◌, ◌∙◌, sym, ap, subst, ℕ, zero, suc, ◌+◌, ◌-◌, ◌<◌, ◌≤◌, false, Bool, List, [], ◌∷◌, map, length, get_or, arith}
use Rattle.relay_outside.specs.declared.settings.Config.{Config}
use Rattle.histories.specs.Words.{In, has}
use Rattle.histories.proofs.Lists.{maps, mapped, spread, spreads}
use Rattle.port_pool.specs.declared.holder.Holder.{Holder}
use Rattle.port_pool.specs.Pools.{generation}
use Rattle.port_pool.specs.SavedPools.{saved_pairs}
use Rattle.port_pool.specs.declared.saved_pool.PoolSaved.{PoolSaved}
use Rattle.call_cell.specs.Shapes.{CellLegShape, ended_shape}
use Rattle.call_cell.specs.declared.saved.CellSaved.{CellSaved}
use Rattle.call_board.specs.Shapes.{LiveShape}
use Rattle.call_board.specs.declared.saved_board.CallSaved.{CallSaved}
use Rattle.call_shapes.specs.Agreement.{CallAgrees}
use Rattle.call_shapes.specs.Turns.{pairs_held}
use Rattle.call_shapes.specs.WholeRelay.{AreMarked, cells_of_calls}
use Rattle.whole_records.specs.SavedShapes.{saved_live_shape, saved_live_shapes, saved_cell_shape, saved_cell_at}
use Rattle.whole_records.specs.Records.{RecordsAgree, saved_held_legs}
use Rattle.whole_records.specs.RecordParts.{CallsHold, OthersAreEmpty, PairsStand}
use Rattle.whole_records.proofs.CellPlaces.{cell_there}
use Rattle.whole_records.proofs.OncePairs.{holds_stand, stand_holds}

-- the cells' marks, by their numbers

mark_at : (count : ℕ) (marks : List Bool) (cells : List ℕ) → AreMarked count marks cells → (place : ℕ) → place < count → get_or marks place false ≡ has cells (suc place)
mark_at count marks cells h place below =
    let next : place + 1 ≡ suc place = omega arith in
    h.marks place false (let e = h.count_is in omega (arith, e, below)) ∙ ap (has cells) next

others_of : (config : Config) (marks : List Bool) (calls : List LiveShape) (cells : List CellSaved) → length cells ≡ config.max_sessions
    → AreMarked (length cells) marks (cells_of_calls calls) → OthersAreEmpty config marks cells
    → (k : ℕ) → 1 ≤ k → k ≤ config.max_sessions → has (cells_of_calls calls) k ≡ false → saved_cell_at config cells k ≡ ended_shape config
others_of config marks calls [] count marked empty zero from below out = absurd (omega arith)
others_of config marks calls [] count marked empty (suc place) from below out = absurd (omega (arith, count))
others_of config marks calls (one ∷ cells) count marked empty k from below out =
    let all : List CellSaved = one ∷ cells in
    let within : k - 1 < length all = omega (arith, count, from, below) in
    let next : suc (k - 1) ≡ k = omega (arith, from) in
    let mark = mark_at (length all) marks (cells_of_calls calls) marked (k - 1) within ∙ ap (has (cells_of_calls calls)) next ∙ out in
    cell_there config all k one from (omega (arith, count, below)) ∙ empty (k - 1) one within mark

-- what goes together, part by part

pub calls_agree : (config : Config) (pool : PoolSaved) (calls : List CallSaved) (cells : List CellSaved) → RecordsAgree config pool calls cells
    → CallsHold config pool.generations.items calls cells
calls_agree config pool calls cells h call is_live =
    let live = maps (λ (one : CallSaved). saved_live_shape one) calls is_live in
    record {
      agrees = h.agree (saved_live_shape call) live;
      last = λ leg at. (h.pairs_hold.generations leg.holder (spreads (λ (one : LiveShape). pairs_of config cells one) (saved_live_shapes calls) live
          (maps (λ (l : CellLegShape). l.holder) (saved_cell_at config cells call.cell).legs at))).1;
    }
  where
    pairs_of : Config → List CellSaved → LiveShape → List Holder
    pairs_of config cells one = map (λ (l : CellLegShape). l.holder) (saved_cell_at config cells one.cell).legs

pub others_agree : (config : Config) (pool : PoolSaved) (marks : List Bool) (calls : List CallSaved) (cells : List CellSaved)
    → AreMarked (length cells) marks (cells_of_calls (saved_live_shapes calls)) → RecordsAgree config pool calls cells → OthersAreEmpty config marks cells
others_agree config pool marks calls cells marked h k d within mark =
    let out = sym (mark_at (length cells) marks (cells_of_calls (saved_live_shapes calls)) marked k within) ∙ mark in
    let place : suc k - 1 ≡ k = omega arith in
    ap (λ (n : ℕ). saved_cell_shape (get_or cells n d)) (sym place) ∙ sym (cell_there config cells (suc k) d (omega arith) (omega (arith, within)))
    ∙ h.empty (suc k) (omega arith) (let e = h.count_is in omega (arith, e, within)) out

pub pairs_agree : (config : Config) (pool : PoolSaved) (calls : List CallSaved) (cells : List CellSaved) → RecordsAgree config pool calls cells
    → PairsStand config (saved_pairs pool) (pairs_held (saved_held_legs config calls cells))
pairs_agree config pool calls cells h = holds_stand config (saved_pairs pool) (saved_held_legs config calls cells) h.pairs_hold

pub all_agree : (config : Config) (pool : PoolSaved) (marks : List Bool) (calls : List CallSaved) (cells : List CellSaved) → length cells ≡ config.max_sessions
    → CallsHold config pool.generations.items calls cells → AreMarked (length cells) marks (cells_of_calls (saved_live_shapes calls)) → OthersAreEmpty config marks cells
    → PairsStand config (saved_pairs pool) (pairs_held (saved_held_legs config calls cells)) → RecordsAgree config pool calls cells
all_agree config pool marks calls cells count hold marked empty stand = record {
  count_is = count;
  agree = λ call is_live. (
      let made = mapped (λ (one : CallSaved). saved_live_shape one) calls is_live in
      subst (λ (one : LiveShape). CallAgrees config one.cell one.number one.dialog (saved_cell_at config cells one.cell)) made.makes (hold made.from made.is_in).agrees);
  empty = others_of config marks (saved_live_shapes calls) cells count marked empty;
  pairs_hold = stand_holds config (saved_pairs pool) (saved_held_legs config calls cells) stand last;
}
  where
    last : (leg : Holder) → In leg (saved_held_legs config calls cells) → generation (saved_pairs pool) leg.pair ≡ leg.generation
    last leg at =
        let of = spread (λ (one : LiveShape). map (λ (l : CellLegShape). l.holder) (saved_cell_at config cells one.cell).legs) (saved_live_shapes calls) at in
        let made = mapped (λ (one : CallSaved). saved_live_shape one) calls of.is_in in
        let own : In leg (map (λ (l : CellLegShape). l.holder) (saved_cell_at config cells made.from.cell).legs) =
        subst (λ (one : LiveShape). In leg (map (λ (l : CellLegShape). l.holder) (saved_cell_at config cells one.cell).legs)) (sym made.makes) of.has_it in
        let held = mapped (λ (l : CellLegShape). l.holder) (saved_cell_at config cells made.from.cell).legs own in
        subst (λ (l : Holder). generation (saved_pairs pool) l.pair ≡ l.generation) held.makes ((hold made.from made.is_in).last held.from held.is_in)

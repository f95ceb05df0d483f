-- The cells of the records by their numbers.
use Rattle.std.proofs.Common.{◌≡◌, ◌∙◌, refl, ap, ℕ, zero, suc, ◌-◌, ◌<◌, ◌≤◌, List, [], ◌∷◌, map, length, get_or, arith}
use Rattle.relay_outside.specs.declared.settings.Config.{Config}
use Rattle.call_cell.specs.Shapes.{ended_shape}
use Rattle.call_cell.specs.declared.saved.CellSaved.{CellSaved}
use Rattle.whole_records.specs.SavedShapes.{saved_cell_shape, saved_cell_at}

made_at : {A B : Type 0} (f : A → B) (xs : List A) (i : ℕ) (d : B) (e : A) → i < length xs → get_or (map f xs) i d ≡ f (get_or xs i e)
made_at f [] i d e within = absurd (omega arith)
made_at f (x ∷ xs) zero d e within = refl
made_at f (x ∷ xs) (suc i) d e within = made_at f xs i d e (omega arith)

made_past : {A B : Type 0} (f : A → B) (xs : List A) (i : ℕ) (d : B) → length xs ≤ i → get_or (map f xs) i d ≡ d
made_past f [] i d past = refl
made_past f (x ∷ xs) zero d past = absurd (omega arith)
made_past f (x ∷ xs) (suc i) d past = made_past f xs i d (omega arith)

-- the cell of this number is there
pub cell_there : (config : Config) (cells : List CellSaved) (number : ℕ) (d : CellSaved) → 1 ≤ number → number ≤ length cells
    → saved_cell_at config cells number ≡ saved_cell_shape (get_or cells (number - 1) d)
cell_there config cells zero d from within = absurd (omega arith)
cell_there config cells (suc place) d from within =
    let same : place ≡ suc place - 1 = omega arith in
    made_at (λ (one : CellSaved). saved_cell_shape one) cells place (ended_shape config) d (omega arith) ∙ ap (λ (n : ℕ). saved_cell_shape (get_or cells n d)) same

-- there is none
pub no_cell : (config : Config) (cells : List CellSaved) → saved_cell_at config cells 0 ≡ ended_shape config
no_cell config cells = refl

pub past_cells : (config : Config) (cells : List CellSaved) (number : ℕ) → length cells < number → saved_cell_at config cells number ≡ ended_shape config
past_cells config cells zero past = refl
past_cells config cells (suc place) past = made_past (λ (one : CellSaved). saved_cell_shape one) cells place (ended_shape config) (omega arith)

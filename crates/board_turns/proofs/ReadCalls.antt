-- The cell of a live call that is asked after, and what is left by its reading.
use Rattle.std.proofs.Common.{◌≡◌, ◌∙◌, sym, ap, subst, refl, ℕ, List, [], ◌∷◌, Some}
use Rattle.std.specs.Prelude.{option_map}
use Rattle.relay_outside.specs.declared.settings.Config.{Config}
use Rattle.histories.specs.Words.{In, here, there}
use Rattle.port_pool.specs.declared.reports.LegReport.{LegReport}
use Rattle.call_cell.specs.Cells.{Read}
use Rattle.call_board.specs.Acts.{Call, BoardEntry}
use Rattle.call_board.specs.Calls.{live}
use Rattle.call_board.specs.Fits.{IsFitting}
use Rattle.call_board.specs.Views.{CallView, call_view, view_of, view_at_moment, call_numbered}
use Rattle.call_board.proofs.Found.{found_by_number}
use Rattle.relay_core.specs.Scripts.{Owed}
use Rattle.board_turns.specs.InCells.{in_cell_of}
use Rattle.board_turns.proofs.Tying.{NothingLeaves}

-- it is found by its number
pub is_numbered_so : (config : Config) (h : List BoardEntry) (moment : ℕ) (of : Call) (call : ℕ) → IsFitting config h → In of (live h) → of.number ≡ call
    → call_numbered (view_at_moment (view_of config h) moment) call ≡ Some (call_view h of)
is_numbered_so config h moment of call fits alive number =
    subst (λ (k : ℕ). call_numbered (view_of config h) k ≡ Some (call_view h of)) number (found_by_number config h of fits alive)

-- and this is its cell
pub cell_told : (config : Config) (h : List BoardEntry) (moment : ℕ) (of : Call) (call cell : ℕ) → IsFitting config h → In of (live h) → of.number ≡ call
    → option_map (λ (c : CallView). c.of.cell) (call_numbered (view_at_moment (view_of config h) moment) call) ≡ Some cell → cell ≡ of.cell
cell_told config h moment of call cell fits alive number log =
    let found = is_numbered_so config h moment of call fits alive number in
    let same : Some cell ≡ Some of.cell = sym log ∙ ap (option_map (λ (c : CallView). c.of.cell)) found in
    let k = same in cc

-- nothing leaves by a reading
pub nothing_read : (cell : ℕ) (all_reports : List LegReport) (owed : Owed) → In owed (in_cell_of cell (Read all_reports) ∷ []) → NothingLeaves owed.event
nothing_read cell all_reports owed (here q) = subst (λ (w : Owed). NothingLeaves w.event) (sym q) (record { closing = refl; parting = refl })
nothing_read cell all_reports owed (there i) = elim i [ ]

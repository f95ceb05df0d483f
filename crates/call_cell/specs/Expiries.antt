-- Whether a call is due to end, by what its cell keeps.
use Rattle.std.specs.Prelude.{◌≡◌, ◌+◌, ℕ, Bool, false, max, nat_le, List, ◌∷◌, is_some, if◌then◌else◌}
use Rattle.relay_outside.specs.declared.settings.Config.{Config}
use Rattle.call_cell.specs.declared.cell.Cell.{Cell}
use Rattle.call_cell.specs.Cells.{CellEntry, Expire}
use Rattle.call_cell.specs.Demands.{FitsCell}
use Rattle.call_cell.specs.CellHistories.{CellFor, cell_last_moment}

-- that moment is at least so long ago
abbrev pub is_ago : ℕ → ℕ → ℕ → Bool
is_ago now limit moment = nat_le (moment + limit) now

-- what the cell keeps says that its call is due
abbrev pub due_by : {O : Type 0} → Cell O → ℕ → Bool
due_by cell now =
    if cell.is_committed then is_ago now cell.config.timeout_ms cell.active
    else if is_some cell.call then is_ago now cell.config.offer_timeout_ms cell.began else false

abbrev pub expired_at : List CellEntry → ℕ → Bool → CellEntry
expired_at h now due = record { moment = max now (cell_last_moment h); event = Expire due }

abbrev pub with_moment : {O : Type 0} → Cell O → ℕ → Cell O
with_moment cell moment =
    record { config = cell.config; moment = moment; call = cell.call; began = cell.began; is_committed = cell.is_committed; active = cell.active; legs = cell.legs }

-- the call is asked whether it is due, after that history: the answer is the one that the history demands, and nothing changes but
-- the cell's last moment
pub record CellExpires {O : Type 0} (config : Config) (old new : Cell O) (h : List CellEntry) (now : ℕ) (due : Bool) : Type 0 where
  pub fits : FitsCell config h (expired_at h now due)
  pub stands : CellFor config new (expired_at h now due ∷ h)
  pub rest : new ≡ with_moment old new.moment

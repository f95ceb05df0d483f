-- For which histories a cell stands, and what a relay does to it.
use Rattle.std.specs.Prelude.{◌≡◌, ◌<◌, ℕ, max, List, [], ◌∷◌, map, filter, length, Option, Some, None, is_some, slice_index_or}
use Rattle.std.specs.List.{list_any}
use Rattle.relay_outside.specs.declared.settings.Config.{Config}
use Rattle.relay_outside.specs.declared.ports.OutCall.{OutCall}
use Rattle.relay_outside.specs.DeviceLogs.{EndLog}
use Rattle.histories.specs.Words.{greatest, first, final}
use Rattle.call_cell.specs.declared.outcome.Outcome.{Outcome}
use Rattle.call_cell.specs.declared.leg.Leg.{Leg}
use Rattle.call_cell.specs.declared.cell.Cell.{Cell}
use Rattle.call_cell.specs.Cells.{CellEntry, Receipt, call, since_end, prepared_call, key_numbered}
use Rattle.call_cell.specs.Protection.{protected}
use Rattle.call_cell.specs.Deeds.{deed, found, opposite_of, is_leaving}
use Rattle.call_cell.specs.Demands.{FitsCell, commits, is_activity}
use Rattle.call_cell.specs.LegHistories.{LegsStandFor, EndsFor, FrontIs, relay_entry, sent_ok}

-- the greatest moment of a history, at first 0
abbrev pub cell_last_moment : List CellEntry → ℕ
cell_last_moment h = greatest (map (λ (e : CellEntry). e.moment) h)

-- the entry, where there is one, was at this moment
abbrev pub WasAt : Option CellEntry → ℕ → Type 0
WasAt None moment = Unit {0}
WasAt (Some e) moment = e.moment ≡ moment

-- the cell stands for this history
pub record CellFor {O : Type 0} (config : Config) (cell : Cell O) (h : List CellEntry) : Type 0 where
  pub config_is : cell.config ≡ config
  pub moment : cell.moment ≡ cell_last_moment h
  pub call_is : cell.call ≡ call (since_end h)
  pub began : WasAt (final (filter (λ e. is_some (prepared_call e)) (since_end h))) cell.began
  pub is_committed : cell.is_committed ≡ list_any (λ e. commits e.event) (since_end h)
  pub active : WasAt (first (filter (λ e. is_activity e.event) (since_end h))) cell.active
  pub unnoted : (number : ℕ) → key_numbered (since_end h) number ≡ None → protected (since_end h) number ≡ []
  pub legs_for : LegsStandFor config (since_end h) cell.legs.items

-- the entry of a relay at that moment, with that outcome
abbrev pub relayed_at : Config → List CellEntry → Receipt → ℕ → Outcome → CellEntry
relayed_at config h p now result =
    relay_entry (max now (cell_last_moment h)) p (sent_ok result) (deed config (since_end h) p (sent_ok result))

-- a relay after that history: the new cell stands for it with the relay's entry, the outcome and the bytes are those of the
-- entry, and its one send is by the end of the opposite leg
pub record CellRelays {O : Type 0} (log : O → EndLog OutCall) (faults : O → ℕ) (config : Config) (old new : Cell O) (h : List CellEntry)
    (p : Receipt) (now : ℕ) (buf : List ℕ) (result : Outcome) : Type 0 where
  pub fits : FitsCell config h (relayed_at config h p now result)
  pub stands : CellFor config new (relayed_at config h p now result ∷ h)
  pub outcome : result ≡ (deed config (since_end h) p (sent_ok result)).outcome
  pub front : FrontIs result (deed config (since_end h) p (sent_ok result)).sending buf
  pub ends : (i : ℕ) (d : Leg O) → i < length old.legs.items
      → EndsFor log faults (is_leaving (opposite_of (since_end h) (found (since_end h) p)) (slice_index_or old.legs.items i d).holder)
      (deed config (since_end h) p (sent_ok result)).sending (sent_ok result) (slice_index_or old.legs.items i d).sending (slice_index_or new.legs.items i d).sending

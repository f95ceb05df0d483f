-- A packet that is due to be sent: it is sent, or its one send failed.
use Rattle.std.specs.Prelude.{◌≡◌, ℕ, Bool, true, List, length, Some}
use Rattle.relay_outside.specs.declared.address.Addr.{Addr}
use Rattle.relay_outside.specs.declared.settings.Config.{Config}
use Rattle.call_cell.specs.declared.outcome.LocalPort.{LocalPort}
use Rattle.call_cell.specs.Cells.{CellEntry, Receipt, Sending}
use Rattle.call_cell.specs.Deeds.{deed}
use Rattle.call_cell.specs.LegHistories.{local_port, send_outcome}

-- The relay of the packet makes one send, by this port, to this target and of that many bytes, whatever that answers. With either answer it notes
-- the same and protects under the same; its outcome is `Sent` where the send returned Ok, and `SendFault` of the same port where it failed
pub record IsSentOnce (config : Config) (h : List CellEntry) (p : Receipt) (from : LocalPort) (to : Addr) (len : ℕ) : Type 0 where
  pub sending : Sending
  pub from_is : local_port config sending.pair sending.half ≡ from
  pub to_is : sending.to ≡ to
  pub len_is : length sending.bytes ≡ len
  pub does : (ok : Bool) → deed config h p ok ≡ record (deed config h p true) { outcome = send_outcome from to len ok; sending = Some sending }

-- What a relay by a lane adds to the list of its hand.
use Rattle.std.specs.Prelude.{◌≡◌, ℕ, List, [], ◌∷◌, ◌++◌, take, max, Option, Some, None}
use Rattle.relay_outside.specs.declared.settings.Config.{Config}
use Rattle.relay_outside.specs.declared.ports.InCall.{InCall}
use Rattle.relay_outside.specs.declared.ports.OutCall.{OutCall}
use Rattle.relay_outside.specs.DeviceLogs.{EndLog}
use Rattle.turn_table.specs.declared.hands.Hand.{Hand}
use Rattle.turn_table.specs.Hands.{entries, TriedOnce, TriedUntilFree}
use Rattle.turn_table.specs.Steps.{entry}
use Rattle.call_cell.specs.declared.outcome.Outcome.{Outcome}
use Rattle.call_cell.specs.declared.outcome.Outcome.TheVariants as outcomes
use Rattle.call_cell.specs.declared.cell.Cell as cell
use Rattle.call_cell.specs.Cells as cells
use Rattle.call_cell.specs.Cells.{CellEntry, Sending, since_end}
use Rattle.call_cell.specs.CellHistories.{CellFor, CellRelays}
use Rattle.call_cell.specs.Deeds.{deed}
use Rattle.call_cell.specs.LegHistories.{sent_ok}
use Rattle.relay_core.specs.declared.part.Part.{Part}
use Rattle.relay_core.specs.declared.part.Part.TheVariants as part
use Rattle.relay_core.specs.Entries.{Cell}
use Rattle.relay_core.specs.Records.{Made, nothing_left, logged_relay}
use Rattle.relay_core.specs.Steps.{with_take, CellRelayed}
use Rattle.call_cell.specs.Shapes.{KeepsPorts, CountsRoseByOne, cell_shape}
use Rattle.media_lane.specs.declared.receipt.Receipt.{Receipt}
use Rattle.media_lane.specs.declared.answers.Relayed.{Relayed}
use Rattle.media_lane.specs.declared.answers.Relayed.TheVariants as answer
use Rattle.media_lane.specs.Lanes.{packet_of}
use Rattle.media_lane.specs.Busy.{Gives, FindsBusy}

-- a relay as the table records it
abbrev pub relay_made : cells.Receipt → ℕ → ℕ → Outcome → Made
relay_made p now moment outcome = record { handed = now; moment = moment; board = 0; returned = []; event = Cell (cells.Relay (logged_relay p outcome)); left = nothing_left; kept = None }

-- the last moment of a cell
abbrev pub cell_moment : {I O : Type 0} → Part I O → ℕ
cell_moment (part.Cell c) = c.moment
cell_moment _ = 0

-- the same at a place with this state: the moment is the greater of the one that was handed and the cell's last one
abbrev pub relay_by : {I O : Type 0} → Part I O → cells.Receipt → ℕ → Outcome → Made
relay_by x p now outcome = relay_made p now (max now (cell_moment x)) outcome

-- how many bytes left with this outcome
abbrev pub bytes_left : Outcome → ℕ
bytes_left (outcomes.Sent family port to len) = len
bytes_left (outcomes.Lost cause) = 0
bytes_left (outcomes.Refused cause) = 0

-- the bytes that left with it, where the packet's buffer holds these after
abbrev pub bytes_sent : Outcome → List ℕ → List ℕ
bytes_sent outcome buf = take (bytes_left outcome) buf

-- a relay of this packet in a cell, whichever number its take has, handed this moment, after which the buffer holds these bytes
abbrev pub RelaysPart : {I O : Type 0} → (O → EndLog OutCall) → (O → ℕ) → cells.Receipt → ℕ → Part I O → List ℕ → Outcome → Part I O → Type 0
RelaysPart log faults p now (part.Cell old) buf outcome (part.Cell new) =
    (cell_shape new ≡ cell_shape old) × CountsRoseByOne old.legs.items new.legs.items × KeepsPorts log old.legs.items new.legs.items
    × ((config : Config) (h : List CellEntry) (take : ℕ) → CellFor config old h → CellRelays log faults config old new h (with_take take p) now buf outcome)
RelaysPart log faults p now _ buf outcome _ = ⊥

-- the bytes that a relay sent: with Sent those of its one send, else none
abbrev pub AreSent : Outcome → Option Sending → List ℕ → Type 0
AreSent (outcomes.Sent family port to len) None bytes = ⊥
AreSent (outcomes.Sent family port to len) (Some w) bytes = bytes ≡ w.bytes
AreSent (outcomes.Lost cause) sending bytes = bytes ≡ []
AreSent (outcomes.Refused cause) sending bytes = bytes ≡ []

module _ {I O : Type 0} (in_told : I → EndLog InCall) (in_faults : I → ℕ) (out_told : O → EndLog OutCall) (out_faults : O → ℕ) {M : Type 0} {g : _} where
  -- The hand relayed this packet in its leg's cell, handed this moment, and did nothing else: a step from the state that its turn
  -- gave, which sent these bytes. It tried the marks of places in this way.
  pub record MakesRelay (Tried : Type 0) (p : cells.Receipt) (now : ℕ) (outcome : Outcome) (bytes : List ℕ) (old new : Hand M (Part I O) Made (Unit {0}) g) : Type 0 where
    pub number : ℕ
    pub moment : ℕ
    pub list_is : entries new ≡ entries old ++ entry p.holder.cell number (relay_made p now moment outcome) tt ∷ []
    pub found : Tried
    pub before : cell.Cell O
    pub after : cell.Cell O
    pub given : Gives in_told in_faults out_told out_faults old p.holder.cell number (part.Cell before)
    pub step : CellRelayed out_told out_faults before (relay_made p now moment outcome) (logged_relay p outcome) after
    pub are_sent : (config : Config) (h : List CellEntry) → CellFor config before h
        → AreSent outcome (deed config (since_end h) p (sent_ok outcome)).sending bytes

  -- it relayed with this result, and the one compare-exchange of the cell's mark found it free
  abbrev pub Relays : cells.Receipt → ℕ → Outcome → List ℕ → Hand M (Part I O) Made (Unit {0}) g → Hand M (Part I O) Made (Unit {0}) g → Type 0
  Relays p now outcome bytes old new = MakesRelay (TriedOnce p.holder.cell 0 old new) p now outcome bytes old new

  -- it relayed with this result, and tried the cell's mark until it was free
  abbrev pub RelaysAtLast : cells.Receipt → ℕ → Outcome → List ℕ → Hand M (Part I O) Made (Unit {0}) g → Hand M (Part I O) Made (Unit {0}) g → Type 0
  RelaysAtLast p now outcome bytes old new = MakesRelay (TriedUntilFree p.holder.cell old new) p now outcome bytes old new

  -- the packet of the receipt was relayed, or the cell was busy, and the receipt comes back unspent
  abbrev pub RelaysByResult : Receipt → ℕ → Relayed → List ℕ → List ℕ → Hand M (Part I O) Made (Unit {0}) g → Hand M (Part I O) Made (Unit {0}) g → Type 0
  RelaysByResult r now (answer.Done outcome) was bytes old new = Relays (packet_of r) now outcome bytes old new
  RelaysByResult r now (answer.Busy front back) was bytes old new =
      FindsBusy in_told in_faults out_told out_faults (packet_of r).holder.cell front old new × (back ≡ r) × (bytes ≡ was)

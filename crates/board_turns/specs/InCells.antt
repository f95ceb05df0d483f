-- What a nested step does to a cell.
use Rattle.std.specs.Prelude.{◌≡◌, ◌≤◌, ℕ, Bool, List, ◌⊎◌}
use Rattle.relay_outside.specs.declared.settings.Config.{Config}
use Rattle.relay_outside.specs.declared.ports.InCall.{InCall}
use Rattle.relay_outside.specs.declared.ports.OutCall.{OutCall}
use Rattle.relay_outside.specs.DeviceLogs.{EndLog}
use Rattle.turn_table.specs.declared.hands.Hand.{Hand}
use Rattle.port_pool.specs.declared.pairs.Lease.{Lease}
use Rattle.turn_table.specs.Hands.{IsGiven}
use Rattle.port_pool.specs.declared.signal.SectionSignal.{SectionSignal}
use Rattle.port_pool.specs.Signals.{NewKey}
use Rattle.call_cell.specs.declared.cell.Cell as cell
use Rattle.call_cell.specs.declared.prepare.Prepare as prepared
use Rattle.call_cell.specs.Cells.{CellEvent, CellEntry, Prepare, since_end}
use Rattle.port_pool.specs.declared.holder.Holder.{Holder}
use Rattle.port_pool.specs.declared.reports.LegReport.{LegReport}
use Rattle.call_cell.specs.Preparations.{PrepareFor, CanCome, CellPrepares}
use Rattle.call_cell.specs.Commits.{NamesKeys, CellCommits, contexts_due_after, inbound_keys}
use Rattle.call_cell.specs.CellHistories.{CellFor}
use Rattle.call_cell.specs.CellEnds.{CellEnds}
use Rattle.call_cell.specs.Expiries.{CellExpires}
use Rattle.call_cell.specs.Demands.{CountsBelow}
use Rattle.call_cell.specs.LegReports.{CellReads}
use Rattle.relay_core.specs.declared.part.Part.{Part}
use Rattle.relay_core.specs.declared.part.Part.TheVariants as part
use Rattle.relay_core.specs.Entries.{Cell, Entry, cell_history}
use Rattle.relay_core.specs.Scripts.{Owed}
use Rattle.relay_core.specs.Records.{Made}
use Rattle.relay_core.specs.PlaceHistories.{BringsNewKeys, nested_of}
use Rattle.relay_core.specs.Steps.{Relates, IsReserved, AreOpened}
use Rattle.relay_core.specs.Turns.{IsAbove, made_by}

-- an event of a cell
abbrev pub in_cell_of : ℕ → CellEvent → Owed
in_cell_of cell event = record { place = cell; event = Cell event }

-- what an offer is to a cell
abbrev pub preparing : (call : ℕ) → List Holder → List NewKey → (dropped : List ℕ) → CellEvent
preparing call legs keys dropped = Prepare call legs keys dropped

-- by the list, each key that an offer brought to the cell had a new number
abbrev pub HasNewKeys : List Entry → ℕ → Type 0
HasNewKeys l cell = (n : ℕ) → IsAbove l cell n → BringsNewKeys (cell_history l cell n)

-- by the list, what an offer brings can come to the cell
abbrev pub CanPrepare : {O : Type 0} → Config → List Entry → ℕ → prepared.Prepare O → ℕ → List NewKey → List ℕ → Type 0
CanPrepare config l cell signal call keys dropped = (n : ℕ) → IsAbove l cell n → CanCome config (since_end (cell_history l cell n)) signal call keys dropped

-- by the list, what an answer names are keys of the cell's legs
abbrev pub CanCommit : List Entry → ℕ → List SectionSignal → Type 0
CanCommit l cell signal = (n : ℕ) → IsAbove l cell n → NamesKeys (since_end (cell_history l cell n)) signal

-- by the list, the answer makes no more inbound contexts than there is room for
abbrev pub HasRoomForContexts : List Entry → ℕ → List SectionSignal → ℕ → Type 0
HasRoomForContexts l cell signal contexts = (n : ℕ) → IsAbove l cell n → contexts_due_after (since_end (cell_history l cell n)) signal ≤ contexts

-- or for as many as it names inbound keys, which are no fewer
abbrev pub HasSpace : List Entry → ℕ → List SectionSignal → ℕ → Type 0
HasSpace l cell signal contexts = HasRoomForContexts l cell signal contexts ⊎ (inbound_keys signal ≤ contexts)

-- the cell stands for a history after which the offer can come
pub record OfferComes {O : Type 0} (cell : cell.Cell O) (signal : prepared.Prepare O) (call : ℕ) (keys : List NewKey) (dropped : List ℕ) : Type 0 where
  pub config : Config
  pub history : List CellEntry
  pub stands : CellFor config cell history
  pub tells : PrepareFor signal keys dropped
  pub comes : CanCome config (since_end history) signal call keys dropped

-- the cell stands for a history of whose keys the answer names, and there is room for its inbound contexts
pub record AnswerComes {O : Type 0} (cell : cell.Cell O) (signal : List SectionSignal) (contexts : ℕ) : Type 0 where
  pub config : Config
  pub history : List CellEntry
  pub stands : CellFor config cell history
  pub names : NamesKeys (since_end history) signal
  pub room : contexts_due_after (since_end history) signal ≤ contexts

-- the cell stands for a history whose counts are below 2 ^ 63
pub record CountsStand {O : Type 0} (cell : cell.Cell O) : Type 0 where
  pub config : Config
  pub history : List CellEntry
  pub stands : CellFor config cell history
  pub below : CountsBelow (since_end history)

module _ {I O : Type 0} where
  abbrev pub TakesOffer : Part I O → prepared.Prepare O → ℕ → List NewKey → List ℕ → Type 0
  TakesOffer (part.Cell cell) signal call keys dropped = OfferComes cell signal call keys dropped
  TakesOffer _ signal call keys dropped = ⊥

  -- what the offer adds has the out ends that were opened for it by the cell's configuration, and not called since
  abbrev pub OpenedFor : (O → EndLog OutCall) → Part I O → prepared.Prepare O → Type 0
  OpenedFor log (part.Cell cell) signal = AreOpened log cell.config signal
  OpenedFor log _ signal = ⊥

  abbrev pub TakesAnswer : Part I O → List SectionSignal → ℕ → Type 0
  TakesAnswer (part.Cell cell) signal contexts = AnswerComes cell signal contexts
  TakesAnswer _ signal contexts = ⊥

  abbrev pub TakesReading : Part I O → Type 0
  TakesReading (part.Cell cell) = CountsStand cell
  TakesReading _ = ⊥

  -- the last moment of a cell
  abbrev pub moment_of_cell : Part I O → ℕ
  moment_of_cell (part.Cell cell) = cell.moment
  moment_of_cell _ = 0

  -- the call of the cell ended, whatever history the cell stands for, and these legs went
  abbrev pub EndsPart : Part I O → Part I O → List (Lease × O × O) → Type 0
  EndsPart (part.Cell old) (part.Cell new) gone = (config : Config) (h : List CellEntry) → CellFor config old h → CellEnds config old new h gone
  EndsPart _ new gone = ⊥

  -- the cell was asked at that moment whether its call is due
  abbrev pub ExpiresPart : Part I O → Part I O → ℕ → Bool → Type 0
  ExpiresPart (part.Cell old) (part.Cell new) now due = (config : Config) (h : List CellEntry) → CellFor config old h → CellExpires config old new h now due
  ExpiresPart _ new now due = ⊥

  -- the cell told this of its legs
  abbrev pub ReadsPart : Part I O → List LegReport → Type 0
  ReadsPart (part.Cell cell) log = (config : Config) (h : List CellEntry) → CellFor config cell h → CellReads config cell h log
  ReadsPart _ log = ⊥

  -- the cell took the offer at that moment, and these legs went
  abbrev pub PreparesPart : Part I O → Part I O → prepared.Prepare O → ℕ → List NewKey → List ℕ → ℕ → List (Lease × O × O) → Type 0
  PreparesPart (part.Cell old) (part.Cell new) signal call keys dropped now gone = (config : Config) (h : List CellEntry) → CellFor config old h
      → CanCome config (since_end h) signal call keys dropped → CellPrepares config old new h signal call keys dropped now gone
  PreparesPart _ new signal call keys dropped now gone = ⊥

  -- the cell took the answer at that moment, and these legs went
  abbrev pub CommitsPart : Part I O → Part I O → List SectionSignal → ℕ → List (Lease × O × O) → Type 0
  CommitsPart (part.Cell old) (part.Cell new) signal now gone = (config : Config) (h : List CellEntry) → CellFor config old h
      → NamesKeys (since_end h) signal → CellCommits config old new h signal now gone
  CommitsPart _ new signal now gone = ⊥

module _ {I O : Type 0} (in_told : I → EndLog InCall) (in_faults : I → ℕ) (out_told : O → EndLog OutCall) (out_faults : O → ℕ) where
  -- The cell that the hand's turn gave. It stands for a history, of which the hand's list has all but the relays
  pub record IsCellAt {M T : Type 0} {g : _} (config : Config) (hand : Hand M (Part I O) Made T g) (place : ℕ) (cell : cell.Cell O) (history : List CellEntry) : Type 0 where
    pub number : ℕ
    pub given : IsGiven (λ (a : Part I O) (m : Made) (o : T) (b : Part I O). Relates in_told in_faults out_told out_faults a m b) IsReserved hand place number (part.Cell cell)
    pub nested_is : nested_of history ≡ nested_of (cell_history (made_by hand) place number)
    pub stands : CellFor config cell history

  -- the call of the cell ended, and these legs went
  pub record Ends {M T : Type 0} {g : _} (config : Config) (hand : Hand M (Part I O) Made T g) (place : ℕ) (gone : List (Lease × O × O)) : Type 0 where
    pub old : cell.Cell O
    pub new : cell.Cell O
    pub history : List CellEntry
    pub was : IsCellAt config hand place old history
    pub ends : CellEnds config old new history gone

  -- the cell was asked at that moment whether its call is due, and this is the answer
  pub record Expires {M T : Type 0} {g : _} (config : Config) (hand : Hand M (Part I O) Made T g) (place now : ℕ) (due : Bool) : Type 0 where
    pub old : cell.Cell O
    pub new : cell.Cell O
    pub history : List CellEntry
    pub was : IsCellAt config hand place old history
    pub expires : CellExpires config old new history now due

  -- the cell told this of its legs
  pub record Reads {M T : Type 0} {g : _} (config : Config) (hand : Hand M (Part I O) Made T g) (place : ℕ) (all_reports : List LegReport) : Type 0 where
    pub cell : cell.Cell O
    pub history : List CellEntry
    pub was : IsCellAt config hand place cell history
    pub reads : CellReads config cell history all_reports

  -- the cell took the offer at that moment, and these legs went
  pub record Prepares {M T : Type 0} {g : _} (config : Config) (hand : Hand M (Part I O) Made T g) (place : ℕ) (signal : prepared.Prepare O) (call : ℕ) (keys : List NewKey)
      (dropped : List ℕ) (now : ℕ) (gone : List (Lease × O × O)) : Type 0 where
    pub old : cell.Cell O
    pub new : cell.Cell O
    pub history : List CellEntry
    pub was : IsCellAt config hand place old history
    pub prepares : CellPrepares config old new history signal call keys dropped now gone

  -- the cell took the answer at that moment, and these legs went
  pub record Commits {M T : Type 0} {g : _} (config : Config) (hand : Hand M (Part I O) Made T g) (place : ℕ) (signal : List SectionSignal) (now : ℕ)
      (gone : List (Lease × O × O)) : Type 0 where
    pub old : cell.Cell O
    pub new : cell.Cell O
    pub history : List CellEntry
    pub was : IsCellAt config hand place old history
    pub commits : CellCommits config old new history signal now gone

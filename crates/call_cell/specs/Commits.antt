-- What an answer's commit does to a leg, to the legs of a cell, and to the cell.
use Rattle.std.specs.Prelude.{◌≡◌, ◌<◌, ◌+◌, ◌&&◌, not, ℕ, Bool, false, max, List, [], ◌∷◌, map, filter, filter_map, count_by, length, Option, Some, None, option_map, is_some, slice_index_or, if◌then◌else◌}
use Rattle.relay_outside.specs.declared.address.Addr.{Addr}
use Rattle.relay_outside.specs.declared.settings.Config.{Config}
use Rattle.rtp_packet.specs.declared.head.Half.{Half}
use Rattle.srtp_sources.specs.Notes.{Note}
use Rattle.histories.specs.Words.{In}
use Rattle.port_pool.specs.declared.pairs.Lease.{Lease}
use Rattle.port_pool.specs.declared.holder.Holder.{Holder}
use Rattle.port_pool.specs.declared.holder.Side.{Side}
use Rattle.port_pool.specs.declared.holder.Side.TheVariants.{A, B}
use Rattle.port_pool.specs.declared.signal.LegSignal.{LegSignal}
use Rattle.port_pool.specs.declared.signal.SectionSignal.{SectionSignal}
use Rattle.port_pool.specs.Signals.{NewKey, side_of, signal_at, is_rejected}
use Rattle.endpoint_learn.specs.Lessons.{is_new}
use Rattle.call_cell.specs.declared.receiver.Receiving.{Receiving}
use Rattle.call_cell.specs.declared.leg.Leg.{Leg}
use Rattle.call_cell.specs.declared.cell.Cell.{Cell}
use Rattle.call_cell.specs.Cells.{CellEntry, Commit, differs, in_force, legs}
use Rattle.call_cell.specs.Lessons.{address, signalling}
use Rattle.call_cell.specs.Protection.{same_inbound}
use Rattle.call_cell.specs.Demands.{FitsCell}
use Rattle.call_cell.specs.LegKeys.{keys_for}
use Rattle.call_cell.specs.Parts.{ReceivingFor}
use Rattle.call_cell.specs.CellHistories.{CellFor, cell_last_moment}
use Rattle.call_cell.specs.CellEnds.{parts_of}

-- A leg.

-- what is learned of a half starts over where the half's address changed
abbrev pub relearned : Option LegSignal → LegSignal → Half → Option Addr → Option Addr
relearned earlier s half known = if is_new (address half s) (option_map (signalling half) earlier) then None else known

-- the notes under the inbound key start over where the key or its suite changed
abbrev pub renoted : Option LegSignal → LegSignal → List Note → List Note
renoted earlier s notes = if differs same_inbound (Some s) earlier then [] else notes

-- a commit names an inbound key or suite other than the one in force
abbrev pub is_inbound_anew : Option LegSignal → LegSignal → Bool
is_inbound_anew earlier s = differs same_inbound (Some s) earlier && is_some s.inbound

abbrev pub with_commit : {O : Type 0} → Leg O → LegSignal → Receiving → Leg O
with_commit leg s receiving = record {
  holder = leg.holder;
  lease = leg.lease;
  signal = Some s;
  receiving = receiving;
  sending = leg.sending;
  counts = leg.counts;
  report = leg.report;
}

-- the leg is committed: it has its keys, ends, counts and last report block as before
pub record LegCommits {O : Type 0} (s : LegSignal) (old new : Leg O) : Type 0 where
  pub receiving : (known : Half → Option Addr) (notes : List Note) → ReceivingFor old.signal old.receiving known notes
      → ReceivingFor (Some s) new.receiving (λ half. relearned old.signal s half (known half)) (renoted old.signal s notes)
  pub rest : new ≡ with_commit old s new.receiving

-- a leg of which nothing is said is as before
abbrev pub LegCommitsBy : {O : Type 0} → Option LegSignal → Leg O → Leg O → Type 0
LegCommitsBy None old new = new ≡ old
LegCommitsBy (Some s) old new = LegCommits s old new

-- The legs.

-- what the signal says of the leg
abbrev pub said_of : List SectionSignal → Holder → Option LegSignal
said_of signal leg = signal_at signal leg.section leg.side

abbrev pub needs_inbound : Option LegSignal → Option LegSignal → Bool
needs_inbound earlier None = false
needs_inbound earlier (Some s) = is_inbound_anew earlier s

abbrev pub needs_contexts : {O : Type 0} → List SectionSignal → Leg O → Bool
needs_contexts signal leg = needs_inbound leg.signal (said_of signal leg.holder)

-- how many inbound contexts the signal makes
abbrev pub contexts_due : {O : Type 0} → List SectionSignal → List (Leg O) → ℕ
contexts_due {O} signal those = count_by (λ (leg : Leg O). needs_contexts signal leg) those

-- how many the history says
abbrev pub contexts_due_after : List CellEntry → List SectionSignal → ℕ
contexts_due_after h signal = count_by (λ leg. needs_inbound (in_force h leg) (said_of signal leg)) (legs h)

-- what is committed for a leg names an inbound key
abbrev pub has_inbound : Option LegSignal → Bool
has_inbound None = false
has_inbound (Some s) = is_some s.inbound

-- in how many sections the signal names an inbound key for the leg of that side
abbrev pub keys_of_side : Side → List SectionSignal → ℕ
keys_of_side side signal = count_by (λ (section : SectionSignal). has_inbound (side_of side section)) signal

-- how many inbound keys the signal names, in force or not
abbrev pub inbound_keys : List SectionSignal → ℕ
inbound_keys signal = keys_of_side A signal + keys_of_side B signal

-- each leg is committed as the signal says
abbrev pub LegsCommit : {O : Type 0} → List SectionSignal → List (Leg O) → List (Leg O) → Type 0
LegsCommit {O} signal old new = (i : ℕ) (d : Leg O) → i < length old
    → LegCommitsBy (said_of signal (slice_index_or old i d).holder) (slice_index_or old i d) (slice_index_or new i d)

-- The cell.

abbrev pub outbound_in : Option LegSignal → Option ℕ
outbound_in None = None
outbound_in (Some s) = s.outbound

-- the leg has the key of this number
pub record HasKey (h : List CellEntry) (leg : Holder) (number : ℕ) : Type 0 where
  pub key : NewKey
  pub is_there : In key (keys_for h leg)
  pub number_is : key.number ≡ number

-- each outbound number of the signal is that of a key that its leg has
abbrev pub NamesKeys : List CellEntry → List SectionSignal → Type 0
NamesKeys h signal = (leg : Holder) (number : ℕ) → In leg (legs h) → outbound_in (said_of signal leg) ≡ Some number → HasKey h leg number

abbrev pub committed_at : List CellEntry → List SectionSignal → ℕ → CellEntry
committed_at h signal now = record { moment = max now (cell_last_moment h); event = Commit signal }

abbrev pub goes_by : {O : Type 0} → List SectionSignal → Leg O → Bool
goes_by signal leg = is_rejected signal leg.holder.section

abbrev pub stays_by : {O : Type 0} → List SectionSignal → Leg O → Bool
stays_by signal leg = not (goes_by signal leg)

-- a commit after that history: the cell stands for it with the commit, and the legs of rejected sections went, in lease order;
-- leases and ends are as they were
pub record CellCommits {O : Type 0} (config : Config) (old new : Cell O) (h : List CellEntry) (signal : List SectionSignal) (now : ℕ)
    (gone : List (Lease × O × O)) : Type 0 where
  pub fits : FitsCell config h (committed_at h signal now)
  pub stands : CellFor config new (committed_at h signal now ∷ h)
  pub went : gone ≡ filter_map (λ (leg : Leg O). parts_of leg) (filter (λ (leg : Leg O). goes_by signal leg) old.legs.items)
  pub stay : map (λ (leg : Leg O). parts_of leg) new.legs.items
      ≡ map (λ (leg : Leg O). parts_of leg) (filter (λ (leg : Leg O). stays_by signal leg) old.legs.items)

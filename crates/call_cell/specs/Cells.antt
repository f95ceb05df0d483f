-- The history of one call cell, latest first; its call, its legs, and what is in force on them. Each question but `since_end`
-- is asked of the entries since the last End.
use Rattle.std.specs.Prelude.{ℕ, Bool, true, false, not, ◌&&◌, ◌==◌, List, [], ◌∷◌, ◌++◌, Option, Some, None, filter, filter_map, if◌then◌else◌}
use Rattle.std.specs.List.{list_any}
use Rattle.relay_outside.specs.declared.address.Addr.{Addr}
use Rattle.rtp_packet.specs.declared.head.Half.{Half}
use Rattle.srtp_sources.specs.Notes.{Note}
use Rattle.histories.specs.Words.{first, final, until, has}
use Rattle.port_pool.specs.declared.holder.Holder.{Holder}
use Rattle.port_pool.specs.declared.signal.LegSignal.{LegSignal}
use Rattle.port_pool.specs.declared.signal.SectionSignal.{SectionSignal}
use Rattle.port_pool.specs.Signals.{same_leg, side_eq, NewKey, is_rejected, signal_at}
use Rattle.port_pool.specs.declared.reports.LegReport.{LegReport}
use Rattle.call_cell.specs.declared.outcome.Outcome.{Outcome}
use Rattle.call_cell.specs.declared.outcome.Outcome.TheVariants as outcomes

-- a datagram that was taken: by which take of which box, and for whom
pub record Receipt : Type 0 where
  pub take : ℕ
  pub half : Half
  pub source : Addr
  pub bytes : List ℕ
  pub holder : Holder

-- that for which no two packets may be protected: a key, and the half, source and index of the packet
pub record Shield : Type 0 where
  pub key : ℕ
  pub note : Note

-- one send of an out end: of which pair and half, to where, and what
pub record Sending : Type 0 where
  pub pair : ℕ
  pub half : Half
  pub to : Addr
  pub bytes : List ℕ

-- what a relay did: its outcome, what it noted under the leg's inbound key, under what it protected, and its one send
pub record Deed : Type 0 where
  pub outcome : Outcome
  pub kind : Half
  pub noted : Option Note
  pub shield : Option Shield
  pub sending : Option Sending

-- a relay: the packet, whether a send returned Ok, and what it did
pub record Relayed : Type 0 where
  pub packet : Receipt
  pub sent_ok : Bool
  pub deed : Deed

pub data CellEvent : Type 0 where
  Prepare : (call : ℕ) → (legs : List Holder) → (keys : List NewKey) → (dropped : List ℕ) → CellEvent
  Commit : List SectionSignal → CellEvent
  Relay : Relayed → CellEvent
  Expire : (due : Bool) → CellEvent
  Read : List LegReport → CellEvent
  End : CellEvent

pub record CellEntry : Type 0 where
  pub moment : ℕ
  pub event : CellEvent

-- The call.

abbrev pub ends : CellEvent → Bool
ends End = true
ends _ = false

abbrev pub is_end : CellEntry → Bool
is_end e = ends e.event

-- the entries since the last End
abbrev pub since_end : List CellEntry → List CellEntry
since_end h = until is_end h

abbrev pub call_prepared : CellEvent → Option ℕ
call_prepared (Prepare call legs keys dropped) = Some call
call_prepared _ = None

abbrev pub prepared_call : CellEntry → Option ℕ
prepared_call e = call_prepared e.event

-- the call of the first Prepare
abbrev pub call : List CellEntry → Option ℕ
call h = final (filter_map prepared_call h)

-- The legs.

abbrev pub legs_of : CellEvent → List Holder
legs_of (Prepare call legs keys dropped) = legs
legs_of _ = []

-- the event takes the section's legs away
abbrev pub takes_away : CellEvent → ℕ → Bool
takes_away (Prepare call legs keys dropped) section = has dropped section
takes_away (Commit signal) section = is_rejected signal section
takes_away _ section = false

-- the legs that were added, in lease order, without those of sections that an offer dropped or an answer rejected later
abbrev pub legs : List CellEntry → List Holder
legs [] = []
legs (e ∷ h) = filter (λ leg. not (takes_away e.event leg.section)) (legs h) ++ legs_of e.event

-- the leg of the same section on the other side
abbrev pub is_opposite : Holder → Holder → Bool
is_opposite leg other = (other.section == leg.section) && not (side_eq other.side leg.side)

abbrev pub opposite : List CellEntry → Holder → Option Holder
opposite h leg = first (filter (is_opposite leg) (legs h))

-- What is in force.

-- the entries after the one that added the leg
abbrev pub life : List CellEntry → Holder → List CellEntry
life h leg = until (λ e. list_any (same_leg leg) (legs_of e.event)) h

-- what a commit says of the leg
abbrev pub commits_for : Holder → CellEvent → Option LegSignal
commits_for leg (Commit signal) = signal_at signal leg.section leg.side
commits_for leg _ = None

abbrev pub committed : Holder → CellEntry → Option LegSignal
committed leg e = commits_for leg e.event

-- what the last commit of the leg says of it
abbrev pub in_force : List CellEntry → Holder → Option LegSignal
in_force h leg = first (filter_map (committed leg) (life h leg))

-- both are there, and the later one says something else than the earlier one; or the later one is the first
abbrev pub differs : (LegSignal → LegSignal → Bool) → Option LegSignal → Option LegSignal → Bool
differs same None earlier = false
differs same (Some later) None = true
differs same (Some later) (Some earlier) = not (same earlier later)

-- the entry is a commit of the leg that says something else than the one before it, or is its first
abbrev pub changes : (LegSignal → LegSignal → Bool) → Holder → CellEntry → List CellEntry → Bool
changes same leg e h = differs same (committed leg e) (first (filter_map (committed leg) h))

-- the entries since the last commit of the leg that said something else
abbrev pub since_change : (LegSignal → LegSignal → Bool) → Holder → List CellEntry → List CellEntry
since_change same leg [] = []
since_change same leg (e ∷ h) = if changes same leg e h then [] else e ∷ since_change same leg h

-- The relays.

abbrev pub is_accepted : Outcome → Bool
is_accepted (outcomes.Refused cause) = false
is_accepted (outcomes.Lost cause) = true
is_accepted (outcomes.Sent family port to len) = true

abbrev pub relay_in : CellEvent → Option Relayed
relay_in (Relay r) = Some r
relay_in _ = None

abbrev pub relayed : CellEntry → Option Relayed
relayed e = relay_in e.event

-- the accepted packets of a leg, in these entries
abbrev pub accepted_of : List CellEntry → Holder → List Relayed
accepted_of h leg = filter (λ r. same_leg leg r.packet.holder && is_accepted r.deed.outcome) (filter_map relayed h)

-- The keys.

abbrev pub keys_of : CellEvent → List NewKey
keys_of (Prepare call legs keys dropped) = keys
keys_of _ = []

abbrev pub keys_in : List CellEntry → List NewKey
keys_in [] = []
keys_in (e ∷ h) = keys_of e.event ++ keys_in h

-- the key of this number, among those that the cell got
abbrev pub key_numbered : List CellEntry → ℕ → Option NewKey
key_numbered h number = first (filter (λ key. key.number == number) (keys_in h))

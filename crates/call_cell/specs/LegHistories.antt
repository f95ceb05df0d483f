-- For which histories a cell stands, and what a relay does to it.
use Rattle.std.specs.Prelude.{◌≡◌, ◌<◌, ◌+◌, ℕ, Bool, true, false, min, List, ◌∷◌, map, take, length, Option, Some, None, Result, Ok, Err, slice_index_or}
use Rattle.std.specs.List.{cons_option}
use Rattle.relay_outside.specs.declared.address.Addr.{Addr}
use Rattle.relay_outside.specs.declared.settings.Config.{Config}
use Rattle.relay_outside.specs.declared.ports.OutCall.{OutCall}
use Rattle.relay_outside.specs.DeviceLogs.{EndLog}
use Rattle.rtp_packet.specs.declared.head.Half.{Half}
use Rattle.rtp_packet.specs.declared.head.Half.TheVariants.{Rtp, Rtcp}
use Rattle.sdes_lines.specs.declared.crypto_line.Suite.{Suite}
use Rattle.srtp_sources.specs.Notes.{Note}
use Rattle.histories.specs.Words.{or_else}
use Rattle.port_pool.specs.Ports.{pair_family, half_port}
use Rattle.port_pool.specs.declared.pairs.Lease.{Lease}
use Rattle.port_pool.specs.declared.signal.LegSignal.{LegSignal}
use Rattle.port_pool.specs.Signals.{NewKey, same_leg}
use Rattle.endpoint_learn.specs.declared.learner.Learner.{Learner}
use Rattle.call_cell.specs.declared.outcome.Incoming.{Incoming}
use Rattle.call_cell.specs.declared.outcome.LocalPort.{LocalPort}
use Rattle.call_cell.specs.declared.heads.PlainPacket.{PlainPacket}
use Rattle.call_cell.specs.declared.outcome.Refused.{Refused}
use Rattle.call_cell.specs.declared.outcome.Lost.{Lost}
use Rattle.call_cell.specs.declared.outcome.Lost.TheVariants as lost
use Rattle.call_cell.specs.declared.outcome.Outcome.{Outcome}
use Rattle.call_cell.specs.declared.outcome.Outcome.TheVariants as outcomes
use Rattle.call_cell.specs.declared.receiver.Receiving.{Receiving}
use Rattle.call_cell.specs.declared.sender.Sending as parts
use Rattle.call_cell.specs.declared.leg.Leg.{Leg}
use Rattle.call_cell.specs.Cells.{CellEntry, Receipt, Shield, Sending, Deed, Relay, legs, in_force, key_numbered}
use Rattle.call_cell.specs.Protection.{accepted, protected, Judged, Stopped, Passed, Departure, Held, Leaves}
use Rattle.call_cell.specs.Lessons.{learned}
use Rattle.call_cell.specs.Deeds.{deed, found, opposite_of, is_leaving}
use Rattle.call_cell.specs.Blocks.{block_in, last_report}
use Rattle.call_cell.specs.Counts.{IsCounted, more_accepted, more_sent}
use Rattle.call_cell.specs.Contexts.{ContextsRefuse}
use Rattle.call_cell.specs.LegKeys.{keys_for, key_number_for, OnePerSuite}
use Rattle.call_cell.specs.Parts.{ReceivingFor, endpoint_of, SendingFor, HasIt, SendsBy, IsOf, taught_half, noted_under, wrapped_for, key_number_in, contexts_of}

-- A leg.

abbrev pub outbound_of : Option LegSignal → Option ℕ
outbound_of None = None
outbound_of (Some s) = s.outbound

-- the port of a half, by the even port of the pair
abbrev pub port_by : Half → ℕ → ℕ
port_by Rtp port = port
port_by Rtcp port = min (port + 1) 65535

-- the local port of a half of a leased pair
abbrev pub leased_port : Half → Lease → LocalPort
leased_port half lease = record { family = lease.family; port = port_by half lease.rtp_port }

-- the local port of a half of a pair
abbrev pub local_port : Config → ℕ → Half → LocalPort
local_port config pair half = record { family = pair_family config pair; port = half_port config pair half }

-- a packet of a kind was accepted
abbrev pub with_receiving : {O : Type 0} → Half → (plain : List ℕ) → Leg O → Receiving → Leg O
with_receiving kind plain leg receiving = record {
  holder = leg.holder;
  lease = leg.lease;
  signal = leg.signal;
  receiving = receiving;
  sending = leg.sending;
  counts = more_accepted kind leg.counts;
  report = or_else (block_in kind plain) leg.report;
}

abbrev pub with_sending : {O : Type 0} → Leg O → parts.Sending O → Leg O
with_sending leg sending = record {
  holder = leg.holder;
  lease = leg.lease;
  signal = leg.signal;
  receiving = leg.receiving;
  sending = sending;
  counts = leg.counts;
  report = leg.report;
}

-- a packet of a half left, and its send had this result
abbrev pub with_send : {O : Type 0} → Half → Bool → Leg O → parts.Sending O → Leg O
with_send half ok leg sending = record {
  holder = leg.holder;
  lease = leg.lease;
  signal = leg.signal;
  receiving = leg.receiving;
  sending = sending;
  counts = more_sent half ok leg.counts;
  report = leg.report;
}

-- a packet of a kind was accepted by a half, from a source, of a leg that an answer has committed
pub record LegTakes {O : Type 0} (half kind : Half) (source : Addr) (known : Half → Option Addr) (notes : List Note) (noted : Option Note)
    (plain : List ℕ) (old new : Leg O) (buf : List ℕ) (result : Result ℕ Refused) : Type 0 where
  pub answer : result ≡ Ok (length plain)
  pub buffer : take (length plain) buf ≡ plain
  pub signal : LegSignal
  pub in_force : old.signal ≡ Some signal
  pub receiving : ReceivingFor (Some signal) new.receiving (taught_half half signal.flags source known) (cons_option noted notes)
  pub rest : new ≡ with_receiving kind plain old new.receiving

-- how long the plain packet is
abbrev pub length_in : Result PlainPacket Refused → Result ℕ Refused
length_in (Ok plain) = Ok plain.len
length_in (Err cause) = Err cause

abbrev pub LegAccepts : {O : Type 0} → Judged → Half → Half → Addr → (Half → Option Addr) → List Note → Leg O → Leg O → List ℕ → Result ℕ Refused → Type 0
LegAccepts (Stopped cause) half kind source known notes old new buf result = ContextsRefuse cause old new result
LegAccepts (Passed noted plain) half kind source known notes old new buf result = LegTakes half kind source known notes noted plain old new buf result

-- whether the one send of a relay, if it made one, returned Ok
abbrev pub sent_ok : Outcome → Bool
sent_ok (outcomes.Lost (lost.SendFault family port)) = false
sent_ok _ = true

-- the outcome of a send by a local port
abbrev pub send_outcome : LocalPort → Addr → ℕ → Bool → Outcome
send_outcome from to size true = outcomes.Sent from.family from.port to size
send_outcome from to size false = outcomes.Lost (lost.SendFault from.family from.port)

abbrev pub outcome_of : LocalPort → Addr → Result ℕ Lost → Outcome
outcome_of from to (Ok len) = outcomes.Sent from.family from.port to len
outcome_of from to (Err cause) = outcomes.Lost cause

-- nothing leaves, and the leg is as before
pub record LegKeeps {O : Type 0} (cause : Lost) (old new : Leg O) (result : Outcome) : Type 0 where
  pub answer : result ≡ outcomes.Lost cause
  pub leg : new ≡ old

-- a packet leaves by the leg's end of the half
pub record LegSends {O : Type 0} (log : O → EndLog OutCall) (faults : O → ℕ) (keys : ℕ → Option NewKey) (notes : ℕ → List Note)
    (shield : Option Shield) (bytes : List ℕ) (half : Half) (to : Addr) (old new : Leg O) (buf : List ℕ) (result : Outcome) : Type 0 where
  pub answer : result ≡ send_outcome (leased_port half old.lease) to (length bytes) (sent_ok result)
  pub buffer : take (length bytes) buf ≡ bytes
  pub under : (s : Shield) → shield ≡ Some s → (suite : Suite) × IsOf old.holder suite keys s.key
  pub sending : SendingFor old.holder keys (noted_under shield notes) new.sending
  pub sends : SendsBy log faults half to bytes (sent_ok result) old.sending new.sending
  pub rest : new ≡ with_send half (sent_ok result) old new.sending

abbrev pub LegForwards : {O : Type 0} → (O → EndLog OutCall) → (O → ℕ) → Departure → (ℕ → Option NewKey) → (ℕ → List Note) → Half → Addr
    → Leg O → Leg O → List ℕ → Outcome → Type 0
LegForwards log faults (Held cause) keys notes half to old new buf result = LegKeeps cause old new result
LegForwards log faults (Leaves shield bytes) keys notes half to old new buf result =
    LegSends log faults keys notes shield bytes half to old new buf result

-- what is in force for a half, and its learner
abbrev pub in_force_with : Option LegSignal → Option Learner → Option (LegSignal × Learner)
in_force_with (Some s) (Some learner) = Some (s, learner)
in_force_with _ _ = None

-- a plain packet of a kind leaves by a half
abbrev pub LegForwardsBy : {O : Type 0} → (O → EndLog OutCall) → (O → ℕ) → Option (LegSignal × Learner) → (ℕ → Option NewKey) → (ℕ → List Note) → Half → Half
    → List ℕ → Leg O → Leg O → List ℕ → Outcome → Type 0
LegForwardsBy log faults None keys notes kind half plain old new buf result = LegKeeps lost.Hold old new result
LegForwardsBy log faults (Some (s, learner)) keys notes kind half plain old new buf result =
    LegForwards log faults (wrapped_for keys notes s kind plain) keys notes half (endpoint_of learner) old new buf result

-- the leg stands for a history since the last End
pub record LegStandsFor {O : Type 0} (config : Config) (h : List CellEntry) (leg : Leg O) : Type 0 where
  pub pair : leg.lease.pair ≡ leg.holder.pair
  pub generation : leg.lease.generation ≡ leg.holder.generation
  pub signal : leg.signal ≡ in_force h leg.holder
  pub family : leg.lease.family ≡ pair_family config leg.holder.pair
  pub port : (half : Half) → port_by half leg.lease.rtp_port ≡ half_port config leg.holder.pair half
  pub receiving : ReceivingFor leg.signal leg.receiving (learned h leg.holder) (accepted h leg.holder)
  pub sending : SendingFor leg.holder (key_numbered h) (protected h) leg.sending
  pub named : HasIt (outbound_of leg.signal) leg.sending
  pub section : leg.holder.section < 8
  pub held : (suite : Suite) → key_number_in (contexts_of suite leg.sending) ≡ key_number_for suite (keys_for h leg.holder)
  pub one_each : OnePerSuite (keys_for h leg.holder)
  pub counted : IsCounted h leg.holder leg.counts
  pub reported : leg.report ≡ last_report h leg.holder

-- no two of these legs are the same, or stand on one side of one section
pub record AreApart {O : Type 0} (those : List (Leg O)) : Type 0 where
  pub leases : (i j : ℕ) (d : Leg O) → i < length those → j < length those
      → same_leg (slice_index_or those i d).holder (slice_index_or those j d).holder ≡ true → i ≡ j
  pub places : (i j : ℕ) (d : Leg O) → i < length those → j < length those
      → (slice_index_or those i d).holder.section ≡ (slice_index_or those j d).holder.section
      → (slice_index_or those i d).holder.side ≡ (slice_index_or those j d).holder.side → i ≡ j

-- the legs are those of a history since the last End, in its order
pub record LegsStandFor {O : Type 0} (config : Config) (h : List CellEntry) (those : List (Leg O)) : Type 0 where
  pub holders : map (λ (leg : Leg O). leg.holder) those ≡ legs h
  pub apart : AreApart those
  pub each : (i : ℕ) (d : Leg O) → i < length those → LegStandsFor config h (slice_index_or those i d)

-- A relay.

abbrev pub receipt_of : ℕ → Incoming → List ℕ → Receipt
receipt_of number packet buf =
    record { take = number; half = packet.half; source = packet.source; bytes = take packet.len buf; holder = packet.holder }

abbrev pub relay_entry : ℕ → Receipt → Bool → Deed → CellEntry
relay_entry moment p ok d = record { moment = moment; event = Relay (record { packet = p; sent_ok = ok; deed = d }) }

-- what a leg's ends send: nothing, or once by the end of a half
abbrev pub EndsFor : {O : Type 0} → (O → EndLog OutCall) → (O → ℕ) → Bool → Option Sending → Bool → parts.Sending O → parts.Sending O → Type 0
EndsFor log faults leaves None ok old new = new.ends ≡ old.ends
EndsFor log faults false (Some w) ok old new = new.ends ≡ old.ends
EndsFor log faults true (Some w) ok old new = SendsBy log faults w.half w.to w.bytes ok old new

-- with Sent, the bytes that were sent stand at the buffer's front
abbrev pub FrontIs : Outcome → Option Sending → List ℕ → Type 0
FrontIs (outcomes.Sent family port to len) (Some w) buf = take len buf ≡ w.bytes
FrontIs _ _ buf = Unit {0}

-- what a relay that does this does to the legs after a history since the last End
pub record LegsDo {O : Type 0} (log : O → EndLog OutCall) (faults : O → ℕ) (config : Config) (h : List CellEntry) (p : Receipt)
    (old new : List (Leg O)) (buf : List ℕ) (result : Outcome) (d : Deed) : Type 0 where
  pub outcome : result ≡ d.outcome
  pub front : FrontIs result d.sending buf
  pub legs_for : (moment : ℕ) → LegsStandFor config (relay_entry moment p (sent_ok result) d ∷ h) new
  pub ends : (i : ℕ) (x : Leg O) → i < length old
      → EndsFor log faults (is_leaving (opposite_of h (found h p)) (slice_index_or old i x).holder) d.sending
      (sent_ok result) (slice_index_or old i x).sending (slice_index_or new i x).sending

-- a relay does what the history demands, with that result of its send
abbrev pub LegsRelay : {O : Type 0} → (O → EndLog OutCall) → (O → ℕ) → Config → List CellEntry → Receipt → List (Leg O) → List (Leg O)
    → List ℕ → Outcome → Type 0
LegsRelay log faults config h p old new buf result =
    LegsDo log faults config h p old new buf result (deed config h p (sent_ok result))

-- The parts of a leg: for which learned sources, keys and notes they stand, and what their calls do. A part knows no
-- history; `specs/LegHistories.antt` says which sources, keys and notes a cell's history gives it.
use Rattle.std.specs.Prelude.{◌≡◌, ◌≤◌, Box, ℕ, Bool, true, false, ◌||◌, ◌==◌, List, take, length, Option, Some, None, Result, Ok, Err, IsSome, is_ok, if◌then◌else◌}
use Rattle.std.specs.Global.{Global}
use Rattle.std.specs.List.{cons_option}
use Rattle.relay_outside.specs.declared.address.Addr.{Addr}
use Rattle.relay_outside.specs.declared.settings.Flags.{Flags}
use Rattle.relay_outside.specs.declared.ports.OutCall.{OutCall}
use Rattle.relay_outside.specs.declared.ports.OutCall.TheVariants.{Send}
use Rattle.relay_outside.specs.DeviceLogs.{EndLog, EndGains, Rose}
use Rattle.rtp_packet.specs.declared.head.Half.{Half}
use Rattle.rtp_packet.specs.declared.head.Half.TheVariants.{Rtp, Rtcp}
use Rattle.sdes_lines.specs.declared.crypto_line.Suite.{Suite}
use Rattle.sdes_lines.specs.declared.crypto_line.Suite.TheVariants.{Tag80, Tag32}
use Rattle.srtp_sources.specs.Notes.{Note, is_half}
use Rattle.port_pool.specs.declared.holder.Holder.{Holder}
use Rattle.port_pool.specs.declared.signal.LegSignal.{LegSignal}
use Rattle.port_pool.specs.Signals.{NewKey}
use Rattle.endpoint_learn.specs.declared.learner.Learner.{Learner}
use Rattle.endpoint_learn.specs.Lessons.{endpoint_by, is_wrong_source, taught}
use Rattle.endpoint_learn.specs.Learners.{signal_of}
use Rattle.call_cell.specs.declared.outcome.LocalPort.{LocalPort}
use Rattle.call_cell.specs.declared.outcome.Refused.{Refused}
use Rattle.call_cell.specs.declared.outcome.Lost.{Lost}
use Rattle.call_cell.specs.declared.outcome.Lost.TheVariants as lost
use Rattle.call_cell.specs.declared.contexts.Inbound.{Inbound}
use Rattle.call_cell.specs.declared.contexts.Outbound.{Outbound}
use Rattle.call_cell.specs.declared.receiver.Receiving.{Receiving}
use Rattle.call_cell.specs.declared.sender.Sending.{Sending}
use Rattle.call_cell.specs.Cells.{Shield}
use Rattle.call_cell.specs.Lessons.{address}
use Rattle.call_cell.specs.Protection.{Judged, Stopped, Passed, Departure, Held, Leaves, wrapped_with}
use Rattle.call_cell.specs.Contexts.{InboundFor, OutboundFor, ContextsRefuse}

-- Receiving.

-- what stands in a place on the heap, where there is one
abbrev pub boxed_in : {C : Type 0} → Option (Box (Option C) Global) → Option C
boxed_in None = None
boxed_in (Some place) = place.value

-- the contexts of a key are there exactly where there is a key
abbrev pub InboundIn : Option (List ℕ × Suite) → Option Inbound → List Note → Type 0
InboundIn None None notes = Unit {0}
InboundIn (Some key) (Some contexts) notes = InboundFor key contexts notes
InboundIn None (Some contexts) notes = ⊥
InboundIn (Some key) None notes = ⊥

-- the inbound key of what is in force
abbrev pub inbound_of : Option LegSignal → Option (List ℕ × Suite)
inbound_of None = None
inbound_of (Some s) = s.inbound

-- the learner of a half
abbrev pub learner_in : Half → Receiving → Option Learner
learner_in Rtp receiving = receiving.rtp
learner_in Rtcp receiving = receiving.rtcp

-- the learner of a half for which that is in force, and which learned this
abbrev pub learner_of : Half → Option LegSignal → Option Addr → Option Learner
learner_of half None known = None
learner_of half (Some s) known = Some (record { signalled = address half s; flags = s.flags; learned = known })

-- where a learner has packets go
abbrev pub endpoint_of : Learner → Addr
endpoint_of learner = endpoint_by (signal_of learner) learner.learned

-- a source is wrong for a learner; for none before the first commit
abbrev pub is_wrong_for : Option Learner → Addr → Bool
is_wrong_for None source = false
is_wrong_for (Some learner) source = is_wrong_source learner.flags learner.learned source

-- the part stands for these learned sources, and these notes under the key of what is in force
pub record ReceivingFor (signal : Option LegSignal) (receiving : Receiving) (known : Half → Option Addr) (notes : List Note) : Type 0 where
  pub learned : (half : Half) → learner_in half receiving ≡ learner_of half signal (known half)
  pub inbound : InboundIn (inbound_of signal) (boxed_in receiving.inbound) notes

-- a packet was taken, and noted under the key
pub record TakesIn (key : Option (List ℕ × Suite)) (notes : List Note) (noted : Option Note) (plain : List ℕ) (new : Option Inbound)
    (buf : List ℕ) (result : Result ℕ Refused) : Type 0 where
  pub answer : result ≡ Ok (length plain)
  pub buffer : take (length plain) buf ≡ plain
  pub contexts : InboundIn key new (cons_option noted notes)

abbrev pub OpensIn : Judged → Option (List ℕ × Suite) → List Note → Option (Box (Option Inbound) Global) → Option (Box (Option Inbound) Global)
    → List ℕ → Result ℕ Refused → Type 0
OpensIn (Stopped cause) key notes old new buf result = ContextsRefuse cause old new result
OpensIn (Passed noted plain) key notes old new buf result = TakesIn key notes noted plain (boxed_in new) buf result

-- the learned sources after an accepted packet of a half
abbrev pub taught_half : Half → Flags → Addr → (Half → Option Addr) → Half → Option Addr
taught_half half flags source known other = if is_half half other then taught flags (known other) source else known other

-- a packet of a half and source was accepted
pub record Accepts (half : Half) (source : Addr) (s : LegSignal) (known : Half → Option Addr) (notes : List Note) (noted : Option Note)
    (plain : List ℕ) (new : Receiving) (buf : List ℕ) (result : Result ℕ Refused) : Type 0 where
  pub answer : result ≡ Ok (length plain)
  pub buffer : take (length plain) buf ≡ plain
  pub receiving : ReceivingFor (Some s) new (taught_half half s.flags source known) (cons_option noted notes)

abbrev pub AcceptsTo : Judged → Half → Addr → LegSignal → (Half → Option Addr) → List Note → Receiving → Receiving → List ℕ
    → Result ℕ Refused → Type 0
AcceptsTo (Stopped cause) half source s known notes old new buf result = ContextsRefuse cause old new result
AcceptsTo (Passed noted plain) half source s known notes old new buf result = Accepts half source s known notes noted plain new buf result

-- Sending.

-- what a relay notes under an outbound key
abbrev pub note_under : ℕ → Option Shield → Option Note
note_under key None = None
note_under key (Some s) = if s.key == key then Some s.note else None

-- the notes of each key, with one more
abbrev pub noted_under : Option Shield → (ℕ → List Note) → ℕ → List Note
noted_under shield notes key = cons_option (note_under key shield) (notes key)

-- the contexts are those of the key of their number, which is for this leg and suite
pub record IsKept (leg : Holder) (suite : Suite) (keys : ℕ → Option NewKey) (notes : ℕ → List Note) (contexts : Outbound) : Type 0 where
  pub key : NewKey
  pub is_there : keys contexts.number ≡ Some key
  pub section : key.section ≡ leg.section
  pub side : key.side ≡ leg.side
  pub suite_is : key.suite ≡ suite
  pub contexts_for : OutboundFor key contexts (notes contexts.number)

-- a number is that of a key for this leg and suite
pub record IsOf (leg : Holder) (suite : Suite) (keys : ℕ → Option NewKey) (number : ℕ) : Type 0 where
  pub key : NewKey
  pub is_there : keys number ≡ Some key
  pub section : key.section ≡ leg.section
  pub side : key.side ≡ leg.side
  pub suite_is : key.suite ≡ suite

abbrev pub OutboundIn : Holder → Suite → (ℕ → Option NewKey) → (ℕ → List Note) → Option Outbound → Type 0
OutboundIn leg suite keys notes None = Unit {0}
OutboundIn leg suite keys notes (Some contexts) = IsKept leg suite keys notes contexts

-- the contexts are those of the key of this number
abbrev pub is_numbered : Option Outbound → ℕ → Bool
is_numbered None number = false
is_numbered (Some contexts) number = contexts.number == number

-- of which key contexts are
abbrev pub key_number_in : Option Outbound → Option ℕ
key_number_in None = None
key_number_in (Some contexts) = Some contexts.number

-- the contexts of the key for a suite
abbrev pub contexts_of : {O : Type 0} → Suite → Sending O → Option Outbound
contexts_of Tag80 sending = boxed_in sending.tag80
contexts_of Tag32 sending = boxed_in sending.tag32

-- the end of a half, of the ends for RTP and for RTCP
abbrev pub end_of : {O : Type 0} → Half → O × O → O
end_of Rtp ends = ends.0
end_of Rtcp ends = ends.1

abbrev pub other_half : Half → Half
other_half Rtp = Rtcp
other_half Rtcp = Rtp

abbrev pub has_number : {O : Type 0} → Sending O → ℕ → Bool
has_number sending number = is_numbered (boxed_in sending.tag80) number || is_numbered (boxed_in sending.tag32) number

-- the part stands for these keys and their notes, and has its ends
pub record SendingFor {O : Type 0} (leg : Holder) (keys : ℕ → Option NewKey) (notes : ℕ → List Note) (sending : Sending O) : Type 0 where
  pub ends : IsSome sending.ends
  pub tag80 : OutboundIn leg Tag80 keys notes (boxed_in sending.tag80)
  pub tag32 : OutboundIn leg Tag32 keys notes (boxed_in sending.tag32)

-- the contexts of the key that is named are there, where there is such a key
abbrev pub HasNamed : {O : Type 0} → Option ℕ → (ℕ → Option NewKey) → Sending O → Type 0
HasNamed None keys sending = Unit {0}
HasNamed (Some number) keys sending = has_number sending number ≡ false → keys number ≡ None

-- the contexts of the key that is named are there
abbrev pub HasIt : {O : Type 0} → Option ℕ → Sending O → Type 0
HasIt None sending = Unit {0}
HasIt (Some number) sending = has_number sending number ≡ true

-- a packet was protected, and noted under its key
pub record WrapsIn (leg : Holder) (suite : Suite) (keys : ℕ → Option NewKey) (notes : ℕ → List Note) (shield : Option Shield) (bytes : List ℕ)
    (new : Option Outbound) (buf : List ℕ) (result : Result ℕ Lost) : Type 0 where
  pub answer : result ≡ Ok (length bytes)
  pub buffer : take (length bytes) buf ≡ bytes
  pub under : (s : Shield) → shield ≡ Some s → IsOf leg suite keys s.key
  pub contexts : OutboundIn leg suite keys (noted_under shield notes) new

abbrev pub WrapsInTo : Departure → Holder → Suite → (ℕ → Option NewKey) → (ℕ → List Note) → Option (Box (Option Outbound) Global)
    → Option (Box (Option Outbound) Global) → List ℕ → Result ℕ Lost → Type 0
WrapsInTo (Held cause) leg suite keys notes old new buf result = ContextsRefuse cause old new result
WrapsInTo (Leaves shield bytes) leg suite keys notes old new buf result = WrapsIn leg suite keys notes shield bytes (boxed_in new) buf result

-- the plain packet under the outbound key of this number
abbrev pub wrapped_by : (ℕ → Option NewKey) → (ℕ → List Note) → Option ℕ → Half → List ℕ → Departure
wrapped_by keys notes None kind bytes = Leaves None bytes
wrapped_by keys notes (Some number) kind bytes = wrapped_with (keys number) (notes number) kind bytes

-- the ends are as before
abbrev pub SameEnds : {O : Type 0} → Sending O → Sending O → Type 0
SameEnds old new = new.ends ≡ old.ends

-- a packet is protected, and noted under its key
pub record Wraps {O : Type 0} (leg : Holder) (keys : ℕ → Option NewKey) (notes : ℕ → List Note) (shield : Option Shield) (bytes : List ℕ)
    (new : Sending O) (buf : List ℕ) (result : Result ℕ Lost) : Type 0 where
  pub answer : result ≡ Ok (length bytes)
  pub buffer : take (length bytes) buf ≡ bytes
  pub under : (s : Shield) → shield ≡ Some s → (suite : Suite) × IsOf leg suite keys s.key
  pub keeps : SendingFor leg keys (noted_under shield notes) new

abbrev pub ProtectsTo : {O : Type 0} → Departure → Holder → (ℕ → Option NewKey) → (ℕ → List Note) → Sending O → Sending O → List ℕ
    → Result ℕ Lost → Type 0
ProtectsTo (Held cause) leg keys notes old new buf result = ContextsRefuse cause old new result
ProtectsTo (Leaves shield bytes) leg keys notes old new buf result = Wraps leg keys notes shield bytes new buf result

-- one send by the end of a half, and none by the other
pub record SendsBy {O : Type 0} (log : O → EndLog OutCall) (faults : O → ℕ) (half : Half) (to : Addr) (bytes : List ℕ) (ok : Bool)
    (old new : Sending O) : Type 0 where
  pub before : O × O
  pub after : O × O
  pub had : old.ends ≡ Some before
  pub has : new.ends ≡ Some after
  pub gains : EndGains (log (end_of half before)) (log (end_of half after)) (Send to bytes ok)
  pub later : faults (end_of half before) ≤ faults (end_of half after)
  pub cause : ok ≡ false → Rose (faults (end_of half before)) (faults (end_of half after))
  pub other : end_of (other_half half) after ≡ end_of (other_half half) before

-- the keys are as before
pub record SameKeys {O : Type 0} (old new : Sending O) : Type 0 where
  pub tag80 : new.tag80 ≡ old.tag80
  pub tag32 : new.tag32 ≡ old.tag32

-- an accepted packet, towards a leg with that in force
abbrev pub wrapped_for : (ℕ → Option NewKey) → (ℕ → List Note) → LegSignal → Half → List ℕ → Departure
wrapped_for keys notes s kind bytes = if s.hold then Held lost.Hold else wrapped_by keys notes s.outbound kind bytes

-- the result of a send of `size` bytes by a local port
abbrev pub send_answer : (from : LocalPort) (size : ℕ) → Bool → Result ℕ Lost
send_answer from size true = Ok size
send_answer from size false = Err (lost.SendFault from.family from.port)

-- a packet leaves: it is noted under its key, whether or not its send succeeds
pub record Forwards {O : Type 0} (log : O → EndLog OutCall) (faults : O → ℕ) (leg : Holder) (keys : ℕ → Option NewKey) (notes : ℕ → List Note)
    (shield : Option Shield) (bytes : List ℕ) (half : Half) (from : LocalPort) (to : Addr) (old new : Sending O) (buf : List ℕ) (result : Result ℕ Lost) : Type 0 where
  pub answer : result ≡ send_answer from (length bytes) (is_ok result)
  pub buffer : take (length bytes) buf ≡ bytes
  pub under : (s : Shield) → shield ≡ Some s → (suite : Suite) × IsOf leg suite keys s.key
  pub keeps : SendingFor leg keys (noted_under shield notes) new
  pub sends : SendsBy log faults half to bytes (is_ok result) old new

abbrev pub ForwardsTo : {O : Type 0} → (O → EndLog OutCall) → (O → ℕ) → Departure → Holder → (ℕ → Option NewKey) → (ℕ → List Note) → Half → (from : LocalPort) → Addr
    → Sending O → Sending O → List ℕ → Result ℕ Lost → Type 0
ForwardsTo log faults (Held cause) leg keys notes half from to old new buf result = ContextsRefuse cause old new result
ForwardsTo log faults (Leaves shield bytes) leg keys notes half from to old new buf result =
    Forwards log faults leg keys notes shield bytes half from to old new buf result

-- the keys are those of before, whatever was protected under them
pub record SameNumbers {O : Type 0} (old new : Sending O) : Type 0 where
  pub tag80 : key_number_in (boxed_in new.tag80) ≡ key_number_in (boxed_in old.tag80)
  pub tag32 : key_number_in (boxed_in new.tag32) ≡ key_number_in (boxed_in old.tag32)

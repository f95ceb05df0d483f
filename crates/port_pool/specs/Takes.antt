-- What a take of a box tells: of the box's history, and of the end that it took from.
use Rattle.std.specs.Prelude.{◌≡◌, ◌≤◌, ℕ, List, take, Option, Some, None}
use Rattle.relay_outside.specs.declared.ports.InCall.{InCall}
use Rattle.relay_outside.specs.declared.ports.InCall.TheVariants as into
use Rattle.relay_outside.specs.declared.ports.InGiven.{InGiven}
use Rattle.relay_outside.specs.declared.ports.InGiven.TheVariants as given
use Rattle.relay_outside.specs.DeviceLogs.{EndLog, EndGains, Rose}
use Rattle.rtp_packet.specs.declared.head.Half.{Half}
use Rattle.rtp_packet.specs.declared.head.Half.TheVariants.{Rtp, Rtcp}
use Rattle.port_pool.specs.declared.boxes.BoxTake.{BoxTake}
use Rattle.port_pool.specs.declared.boxes.BoxTake.TheVariants as answer
use Rattle.port_pool.specs.Boxes as box
use Rattle.port_pool.specs.Boxes.{Taken}

-- what the history is told of a take with this answer, after which the buffer of 2,001 bytes holds these
abbrev pub taken_within : BoxTake → List ℕ → Taken
taken_within answer.Closed buf = box.Closed
taken_within answer.Nothing buf = box.Nothing
taken_within (answer.Datagram leg source len) buf = box.Datagram leg source (take len buf)
taken_within (answer.TooLong source) buf = box.TooLong source buf
taken_within answer.Fault buf = box.Fault

-- what the end gave in a take of which the history is told this; a closed box takes from none
abbrev pub given_of : Taken → Option InGiven
given_of box.Closed = None
given_of box.Nothing = Some given.Nothing
given_of (box.Datagram leg source bytes) = Some (given.Datagram source bytes)
given_of (box.TooLong source bytes) = Some (given.Datagram source bytes)
given_of box.Fault = Some given.Failed

-- a fault is told only where the end's count of faults rose
abbrev pub HasTakeFault : ℕ → ℕ → Taken → Type 0
HasTakeFault before now box.Fault = Rose before now
HasTakeFault before now _ = Unit {0}

module _ {I : Type 0} (log : I → EndLog InCall) (faults : I → ℕ) where
  -- the end, of the same port, gained one take into 2,001 bytes, which gave what the history is told
  abbrev pub GainsTake : I → I → Option InGiven → Type 0
  GainsTake old new None = ⊥
  GainsTake old new (Some gave) = EndGains (log old) (log new) (into.Take 2001 gave)

  -- the end was taken from once
  pub record IsTaken (old new : I) (taken : Taken) : Type 0 where
    pub gains : GainsTake old new (given_of taken)
    pub later : faults old ≤ faults new
    pub fault : HasTakeFault (faults old) (faults new) taken

  -- of the ends for RTP and for RTCP that of this half was taken from once, and the other is as before
  abbrev pub IsTakenFrom : Half → I × I → I × I → Taken → Type 0
  IsTakenFrom Rtp old new taken = IsTaken old.0 new.0 taken × (new.1 ≡ old.1)
  IsTakenFrom Rtcp old new taken = (new.0 ≡ old.0) × IsTaken old.1 new.1 taken

  -- the same of the ends of a box; a closed one has none, and gets none
  abbrev pub EndsTaken : Half → Option (I × I) → Option (I × I) → Taken → Type 0
  EndsTaken half None new taken = new ≡ None
  EndsTaken half (Some old) None taken = ⊥
  EndsTaken half (Some old) (Some new) taken = IsTakenFrom half old new taken

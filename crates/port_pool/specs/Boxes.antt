-- The history of the box of one port pair, latest first.
use Rattle.std.specs.Prelude.{◌≡◌, ◌≤◌, ℕ, List, [], ◌∷◌, length, Option, Some, None}
use Rattle.relay_outside.specs.declared.address.Addr.{Addr}
use Rattle.rtp_packet.specs.declared.head.Half.{Half}
use Rattle.port_pool.specs.declared.holder.Holder.{Holder}

-- what the one take of an end gave: a datagram for the box's holder, or the first 2,001 bytes of a longer one
pub data Taken : Type 0 where
  Closed : Taken
  Nothing : Taken
  Datagram : (holder : Holder) → (source : Addr) → (bytes : List ℕ) → Taken
  TooLong : (source : Addr) → (bytes : List ℕ) → Taken
  Fault : Taken

pub data BoxEvent : Type 0 where
  Open : Holder → BoxEvent
  Take : Half → Taken → BoxEvent
  Close : BoxEvent

-- the holder of the last opening, where no closing follows it
abbrev pub holder : List BoxEvent → Option Holder
holder [] = None
holder (Open leg ∷ h) = Some leg
holder (Close ∷ h) = None
holder (Take half taken ∷ h) = holder h

-- a take returns Closed exactly where there is no holder, and gives a datagram to the holder alone
abbrev pub FitsTaken : Option Holder → Taken → Type 0
FitsTaken None taken = taken ≡ Closed
FitsTaken (Some leg) Closed = ⊥
FitsTaken (Some leg) Nothing = Unit {0}
FitsTaken (Some leg) (Datagram held source bytes) = (held ≡ leg) × (length bytes ≤ 2000)
FitsTaken (Some leg) (TooLong source bytes) = length bytes ≡ 2001
FitsTaken (Some leg) Fault = Unit {0}

-- the event is one that the box's history allows
abbrev pub FitsBox : List BoxEvent → BoxEvent → Type 0
FitsBox h (Open leg) = Unit {0}
FitsBox h (Take half taken) = FitsTaken (holder h) taken
FitsBox h Close = Unit {0}

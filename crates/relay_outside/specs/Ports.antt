-- What the lists of a port maker and of its ends say: which addresses are open, what was taken and sent at each.
use Rattle.std.specs.Cmp.Lexicographic.{pointwise}
use Rattle.std.specs.Prelude.{◌≡◌, nat_eq, ℕ, ◌≤◌, Bool, true, false, ◌&&◌, ◌==◌, if◌then◌else◌, Option, Some, None, Result, Ok, Err, List, [], ◌∷◌, ◌++◌, All, take}
use Rattle.relay_outside.specs.declared.address.Addr.{Addr}
use Rattle.relay_outside.specs.declared.address.Ip.{Ip}
use Rattle.relay_outside.specs.declared.address.Ip.TheVariants as ip
use Rattle.relay_outside.specs.declared.answers.Failed.{Failed}
use Rattle.relay_outside.specs.declared.ports.InGiven.{InGiven}
use Rattle.relay_outside.specs.declared.ports.InGiven.TheVariants as given
use Rattle.relay_outside.specs.declared.ports.InCall.{InCall}
use Rattle.relay_outside.specs.declared.ports.OutCall.{OutCall}
use Rattle.relay_outside.specs.declared.ports.PortCall.{PortCall}
use Rattle.relay_outside.specs.declared.ports.PortCall.TheVariants as port

-- a datagram fills no more than the room for it
abbrev pub FitsTake : Result (Option (Addr × ℕ)) Failed → ℕ → Type 0
FitsTake (Ok (Some datagram)) room = datagram.1 ≤ room
FitsTake (Ok None) room = Unit {0}
FitsTake (Err failed) room = Unit {0}

-- what the list says of a take with this answer, after which the buffer holds these bytes
abbrev pub in_given : Result (Option (Addr × ℕ)) Failed → List ℕ → InGiven
in_given (Ok (Some datagram)) buf = given.Datagram datagram.0 (take datagram.1 buf)
in_given (Ok None) buf = given.Nothing
in_given (Err failed) buf = given.Failed

-- the call closes no port at this address
abbrev pub ClosesNot : Addr → PortCall → Type 0
ClosesNot at (port.Open there done) = Unit {0}
ClosesNot at (port.Close there taken sent) = there ≡ at → ⊥

-- the address is open: an opening of it returned Ok, and it was not closed since
pub record IsOpen (calls : List PortCall) (at : Addr) : Type 0 where
  pub before : List PortCall
  pub after : List PortCall
  pub opened : calls ≡ before ++ port.Open at true ∷ after
  pub kept : All (ClosesNot at) after

-- two logs joined, where both are kept
abbrev pub joined : {C : Type 0} → Option (List C) → Option (List C) → Option (List C)
joined (Some front) (Some back) = Some (front ++ back)
joined (Some front) None = None
joined None back = None

-- whether two addresses of hosts are the same
abbrev pub same_ip : Ip → Ip → Bool
same_ip (ip.V4 a) (ip.V4 b) = pointwise nat_eq a b
same_ip (ip.V4 a) (ip.V6 b) = false
same_ip (ip.V6 a) (ip.V4 b) = false
same_ip (ip.V6 a) (ip.V6 b) = pointwise nat_eq a b

-- whether two transport addresses are the same
abbrev pub same_addr : Addr → Addr → Bool
same_addr a b = same_ip a.ip b.ip && (a.port == b.port)

-- for an address, the logs of its in ends that were given back, joined in the order of their closing
abbrev pub taken_at : List PortCall → Addr → Option (List InCall)
taken_at [] at = Some []
taken_at (port.Open there done ∷ rest) at = taken_at rest at
taken_at (port.Close there taken sent ∷ rest) at = if same_addr there at then joined taken (taken_at rest at) else taken_at rest at

-- for an address, the logs of its out ends that were given back, joined in the order of their closing
abbrev pub sent_at : List PortCall → Addr → Option (List OutCall)
sent_at [] at = Some []
sent_at (port.Open there done ∷ rest) at = sent_at rest at
sent_at (port.Close there taken sent ∷ rest) at = if same_addr there at then joined sent (sent_at rest at) else sent_at rest at

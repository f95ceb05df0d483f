-- What the opening and the closing of pairs add to a port maker's list, and which addresses are open then.
use Rattle.std.specs.Prelude.{◌≡◌, ◌↔◌, ℕ, ◌*◌, Bool, true, false, Option, List, [], ◌∷◌, ◌++◌, length, take, replicate}
use Rattle.std.specs.List.{AllZip}
use Rattle.relay_outside.specs.declared.address.Addr.{Addr}
use Rattle.relay_outside.specs.declared.settings.Config.{Config}
use Rattle.relay_outside.specs.declared.ports.PortCall.{PortCall}
use Rattle.relay_outside.specs.declared.ports.PortCall.TheVariants.{Open, Close}
use Rattle.relay_outside.specs.DeviceLogs.{StartsEmpty, WhereLogged}
use Rattle.relay_outside.specs.Ports.{IsOpen}
use Rattle.rtp_packet.specs.declared.head.Half.TheVariants.{Rtp, Rtcp}
use Rattle.histories.specs.Words.{In}
use Rattle.port_pool.specs.declared.pairs.Lease.{Lease}
use Rattle.media_ports.specs.Addresses.{port_address, addresses_of}
use Rattle.media_ports.specs.Ends.{EndLogs}

-- openings of these addresses in order, with these results: as many as there are results
abbrev pub openings : List Addr → List Bool → List PortCall
openings [] answers = []
openings (at ∷ ats) [] = []
openings (at ∷ ats) (done ∷ answers) = Open at done ∷ openings ats answers

-- the ports of leased pairs are opened, in order: two for each lease
abbrev pub OpensPairs : Config → List Lease → List PortCall → Type 0
OpensPairs config leases calls = calls ≡ openings (addresses_of config leases) (replicate (2 * length leases) true)

-- `opened` addresses are opened, in order, and the opening of the next one fails
abbrev pub OpensHalf : List Addr → ℕ → List PortCall → Type 0
OpensHalf ats opened calls = calls ≡ openings ats (replicate opened true ++ false ∷ [])

-- the call closes this address
abbrev pub Closes : Addr → PortCall → Type 0
Closes at (Open there done) = ⊥
Closes at (Close there taken sent) = there ≡ at

-- the call closes this address, whose ends were not called
abbrev pub ClosesUncalled : Addr → PortCall → Type 0
ClosesUncalled at (Open there done) = ⊥
ClosesUncalled at (Close there taken sent) = (there ≡ at) × StartsEmpty taken × StartsEmpty sent

-- `opened` addresses are opened, in order, and the opening of the next one fails; then those that were opened are closed
-- in the order of their openings, and their ends were not called
pub record OpensUpTo (ats : List Addr) (opened : ℕ) (calls : List PortCall) : Type 0 where
  pub closes : List PortCall
  pub then_fails : calls ≡ openings ats (replicate opened true ++ false ∷ []) ++ closes
  pub closed : AllZip ClosesUncalled (take opened ats) closes

-- the ports of a leased pair are closed, that for RTP first, with what their ends tell
abbrev pub ClosesPair : Config → Lease → EndLogs → List PortCall → Type 0
ClosesPair config lease ends calls = calls
    ≡ Close (port_address config lease.pair Rtp) ends.rtp_in ends.rtp_out
    ∷ Close (port_address config lease.pair Rtcp) ends.rtcp_in ends.rtcp_out ∷ []

-- none of these addresses is open
abbrev pub NoneOpen : List Addr → List PortCall → Type 0
NoneOpen [] calls = Unit {0}
NoneOpen (at ∷ ats) calls = (IsOpen calls at → ⊥) × NoneOpen ats calls

-- each of these addresses is open
abbrev pub AllOpen : List Addr → List PortCall → Type 0
AllOpen [] calls = Unit {0}
AllOpen (at ∷ ats) calls = IsOpen calls at × AllOpen ats calls

-- what holds of two lists, where both are told
abbrev pub WhereBothLogged : {C : Type 0} → Option (List C) → Option (List C) → (List C → List C → Type 0) → Type 0
WhereBothLogged {C} old new P = WhereLogged new (λ (now : List C). WhereLogged old (λ (before : List C). P before now))

-- the same addresses are open
abbrev pub SameOpen : List PortCall → List PortCall → Type 0
SameOpen before now = (at : Addr) → IsOpen now at ↔ IsOpen before at

-- these addresses are not open any more, and all others are as before
pub record LeavesOpen (ats : List Addr) (before now : List PortCall) : Type 0 where
  pub closed : NoneOpen ats now
  pub others : (at : Addr) → (In at ats → ⊥) → IsOpen now at ↔ IsOpen before at

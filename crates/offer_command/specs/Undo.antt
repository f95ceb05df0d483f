-- An offer that is undone: what it gives back, and what the port maker and the key source were asked.
use Rattle.std.specs.Prelude.{◌≡◌, ◌<◌, ◌*◌, ◌++◌, ℕ, Bool, true, false, Option, List, [], ◌∷◌, length, replicate}
use Rattle.std.specs.List.{AllZip}
use Rattle.relay_outside.specs.declared.address.Addr.{Addr}
use Rattle.relay_outside.specs.declared.keys.KeyCall.{KeyCall}
use Rattle.relay_outside.specs.declared.ports.PortCall.{PortCall}
use Rattle.relay_outside.specs.DeviceLogs.{Gained, Rose}
use Rattle.media_ports.specs.Calls.{openings, OpensUpTo, ClosesUncalled}
use Rattle.media_ports.specs.Draws.{DrawsUpTo}
use Rattle.call_board.specs.Views.{View, with_returned}
use Rattle.offer_command.specs.declared.lease.LeaseFault.{LeaseFault}
use Rattle.offer_command.specs.declared.lease.LeaseFault.TheVariants.{Port, Key}
use Rattle.offer_command.specs.Leases.{with_taken}

-- the keys that were drawn before the fault
abbrev pub keys_before : LeaseFault → List (List ℕ)
keys_before (Port opened) = []
keys_before (Key drawn) = drawn.list

-- the results of the openings up to the fault, of an offer of that many pairs: those of the ports that were opened, and the one that
-- failed; or those of all its ports, where a draw failed
abbrev pub opens_before : (pairs : ℕ) → LeaseFault → List Bool
opens_before pairs (Port opened) = replicate opened true ++ false ∷ []
opens_before pairs (Key drawn) = replicate (2 * pairs) true

-- what the board keeps once an offer that leased these pairs and drew that many keys is undone: the keys are used up, the pairs
-- wait after all that were free
abbrev pub with_undone : View → (pairs : List ℕ) → (keys : ℕ) → View
with_undone v pairs keys = with_returned (with_taken v pairs keys) pairs

-- not all of the ports were opened, or not all of the keys drawn
abbrev pub ComesEarly : (pairs keys : ℕ) → LeaseFault → Type 0
ComesEarly pairs keys (Port opened) = opened < 2 * pairs
ComesEarly pairs keys (Key drawn) = length drawn.list < keys

-- all of these addresses are opened, in order, and then closed in the same order, and their ends were not called
pub record OpensAndCloses (ats : List Addr) (calls : List PortCall) : Type 0 where
  pub closes : List PortCall
  pub opens : calls ≡ openings ats (replicate (length ats) true) ++ closes
  pub closed : AllZip ClosesUncalled ats closes

-- the ports are opened up to the fault, or all of them, and those that were opened are closed again
abbrev pub UndoesPorts : List Addr → LeaseFault → List PortCall → Type 0
UndoesPorts ats (Port opened) calls = OpensUpTo ats opened calls
UndoesPorts ats (Key drawn) calls = OpensAndCloses ats calls

-- after a port that could not be opened no key is drawn; else the draws go up to the one that fails
abbrev pub DrawsBefore : LeaseFault → Option (List KeyCall) → Option (List KeyCall) → Type 0
DrawsBefore (Port opened) old new = new ≡ old
DrawsBefore (Key drawn) old new = Gained old new (DrawsUpTo drawn.list)

-- the fault is returned only where the count of the port maker's faults rose, or that of the key source's
abbrev pub HasRisen : LeaseFault → (ports ports_now keys keys_now : ℕ) → Type 0
HasRisen (Port opened) ports ports_now keys keys_now = Rose ports ports_now
HasRisen (Key drawn) ports ports_now keys keys_now = Rose keys keys_now

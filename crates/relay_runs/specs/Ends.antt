-- What the calls of a port maker say of a run: at which ports they were, what the ends told that were given back, and which ports are open.
use Rattle.std.specs.Prelude.{◌≡◌, ◌↔◌, ◌<◌, ◌==◌, ℕ, All, List, [], ◌∷◌, ◌++◌, Option, Some, None, if◌then◌else◌}
use Rattle.relay_outside.specs.declared.address.Addr.{Addr}
use Rattle.relay_outside.specs.declared.ports.OutCall.{OutCall}
use Rattle.relay_outside.specs.declared.ports.OutCall.TheVariants as out
use Rattle.relay_outside.specs.declared.ports.PortCall.{PortCall}
use Rattle.relay_outside.specs.declared.settings.Config.{Config}
use Rattle.relay_outside.specs.Ports.{IsOpen, taken_at, sent_at}
use Rattle.relay_outside.specs.DeviceLogs.{WhereLogged}
use Rattle.rtp_packet.specs.declared.head.Half.{Half}
use Rattle.histories.specs.Words.{In}
use Rattle.port_pool.specs.declared.holder.Holder.{Holder}
use Rattle.port_pool.specs.Ports.{pair_count}
use Rattle.media_ports.specs.Addresses.{port_address}
use Rattle.media_ports.specs.ReturnedEnds.{IsOfPair}
use Rattle.call_cell.specs.Cells.{CellEntry, Sending, Relay, Relayed}
use Rattle.relay_core.specs.Entries.{Event, Board, Cell, Box, Entry, cell_before, box_of}
use Rattle.relay_core.specs.EndLogs.{is_parting, takes_at, sends_since, legs_going}

-- Takes.

-- of each port, what its in ends told, over all its openings, is what the list has of their takes: each, with its answer, but those that
-- found the box shut, in the order of their numbers
abbrev pub AreTakes : Config → List Entry → List PortCall → Type 0
AreTakes config l calls =
    (pair : ℕ) (half : Half) → pair < pair_count config
    → WhereLogged (taken_at calls (port_address config pair half)) (λ log. log ≡ takes_at l (box_of config pair) half)

-- Sends.

-- of the legs of a cell those that have the pair, with the sends by the half of each since it was added
abbrev pub sends_of : List Holder → (pair : ℕ) → Half → List CellEntry → List OutCall
sends_of [] pair half h = []
sends_of (leg ∷ legs) pair half h = if leg.pair == pair then sends_since leg half h ++ sends_of legs pair half h else sends_of legs pair half h

-- the same of the legs that go by an event after these entries of its cell
abbrev pub sends_going : List CellEntry → Event → (pair : ℕ) → Half → List OutCall
sends_going h (Cell event) pair half = sends_of (legs_going h event) pair half h
sends_going h (Board event) pair half = []
sends_going h (Box event) pair half = []

-- the same of all legs that go by these entries of the list, in the order of the entries
abbrev pub sends_in : List Entry → (pair : ℕ) → Half → (entries : List Entry) → List OutCall
sends_in l pair half [] = []
sends_in l pair half (e ∷ es) =
    if is_parting e.event then sends_going (cell_before l e) e.event pair half ++ sends_in l pair half es else sends_in l pair half es

-- What the list has of the sends by the out ends of a pair's half: of each leg that had the pair, in the order in which the legs went, the
-- sends of the relays that left by it since it was added, each with its answer, in the order of their numbers
abbrev pub sends_at : List Entry → (pair : ℕ) → Half → List OutCall
sends_at l pair half = sends_in l pair half l

-- of each port, what its out ends told, over all its openings, is that
abbrev pub AreSends : Config → List Entry → List PortCall → Type 0
AreSends config l calls =
    (pair : ℕ) (half : Half) → pair < pair_count config → WhereLogged (sent_at calls (port_address config pair half)) (λ log. log ≡ sends_at l pair half)

-- each send that a relay of the list made is among those of the half by which it left, of one of the configuration's pairs
abbrev pub HasAllSends : Config → List Entry → Type 0
HasAllSends config l =
    (e : Entry) (x : Relayed) (w : Sending) → In e l → e.event ≡ Cell (Relay x) → x.deed.sending ≡ Some w
    → (w.pair < pair_count config) × In (out.Send w.to w.bytes x.sent_ok) (sends_at l w.pair w.half)

-- The calls in a run with this list: no address but those of the pairs was ever called, and what the ends told is what the list has of their
-- takes and of their sends
pub record AreEnds (config : Config) (l : List Entry) (calls : List PortCall) : Type 0 where
  pub of_pairs : All (IsOfPair config) calls
  pub takes : AreTakes config l calls
  pub sends : AreSends config l calls

-- where the port maker tells, every address is open after its calls where it was before, and nowhere else
abbrev pub OpensSame : Option (List PortCall) → Option (List PortCall) → Type 0
OpensSame before None = Unit {0}
OpensSame None (Some after) = ⊥
OpensSame (Some before) (Some after) = (at : Addr) → IsOpen after at ↔ IsOpen before at

-- Which ports of a configuration's pairs are open: those of the pairs that are held.
use Rattle.std.specs.Prelude.{◌≡◌, ◌↔◌, ◌<◌, ℕ, true, false, not, ◌&&◌, ◌||◌, ◌==◌, Option, List}
use Rattle.relay_outside.specs.declared.settings.Config.{Config}
use Rattle.relay_outside.specs.declared.ports.PortCall.{PortCall}
use Rattle.relay_outside.specs.DeviceLogs.{WhereLogged}
use Rattle.relay_outside.specs.Ports.{IsOpen}
use Rattle.rtp_packet.specs.declared.head.Half.{Half}
use Rattle.histories.specs.Words.{has}
use Rattle.port_pool.specs.Ports.{pair_count}
use Rattle.media_ports.specs.Addresses.{port_address}

-- of the pairs of the configuration just these have open ports, both
abbrev pub OpensHeld : Config → List PortCall → (pairs : List ℕ) → Type 0
OpensHeld config calls pairs =
    (pair : ℕ) (half : Half) → pair < pair_count config → IsOpen calls (port_address config pair half) ↔ (has pairs pair ≡ true)

-- the same, where the port maker tells
abbrev pub LogsHeld : Config → Option (List PortCall) → (pairs : List ℕ) → Type 0
LogsHeld config log pairs = WhereLogged log (λ calls. OpensHeld config calls pairs)

-- no pair stands in both lists
abbrev pub AreOthers : (pairs more : List ℕ) → Type 0
AreOthers pairs more = (pair : ℕ) → has more pair ≡ true → has pairs pair ≡ false

-- a list of pairs has those of two others
abbrev pub HasBoth : (pairs more now : List ℕ) → Type 0
HasBoth pairs more now = (pair : ℕ) → has now pair ≡ (has more pair || has pairs pair)

-- a list of pairs has those of another but for one
abbrev pub HasWithout : (pairs : List ℕ) (one : ℕ) (now : List ℕ) → Type 0
HasWithout pairs one now = (pair : ℕ) → has now pair ≡ (not (one == pair) && has pairs pair)

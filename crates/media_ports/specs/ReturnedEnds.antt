-- Which addresses a port maker is called for, and what its closings give back.
use Rattle.std.specs.Prelude.{◌≡◌, ◌<◌, ℕ, All, List, [], Option, Some}
use Rattle.relay_outside.specs.declared.address.Addr.{Addr}
use Rattle.relay_outside.specs.declared.ports.PortCall.{PortCall}
use Rattle.relay_outside.specs.declared.ports.PortCall.TheVariants.{Open, Close}
use Rattle.relay_outside.specs.declared.settings.Config.{Config}
use Rattle.relay_outside.specs.Ports.{taken_at, sent_at}
use Rattle.relay_outside.specs.DeviceLogs.{WhereLogged}
use Rattle.rtp_packet.specs.declared.head.Half.{Half}
use Rattle.port_pool.specs.Ports.{pair_count}
use Rattle.media_ports.specs.Addresses.{port_address}

abbrev pub address_called : PortCall → Addr
address_called (Open at done) = at
address_called (Close at taken sent) = at

-- the call is of a port of one of the configuration's pairs
pub record IsOfPair (config : Config) (call : PortCall) : Type 0 where
  pub pair : ℕ
  pub half : Half
  pub within : pair < pair_count config
  pub at : address_called call ≡ port_address config pair half

-- where the one is told, the other is the same
abbrev pub SameWhereTold : {C : Type 0} → Option (List C) → Option (List C) → Type 0
SameWhereTold {C} log shown = WhereLogged log (λ (calls : List C). shown ≡ Some calls)

-- no address but those of pairs was called, and no end that was given back had been called
pub record GivesBackUncalled (config : Config) (calls : List PortCall) : Type 0 where
  pub of_pairs : All (IsOfPair config) calls
  pub takes : (at : Addr) → SameWhereTold (taken_at calls at) (Some [])
  pub sends : (at : Addr) → SameWhereTold (sent_at calls at) (Some [])

-- Where the ends of boxes and cells stand, and which ports are open, before a node hands its calls over.
use Rattle.std.specs.Prelude.{List, Option}
use Rattle.relay_outside.specs.declared.ports.PortCall.{PortCall}
use Rattle.relay_outside.specs.declared.settings.Config.{Config}
use Rattle.relay_outside.specs.declared.address.Addr.{Addr}
use Rattle.relay_outside.specs.DeviceLogs.{WhereLogged}
use Rattle.media_ports.specs.Addresses.{pair_addresses}
use Rattle.media_ports.specs.Calls.{AllOpen, NoneOpen}
use Rattle.relay_core.specs.declared.part.Part.{Part}
use Rattle.hand_over.specs.Closings.{pairs_of_all_legs, live_calls}

module _ {I O : Type 0} where
  -- the addresses of the ports of all legs, by call and in the order of each cell, that for RTP before that for RTCP
  abbrev pub leg_addresses : Config → List (Part I O) → List Addr
  leg_addresses config parts = pair_addresses config (pairs_of_all_legs parts (live_calls parts))

  -- these are open, where the port maker tells; none is
  abbrev pub AreLegsOpen : Config → List (Part I O) → Option (List PortCall) → Type 0
  AreLegsOpen config parts log = WhereLogged log (AllOpen (leg_addresses config parts))

  abbrev pub AreLegsShut : Config → List (Part I O) → Option (List PortCall) → Type 0
  AreLegsShut config parts log = WhereLogged log (NoneOpen (leg_addresses config parts))

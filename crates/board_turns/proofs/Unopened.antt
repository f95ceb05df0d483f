-- While legs are closed no port is opened.
use Rattle.std.proofs.Common.{◌∙◌, ap, List, [], ◌∷◌, Option}
use Rattle.relay_outside.specs.declared.ports.OutCall.{OutCall}
use Rattle.relay_outside.specs.declared.ports.PortCall.{PortCall}
use Rattle.relay_outside.specs.declared.settings.Config.{Config}
use Rattle.relay_outside.specs.DeviceLogs.{EndLog, Gained}
use Rattle.relay_outside.proofs.Telling.{gained_less}
use Rattle.port_pool.specs.declared.holder.Holder.{Holder}
use Rattle.port_pool.specs.declared.pairs.Lease.{Lease}
use Rattle.media_ports.specs.Openings.{opening_answers, NoneOpened}
use Rattle.board_turns.specs.Closings.{ClosesLegs}
use Rattle.board_turns.specs.CallEnds.{ClosesTheirs}

module _ {O : Type 0} (sent : O → EndLog OutCall) where
  pub legs_open_none : (config : Config) (legs : List (Lease × O × O)) (calls : List PortCall) → ClosesLegs sent config legs calls → NoneOpened calls
  legs_open_none config [] calls closes = ap opening_answers closes
  legs_open_none config (leg ∷ legs) calls closes = ap opening_answers closes.3 ∙ legs_open_none config legs closes.2 closes.4

  -- of the legs that went
  pub gone_open_none : (config : Config) (legs : List (Lease × O × O)) (old new : Option (List PortCall)) → Gained old new (ClosesLegs sent config legs) → Gained old new NoneOpened
  gone_open_none config legs old new closes = gained_less old new (ClosesLegs sent config legs) NoneOpened (λ calls these. legs_open_none config legs calls these) closes

  -- of those of a call
  pub theirs_open_none : (config : Config) (legs : List Holder) (old new : Option (List PortCall)) → Gained old new (ClosesTheirs sent config legs) → Gained old new NoneOpened
  theirs_open_none config legs old new closes =
      gained_less old new (ClosesTheirs sent config legs) NoneOpened (λ calls these. legs_open_none config these.0 calls these.2) closes

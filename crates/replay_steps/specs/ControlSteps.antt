-- What the control link of a replay tells of a control turn, and what is printed of it.
use Rattle.std.specs.Prelude.{◌≡◌, ℕ, Bool, true, false, List, Option, Some, IsSome, Result, Ok, Err}
use Rattle.relay_outside.specs.declared.address.Addr.{Addr}
use Rattle.relay_outside.specs.declared.keys.KeyCall.{KeyCall}
use Rattle.relay_outside.specs.declared.link.LinkCall.{LinkCall}
use Rattle.relay_outside.specs.declared.ports.PortCall.{PortCall}
use Rattle.relay_outside.specs.declared.settings.Config.{Config}
use Rattle.relay_outside.specs.LinkTape.{last_sent}
use Rattle.relay_outside.specs.DeviceLogs.{Gained}
use Rattle.ng_server.specs.declared.control_turn.ControlTurn.{ControlTurn}
use Rattle.ng_server.specs.declared.control_turn.ControlTurn.TheVariants as turn
use Rattle.relay_core.specs.Entries.{Entry}
use Rattle.relay_script.specs.declared.event.Printed as coded
use Rattle.relay_script.specs.EventLines as event
use Rattle.relay_script.specs.EventLines.{Printed, event_of}
use Rattle.replay_devices.specs.Link.{last_taken}
use Rattle.replay_steps.specs.declared.ended.Untold.{Untold}
use Rattle.replay_steps.specs.declared.ended.Untold.TheVariants as untold
use Rattle.replay_steps.specs.Steps.{filled, Controls}

-- the event is that of a reply, the last one that the link says it sent
pub record IsReply (log : Option (List LinkCall)) (e : Printed) : Type 0 where
  pub to : Addr
  pub bytes : List ℕ
  pub sent : last_sent log ≡ Some (to, bytes)
  pub is : e ≡ event.Reply to bytes

-- the last datagram that the link says a take gave is this one, as far as its room takes it
abbrev pub TellsTaken : Option (List LinkCall) → Addr → List ℕ → Type 0
TellsTaken log source bytes = last_taken log ≡ Some (source, filled bytes)

-- the event of a turn in which a datagram was taken, and whose send has to fail or not
abbrev pub IsOfTurn : ControlTurn → (reply_fails : Bool) → Option (List LinkCall) → Printed → Type 0
IsOfTurn turn.Silent reply_fails log e = e ≡ event.Silent
IsOfTurn turn.Replied reply_fails log e = (reply_fails ≡ false) × IsReply log e
IsOfTurn turn.ReplyFault reply_fails log e = (reply_fails ≡ true) × (e ≡ event.ReplyFault)
IsOfTurn turn.ReadFault reply_fails log e = ⊥
IsOfTurn turn.Nothing reply_fails log e = ⊥
IsOfTurn turn.End reply_fails log e = ⊥

-- the event of a turn whose take and send have to fail or not: the take failed, or it gave this datagram
abbrev pub TellsTurn : ControlTurn → (read_fails reply_fails : Bool) → Option (List LinkCall) → Addr → List ℕ → Printed → Type 0
TellsTurn turn.ReadFault read_fails reply_fails log source bytes e = (read_fails ≡ true) × (e ≡ event.ReadFault)
TellsTurn answer read_fails reply_fails log source bytes e = (read_fails ≡ false) × TellsTaken log source bytes × IsOfTurn answer reply_fails log e

-- the same of what is printed; the link did otherwise only where it tells, and no event is that of such a turn. Without memory nothing is said
abbrev pub TellsEvent : ControlTurn → (read_fails reply_fails : Bool) → Option (List LinkCall) → Addr → List ℕ → Result coded.Printed Untold → Type 0
TellsEvent answer read_fails reply_fails log source bytes (Err untold.OutOfMemory) = Unit {0}
TellsEvent answer read_fails reply_fails log source bytes (Err untold.DeviceFault) =
    IsSome log × ((e : Printed) → TellsTurn answer read_fails reply_fails log source bytes e → ⊥)
TellsEvent answer read_fails reply_fails log source bytes (Ok e) = TellsTurn answer read_fails reply_fails log source bytes (event_of e)

-- what a control turn did, where its event is printed, with the calls of the port maker and of the key source, where these tell them
abbrev pub Controlled : Config → (clock : ℕ) → List Entry → Addr → List ℕ → (read_fails reply_fails : Bool) → (ports ports_now : Option (List PortCall)) → (keys keys_now : Option (List KeyCall))
    → Result coded.Printed Untold → List Entry → Type 0
Controlled config clock l source bytes read_fails reply_fails ports ports_now keys keys_now (Err why) new = Unit {0}
Controlled config clock l source bytes read_fails reply_fails ports ports_now keys keys_now (Ok e) new =
    Gained ports ports_now (λ opened. Gained keys keys_now (λ drawn. Controls config clock l source bytes read_fails reply_fails opened drawn (event_of e) new))

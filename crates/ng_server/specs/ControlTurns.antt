-- What one control turn does to its link, and to the main hand's list.
use Rattle.std.specs.Prelude.{◌≡◌, ℕ, Bool, true, false, List, [], ◌∷◌, length, Option, None, Some, nat_lt}
use Rattle.ng_frame.specs.Frame.{frame}
use Rattle.relay_outside.specs.DeviceLogs.{Gains, Gained}
use Rattle.relay_outside.specs.declared.address.Addr.{Addr}
use Rattle.relay_outside.specs.declared.keys.KeyCall.{KeyCall}
use Rattle.relay_outside.specs.declared.link.LinkGiven.{LinkGiven}
use Rattle.relay_outside.specs.declared.link.LinkGiven.TheVariants as given
use Rattle.relay_outside.specs.declared.link.LinkCall.{LinkCall}
use Rattle.relay_outside.specs.declared.link.LinkCall.TheVariants as call
use Rattle.relay_outside.specs.declared.ports.PortCall.{PortCall}
use Rattle.relay_outside.specs.declared.settings.Config.{Config}
use Rattle.turn_table.specs.declared.hands.Hand.{Hand}
use Rattle.call_board.specs.Acts.{BoardEntry}
use Rattle.relay_core.specs.declared.part.Part.{Part}
use Rattle.relay_core.specs.Records.{Made}
use Rattle.relay_core.specs.Turns.{made_by}
use Rattle.board_turns.specs.Between.{board_of, MakesTurn}
use Rattle.board_turns.specs.Controls.{RequestRecord, control_of, entry_at, moment_at, entry_pairs}
use Rattle.board_turns.specs.DeviceAnswers.{IsGivenBy}
use Rattle.ng_server.specs.declared.control_turn.ControlTurn.{ControlTurn}
use Rattle.ng_server.specs.declared.control_turn.ControlTurn.TheVariants as turn

-- whether a turn sent a reply, or tried to
abbrev pub is_answered : ControlTurn → Bool
is_answered turn.Replied = true
is_answered turn.ReplyFault = true
is_answered turn.Silent = false
is_answered turn.Nothing = false
is_answered turn.End = false
is_answered turn.ReadFault = false

-- the turn whose reply was sent, or not
abbrev pub turn_after : Bool → ControlTurn
turn_after true = turn.Replied
turn_after false = turn.ReplyFault

-- whether a datagram has more bytes than one may have
abbrev pub is_too_long : List ℕ → Bool
is_too_long datagram = nat_lt 16384 (length datagram)

-- a take that gave no datagram ends the turn so
abbrev pub EndsAs : LinkGiven → ControlTurn → Type 0
EndsAs (given.Datagram from datagram) answer = ⊥
EndsAs given.Nothing answer = answer ≡ turn.Nothing
EndsAs given.End answer = answer ≡ turn.End
EndsAs given.Failed answer = answer ≡ turn.ReadFault

-- one take into a room of 16,385 bytes, which gave this datagram
abbrev pub TakesDatagram : Addr → List ℕ → (before after : Option (List LinkCall)) → Type 0
TakesDatagram from datagram before after = Gains before after (call.Take 16385 (given.Datagram from datagram))

-- one take into a room of 16,385 bytes, which gave no datagram and so ended the turn
pub record TakesNoDatagram (answer : ControlTurn) (before after : Option (List LinkCall)) : Type 0 where
  pub gave : LinkGiven
  pub ends : EndsAs gave answer
  pub gains : Gains before after (call.Take 16385 gave)

module _ {M I O T : Type 0} {g : _} where
  -- a turn that replied added to the hand's list the board's turn of what is recorded, with the entry that the history demands; every
  -- other turn left the hand as it was
  abbrev pub FollowsTake : Config → (old new : Hand M (Part I O) Made T g) → ℕ → ControlTurn → Option RequestRecord → Type 0
  FollowsTake config old new now answer None = (is_answered answer ≡ false) × (new ≡ old)
  FollowsTake config old new now answer (Some x) =
      (is_answered answer ≡ true) × MakesTurn config old new (entry_at config (board_of (made_by old)) (moment_at (board_of (made_by old)) now) x)

-- one send, to the datagram's source, of the reply that this history of the board demands; what is recorded is this datagram
pub record Exchanged (config : Config) (h : List BoardEntry) (now : ℕ) (from : Addr) (parts : List ℕ × List ℕ) (too_long : Bool) (answer : ControlTurn) (x : RequestRecord) (sends : List LinkCall) : Type 0 where
  pub source_is : x.source ≡ from
  pub cookie_is : x.cookie ≡ parts.0
  pub body_is : x.body ≡ parts.1
  pub length_is : x.too_long ≡ too_long
  pub done : Bool
  pub answer_is : answer ≡ turn_after done
  pub sends_are : sends ≡ call.Send from (control_of config h (moment_at h now) x).reply done ∷ []

-- what follows a datagram with this frame
abbrev pub DidReply : Config → List BoardEntry → ℕ → Addr → Option (List ℕ × List ℕ) → Bool → ControlTurn → Option RequestRecord → List LinkCall → Type 0
DidReply config h now from None too_long answer made sends = (answer ≡ turn.Silent) × (made ≡ None) × (sends ≡ [])
DidReply config h now from (Some parts) too_long answer None sends = ⊥
DidReply config h now from (Some parts) too_long answer (Some x) sends = Exchanged config h now from parts too_long answer x sends

-- what follows a take that gave this
abbrev pub DidFollow : Config → List BoardEntry → ℕ → LinkGiven → ControlTurn → Option RequestRecord → List LinkCall → Type 0
DidFollow config h now (given.Datagram from datagram) answer made sends = DidReply config h now from (frame datagram) (is_too_long datagram) answer made sends
DidFollow config h now given.Nothing answer made sends = (answer ≡ turn.Nothing) × (made ≡ None) × (sends ≡ [])
DidFollow config h now given.End answer made sends = (answer ≡ turn.End) × (made ≡ None) × (sends ≡ [])
DidFollow config h now given.Failed answer made sends = (answer ≡ turn.ReadFault) × (made ≡ None) × (sends ≡ [])

-- the calls of one turn, by the board's history before it: a take into a room of 16,385 bytes, and what follows it
pub record DidTurn (config : Config) (h : List BoardEntry) (now : ℕ) (answer : ControlTurn) (made : Option RequestRecord) (calls : List LinkCall) : Type 0 where
  pub gave : LinkGiven
  pub sends : List LinkCall
  pub calls_are : calls ≡ call.Take 16385 gave ∷ sends
  pub followed : DidFollow config h now gave answer made sends

-- what the devices returned in a turn that was handed this moment, by the board's history before it; of a turn that made no entry neither
-- the port maker nor the key source was asked
abbrev pub GaveFor : Config → List BoardEntry → (now : ℕ) → Option RequestRecord → (ports ports_now keys keys_now : ℕ) → (opened opened_now : Option (List PortCall)) → (drew drew_now : Option (List KeyCall)) → Type 0
GaveFor config h now None ports ports_now keys keys_now opened opened_now drew drew_now = (opened_now ≡ opened) × (drew_now ≡ drew)
GaveFor config h now (Some x) ports ports_now keys keys_now opened opened_now drew drew_now =
    IsGivenBy config (entry_pairs config h (moment_at h now) x) x.given ports ports_now keys keys_now opened opened_now drew drew_now

module _ {M I O T : Type 0} {g : _} where
  -- what follows a datagram that was taken
  pub record Responded (config : Config) (old new : Hand M (Part I O) Made T g) (now : ℕ) (from : Addr) (datagram : List ℕ) (answer : ControlTurn)
      (ports ports_now keys keys_now : ℕ) (opened opened_now : Option (List PortCall)) (drew drew_now : Option (List KeyCall)) (before after : Option (List LinkCall)) : Type 0 where
    pub made : Option RequestRecord
    pub follows : FollowsTake config old new now answer made
    pub given : GaveFor config (board_of (made_by old)) now made ports ports_now keys keys_now opened opened_now drew drew_now
    pub calls : Gained before after (DidReply config (board_of (made_by old)) now from (frame datagram) (is_too_long datagram) answer made)

  -- One control turn, where this moment is handed in: the main hand's list gained at most one turn of the board, whose entry says of
  -- the outside what the port maker and the key source told, and the link's list the calls of the turn
  pub record Turned (config : Config) (old new : Hand M (Part I O) Made T g) (now : ℕ) (answer : ControlTurn)
      (ports ports_now keys keys_now : ℕ) (opened opened_now : Option (List PortCall)) (drew drew_now : Option (List KeyCall)) (before after : Option (List LinkCall)) : Type 0 where
    pub made : Option RequestRecord
    pub follows : FollowsTake config old new now answer made
    pub given : GaveFor config (board_of (made_by old)) now made ports ports_now keys keys_now opened opened_now drew drew_now
    pub calls : Gained before after (DidTurn config (board_of (made_by old)) now answer made)

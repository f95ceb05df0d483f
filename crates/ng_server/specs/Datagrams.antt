-- What one datagram adds to the hand's list and to the link's.
use Rattle.std.specs.Prelude.{◌≡◌, ℕ, List, ◌∷◌, ◌++◌, Option, Some, Result, length, nat_lt}
use Rattle.relay_outside.specs.declared.answers.Failed.{Failed}
use Rattle.relay_outside.specs.declared.keys.KeyCall.{KeyCall}
use Rattle.relay_outside.specs.declared.link.LinkCall.{LinkCall}
use Rattle.relay_outside.specs.declared.ports.PortCall.{PortCall}
use Rattle.relay_outside.specs.declared.settings.Config.{Config}
use Rattle.turn_table.specs.declared.hands.Hand.{Hand}
use Rattle.ng_frame.specs.Frame.{frame}
use Rattle.cookie_cache.specs.Keepings.{IsCookie}
use Rattle.relay_core.specs.declared.part.Part.{Part}
use Rattle.relay_core.specs.Records.{Made}
use Rattle.relay_core.specs.Turns.{made_by}
use Rattle.board_turns.specs.Between.{board_of, MakesTurn}
use Rattle.control_messages.specs.declared.request.Request.{Request}
use Rattle.board_turns.specs.Controls.{RequestRecord, control_of, moment_at, entry_at, entry_pairs}
use Rattle.board_turns.specs.DeviceAnswers.{IsGivenBy}
use Rattle.ng_server.specs.SentReplies.{SendsOnce}

-- the request is a datagram that has a frame
pub record IsRequest (request : Request) : Type 0 where
  pub cookie : IsCookie request.cookie.now
  pub framed : frame (request.cookie.now ++ 32 ∷ request.body.now) ≡ Some (request.cookie.now, request.body.now)
  pub length_is : request.too_long ≡ nat_lt 16384 (length (request.cookie.now ++ 32 ∷ request.body.now))

-- it is the request that is recorded
pub record IsRecordOf (request : Request) (x : RequestRecord) : Type 0 where
  pub source_is : x.source ≡ request.source
  pub cookie_is : x.cookie ≡ request.cookie.now
  pub body_is : x.body ≡ request.body.now
  pub length_is : x.too_long ≡ request.too_long

module _ {M I O T : Type 0} {g : _} where
  -- The hand's list gained the board's turn of this request at this moment: the nested entries that are owed, and the entry that the
  -- board's history demands; what the entry says that the devices returned is what they told; and the entry's reply was sent
  -- once, to the request's source, with this result
  pub record AnswersInTurn (config : Config) (old new : Hand M (Part I O) Made T g) (request : Request) (now : ℕ) (sent : Result (Unit {0}) Failed)
      (ports ports_now keys keys_now : ℕ) (opened opened_now : Option (List PortCall)) (drew drew_now : Option (List KeyCall)) (before after : Option (List LinkCall)) : Type 0 where
    pub hearing : RequestRecord
    pub is_heard : IsRecordOf request hearing
    pub makes : MakesTurn config old new (entry_at config (board_of (made_by old)) (moment_at (board_of (made_by old)) now) hearing)
    pub given : IsGivenBy config (entry_pairs config (board_of (made_by old)) (moment_at (board_of (made_by old)) now) hearing) hearing.given ports ports_now keys keys_now opened opened_now drew drew_now
    pub sends : SendsOnce request.source (control_of config (board_of (made_by old)) (moment_at (board_of (made_by old)) now) hearing).reply sent before after

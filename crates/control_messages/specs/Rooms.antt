-- Room for a reply that is not known yet.
use Rattle.std.specs.Prelude.{◌≡◌, ◌≤◌, ℕ, ◌+◌, ◌*◌, Bool, true, false, List, [], length}
use Rattle.ng_bencode.specs.Room.{Room}
use Rattle.ng_bencode.specs.Spells.{spelling}
use Rattle.ng_reply.specs.Replies.{sdp_reply}
use Rattle.call_board.specs.Dialects.{is_json}

-- how many bytes of room the reply with this description takes: in bencode as many as it has, in JSON up to six for each byte
abbrev pub reply_room : (in_json : Bool) → List ℕ → ℕ
reply_room false sdp = length (spelling (sdp_reply sdp))
reply_room true sdp = 6 * length sdp + 64

-- how many the whole datagram takes that replies so to a body
abbrev pub described_room : (cookie body sdp : List ℕ) → ℕ
described_room cookie body sdp = length cookie + 1 + reply_room (is_json body) sdp

-- Nothing is written yet, and there is room for the datagram of success with any description of up to this many bytes,
-- and for that of any error, which has at most 512 bytes.
pub record IsReplyRoom (cookie body : List ℕ) (sdp_len : ℕ) (room : Room ℕ) : Type 0 where
  pub empty : room.list ≡ []
  pub described : (sdp : List ℕ) → length sdp ≤ sdp_len → described_room cookie body sdp ≤ room.spare
  pub error : 512 ≤ room.spare

-- How much room the datagram of success with a description takes.
use Rattle.std.proofs.Common.{◌≡◌, ◌≤◌, ◌<◌, ◌+◌, ◌*◌, ◌/◌, ◌%◌, ◌^◌, ℕ, Bool, true, false, List, [], ◌∷◌, ◌++◌, length, decimal, replicate, sym, ap, arith}
use Rattle.std.proofs.lemmas.Fmt.{decimal_digit, decimal_step, decimal_by_steps, length-decimal-le}
use Rattle.std.proofs.lemmas.List.{length-append, length-replicate}
use Rattle.ng_bencode.specs.Room.{Room}
use Rattle.ng_bencode.specs.Spells.{spelling}
use Rattle.ng_reply.specs.Replies.{sdp_reply}
use Rattle.ng_reply.proofs.Spelled.{sdp_length}
use Rattle.call_board.specs.Dialects.{is_json}
use Rattle.control_messages.specs.Rooms.{reply_room, IsReplyRoom}

-- no smaller number has more digits than these
abbrev Longest : ℕ → List ℕ → Type 0
Longest n digits = (m : ℕ) → m ≤ n → m < 2 ^ 64 → length (decimal m) ≤ length digits

one_digit : (n : ℕ) → n < 10 → Longest n ((48 + n) ∷ [])
one_digit n small m le fits = omega (arith, ap length (decimal_digit m (omega arith)))

one_more : (n : ℕ) (ds : List ℕ) → 10 ≤ n → Longest (n / 10) ds → Longest n (ds ++ ((48 + n % 10) ∷ []))
one_more n ds big below m le fits =
    let short : m < 10 → length (decimal m) ≡ 1 = λ small. ap length (decimal_digit m small) in
    let long : 10 ≤ m → length (decimal m) ≤ length ds + 1 = λ large. omega (arith, ap length (decimal_step m large fits), length-append (decimal (m / 10)) ((48 + m % 10) ∷ []), below (m / 10) (omega arith) (omega arith)) in
    grind (arith, length-append ds ((48 + n % 10) ∷ []), short, long)

-- a number has no fewer digits than a smaller one
pub longer_decimal : (m n : ℕ) → m ≤ n → n < 2 ^ 64 → length (decimal m) ≤ length (decimal n)
longer_decimal m n le fits = decimal_by_steps Longest one_digit one_more n fits m le (omega arith)

-- how long the reply in bencode with a description of this length is
abbrev IsReplyLen : ℕ → ℕ → Type 0
IsReplyLen most len = (sdp : List ℕ) → length sdp ≡ most → len ≡ length (spelling (sdp_reply sdp))

reply_len : (most len : ℕ) → IsReplyLen most len → len ≡ 18 + length (decimal most) + 1 + most + 1
reply_len most len is =
    let sdp : List ℕ = replicate most 0 in
    let same : length sdp ≡ most = length-replicate most 0 in
    omega (arith, is sdp same, sdp_length sdp, same, ap (λ n. length (decimal n)) same)

-- how much room the reply with a description of this length takes
abbrev pub IsRoom : (in_json : Bool) → ℕ → ℕ → Type 0
IsRoom in_json most len = (sdp : List ℕ) → length sdp ≡ most → len ≡ reply_room in_json sdp

json_room : (most len : ℕ) → IsRoom true most len → len ≡ 6 * most + 64
json_room most len is =
    let sdp : List ℕ = replicate most 0 in
    let same : length sdp ≡ most = length-replicate most 0 in
    omega (arith, is sdp same, same)

pub short_room : (in_json : Bool) (most len : ℕ) → most < 2 ^ 40 → IsRoom in_json most len → len ≤ 6 * most + 64
short_room false most len small is = omega (arith, reply_len most len is, length-decimal-le 13 most (omega arith) (omega arith) (omega arith))
short_room true most len small is = omega (arith, json_room most len is)

shorter : (in_json : Bool) (sdp : List ℕ) (most len : ℕ) → most < 2 ^ 40 → IsRoom in_json most len → length sdp ≤ most → reply_room in_json sdp ≤ len
shorter false sdp most len small is le = omega (arith, sdp_length sdp, reply_len most len is, longer_decimal (length sdp) most le (omega arith))
shorter true sdp most len small is le = omega (arith, json_room most len is, le)

-- a text with so much room is room for a reply
pub room_made : (cookie body : List ℕ) (most len : ℕ) (room : Room ℕ) → most < 2 ^ 40 → IsRoom (is_json body) most len → room.list ≡ [] → length cookie + 1 + len ≤ room.spare → 512 ≤ room.spare
    → IsReplyRoom cookie body most room
room_made cookie body most len room small is empty fits error = record {
  empty = empty;
  described = λ sdp le. omega (arith, shorter (is_json body) sdp most len small is le, fits);
  error = error;
}

-- the room in the dialect of a body
pub room_by : (body sdp : List ℕ) (in_json : Bool) → is_json body ≡ in_json → reply_room in_json sdp ≡ reply_room (is_json body) sdp
room_by body sdp in_json is = ap (λ (b : Bool). reply_room b sdp) (sym is)

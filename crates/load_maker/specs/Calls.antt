-- What the generated calls signal, by their numbers from 1: their call-ids, their descriptions, and the bodies of the two commands that make each.
use Rattle.std.specs.Prelude.{ℕ, ◌+◌, ◌*◌, ◌%◌, Bool, true, false, List, ◌++◌, codes, decimal, replicate}
use Rattle.ng_bencode.specs.Tree.{Tree, Bytes, Dict, Entries, no_entries}
use Rattle.ng_reply.specs.Pairs.{with_pair}
use Rattle.ng_reply.specs.Replies.{text_entry}
use Rattle.sdes_lines.specs.CryptoLine.{line_text}
use Rattle.sdes_lines.specs.declared.crypto_line.Suite.TheVariants.{Tag80}

abbrev pub call_id : ℕ → List ℕ
call_id call = codes "load-" ++ decimal call

-- the port that both sides of a call signal for RTP
abbrev pub signalled_port : ℕ → ℕ
signalled_port call = 10000 + 2 * call

-- side B's master key and salt
abbrev pub answer_key : ℕ → List ℕ
answer_key call = replicate 30 (call % 256)

-- side A's description
abbrev pub side_a_sdp : ℕ → List ℕ
side_a_sdp call =
    codes "v=0\r\no=alice 1 1 IN IP4 192.0.2.10\r\ns=-\r\nc=IN IP4 192.0.2.10\r\nt=0 0\r\nm=audio "
    ++ decimal (signalled_port call)
    ++ codes " RTP/AVP 0 8\r\na=rtpmap:0 PCMU/8000\r\na=sendrecv\r\n"

-- what follows the port in side B's description: where the call is protected, its one crypto line with side B's key
abbrev pub answer_end : ℕ → Bool → List ℕ
answer_end call true = codes " RTP/SAVP 0\r\n" ++ line_text 1 Tag80 (answer_key call) ++ codes "\r\n"
answer_end call false = codes " RTP/AVP 0\r\n"

-- side B's description
abbrev pub answered_sdp : ℕ → Bool → List ℕ
answered_sdp call protected =
    codes "v=0\r\no=bob 2 2 IN IP4 198.51.100.20\r\ns=-\r\nc=IN IP4 198.51.100.20\r\nt=0 0\r\nm=audio "
    ++ decimal (signalled_port call)
    ++ answer_end call protected

-- the pairs, and after them the protocol towards side B, where it is to be protected
abbrev pub with_profile : Entries → Bool → Entries
with_profile pairs true = with_pair pairs (codes "transport protocol") (Bytes (codes "RTP/SAVP"))
with_profile pairs false = pairs

-- the body of a call's offer; its keys stand in byte order
abbrev pub offer_body : ℕ → Bool → Tree
offer_body call protected =
    Dict
    (with_profile
    (text_entry (codes "call-id") (call_id call)
    (text_entry (codes "command") (codes "offer")
    (text_entry (codes "from-tag") (codes "a")
    (text_entry (codes "sdp") (side_a_sdp call) no_entries))))
    protected)

-- the body of its answer
abbrev pub answer_body : ℕ → Bool → Tree
answer_body call protected =
    Dict
    (text_entry (codes "call-id") (call_id call)
    (text_entry (codes "command") (codes "answer")
    (text_entry (codes "from-tag") (codes "a")
    (text_entry (codes "sdp") (answered_sdp call protected)
    (text_entry (codes "to-tag") (codes "b") no_entries)))))

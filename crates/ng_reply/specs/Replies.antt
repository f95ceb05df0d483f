-- The replies as bencoded values, their keys in byte order.
use Rattle.std.specs.Prelude.{ℕ, List, ◌∷◌, ◌++◌, codes}
use Rattle.ng_bencode.specs.Tree.{Tree, Bytes, Dict, Entries, no_entries, entry}
use Rattle.ng_bencode.specs.Spells.{spelling}
use Rattle.ng_json.specs.JsonText.{json_text}
use Rattle.ng_reply.specs.Texts.{code_text}
use Rattle.ng_reply.specs.declared.code.ErrorCode.{ErrorCode}

-- a pair of two texts, before the rest
abbrev pub text_entry : List ℕ → List ℕ → Entries → Entries
text_entry key text rest = entry key (Bytes text) rest

-- a ping's reply
abbrev pub pong_reply : Tree
pong_reply = Dict (text_entry (codes "result") (codes "pong") no_entries)

-- success
abbrev pub ok_reply : Tree
ok_reply = Dict (text_entry (codes "result") (codes "ok") no_entries)

-- success with a description
abbrev pub sdp_reply : List ℕ → Tree
sdp_reply sdp = Dict (text_entry (codes "result") (codes "ok") (text_entry (codes "sdp") sdp no_entries))

-- success with a warning
abbrev pub warning_reply : ErrorCode → Tree
warning_reply code = Dict (text_entry (codes "result") (codes "ok") (text_entry (codes "warning") (code_text code) no_entries))

-- failure
abbrev pub error_reply : ErrorCode → Tree
error_reply code = Dict (text_entry (codes "error-reason") (code_text code) (text_entry (codes "result") (codes "error") no_entries))

-- a failure as a datagram: the cookie, a space, the reply
abbrev pub error_datagram : List ℕ → ErrorCode → List ℕ
error_datagram cookie code = cookie ++ 32 ∷ spelling (error_reply code)

-- the same in JSON
abbrev pub json_error_datagram : List ℕ → ErrorCode → List ℕ
json_error_datagram cookie code = cookie ++ 32 ∷ json_text (error_reply code)

-- The reply to a control datagram.
use Rattle.std.specs.Prelude.{ℕ, List, ◌∷◌, ◌++◌}
use Rattle.relay_outside.specs.declared.settings.Config.{Config}
use Rattle.ng_bencode.specs.Tree.{Tree}
use Rattle.ng_reply.specs.declared.code.ErrorCode.{ErrorCode}
use Rattle.ng_reply.specs.Replies.{pong_reply, ok_reply, sdp_reply, warning_reply, error_reply}
use Rattle.call_board.specs.Dialects.{is_json, written_in}
use Rattle.call_board.specs.Reports.{Report, report_tree, listing_tree}

pub data Reply : Type 0 where
  Pong : Reply
  Done : Reply
  Warned : ErrorCode → Reply
  Described : (sdp : List ℕ) → Reply
  Reported : Report → Reply
  Listed : (call_ids : List (List ℕ)) → Reply
  Fault : ErrorCode → Reply

abbrev pub tree_of_reply : Config → Reply → Tree
tree_of_reply config Pong = pong_reply
tree_of_reply config Done = ok_reply
tree_of_reply config (Warned code) = warning_reply code
tree_of_reply config (Described sdp) = sdp_reply sdp
tree_of_reply config (Reported log) = report_tree config log
tree_of_reply config (Listed call_ids) = listing_tree call_ids
tree_of_reply config (Fault code) = error_reply code

-- what follows the cookie and the space: the reply in the dialect of the body that asked
unfoldable pub reply_text : Config → (body : List ℕ) → Reply → List ℕ
reply_text config body reply = written_in (is_json body) (tree_of_reply config reply)

-- the whole datagram: the cookie that was asked with, one space, and the reply
abbrev pub reply_datagram : Config → (cookie body : List ℕ) → Reply → List ℕ
reply_datagram config cookie body reply = cookie ++ 32 ∷ reply_text config body reply

-- the datagram of an error, in every configuration
abbrev pub fault_datagram : (cookie body : List ℕ) → ErrorCode → List ℕ
fault_datagram cookie body code = cookie ++ 32 ∷ written_in (is_json body) (error_reply code)

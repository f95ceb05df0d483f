use Rattle.std.proofs.Common.{◌∙◌, ◌+◌, ◌*◌, sym, ap, true, false}
use Rattle.control_messages.proofs.Lengths.{room_by}
use Rattle.control_messages.proofs.room.described_len.Goals as goal

pub returns-then-is_json : goal.returns-then-is_json
returns-then-is_json c sdp same =
    c.sdp_json_len.ensures ∙ ap (λ n. 6 * n + 64) (sym same) ∙ room_by c.args.body.now sdp true (sym c.is_json.ensures ∙ c.if-is_json.true)

pub returns-else-is_json : goal.returns-else-is_json
returns-else-is_json c sdp same =
    c.sdp_reply_len.ensures sdp same ∙ room_by c.args.body.now sdp false (sym c.is_json.ensures ∙ c.if-is_json.false)

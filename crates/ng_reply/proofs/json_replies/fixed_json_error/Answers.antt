use Rattle.std.proofs.Common.{take, ◌∙◌}
use Rattle.ng_reply.proofs.Jsons.{error_json_written}
use Rattle.ng_reply.proofs.json_replies.fixed_json_error.Goals as goal

pub returns-clause-datagram : goal.returns-clause-datagram
returns-clause-datagram c =
    error_json_written c.args.cookie.now c.as_slice.result.now
    (take c.put-at.result c.put-at.new.out) (take c.put-at-2.result c.put-at-2.new.out) (take c.put-at-3.result c.put-at-3.new.out) (take c.put.result c.put.new.out) c.args.code
    c.put-at.ensures.front c.put-at-2.ensures.front c.put-at-3.ensures.front c.put.ensures.front (c.as_slice.ensures.text ∙ c.code_text-words.ensures)

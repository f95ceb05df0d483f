use Rattle.std.proofs.Common.{take, ◌∙◌}
use Rattle.ng_reply.proofs.Spelled.{error_written}
use Rattle.ng_reply.proofs.error.fixed_error.Goals as goal

pub returns-clause-datagram : goal.returns-clause-datagram
returns-clause-datagram c =
    error_written c.args.cookie.now c.as_slice-text.result.now c.as_bytes-len.result.now
    (take c.put-at.result c.put-at.new.out) (take c.put-at-2.result c.put-at-2.new.out) (take c.put-at-3.result c.put-at-3.new.out)
    (take c.put-at-4.result c.put-at-4.new.out) (take c.put-at-5.result c.put-at-5.new.out) (take c.put.result c.put.new.out) c.args.code
    c.put-at.ensures.front c.put-at-2.ensures.front c.put-at-3.ensures.front c.put-at-4.ensures.front c.put-at-5.ensures.front c.put.ensures.front
    (c.as_bytes-len.ensures.value ∙ c.format.ensures.text) (c.as_slice-text.ensures.text ∙ c.code_text-words.ensures)

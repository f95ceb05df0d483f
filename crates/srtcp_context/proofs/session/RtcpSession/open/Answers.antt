use Rattle.std.proofs.Common.{◌-◌, ◌%◌, ◌^◌, rules, arith}
use Rattle.srtcp_context.proofs.Buffers.{ciphered_in_place, deciphered_in_place, ssrc_kept, ssrc_stands, taken_in_place}
use Rattle.srtcp_context.proofs.session.RtcpSession.open.Goals as goal

pub returns-then-word-eq1-clause-writes : goal.returns-then-word-eq1-clause-writes
returns-then-word-eq1-clause-writes c master for =
    deciphered_in_place master c.args.ssrc c.args.len c.read_word-word.result c.args.buf.now _ c.requires.head c.requires.held
    c.requires.long c.read_word-word.ensures c.if-word-eq1.true
    (ciphered_in_place master c.args.ssrc (c.read_word-word.result % 2 ^ 31) c.args.buf.now c.cipher.new.payload (c.args.len - 14)
    (omega arith) (omega arith) (c.cipher.ensures master for))

pub returns-else-word-eq1-clause-writes : goal.returns-else-word-eq1-clause-writes
returns-else-word-eq1-clause-writes c master for =
    taken_in_place master c.args.ssrc c.args.len c.read_word-word.result c.args.buf.now c.requires.head c.requires.held
    c.requires.long c.read_word-word.ensures c.if-word-eq1.false

pub returns-then-word-eq1-clause-head : goal.returns-then-word-eq1-clause-head
returns-then-word-eq1-clause-head c =
    ssrc_stands c.args.ssrc c.args.len (c.args.len - 14) c.args.buf.now _ c.requires.head c.requires.held
    (omega (arith, c.requires.long)) (omega (arith, c.requires.long)) (search rules)

pub returns-else-word-eq1-clause-head : goal.returns-else-word-eq1-clause-head
returns-else-word-eq1-clause-head c =
    ssrc_kept c.args.ssrc c.args.len (c.args.len - 14) c.args.buf.now c.requires.head (omega (arith, c.requires.long)) (omega arith) c.requires.held

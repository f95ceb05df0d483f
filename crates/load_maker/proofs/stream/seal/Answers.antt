use Rattle.std.proofs.Common.{◌≡◌, ◌∙◌, ap, sym, [], take, ℕ, List}
use Rattle.rtp_packet.specs.Head.{rtp_head}
use Rattle.sdes_lines.specs.declared.crypto_line.Suite.TheVariants.{Tag80}
use Rattle.srtp_context.specs.Packets.{protect}
use Rattle.load_maker.proofs.Sealing.{first_sends, front_is, size_of, some_head}
use Rattle.load_maker.proofs.stream.seal.Goals as goal

pub unreachable-requires : goal.unreachable-requires
unreachable-requires c =
    let found = some_head (rtp_head (take 32 c.args.out.now)) c.requires in
    let sends = first_sends c.split-key.result.0.bytes c.new-context.result c.protect.new.self c.args.out.now c.protect.new.buf found.0 c.protect.result found.1
    (c.protect.ensures.wraps c.split-key.result.0.bytes Tag80 [] c.new-context.ensures) in
    c.in_default.not-Ok _ sends.answer

pub returns-clause-sealed : goal.returns-clause-sealed
returns-clause-sealed c found head =
    let sends = first_sends c.split-key.result.0.bytes c.new-context.result c.protect.new.self c.args.out.now c.protect.new.buf found c.protect.result head
    (c.protect.ensures.wraps c.split-key.result.0.bytes Tag80 [] c.new-context.ensures) in
    let key : c.split-key.result.0.bytes ≡ c.args.key = ap (λ k. k.bytes) (c.split-key.ensures.rtp ∙ c.from_draw.ensures) in
    front_is c.in-Ok.sent.0 (protect c.split-key.result.0.bytes Tag80 (take 32 c.args.out.now) found.seq) _ c.protect.new.buf
    (ap size_of (sym c.in-Ok.is ∙ sends.answer)) sends.buffer
    ∙ ap (λ (m : List ℕ). protect m Tag80 (take 32 c.args.out.now) found.seq) key

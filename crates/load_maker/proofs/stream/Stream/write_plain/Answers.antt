use Rattle.std.proofs.Common.{◌≡◌, ◌∙◌, ap, refl, take, arith}
use Rattle.rtp_packet.specs.Head.{rtp_head}
use Rattle.load_maker.specs.Packets.{plain_packet}
use Rattle.load_maker.proofs.Heads.{plain_head}
use Rattle.load_maker.proofs.stream.Stream.write_plain.Goals as goal

pub returns-clause-head : goal.returns-clause-head
returns-clause-head c =
    let end : 32 ≡ c.put.result = omega (
      arith,
      c.put.ensures.place,
      c.put-at-4.ensures.place,
      c.put-at-3.ensures.place,
      c.put-at-2.ensures.place,
      c.put-at.ensures.place,
    ) in
    let written : take c.put.result c.put.new.out ≡ plain_packet c.args.self.call c.args.self.side c.args.number = rw (
      c.put.ensures.front,
      c.put-at-4.ensures.front,
      c.put-at-3.ensures.front,
      c.put-at-2.ensures.front,
      c.put-at.ensures.front,
      c.to_be_bytes.ensures,
      c.to_be_bytes-2.ensures,
      c.ssrc.ensures,
    ) refl in
    ap (λ n. rtp_head (take n c.put.new.out)) end
    ∙ ap rtp_head written
    ∙ plain_head c.args.self.call c.args.self.side c.args.number c.requires.call c.requires.number

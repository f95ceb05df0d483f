use Rattle.std.proofs.Common.{refl, subst, sym, Some}
use Rattle.rtp_packet.specs.declared.head.Half.{Half}
use Rattle.rtp_packet.specs.declared.head.Half.TheVariants.{Rtp, Rtcp}
use Rattle.call_cell.specs.Parts.{SendsBy}
use Rattle.call_cell.proofs.Forwarding.{end_sends}
use Rattle.call_cell.proofs.sender.Sending.send.Goals as goal

pub returns-in-Rtp-clause-sends : goal.returns-in-Rtp-clause-sends
returns-in-Rtp-clause-sends g c =
    let old = c.args.self.now in
    subst (λ (h : Half). SendsBy g.O.OutEnd.log g.O.OutEnd.faults h c.args.to c.args.bytes.now c.is_ok.result old
    (record { ends = Some (c.send.new.self, c.in-Some.rtcp); tag80 = old.tag80; tag32 = old.tag32 })) (sym c.in-Rtp.is)
    (end_sends g.O.OutEnd.log g.O.OutEnd.faults Rtp c.args.to c.args.bytes.now c.is_ok.result c.send.result old _ (c.in-Some.rtp, c.in-Some.rtcp)
    (c.send.new.self, c.in-Some.rtcp) c.in-Some.is refl c.is_ok.ensures.value c.send.ensures.log c.send.ensures.cause refl)

pub returns-in-Rtcp-clause-sends : goal.returns-in-Rtcp-clause-sends
returns-in-Rtcp-clause-sends g c =
    let old = c.args.self.now in
    subst (λ (h : Half). SendsBy g.O.OutEnd.log g.O.OutEnd.faults h c.args.to c.args.bytes.now c.is_ok-in-Rtcp.result old
    (record { ends = Some (c.in-Some.rtp, c.send-in-Rtcp.new.self); tag80 = old.tag80; tag32 = old.tag32 })) (sym c.in-Rtcp.is)
    (end_sends g.O.OutEnd.log g.O.OutEnd.faults Rtcp c.args.to c.args.bytes.now c.is_ok-in-Rtcp.result c.send-in-Rtcp.result old _ (c.in-Some.rtp, c.in-Some.rtcp)
    (c.in-Some.rtp, c.send-in-Rtcp.new.self) c.in-Some.is refl c.is_ok-in-Rtcp.ensures.value c.send-in-Rtcp.ensures.log c.send-in-Rtcp.ensures.cause refl)

use Rattle.std.proofs.Common.{ap, subst, sym, take}
use Rattle.rtp_packet.specs.declared.head.Half.{Half}
use Rattle.call_cell.specs.declared.heads.Head.{Head}
use Rattle.call_cell.specs.Protection.{wrapped_under}
use Rattle.call_cell.specs.Heads.{half_of, IsHead}
use Rattle.call_cell.specs.Contexts.{OutboundWrapsTo}
use Rattle.call_cell.proofs.contexts.Outbound.protect.Goals as goal

pub protect_rtp-requires-clause-head : goal.protect_rtp-requires-clause-head
protect_rtp-requires-clause-head c = subst (λ (h : Head). IsHead h (take c.args.len c.args.buf.now)) c.in-Rtp.is c.requires.head

pub protect_rtcp-requires-clause-head : goal.protect_rtcp-requires-clause-head
protect_rtcp-requires-clause-head c = subst (λ (h : Head). IsHead h (take c.args.len c.args.buf.now)) c.in-Rtcp.is c.requires.head

pub returns-in-Rtp-clause-wraps : goal.returns-in-Rtp-clause-wraps
returns-in-Rtp-clause-wraps c key notes for =
    let bytes = take c.args.len c.args.buf.now in
    subst (λ (k : Half). OutboundWrapsTo (wrapped_under key notes k bytes) key notes c.args.self.now c.protect_rtp.new.self c.protect_rtp.new.buf c.protect_rtp.result)
    (sym (ap (λ (h : Head). half_of h) c.in-Rtp.is)) (c.protect_rtp.ensures.wraps key notes for)

pub returns-in-Rtcp-clause-wraps : goal.returns-in-Rtcp-clause-wraps
returns-in-Rtcp-clause-wraps c key notes for =
    let bytes = take c.args.len c.args.buf.now in
    subst (λ (k : Half). OutboundWrapsTo (wrapped_under key notes k bytes) key notes c.args.self.now c.protect_rtcp.new.self c.protect_rtcp.new.buf c.protect_rtcp.result)
    (sym (ap (λ (h : Head). half_of h) c.in-Rtcp.is)) (c.protect_rtcp.ensures.wraps key notes for)

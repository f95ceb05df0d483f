use Rattle.std.proofs.Common.{ap, subst, sym, take}
use Rattle.std.specs.Prelude.{IfOk}
use Rattle.rtp_packet.specs.declared.head.Half.{Half}
use Rattle.call_cell.specs.declared.heads.Head.{Head}
use Rattle.call_cell.specs.Protection.{opened_under}
use Rattle.call_cell.specs.Heads.{half_of, IsHead}
use Rattle.call_cell.specs.Contexts.{InboundOpensTo}
use Rattle.call_cell.proofs.contexts.Inbound.unprotect.Goals as goal

pub unprotect_rtp-requires-clause-head : goal.unprotect_rtp-requires-clause-head
unprotect_rtp-requires-clause-head c = subst (λ (h : Head). IsHead h (take c.args.len c.args.buf.now)) c.in-Rtp.is c.requires.head

pub unprotect_rtcp-requires-clause-head : goal.unprotect_rtcp-requires-clause-head
unprotect_rtcp-requires-clause-head c = subst (λ (h : Head). IsHead h (take c.args.len c.args.buf.now)) c.in-Rtcp.is c.requires.head

pub returns-in-Rtp-clause-head : goal.returns-in-Rtp-clause-head
returns-in-Rtp-clause-head c =
    subst (λ (h : Head). IfOk c.unprotect_rtp.result (λ size. IsHead h (take size c.unprotect_rtp.new.buf))) (sym c.in-Rtp.is) c.unprotect_rtp.ensures.head

pub returns-in-Rtcp-clause-head : goal.returns-in-Rtcp-clause-head
returns-in-Rtcp-clause-head c =
    subst (λ (h : Head). IfOk c.unprotect_rtcp.result (λ size. IsHead h (take size c.unprotect_rtcp.new.buf))) (sym c.in-Rtcp.is) c.unprotect_rtcp.ensures.head

pub returns-in-Rtp-clause-opens : goal.returns-in-Rtp-clause-opens
returns-in-Rtp-clause-opens c key notes for =
    let bytes = take c.args.len c.args.buf.now in
    subst (λ (k : Half). InboundOpensTo (opened_under key notes k bytes) key notes c.args.self.now c.unprotect_rtp.new.self c.unprotect_rtp.new.buf c.unprotect_rtp.result)
    (sym (ap (λ (h : Head). half_of h) c.in-Rtp.is)) (c.unprotect_rtp.ensures.opens key notes for)

pub returns-in-Rtcp-clause-opens : goal.returns-in-Rtcp-clause-opens
returns-in-Rtcp-clause-opens c key notes for =
    let bytes = take c.args.len c.args.buf.now in
    subst (λ (k : Half). InboundOpensTo (opened_under key notes k bytes) key notes c.args.self.now c.unprotect_rtcp.new.self c.unprotect_rtcp.new.buf c.unprotect_rtcp.result)
    (sym (ap (λ (h : Head). half_of h) c.in-Rtcp.is)) (c.unprotect_rtcp.ensures.opens key notes for)

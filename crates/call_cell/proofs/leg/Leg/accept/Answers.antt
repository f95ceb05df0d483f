use Rattle.std.proofs.Common.{◌∙◌, ap, sym, Option, subst, take}
use Rattle.std.proofs.lemmas.Result.{err_from_is_err_and}
use Rattle.rtp_packet.specs.declared.head.Half.{Half}
use Rattle.port_pool.specs.declared.signal.LegSignal.{LegSignal}
use Rattle.histories.specs.Words.{or_else}
use Rattle.call_cell.specs.Blocks.{block_in}
use Rattle.call_cell.specs.Counts.{more_accepted}
use Rattle.call_cell.specs.Heads.{half_of}
use Rattle.call_cell.specs.Parts.{ReceivingFor}
use Rattle.call_cell.proofs.Accepting.{leg_malformed, leg_refuses, leg_takes}
use Rattle.call_cell.proofs.HeadLemmas.{no_packet_by, read_is}
use Rattle.call_cell.proofs.leg.Leg.accept.Goals as goal

pub returns-in_default-read_head-clause-accepts : goal.returns-in_default-read_head-clause-accepts
returns-in_default-read_head-clause-accepts g c known notes for =
    let bytes = take c.args.len c.args.buf.now in
    leg_malformed c.args.half c.kind_on-kind.result c.args.source bytes c.in-Some.signal known notes c.args.self.now c.args.buf.now c.in-Some.is c.kind_on-kind.ensures
    (no_packet_by c.kind_on-kind.result bytes c.read_head.result c.read_head.ensures c.in_default-read_head.is)

pub returns-in_err-len-clause-accepts : goal.returns-in_err-len-clause-accepts
returns-in_err-len-clause-accepts g c known notes for =
    let bytes = take c.args.len c.args.buf.now in
    let read = read_is c.kind_on-kind.result bytes c.read_head.result c.in-Some-read_head.head c.read_head.ensures c.in-Some-read_head.is in
    let p = err_from_is_err_and c.from_residual.result c.from_residual.ensures.1 in
    rw (p.1, p.2)
    (leg_refuses c.args.half (half_of c.in-Some-read_head.head) c.args.source bytes c.in-Some.signal known notes c.args.self.now c.accept.new.self c.accept.new.buf
    c.in_err-len.field-0.0 c.in-Some.is (read.half_is ∙ c.kind_on-kind.ensures)
    (c.in_err-len.ensures.accepts known notes (subst (λ (o : Option LegSignal). ReceivingFor o c.args.self.now.receiving known notes) c.in-Some.is for)))

pub returns-clause-accepts : goal.returns-clause-accepts
returns-clause-accepts g c known notes for =
    let bytes = take c.args.len c.args.buf.now in
    let read = read_is c.kind_on-kind.result bytes c.read_head.result c.in-Some-read_head.head c.read_head.ensures c.in-Some-read_head.is in
    leg_takes c.args.half (half_of c.in-Some-read_head.head) c.args.source bytes c.in-Some.signal known notes c.args.self.now c.accept.new.self c.accept-2.new.self c.later_block-self.result c.accept.new.buf
    c.in_ok-len.len c.in-Some.is (read.half_is ∙ c.kind_on-kind.ensures)
    (c.accept-2.ensures ∙ ap (λ (k : Half). more_accepted k c.args.self.now.counts) (sym read.half_is))
    (c.later_block-self.ensures ∙ ap (λ (k : Half). or_else (block_in k (take c.in_ok-len.len c.accept.new.buf)) c.args.self.now.report) (sym read.half_is))
    (c.in_ok-len.ensures.accepts known notes (subst (λ (o : Option LegSignal). ReceivingFor o c.args.self.now.receiving known notes) c.in-Some.is for))

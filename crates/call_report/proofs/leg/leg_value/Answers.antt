use Rattle.std.proofs.Common.{◌≡◌, ◌∙◌, ap, ◌+◌, Option, codes}
use Rattle.ng_bencode.specs.Row.{list_in}
use Rattle.ng_bencode.specs.Tree.{Tree, Bytes, Dict, Entries, no_entries, entry, pairs_of}
use Rattle.sdp_text.specs.declared.proto.Proto.{Proto}
use Rattle.port_pool.specs.declared.reports.LegReport.{LegReport}
use Rattle.offer_answer.specs.Plan as plan
use Rattle.call_board.specs.Reports.{counts_tree, endpoint_value, profile_text, whole}
use Rattle.call_report.specs.Blocks.{with_report}
use Rattle.call_report.proofs.Blocks.{told_last}
use Rattle.call_report.proofs.Pushed.{then_pair}
use Rattle.call_report.proofs.leg.leg_value.Goals as goal

pub returns : goal.returns
returns c = λ rounds profile.
    let leg : LegReport = c.args.report.now in
    let rtcp : Tree = counts_tree leg.rtcp_accepted leg.rtcp_sent in
    let rtp : Tree = counts_tree leg.rtp_accepted leg.rtp_sent in
    let endpoint : Tree = endpoint_value leg.endpoint in
    let index : Tree = whole (leg.section + 1) in
    let port : Tree = whole leg.port in
    let protocol : Tree = Bytes (profile_text (plan.protocol rounds leg.section leg.side)) in
    let one : Entries = entry (codes "RTCP") rtcp no_entries in
    let two : Entries = entry (codes "RTCP") rtcp (entry (codes "RTP") rtp no_entries) in
    let three : Entries = entry (codes "RTCP") rtcp (entry (codes "RTP") rtp (entry (codes "endpoint") endpoint no_entries)) in
    let four : Entries = entry (codes "RTCP") rtcp (entry (codes "RTP") rtp (entry (codes "endpoint") endpoint (entry (codes "index") index no_entries))) in
    let five : Entries =
    entry (codes "RTCP") rtcp (entry (codes "RTP") rtp (entry (codes "endpoint") endpoint (entry (codes "index") index (entry (codes "local port") port no_entries)))) in
    let six =
    then_pair five _ _ (codes "protocol") protocol _ c.in_ok-put_text.ensures.put
    (then_pair four _ _ (codes "local port") port _ c.in_ok-put_pair-5.ensures.put
    (then_pair three _ _ (codes "index") index _ c.in_ok-put_pair-4.ensures.put
    (then_pair two _ _ (codes "endpoint") endpoint _ c.in_ok-put_pair-3.ensures.put
    (then_pair one _ _ (codes "RTP") rtp _ c.in_ok-put_pair-2.ensures.put
    (then_pair no_entries _ _ (codes "RTCP") rtcp _ c.in_ok-put_pair.ensures.put (ap pairs_of c.new-pairs.ensures) c.in_ok-rtcp.ensures)
    c.in_ok-rtp.ensures)
    c.in_ok-endpoint.ensures)
    c.whole.ensures)
    c.whole-2.ensures)
    (ap Bytes (c.profile_text.ensures ∙ ap (λ (proto : Option Proto). profile_text proto) profile)) in
    c.dict.ensures
    ∙ ap Dict
    (c.in_ok-put_report.ensures ∙ ap (λ (pairs : Entries). with_report pairs leg.report) six ∙ told_last rtcp rtp endpoint index port protocol leg.report)

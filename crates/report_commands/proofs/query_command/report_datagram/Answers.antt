use Rattle.std.proofs.Common.{◌∙◌, sym, ap, subst, ◌≤◌}
use Rattle.ng_bencode.specs.Tree.{Tree, depth}
use Rattle.call_board.specs.Views.{CallView}
use Rattle.call_board.proofs.Found.{found_is_live}
use Rattle.call_report.proofs.Shallow.{report_shallow}
use Rattle.control_messages.proofs.Datagrams.{value_datagram, reported_is, same_text}
use Rattle.report_commands.specs.Reports.{view_report}
use Rattle.report_commands.proofs.query_command.report_datagram.Goals as goal

pub query-requires-clause-live : goal.query-requires-clause-live
query-requires-clause-live c =
    let shown = c.requires.shown in
    found_is_live shown.0 c.args.board.now shown.1 c.args.call shown.2 shown.3 shown.4

pub value_datagram-requires : goal.value_datagram-requires
value_datagram-requires c =
    let shown = c.requires.shown in
    let of : CallView = shown.2 in
    subst (λ (tree : Tree). depth tree ≤ 16) (sym (c.in_ok-value.ensures shown.0 shown.1 of shown.3 shown.4)) (report_shallow shown.0 (view_report of c.args.reports.now))

pub returns : goal.returns
returns c config v of shows found =
    same_text c.value_datagram.result _ _ c.value_datagram.ensures
    (ap (value_datagram c.args.request.now.cookie.now c.args.request.now.body.now) (c.in_ok-value.ensures config v of shows found)
    ∙ reported_is config c.args.request.now.cookie.now c.args.request.now.body.now (view_report of c.args.reports.now))

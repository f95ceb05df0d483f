use Rattle.std.proofs.Common.{sym, ◌∙◌, ap}
use Rattle.sdp_edit.specs.Places.{begins_with_title}
use Rattle.sdp_edit.proofs.Lists.{drop-get}
use Rattle.sdp_edit.proofs.ahead.begins_with_title.Goals as goal

pub returns-then-index-line_count : goal.returns-then-index-line_count
returns-then-index-line_count c =
    c.is_title.ensures ∙ sym (ap begins_with_title (drop-get c.args.sdp.now c.args.index c.line.result.now c.line.ensures))

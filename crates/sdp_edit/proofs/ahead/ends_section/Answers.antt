use Rattle.std.proofs.Common.{sym, ◌∙◌, ap}
use Rattle.sdp_edit.specs.Places.{ends_section}
use Rattle.sdp_edit.proofs.Lists.{drop-get}
use Rattle.sdp_edit.proofs.ahead.ends_section.Goals as goal

pub returns-else-index-line_count : goal.returns-else-index-line_count
returns-else-index-line_count c =
    c.is_media.ensures ∙ sym (ap ends_section (drop-get c.args.sdp.now c.args.index c.line.result.now c.line.ensures))

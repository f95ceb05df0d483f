use Rattle.std.proofs.Common.{sym, ◌∙◌, ap, Some}
use Rattle.sdp_text.specs.Hosts.{groups, filled_up}
use Rattle.sdp_text.specs.Limits.{no_longer}
use Rattle.sdp_text.proofs.GroupLists.{filled_no_longer}
use Rattle.sdp_text.proofs.group.shortened.Goals as goal

pub returns : goal.returns
returns c =
    let left = sym c.in-Some.is ∙ c.read_groups.ensures in
    let right = sym c.in-Some-read_groups.is ∙ c.read_groups-2.ensures in
    c.fill_up.ensures ∙ ap (λ o. filled_up o (Some c.in-Some-read_groups.right)) left ∙ ap (filled_up (no_longer 8 (groups c.args.before.now))) right ∙ filled_no_longer (groups c.args.before.now) (groups c.args.behind.now)

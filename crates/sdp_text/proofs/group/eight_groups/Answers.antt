use Rattle.std.proofs.Common.{take, drop, ◌+◌, ◌-◌, length}
use Rattle.sdp_text.specs.Hosts.{groups}
use Rattle.sdp_text.proofs.GroupLists.{filled_is, exactly_is}
use Rattle.sdp_text.proofs.group.eight_groups.Goals as goal

pub returns-in-Some-clause-eight : goal.returns-in-Some-clause-eight
returns-in-Some-clause-eight c =
    let text = c.args.text.now in
    let at = c.in-Some.at in
    rw c.shortened.ensures (filled_is (groups (take at text)) (groups (take (length text - (at + 2)) (drop (at + 2) text))))

pub returns-in-None-clause-eight : goal.returns-in-None-clause-eight
returns-in-None-clause-eight c = rw c.whole.ensures (exactly_is (groups c.args.text.now))

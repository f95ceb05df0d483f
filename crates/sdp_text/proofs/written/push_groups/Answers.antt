use Rattle.sdp_text.specs.Hosts.{group_text}
use Rattle.sdp_text.proofs.JoinLemmas.{joined_end}
use Rattle.sdp_text.proofs.written.push_groups.Goals as goal

pub returns-clause-written : goal.returns-clause-written
returns-clause-written c =
    joined_end 58 group_text c.args.out.now c.push_group.new.out c.loop-group.out c.in-Some.first.now c.in-Some.others.now c.args.groups.now c.loop-group.group-index c.in-Some.ensures.cases.0 c.push_group.ensures c.loop-group.invariant.written c.loop-group-test.false

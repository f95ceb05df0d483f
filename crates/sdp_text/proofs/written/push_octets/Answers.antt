use Rattle.sdp_text.specs.Hosts.{octet_text}
use Rattle.sdp_text.proofs.JoinLemmas.{joined_end}
use Rattle.sdp_text.proofs.written.push_octets.Goals as goal

pub returns : goal.returns
returns c =
    joined_end 46 octet_text c.args.out.now c.push_octet.new.out c.loop-octet.out c.in-Some.first.now c.in-Some.others.now c.args.octets.now c.loop-octet.octet-index c.in-Some.ensures.cases.0 c.push_octet.ensures c.loop-octet.invariant.written c.loop-octet-test.false

use Rattle.sdp_edit.proofs.TextLemmas.{origin_long}
use Rattle.sdp_edit.proofs.text.origin_tail.Goals as goal

pub returns-in-Some-clause-other : goal.returns-in-Some-clause-other
returns-in-Some-clause-other c = λ host.
    origin_long host c.args.text.now c.in_ok-_name._name.now c.in_ok-_name.rest.now c.in_ok-_id._id.now c.in_ok-_id.rest.now
    c.in_ok-_version._version.now c.in_ok-_version.rest.now c.in_ok-_network._network.now c.in_ok-_network.rest.now
    c.in_ok-_family._family.now c.in_ok-_family.address.now c.in-Some._address.now c.in-Some._more.now
    c.in_ok-_name.ensures.fields c.in_ok-_id.ensures.fields c.in_ok-_version.ensures.fields c.in_ok-_network.ensures.fields
    c.in_ok-_family.ensures.fields c.in-Some.ensures.fields

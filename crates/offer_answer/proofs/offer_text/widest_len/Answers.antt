use Rattle.std.proofs.Common.{◌∙◌}
use Rattle.offer_answer.specs.Edits.{widest_sections}
use Rattle.offer_answer.proofs.Written.{pushed-to-none, widest-is}
use Rattle.offer_answer.proofs.offer_text.widest_len.Goals as goal

pub returns-clause-len : goal.returns-clause-len
returns-clause-len c =
    let r = c.in_ok-edit.ensures in
    c.edit_len.ensures.length ∙ widest-is c.args.sdp.now _ c.args.config.now c.longest_host-host.result c.args.last.now c.longest_host-host.ensures r.address_is r.origin_is r.session_is
    (pushed-to-none _ _ (widest_sections c.longest_host-host.result c.args.last.now) r.none_yet c.push_widest.ensures.sections)

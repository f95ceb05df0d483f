use Rattle.std.proofs.Common.{◌∙◌, ap}
use Rattle.ng_bencode.specs.Tree.{Dict, Entries, pairs_of}
use Rattle.call_report.specs.Tags.{with_side}
use Rattle.call_report.proofs.report.tags_from.Goals as goal

pub returns : goal.returns
returns c = λ config report d same.
    c.dict.ensures
    ∙ ap Dict
    (c.in_ok-put_side-2.ensures config report d same
    ∙ ap (λ (pairs : Entries). with_side pairs report c.args.second)
    (c.in_ok-put_side.ensures config report d same ∙ ap (λ (pairs : Entries). with_side pairs report c.args.first) (ap pairs_of c.new-pairs.ensures)))

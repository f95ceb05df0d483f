use Rattle.std.proofs.Common.{◌==◌, ◌∙◌, ap}
use Rattle.std.proofs.lemmas.List.{take_rest}
use Rattle.std.specs.List.{before_first}
use Rattle.sdp_edit.proofs.Lists.{take-before_first}
use Rattle.sdp_edit.proofs.attribute.attribute_name.Goals as goal

pub returns : goal.returns
returns c =
    let text = take_rest c.args.line.now 2 in
    take-before_first (λ byte. byte == 58) _ c.name_length.result c.name_length.ensures.length ∙ ap (before_first (λ byte. byte == 58)) text

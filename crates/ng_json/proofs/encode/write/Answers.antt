use Rattle.std.proofs.Common.{◌++◌, ap, ◌∙◌}
use Rattle.serde_json.specs.Written.{compact_text}
use Rattle.ng_bencode.specs.Tree.{tree_of}
use Rattle.ng_json.specs.JsonText.{data_of}
use Rattle.ng_json.proofs.Texts.{written}
use Rattle.ng_json.proofs.encode.write.Goals as goal

pub returns : goal.returns
returns c = c.in_ok-write_value.ensures ∙ ap (λ t. t ++ compact_text (data_of (tree_of c.args.value.now))) c.new-out.ensures ∙ written (tree_of c.args.value.now)

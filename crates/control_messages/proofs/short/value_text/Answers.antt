use Rattle.std.proofs.Common.{◌∙◌, Bool, sym, ap}
use Rattle.ng_bencode.specs.Tree.{tree_of}
use Rattle.call_board.specs.Dialects.{written_in}
use Rattle.control_messages.proofs.Datagrams.{same_text}
use Rattle.control_messages.proofs.short.value_text.Goals as goal

pub returns-then-is_json : goal.returns-then-is_json
returns-then-is_json c =
    same_text c.write.result _ _ c.write.ensures (ap (λ (b : Bool). written_in b (tree_of c.args.value.now)) (sym (sym c.is_json.ensures ∙ c.if-is_json.true)))

pub returns-else-is_json : goal.returns-else-is_json
returns-else-is_json c =
    same_text c.encode.result _ _ c.encode.ensures (ap (λ (b : Bool). written_in b (tree_of c.args.value.now)) (sym (sym c.is_json.ensures ∙ c.if-is_json.false)))

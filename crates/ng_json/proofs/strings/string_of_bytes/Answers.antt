use Rattle.std.proofs.Common.{◌++◌, sym, ap, ◌∙◌, codes}
use Rattle.std.proofs.lemmas.Result.{IfOk-weaker}
use Rattle.ng_json.specs.Strings.{hex_text}
use Rattle.ng_json.proofs.Texts.{plain_string, marked_string}
use Rattle.ng_json.proofs.strings.string_of_bytes.Goals as goal

pub returns-then-is_plain : goal.returns-then-is_plain
returns-then-is_plain c = IfOk-weaker c.copy_of.result _ _ (λ text e. e ∙ sym (plain_string c.args.bytes.now (sym c.is_plain.ensures ∙ c.if-is_plain.true))) c.copy_of.ensures

pub returns : goal.returns
returns c =
    c.put_hex.ensures.list ∙ ap (λ t. t ++ hex_text c.args.bytes.now) (c.extend.ensures.list ∙ ap (λ t. t ++ codes "x:") (c.in_ok-reserve.ensures.list ∙ c.new-text.ensures))
    ∙ sym (marked_string c.args.bytes.now (sym c.is_plain.ensures ∙ c.if-is_plain.false))

use Rattle.std.proofs.Common.{[], ◌∷◌, ◌++◌, sym, ap, ◌∙◌, codes, append_assoc}
use Rattle.json.specs.Print.{quoted}
use Rattle.ng_json.specs.Strings.{hex_text}
use Rattle.ng_json.proofs.Texts.{plain_string, marked_string, quoted_hex}
use Rattle.ng_json.proofs.strings.put_bytes.Goals as goal

pub returns-then-is_plain-clause-list : goal.returns-then-is_plain-clause-list
returns-then-is_plain-clause-list c =
    c.put_quoted.ensures.list ∙ ap (λ t. c.args.out.now.list ++ quoted t) (sym (plain_string c.args.bytes.now (sym c.is_plain.ensures ∙ c.if-is_plain.true)))

pub returns-clause-list : goal.returns-clause-list
returns-clause-list c =
    let out = c.args.out.now.list in
    let hex = hex_text c.args.bytes.now in
    c.push.ensures.list ∙ ap (λ t. t ++ 34 ∷ []) (c.put_hex.ensures.list ∙ ap (λ t. t ++ hex) c.extend.ensures.list ∙ append_assoc out (codes "\"x:") hex)
    ∙ append_assoc out (codes "\"x:" ++ hex) (34 ∷ [])
    ∙ ap (λ t. out ++ t) (append_assoc (codes "\"x:") hex (34 ∷ []) ∙ sym (quoted_hex c.args.bytes.now) ∙ ap quoted (sym (marked_string c.args.bytes.now (sym c.is_plain.ensures ∙ c.if-is_plain.false))))

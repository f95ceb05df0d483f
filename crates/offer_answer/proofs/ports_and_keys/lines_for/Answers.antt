use Rattle.std.proofs.Common.{◌∷◌, [], ap, ◌∙◌, option_map}
use Rattle.offer_answer.specs.Nexts.{carrying}
use Rattle.offer_answer.proofs.NextLegs.{lines-both, used-both}
use Rattle.offer_answer.proofs.ports_and_keys.lines_for.Goals as goal

pub returns-in-None : goal.returns-in-None
returns-in-None c = λ config rounds ask ports keys section m n.
    ap (λ o. o ∷ c.line_of-in-None-2.result ∷ []) c.line_of-in-None.ensures
    ∙ ap (λ o. option_map (carrying 1) c.args.leg.now.long_key ∷ o ∷ []) c.line_of-in-None-2.ensures
    ∙ lines-both config rounds ask ports keys section c.args.made.now c.args.leg.now m n
    (used-both c.is_active.result c.is_srtp.result c.args.made.now c.is_active.ensures c.is_srtp.ensures c.if-not-is_active.false c.if-not-is_srtp.false) c.in-None.is

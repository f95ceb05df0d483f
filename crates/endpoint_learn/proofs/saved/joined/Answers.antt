use Rattle.std.proofs.Common.{◌∙◌, ◌∷◌, ◌++◌, arith}
use Rattle.endpoint_learn.specs.SavedLearners.{saved_flag}
use Rattle.endpoint_learn.proofs.SavedForms.{nineteen, joined_whole}
use Rattle.endpoint_learn.proofs.saved.joined.Goals as goal

pub returns : goal.returns
returns c =
    let s = c.args.s in
    let l = c.args.l in
    (λ i. nineteen s ++ (c.flag_byte-strict.ensures i ∷ c.flag_byte-handover.ensures i ∷ c.flag_byte-asymmetric.ensures i ∷ nineteen l))
    ∙ joined_whole s l (saved_flag c.args.flags.strict) (saved_flag c.args.flags.handover) (saved_flag c.args.flags.asymmetric) (omega arith) (omega arith)

use Rattle.aes_ctr.proofs.FieldLaws.{product-inverse, inverse-zero}
use Rattle.aes_ctr.proofs.law.power_254_is_the_inverse.Goals as goal

pub returns-clause-others : goal.returns-clause-others
returns-clause-others c = product-inverse

pub returns-clause-zero : goal.returns-clause-zero
returns-clause-zero c = inverse-zero

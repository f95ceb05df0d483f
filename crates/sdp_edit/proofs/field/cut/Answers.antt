use Rattle.sdp_edit.proofs.Cuts.{cut_fields, cut_text, cut_nowhere}
use Rattle.sdp_edit.proofs.field.cut.Goals as goal

pub returns-then-at-text-clause-fields : goal.returns-then-at-text-clause-fields
returns-then-at-text-clause-fields c = cut_fields c.args.text.now c.field_length-at.result c.field_length-at.ensures.length c.if-at-text.true

pub returns-then-at-text-clause-text : goal.returns-then-at-text-clause-text
returns-then-at-text-clause-text c = cut_text c.args.text.now c.field_length-at.result c.field_length-at.ensures.length c.if-at-text.true

pub returns-else-at-text-clause-last : goal.returns-else-at-text-clause-last
returns-else-at-text-clause-last c = cut_nowhere c.args.text.now c.field_length-at.result c.field_length-at.ensures.length c.if-at-text.false

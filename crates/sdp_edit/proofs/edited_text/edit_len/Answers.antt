use Rattle.std.proofs.Common.{◌+◌, length, ap, arith}
use Rattle.sdp_edit.proofs.Behind.{rest_none, few_sections, stepped, step_short, size_within}
use Rattle.sdp_edit.proofs.edited_text.edit_len.Goals as goal

pub edited_line-step-requires-clause-few : goal.edited_line-step-requires-clause-few
edited_line-step-requires-clause-few c =
    let few = few_sections c.loop-index.place c.args.sdp.now c.loop-index.index c.loop-index.invariant.0 in
    omega arith

pub overflow_add-length : goal.overflow_add-length
overflow_add-length c =
    let short = step_short c.args.sdp.now c.loop-index.index c.edited_line-step.result (omega arith) c.edited_line-step.ensures.short in
    let within = size_within c.args.sdp.now (c.loop-index.index + 1) in
    omega (arith, short.short, within, c.line_count-index-end.ensures.small, c.loop-index.invariant.2)

pub loop-index-preserved : goal.loop-index-preserved
loop-index-preserved c =
    let one = stepped c.args.edit.now c.args.sdp.now c.loop-index.index c.loop-index.place c.edited_line-step.result (omega arith) c.loop-index.invariant.0
    c.edited_line-step.ensures.text c.edited_line-step.ensures.here in
    let short = step_short c.args.sdp.now c.loop-index.index c.edited_line-step.result (omega arith) c.edited_line-step.ensures.short in
    (one.here, omega (arith, one.size, c.loop-index.invariant.1), omega (arith, short.short, c.loop-index.invariant.2))

pub returns-clause-length : goal.returns-clause-length
returns-clause-length c =
    let none = ap length (rest_none c.args.edit.now c.args.sdp.now c.loop-index.index (omega arith)) in
    omega (arith, c.loop-index.invariant.1, none)

pub returns-clause-small : goal.returns-clause-small
returns-clause-small c =
    let within = size_within c.args.sdp.now c.loop-index.index in
    omega (arith, within, c.line_count-index-end.ensures.small, c.loop-index.invariant.2)

pub len-length-requires : goal.len-length-requires
len-length-requires c =
    let short = step_short c.args.sdp.now c.loop-index.index c.edited_line-step.result (omega arith) c.edited_line-step.ensures.short in
    let within = size_within c.args.sdp.now (c.loop-index.index + 1) in
    omega (arith, short.short, within, c.line_count-index-end.ensures.small)

use Rattle.std.proofs.Common.{arith}
use Rattle.answer_command.proofs.Keyed.{keys_at, none_past, keys_few}
use Rattle.answer_command.proofs.room.inbound_keys.Goals as goal

pub overflow_add-keys : goal.overflow_add-keys
overflow_add-keys c =
    let left = keys_at c.args.signal.now c.loop-index.index c.section.result c.section.ensures in
    let most = keys_few c.args.signal.now in
    omega (arith, c.loop-index.invariant, left, most, c.section_keys-keys.ensures, c.len-index-end.ensures.count, c.len-index-end.ensures.few)

pub loop-index-preserved : goal.loop-index-preserved
loop-index-preserved c =
    let left = keys_at c.args.signal.now c.loop-index.index c.section.result c.section.ensures in
    omega (arith, c.loop-index.invariant, left, c.section_keys-keys.ensures)

pub returns : goal.returns
returns c =
    let none = none_past c.args.signal.now c.loop-index.index (omega (arith, c.loop-index-test.false, c.len-index-end.ensures.count)) in
    omega (arith, c.loop-index.invariant, none)

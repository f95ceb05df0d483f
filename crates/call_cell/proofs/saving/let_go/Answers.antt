use Rattle.std.proofs.Common.{arith}
use Rattle.call_cell.proofs.saving.let_go.Goals as goal

pub save_first-requires : goal.save_first-requires
save_first-requires g c = record {
  some = omega (arith, c.loop.invariant.0, c.loop-test.true, c.len-end.ensures);
  emptied = c.loop.invariant.1;
}

pub loop-init : goal.loop-init
loop-init g c = (omega arith, c.requires)

pub loop-preserved : goal.loop-preserved
loop-preserved g c = (omega (arith, c.loop.invariant.0, c.save_first.ensures.count), c.save_first.ensures.emptied)

pub destroy_empty-requires : goal.destroy_empty-requires
destroy_empty-requires g c = omega (arith, c.loop.invariant.0, c.loop-test.false, c.len-end.ensures)

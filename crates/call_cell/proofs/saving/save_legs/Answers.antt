use Rattle.std.proofs.Common.{arith}
use Rattle.call_cell.proofs.SavedLegs.{saved_legs, one_saved}
use Rattle.call_cell.proofs.saving.save_legs.Goals as goal

pub save_first-requires : goal.save_first-requires
save_first-requires g c = record {
  some = omega (arith, c.loop.invariant.0, c.loop-test.true, c.len-end.ensures);
  emptied = c.loop.invariant.1;
}

pub loop-preserved : goal.loop-preserved
loop-preserved g c = (
  omega (arith, c.loop.invariant.0, c.save_first.ensures.count),
  c.save_first.ensures.emptied,
  one_saved c.loop.saved.items c.push_reserved.new.self.items (saved_legs c.loop.legs.items) (saved_legs c.save_first.new.legs.items) (saved_legs c.args.legs.items)
      c.save_first.result c.loop.invariant.2 c.push_reserved.ensures.items c.save_first.ensures.first,
  omega (arith, c.loop.invariant.3, c.push_reserved.ensures.len),
  omega (arith, c.loop.invariant.4, c.push_reserved.ensures.capacity),
)

pub destroy_empty-requires : goal.destroy_empty-requires
destroy_empty-requires g c = omega (arith, c.loop.invariant.0, c.loop-test.false, c.len-end.ensures)

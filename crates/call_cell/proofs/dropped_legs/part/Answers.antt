use Rattle.std.proofs.Common.{sym, arith}
use Rattle.std.proofs.lemmas.List.{append-nil}
use Rattle.call_cell.specs.CellEnds.{parts_of}
use Rattle.call_cell.specs.DroppedLegs.{goes, stays}
use Rattle.call_cell.proofs.Forms.{all_stay, stay_on}
use Rattle.call_cell.proofs.Turning.{turned, turned_all}
use Rattle.call_cell.proofs.dropped_legs.part.Goals as goal

pub part_first-requires : goal.part_first-requires
part_first-requires g c = record {
  some = omega (arith, c.loop.invariant.0, c.loop-test.true, c.len-end.ensures, c.args.legs.now.ok.0, c.loop.legs.ok.0);
}

pub loop-init : goal.loop-init
loop-init g c = (
  omega arith,
  λ room. (sym (append-nil c.args.legs.now.items), sym (append-nil c.args.gone.now)),
  all_stay c.args.legs.now.items c.args.gone.now,
)

pub loop-preserved : goal.loop-preserved
loop-preserved g c = (
  omega (arith, c.loop.invariant.0, c.part_first.ensures.count, c.loop.legs.ok.0, c.part_first.new.legs.ok.0),
  λ room. turned (stays c.args.flags.now) (goes c.args.flags.now) parts_of c.args.legs.now.items c.loop.legs.items c.part_first.new.legs.items
      c.args.gone.now c.loop.gone c.part_first.new.gone c.loop.counter
      (omega (arith, c.loop-test.true, c.len-end.ensures, c.args.legs.now.ok.0)) room
      (c.loop.invariant.1 room).0 (c.loop.invariant.1 room).1 c.part_first.ensures.stay c.part_first.ensures.went,
  stay_on c.args.legs.now.items c.loop.legs.items c.part_first.new.legs.items c.args.gone.now c.loop.gone c.part_first.new.gone
      c.loop.invariant.2 c.part_first.ensures.whole,
)

pub returns-clause-parts : goal.returns-clause-parts
returns-clause-parts g c room =
    turned_all (stays c.args.flags.now) (goes c.args.flags.now) parts_of c.args.legs.now.items c.loop.legs.items
    c.args.gone.now c.loop.gone c.loop.counter (omega (arith, c.loop-test.false, c.len-end.ensures, c.args.legs.now.ok.0)) (c.loop.invariant.1 room)

pub returns-clause-whole : goal.returns-clause-whole
returns-clause-whole g c = c.loop.invariant.2

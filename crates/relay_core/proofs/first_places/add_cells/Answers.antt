use Rattle.relay_core.specs.declared.part.Part.TheVariants as part
use Rattle.relay_core.proofs.Beginnings.{one_more_cell}
use Rattle.relay_core.proofs.first_places.add_cells.Goals as goal

pub loop-preserved : goal.loop-preserved
loop-preserved g c =
    one_more_cell c.args.config.now c.args.parts.now.items c.loop.parts.items c.push.new.self.items c.loop.counter (part.Cell c.empty.result) c.loop.invariant c.empty.ensures c.in_ok-push.ensures.items

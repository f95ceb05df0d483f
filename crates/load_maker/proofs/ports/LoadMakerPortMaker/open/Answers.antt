use Rattle.load_maker.proofs.Takes.{noted_open}
use Rattle.load_maker.proofs.ports.LoadMakerPortMaker.open.Goals as goal

pub invariant_of-self : goal.invariant_of-self
invariant_of-self c =
    let before = c.self.invariant in
    (before.0, before.1, noted_open c.args.at c.self.inside.closed.items c.self.inside.log c.note.new.self c.note.ensures before.2)

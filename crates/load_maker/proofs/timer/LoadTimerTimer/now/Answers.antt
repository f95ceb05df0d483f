use Rattle.load_maker.proofs.Moments.{noted_zero}
use Rattle.load_maker.proofs.timer.LoadTimerTimer.now.Goals as goal

pub invariant_of-self : goal.invariant_of-self
invariant_of-self c = noted_zero c.self.inside.log c.note.new.self c.note.ensures c.self.invariant

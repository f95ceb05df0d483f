use Rattle.replay_window.proofs.Bits.{shifted_low, shifted_high}
use Rattle.replay_window.proofs.window.shifted.Goals as goal

pub returns-then-gap-lt-SIZE-clause-low : goal.returns-then-gap-lt-SIZE-clause-low
returns-then-gap-lt-SIZE-clause-low c = λ k low. shifted_low c.args.bits c.args.gap k c.if-gap-lt-SIZE.true low

pub returns-then-gap-lt-SIZE-clause-high : goal.returns-then-gap-lt-SIZE-clause-high
returns-then-gap-lt-SIZE-clause-high c = λ k high within. shifted_high c.args.bits c.args.gap k high within

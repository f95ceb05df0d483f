use Rattle.std.specs.Int.{w128}
use Rattle.std.proofs.lemmas.Nat.Bits.{bit_at_set_same, bit_at_set_other}
use Rattle.replay_window.proofs.window.marked.Goals as goal

pub returns-then-behind-lt-SIZE-clause-set : goal.returns-then-behind-lt-SIZE-clause-set
returns-then-behind-lt-SIZE-clause-set c = λ within. bit_at_set_same w128 c.args.bits c.args.behind within

pub returns-then-behind-lt-SIZE-clause-others : goal.returns-then-behind-lt-SIZE-clause-others
returns-then-behind-lt-SIZE-clause-others c = λ k within apart. bit_at_set_other w128 c.args.bits c.args.behind c.if-behind-lt-SIZE.true k apart

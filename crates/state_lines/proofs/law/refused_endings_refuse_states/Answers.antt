use Rattle.std.proofs.Common.{refl}
use Rattle.state_lines.proofs.States.{ending_refused}
use Rattle.state_lines.proofs.law.refused_endings_refuse_states.Goals as goal

pub returns : goal.returns
returns c count values fault calls fit many is = ending_refused count values fit many _ refl fault calls is

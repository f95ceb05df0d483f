use Rattle.std.proofs.Common.{refl}
use Rattle.state_lines.proofs.States.{value_refused}
use Rattle.state_lines.proofs.law.refused_values_refuse_states.Goals as goal

pub returns : goal.returns
returns c count values fault calls fit part is = value_refused count values fit part _ refl fault calls is

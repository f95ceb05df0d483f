use Rattle.state_lines.proofs.States.{heading_refused}
use Rattle.state_lines.proofs.law.refused_headings_refuse_states.Goals as goal

pub returns : goal.returns
returns c count fault calls is = heading_refused count fault calls is

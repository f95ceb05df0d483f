use Rattle.offer_answer.proofs.Drawn.{names_drawn_keys}
use Rattle.offer_answer.proofs.law.signals_name_drawn_keys.Goals as goal

pub returns : goal.returns
returns c = names_drawn_keys

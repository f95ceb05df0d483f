use Rattle.call_shapes.proofs.Numbered.{numbered}
use Rattle.call_shapes.proofs.law.numbered_call_has_place.Goals as goal

pub returns : goal.returns
returns c = λ number dialog board call found. numbered number dialog board.calls call found

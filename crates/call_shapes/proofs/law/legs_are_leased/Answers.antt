use Rattle.call_shapes.proofs.Numbered.{legs_leased}
use Rattle.call_shapes.proofs.law.legs_are_leased.Goals as goal

pub returns : goal.returns
returns c = legs_leased

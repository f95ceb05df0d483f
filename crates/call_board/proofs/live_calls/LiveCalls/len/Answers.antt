use Rattle.std.proofs.Common.{◌∙◌, sym}
use Rattle.std.proofs.lemmas.Map.Entries.{length-values_of}
use Rattle.call_board.proofs.live_calls.LiveCalls.len.Goals as goal

pub returns : goal.returns
returns c = rw (← c.self.view_is) (c.len.ensures.len ∙ sym (length-values_of c.self.inside.calls.entries))

use Rattle.std.proofs.Common.{arith}
use Rattle.std.proofs.lemmas.List.{length-drop}
use Rattle.sdp_text.proofs.Colons.{no_colons}
use Rattle.sdp_text.proofs.group.double_colon.Goals as goal

pub returns : goal.returns
returns c = no_colons c.args.text.now c.loop-i.i (omega (arith, c.saturating_sub-i-end.ensures)) (omega (arith, length-drop c.loop-i.i c.args.text.now, c.saturating_sub-i-end.ensures)) c.loop-i.invariant

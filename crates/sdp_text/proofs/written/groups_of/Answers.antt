use Rattle.std.proofs.Common.{arith}
use Rattle.std.proofs.lemmas.Grind.{common_steps}
use Rattle.sdp_text.proofs.JoinLemmas.{pairs_are}
use Rattle.sdp_text.proofs.written.groups_of.Goals as goal

pub loop-i-preserved : goal.loop-i-preserved
loop-i-preserved c = record {
  read = rw (c.push.ensures, c.from.ensures, c.from-in-loop-i.ensures) (pairs_are c.args.bytes.now c.loop-i.groups c.loop-i.i (omega arith) c.loop-i.invariant.read);
  count = grind (arith, common_steps);
}

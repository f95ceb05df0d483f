use Rattle.std.proofs.Common.{arith}
use Rattle.sdp_text.proofs.JoinLemmas.{octets_short}
use Rattle.sdp_text.proofs.written.push_v4.Goals as goal

pub returns-clause-short : goal.returns-clause-short
returns-clause-short c = rw (c.push_octets.ensures, c.requires.empty) (omega (arith, octets_short c.args.bytes.now c.requires.whole))

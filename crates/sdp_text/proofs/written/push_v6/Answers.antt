use Rattle.std.proofs.Common.{ap, length, ◌∙◌, arith}
use Rattle.sdp_text.proofs.JoinLemmas.{around_short}
use Rattle.sdp_text.proofs.written.push_v6.Goals as goal

pub returns-clause-short : goal.returns-clause-short
returns-clause-short c =
    rw c.push_around.ensures (around_short c.as_slice-all.result.now c.longest_run-run.result (ap length c.as_slice-all.ensures ∙ c.groups_of-groups.ensures.eight) (omega (arith, c.longest_run-run.ensures.within, ap length c.as_slice-all.ensures, c.groups_of-groups.ensures.eight)))

use Rattle.std.proofs.Common.{arith, ◌∙◌, ◌-◌}
use Rattle.sdp_text.proofs.JoinLemmas.{zeros_more, zeros_within, longest_more, run_within}
use Rattle.sdp_text.proofs.written.longest_run.Goals as goal

pub loop-i-preserved : goal.loop-i-preserved
loop-i-preserved c =
    let gs = c.args.groups.now in
    let zeros = zeros_more gs c.loop-i.i c.loop-i.zeros c.zeros_from-zeros.result c.loop-i-test.true c.loop-i.invariant.within c.loop-i.invariant.zeros c.zeros_from-zeros.ensures in
    record {
      within = omega arith;
      few = zeros_within gs (c.loop-i.i - 1) c.zeros_from-zeros.result (omega arith) zeros;
      zeros = zeros;
      longest = c.longer-longest.ensures ∙ longest_more gs c.loop-i.i c.zeros_from-zeros.result c.loop-i.longest c.loop-i-test.true c.loop-i.invariant.within zeros c.loop-i.invariant.longest;
    }

pub returns-clause-within : goal.returns-clause-within
returns-clause-within c = run_within c.args.groups.now c.loop-i.i c.loop-i.longest c.loop-i.invariant.within c.loop-i.invariant.longest

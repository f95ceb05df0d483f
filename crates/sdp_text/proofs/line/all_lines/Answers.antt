use Rattle.std.proofs.Common.{arith, ap, length, ◌<◌, ◌+◌, ◌≡◌}
use Rattle.std.proofs.lemmas.List.{length_push}
use Rattle.sdp_text.proofs.LineLemmas.{all_more, size_push}
use Rattle.sdp_text.proofs.line.all_lines.Goals as goal

pub loop-more-preserved : goal.loop-more-preserved
loop-more-preserved c =
    let pushed = c.in_ok-push-2.ensures.items in
    let shorter : length c.in-Some.more.now < length c.loop-more.rest.now = rw c.in-Some.is at c.cut.ensures.shorter in
    let sizes : length c.cut.result.0.now + 1 + length c.in-Some.more.now ≡ length c.loop-more.rest.now = rw c.in-Some.is at c.cut.ensures.sizes in
    record {
      lines = all_more c.loop-more.found.items c.push-in-loop-more.new.self.items c.without_cr.result c.args.text.now c.loop-more.rest.now c.cut.result.0.now c.cut.result.1 c.in-Some.more pushed c.without_cr.ensures.line c.cut.ensures.pieces c.in-Some.is c.loop-more.invariant.lines;
      small = omega (arith, size_push c.loop-more.found.items c.push-in-loop-more.new.self.items c.without_cr.result pushed, c.without_cr.ensures.shorter, sizes);
      few = omega (arith, ap length pushed, length_push c.loop-more.found.items c.without_cr.result);
    }

use Rattle.std.proofs.Common.{rules, sym}
use Rattle.srtcp_context.proofs.Tallying.{place_left, counted_known, counted_new}
use Rattle.srtcp_context.proofs.counts.Counts.advance.Goals as goal

pub enter-requires : goal.enter-requires
enter-requires c =
    place_left c.args.self.now c.args.sender.ssrc (search rules) (search rules) c.requires.room (sym c.in-None.ensures.first)

pub returns-in-Some : goal.returns-in-Some
returns-in-Some c notes for is =
    counted_known c.args.self.now c.set.new.self c.args.sender.ssrc c.args.next c.in-Some.place notes for (search rules) (search rules) (search rules)
    c.set.ensures.ssrcs c.set.ensures.sent c.set.ensures.count (sym c.in-Some.ensures.first) c.in-Some.ensures.found is

pub returns-in-None : goal.returns-in-None
returns-in-None c notes for is =
    counted_new c.args.self.now c.enter.new.self c.args.sender.ssrc c.args.next notes for (search rules) (search rules)
    (place_left c.args.self.now c.args.sender.ssrc (search rules) (search rules) c.requires.room (sym c.in-None.ensures.first))
    c.enter.ensures.ssrcs c.enter.ensures.sent c.enter.ensures.count (sym c.in-None.ensures.first) is

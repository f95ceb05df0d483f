use Rattle.std.proofs.Common.{rules, sym, ap, ◌∙◌}
use Rattle.std.specs.Prelude.{is_some}
use Rattle.srtcp_context.proofs.Tallying.{less, can_count-below, can_count-full, can_count-is}
use Rattle.srtcp_context.proofs.counts.Counts.has_room.Goals as goal

pub returns-then-self-lt-MOST_SOURCES-clause-room : goal.returns-then-self-lt-MOST_SOURCES-clause-room
returns-then-self-lt-MOST_SOURCES-clause-room c =
    less c.args.self.now.count 32 c.if-self-lt-MOST_SOURCES.true
    ∙ sym (can_count-below c.args.self.now c.args.sender.ssrc (search rules) c.if-self-lt-MOST_SOURCES.true)

pub returns-then-self-lt-MOST_SOURCES-clause-notes : goal.returns-then-self-lt-MOST_SOURCES-clause-notes
returns-then-self-lt-MOST_SOURCES-clause-notes c notes for =
    returns-then-self-lt-MOST_SOURCES-clause-room c ∙ can_count-is c.args.self.now c.args.sender.ssrc notes for

pub returns-else-self-lt-MOST_SOURCES-clause-room : goal.returns-else-self-lt-MOST_SOURCES-clause-room
returns-else-self-lt-MOST_SOURCES-clause-room c =
    c.is_some.ensures ∙ ap is_some c.place.ensures.first
    ∙ sym (can_count-full c.args.self.now c.args.sender.ssrc (search rules) (search rules) c.if-self-lt-MOST_SOURCES.false)

pub returns-else-self-lt-MOST_SOURCES-clause-notes : goal.returns-else-self-lt-MOST_SOURCES-clause-notes
returns-else-self-lt-MOST_SOURCES-clause-notes c notes for =
    returns-else-self-lt-MOST_SOURCES-clause-room c ∙ can_count-is c.args.self.now c.args.sender.ssrc notes for

use Rattle.std.proofs.Common.{rules, sym, ap, ◌∙◌}
use Rattle.srtp_sources.proofs.Tabling.{less, can_note-below, can_note-full, can_note-is}
use Rattle.std.specs.Prelude.{is_some}
use Rattle.srtp_sources.proofs.sources.Sources.has_room_for.Goals as goal

pub returns-then-self-lt-MOST_SOURCES-clause-room : goal.returns-then-self-lt-MOST_SOURCES-clause-room
returns-then-self-lt-MOST_SOURCES-clause-room c = less c.args.self.now.count 32 c.if-self-lt-MOST_SOURCES.true ∙ sym (can_note-below c.args.self.now c.args.source.ssrc (search rules) c.if-self-lt-MOST_SOURCES.true)

pub returns-then-self-lt-MOST_SOURCES-clause-notes : goal.returns-then-self-lt-MOST_SOURCES-clause-notes
returns-then-self-lt-MOST_SOURCES-clause-notes c half notes for =
    returns-then-self-lt-MOST_SOURCES-clause-room c ∙ can_note-is half c.args.self.now c.args.source.ssrc notes for

pub returns-else-self-lt-MOST_SOURCES-clause-room : goal.returns-else-self-lt-MOST_SOURCES-clause-room
returns-else-self-lt-MOST_SOURCES-clause-room c =
    c.is_some.ensures ∙ ap is_some c.place.ensures.first ∙ sym (can_note-full c.args.self.now c.args.source.ssrc (search rules) (search rules) c.if-self-lt-MOST_SOURCES.false)

pub returns-else-self-lt-MOST_SOURCES-clause-notes : goal.returns-else-self-lt-MOST_SOURCES-clause-notes
returns-else-self-lt-MOST_SOURCES-clause-notes c half notes for =
    returns-else-self-lt-MOST_SOURCES-clause-room c ∙ can_note-is half c.args.self.now c.args.source.ssrc notes for

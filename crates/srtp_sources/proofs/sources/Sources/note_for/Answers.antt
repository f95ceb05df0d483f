use Rattle.std.proofs.Common.{rules, sym, refl}
use Rattle.srtp_sources.proofs.Tabling.{place_left, found_stands, noted_known, noted_new}
use Rattle.srtp_sources.specs.Notes.{indices}
use Rattle.srtp_sources.proofs.sources.Sources.note_for.Goals as goal

pub enter-requires-clause-room : goal.enter-requires-clause-room
enter-requires-clause-room c =
    place_left c.args.self.now c.args.source.ssrc (search rules) (search rules) c.requires.room (sym c.in-None.ensures.first)

pub returns-in-Some : goal.returns-in-Some
returns-in-Some c half notes for fresh =
    noted_known half c.args.self.now _ c.args.source.ssrc c.args.index c.in-Some.place notes for (search rules) (search rules) refl refl
    (sym c.in-Some.ensures.first) c.in-Some.ensures.found
    (λ other. c.note_at.ensures.here (indices half c.args.source.ssrc notes) other
    (found_stands half c.args.self.now c.args.source.ssrc c.in-Some.place notes for c.in-Some.ensures.found other) fresh)
    c.note_at.ensures.elsewhere

pub returns-in-None : goal.returns-in-None
returns-in-None c half notes for fresh =
    noted_new half c.args.self.now c.enter.new.self c.args.source.ssrc c.args.index notes for (search rules)
    (place_left c.args.self.now c.args.source.ssrc (search rules) (search rules) c.requires.room (sym c.in-None.ensures.first))
    c.enter.ensures.ssrcs c.enter.ensures.count (sym c.in-None.ensures.first) c.enter.ensures.here c.enter.ensures.elsewhere

use Rattle.std.proofs.Common.{◌∙◌, ap, sym, ℕ, Bool}
use Rattle.std.specs.Prelude.{Result, Ok, Err, if◌then◌else◌}
use Rattle.srtp_keys.specs.declared.faults.UnprotectFault.{UnprotectFault}
use Rattle.srtp_keys.specs.declared.faults.UnprotectFault.TheVariants as fault
use Rattle.srtp_sources.specs.Judged.{index_by}
use Rattle.srtp_sources.proofs.sources.Sources.take.Goals as goal

-- the judgement by the room
by_room : ℕ → Bool → Result ℕ UnprotectFault
by_room index room = if room then Ok index else Err fault.TooManySources

pub returns-in-TooOld-clause-judged : goal.returns-in-TooOld-clause-judged
returns-in-TooOld-clause-judged c half notes for = ap (index_by half c.args.source.ssrc notes c.args.index) (sym (c.in-TooOld.ensures half notes for))

pub returns-in-Used-clause-judged : goal.returns-in-Used-clause-judged
returns-in-Used-clause-judged c half notes for = ap (index_by half c.args.source.ssrc notes c.args.index) (sym (c.in-Used.ensures half notes for))

pub returns-then-not-has_room_for-clause-judged : goal.returns-then-not-has_room_for-clause-judged
unfolding by_room
returns-then-not-has_room_for-clause-judged c half notes for =
    ap (index_by half c.args.source.ssrc notes c.args.index) (sym (c.in-Yes.ensures half notes for))
    ∙ ap (by_room c.args.index) (sym (c.has_room_for.ensures.notes half notes for) ∙ c.if-not-has_room_for.true)

pub returns-clause-judged : goal.returns-clause-judged
unfolding by_room
returns-clause-judged c half notes for = (
  ap (index_by half c.args.source.ssrc notes c.args.index) (sym (c.in-Yes.ensures half notes for))
      ∙ ap (by_room c.args.index) (sym (c.has_room_for.ensures.notes half notes for) ∙ c.if-not-has_room_for.false),
  c.note_for.ensures half notes for (sym (c.in-Yes.ensures half notes for)),
)

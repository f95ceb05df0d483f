use Rattle.std.proofs.Common.{rules, ◌≡◌, ◌∙◌, ap, sym, subst, refl, true, arith}
use Rattle.relay_core.specs.Records.{list_of}
use Rattle.board_turns.specs.Between.{board_of}
use Rattle.relay_runs.specs.Threads.{HasLaneRoom, all_lanes, rows_each}
use Rattle.relay_runs.proofs.Dues.{adds_least, all_done, same_taken}
use Rattle.relay_runs.proofs.Joined.{surveyed_between, has_taken}
use Rattle.relay_runs.proofs.LoadRuns.{old_list, relays_due}
use Rattle.relay_runs.proofs.MediaThreads.{have_worked}
use Rattle.relay_runs.proofs.load_run.relay_due.Goals as goal

pub make_lanes-requires-clause-between : goal.make_lanes-requires-clause-between
make_lanes-requires-clause-between g c =
    surveyed_between c.args.settings.now.config c.args.relaying.now.turns.now c.args.hand.now c.survey.new.hand c.survey.ensures.same c.requires.between

pub join_threads-requires-clause-others : goal.join_threads-requires-clause-others
join_threads-requires-clause-others g c =
    let worked = have_worked c.args.settings.now.config c.args.settings.now.config c.args.relaying.now.turns.now c.args.relaying.now.turns.now c.args.settings.now.threads c.one_each-share.result.lanes (g.C.Clock.range c.args.relaying.now.media.now.clock.now) (g.G.Gate.passed c.args.relaying.now.media.now.gate.now)
    c.make_lanes.new.threads.items c.run_after.new.threads.items refl refl c.one_each-share.ensures.1 c.run_after.ensures.as_many c.make_lanes.ensures.fresh c.make_lanes.ensures.once c.make_lanes.ensures.count c.run_after.ensures.threads in
    worked.join

pub join_threads-requires-clause-once : goal.join_threads-requires-clause-once
join_threads-requires-clause-once g c =
    let worked = have_worked c.args.settings.now.config c.args.settings.now.config c.args.relaying.now.turns.now c.args.relaying.now.turns.now c.args.settings.now.threads c.one_each-share.result.lanes (g.C.Clock.range c.args.relaying.now.media.now.clock.now) (g.G.Gate.passed c.args.relaying.now.media.now.gate.now)
    c.make_lanes.new.threads.items c.run_after.new.threads.items refl refl c.one_each-share.ensures.1 c.run_after.ensures.as_many c.make_lanes.ensures.fresh c.make_lanes.ensures.once c.make_lanes.ensures.count c.run_after.ensures.threads in
    worked.once

pub join_threads-requires-clause-room : goal.join_threads-requires-clause-room
join_threads-requires-clause-room g c =
    let worked = have_worked c.args.settings.now.config c.args.settings.now.config c.args.relaying.now.turns.now c.args.relaying.now.turns.now c.args.settings.now.threads c.one_each-share.result.lanes (g.C.Clock.range c.args.relaying.now.media.now.clock.now) (g.G.Gate.passed c.args.relaying.now.media.now.gate.now)
    c.make_lanes.new.threads.items c.run_after.new.threads.items refl refl c.one_each-share.ensures.1 c.run_after.ensures.as_many c.make_lanes.ensures.fresh c.make_lanes.ensures.once c.make_lanes.ensures.count c.run_after.ensures.threads in
    subst (λ n. HasLaneRoom n c.args.room.lanes) (sym worked.long) c.requires.room.in_all

pub survey-requires-2-clause-all : goal.survey-requires-2-clause-all
survey-requires-2-clause-all g c =
    let worked = have_worked c.args.settings.now.config c.args.settings.now.config c.args.relaying.now.turns.now c.args.relaying.now.turns.now c.args.settings.now.threads c.one_each-share.result.lanes (g.C.Clock.range c.args.relaying.now.media.now.clock.now) (g.G.Gate.passed c.args.relaying.now.media.now.gate.now)
    c.make_lanes.new.threads.items c.run_after.new.threads.items refl refl c.one_each-share.ensures.1 c.run_after.ensures.as_many c.make_lanes.ensures.fresh c.make_lanes.ensures.once c.make_lanes.ensures.count c.run_after.ensures.threads in
    let first = ap (λ v. v.parts) c.survey.ensures.same.1 in
    let all = c.requires.all in
    let cut = c.make_lanes.ensures.parts in
    let glued = c.join_threads.ensures.parts in
    let many = worked.many in
    omega (arith, first, all, cut, glued, many)

pub returns-clause-between : goal.returns-clause-between
returns-clause-between g c =
    let worked = have_worked c.args.settings.now.config c.args.settings.now.config c.args.relaying.now.turns.now c.args.relaying.now.turns.now c.args.settings.now.threads c.one_each-share.result.lanes (g.C.Clock.range c.args.relaying.now.media.now.clock.now) (g.G.Gate.passed c.args.relaying.now.media.now.gate.now)
    c.make_lanes.new.threads.items c.run_after.new.threads.items refl refl c.one_each-share.ensures.1 c.run_after.ensures.as_many c.make_lanes.ensures.fresh c.make_lanes.ensures.once c.make_lanes.ensures.count c.run_after.ensures.threads in
    (has_taken c.args.settings.now.config c.args.relaying.now.turns.now c.args.settings.now.threads (g.C.Clock.range c.args.relaying.now.media.now.clock.now) (g.G.Gate.passed c.args.relaying.now.media.now.gate.now)
    c.make_lanes.new.hand c.join_threads.new.hand c.survey-2.new.hand c.run_after.new.threads.items c.args.looped.now.totals c.join_threads.new.totals c.make_lanes.ensures.between worked.done
    c.join_threads.ensures.table c.join_threads.ensures.idle c.join_threads.ensures.starts c.join_threads.ensures.main worked.long c.join_threads.ensures.joins c.survey-2.ensures.same
    c.survey-2.ensures.whole).between

pub returns-clause-parts : goal.returns-clause-parts
returns-clause-parts g c =
    let worked = have_worked c.args.settings.now.config c.args.settings.now.config c.args.relaying.now.turns.now c.args.relaying.now.turns.now c.args.settings.now.threads c.one_each-share.result.lanes (g.C.Clock.range c.args.relaying.now.media.now.clock.now) (g.G.Gate.passed c.args.relaying.now.media.now.gate.now)
    c.make_lanes.new.threads.items c.run_after.new.threads.items refl refl c.one_each-share.ensures.1 c.run_after.ensures.as_many c.make_lanes.ensures.fresh c.make_lanes.ensures.once c.make_lanes.ensures.count c.run_after.ensures.threads in
    let first = ap (λ v. v.parts) c.survey.ensures.same.1 in
    let last = ap (λ v. v.parts) c.survey-2.ensures.same.1 in
    let cut = c.make_lanes.ensures.parts in
    let glued = c.join_threads.ensures.parts in
    let many = worked.many in
    omega (arith, first, last, cut, glued, many)

pub returns-clause-history : goal.returns-clause-history
returns-clause-history g c =
    let worked = have_worked c.args.settings.now.config c.args.settings.now.config c.args.relaying.now.turns.now c.args.relaying.now.turns.now c.args.settings.now.threads c.one_each-share.result.lanes (g.C.Clock.range c.args.relaying.now.media.now.clock.now) (g.G.Gate.passed c.args.relaying.now.media.now.gate.now)
    c.make_lanes.new.threads.items c.run_after.new.threads.items refl refl c.one_each-share.ensures.1 c.run_after.ensures.as_many c.make_lanes.ensures.fresh c.make_lanes.ensures.once c.make_lanes.ensures.count c.run_after.ensures.threads in
    (has_taken c.args.settings.now.config c.args.relaying.now.turns.now c.args.settings.now.threads (g.C.Clock.range c.args.relaying.now.media.now.clock.now) (g.G.Gate.passed c.args.relaying.now.media.now.gate.now)
    c.make_lanes.new.hand c.join_threads.new.hand c.survey-2.new.hand c.run_after.new.threads.items c.args.looped.now.totals c.join_threads.new.totals c.make_lanes.ensures.between worked.done
    c.join_threads.ensures.table c.join_threads.ensures.idle c.join_threads.ensures.starts c.join_threads.ensures.main worked.long c.join_threads.ensures.joins c.survey-2.ensures.same
    c.survey-2.ensures.whole).history
    ∙ ap (λ rows. board_of (list_of rows)) (old_list c.args.settings.now.config c.args.settings.now.threads (g.C.Clock.range c.args.relaying.now.media.now.clock.now) (g.G.Gate.passed c.args.relaying.now.media.now.gate.now) c.args.hand.now c.survey.new.hand
    c.make_lanes.new.hand c.survey.ensures.same c.make_lanes.ensures.list)

pub returns-clause-relays : goal.returns-clause-relays
returns-clause-relays g c =
    let worked = have_worked c.args.settings.now.config c.args.settings.now.config c.args.relaying.now.turns.now c.args.relaying.now.turns.now c.args.settings.now.threads c.one_each-share.result.lanes (g.C.Clock.range c.args.relaying.now.media.now.clock.now) (g.G.Gate.passed c.args.relaying.now.media.now.gate.now)
    c.make_lanes.new.threads.items c.run_after.new.threads.items refl refl c.one_each-share.ensures.1 c.run_after.ensures.as_many c.make_lanes.ensures.fresh c.make_lanes.ensures.once c.make_lanes.ensures.count c.run_after.ensures.threads in
    let taken = has_taken c.args.settings.now.config c.args.relaying.now.turns.now c.args.settings.now.threads (g.C.Clock.range c.args.relaying.now.media.now.clock.now) (g.G.Gate.passed c.args.relaying.now.media.now.gate.now)
    c.make_lanes.new.hand c.join_threads.new.hand c.survey-2.new.hand c.run_after.new.threads.items c.args.looped.now.totals c.join_threads.new.totals c.make_lanes.ensures.between worked.done
    c.join_threads.ensures.table c.join_threads.ensures.idle c.join_threads.ensures.starts c.join_threads.ensures.main worked.long c.join_threads.ensures.joins c.survey-2.ensures.same
    c.survey-2.ensures.whole in
    relays_due c.args.settings.now.config c.args.settings.now.threads (g.C.Clock.range c.args.relaying.now.media.now.clock.now) (g.G.Gate.passed c.args.relaying.now.media.now.gate.now) c.args.hand.now c.survey.new.hand
    c.make_lanes.new.hand c.survey.ensures.same c.make_lanes.ensures.list c.survey-2.new.hand (rows_each c.join_threads.ensures.joins.lanes) c.args.looped.now.totals
    c.join_threads.new.totals c.survey.ensures.whole taken.made taken.list_is taken.gated taken.totals

pub returns-clause-took : goal.returns-clause-took
returns-clause-took g c ok n le few =
    let well : c.eq-went_well.result ≡ true = search (rules, ok) in
    let all = all_done c.make_lanes.new.threads.items c.run_after.new.threads.items c.run_after.ensures.as_many (c.run_after.ensures.done well) in
    let due = c.make_lanes.ensures.due in
    let joins = c.join_threads.ensures.joins in
    let same = same_taken (all_lanes c.run_after.new.threads.items) joins.lanes joins.are in
    adds_least joins.lanes c.args.looped.now.totals c.join_threads.new.totals n joins.adds few (omega (arith, le, all, due, same))

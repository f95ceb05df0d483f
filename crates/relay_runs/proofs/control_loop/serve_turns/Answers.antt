use Rattle.std.proofs.Common.{◌∙◌, ◌++◌, ap, sym, subst, arith, All}
use Rattle.turn_table.specs.Hands.{IsHandOf, entries}
use Rattle.relay_core.specs.Records.{list_of}
use Rattle.relay_core.specs.Turns.{made_by}
use Rattle.media_lane.specs.declared.answers.Totals.{Totals}
use Rattle.media_lane.specs.Sweeps.{Sweeps}
use Rattle.media_lane.specs.Visits.{all_rows}
use Rattle.media_lane.proofs.Gates.{gated_more}
use Rattle.board_turns.proofs.Betweens.{between_sound}
use Rattle.ng_server.specs.Servers.{history_of}
use Rattle.relay_runs.specs.Rounds.{lane_count, all_of}
use Rattle.relay_runs.specs.Threads.{HasLaneRoom, HasRoomForLanes, IsFreshLane, MayJoin, all_lanes, rows_each}
use Rattle.relay_runs.proofs.Gates.{makes_gated}
use Rattle.relay_runs.proofs.Joined.{has_taken}
use Rattle.relay_runs.proofs.MediaThreads.{AllOwn, have_worked, own_of_table}
use Rattle.relay_runs.proofs.ServeRuns.{whole_run, all_of_lanes, swept_rows, ran_whole}
use Rattle.relay_runs.proofs.Wholes.{moved_between, may_begin, made_turns, opens_again}
use Rattle.relay_runs.proofs.control_loop.serve_turns.Goals as goal

pub make_lanes-requires-clause-room : goal.make_lanes-requires-clause-room
make_lanes-requires-clause-room g c =
    subst (λ n. All (λ thread. HasRoomForLanes n thread) c.args.prepared.room.threads.items) (sym c.serve_share-share.ensures.lanes) c.requires.prepared.room.each

pub make_lanes-requires-clause-between : goal.make_lanes-requires-clause-between
make_lanes-requires-clause-between g c =
    moved_between c.args.prepared.server.config c.args.settings.now.config c.args.prepared.server.turns c.turns.result.now c.args.prepared.hand c.requires.prepared.config_is (sym c.turns.ensures) c.requires.prepared.between

pub run_beside-requires-clause-control : goal.run_beside-requires-clause-control
run_beside-requires-clause-control g c lifetimes within =
    may_begin c.args.settings.now c.args.prepared.server.config c.args.prepared.server.turns _ c.make_lanes.new.hand c.requires.limit c.requires.prepared.config_is
    (moved_between c.args.settings.now.config c.args.prepared.server.config c.turns.result.now c.args.prepared.server.turns c.make_lanes.new.hand (sym c.requires.prepared.config_is) c.turns.ensures c.make_lanes.ensures.between)
    (ap (λ rows. list_of rows) c.make_lanes.ensures.list ∙ c.requires.prepared.nothing) c.requires.open

pub run_beside-requires-clause-threads : goal.run_beside-requires-clause-threads
run_beside-requires-clause-threads g c lifetimes within =
    own_of_table c.turns-2.result.now c.args.settings.now.config c.serve_share-share.result.lanes c.make_lanes.new.threads.items
    (subst (λ t. AllOwn (λ own. IsFreshLane c.args.settings.now.config t c.serve_share-share.result.lanes own) c.make_lanes.new.threads.items) (c.turns.ensures ∙ sym c.turns-2.ensures)
    c.make_lanes.ensures.fresh)

pub join_threads-requires-clause-others : goal.join_threads-requires-clause-others
join_threads-requires-clause-others g c =
    let worked = have_worked c.args.prepared.server.config c.args.settings.now.config c.args.prepared.server.turns c.turns.result.now (lane_count c.args.prepared.server.config c.args.settings.now.threads) c.serve_share-share.result.lanes (g.C.Clock.range c.args.media.now.clock.now) (g.G.Gate.passed c.args.media.now.gate.now)
    c.make_lanes.new.threads.items c.run_beside.new.threads.items (sym c.requires.prepared.config_is) c.turns.ensures (c.serve_share-share.ensures.lanes ∙ ap (λ k. lane_count k c.args.settings.now.threads) (sym c.requires.prepared.config_is)) c.run_beside.ensures.as_many
    c.make_lanes.ensures.fresh c.make_lanes.ensures.once c.make_lanes.ensures.count c.run_beside.ensures.threads in
    subst (λ t. All (λ own. MayJoin t own) (all_lanes c.run_beside.new.threads.items)) (sym c.turns-3.ensures) worked.join

pub join_threads-requires-clause-once : goal.join_threads-requires-clause-once
join_threads-requires-clause-once g c =
    let worked = have_worked c.args.prepared.server.config c.args.settings.now.config c.args.prepared.server.turns c.turns.result.now (lane_count c.args.prepared.server.config c.args.settings.now.threads) c.serve_share-share.result.lanes (g.C.Clock.range c.args.media.now.clock.now) (g.G.Gate.passed c.args.media.now.gate.now)
    c.make_lanes.new.threads.items c.run_beside.new.threads.items (sym c.requires.prepared.config_is) c.turns.ensures (c.serve_share-share.ensures.lanes ∙ ap (λ k. lane_count k c.args.settings.now.threads) (sym c.requires.prepared.config_is)) c.run_beside.ensures.as_many
    c.make_lanes.ensures.fresh c.make_lanes.ensures.once c.make_lanes.ensures.count c.run_beside.ensures.threads in
    worked.once

pub join_threads-requires-clause-room : goal.join_threads-requires-clause-room
join_threads-requires-clause-room g c =
    let worked = have_worked c.args.prepared.server.config c.args.settings.now.config c.args.prepared.server.turns c.turns.result.now (lane_count c.args.prepared.server.config c.args.settings.now.threads) c.serve_share-share.result.lanes (g.C.Clock.range c.args.media.now.clock.now) (g.G.Gate.passed c.args.media.now.gate.now)
    c.make_lanes.new.threads.items c.run_beside.new.threads.items (sym c.requires.prepared.config_is) c.turns.ensures (c.serve_share-share.ensures.lanes ∙ ap (λ k. lane_count k c.args.settings.now.threads) (sym c.requires.prepared.config_is)) c.run_beside.ensures.as_many
    c.make_lanes.ensures.fresh c.make_lanes.ensures.once c.make_lanes.ensures.count c.run_beside.ensures.threads in
    subst (λ n. HasLaneRoom n c.args.prepared.room.lanes) (ap (λ k. lane_count k c.args.settings.now.threads) (sym c.requires.prepared.config_is) ∙ sym worked.long) c.requires.prepared.room.in_all

pub survey-requires-clause-all : goal.survey-requires-clause-all
survey-requires-clause-all g c =
    let worked = have_worked c.args.prepared.server.config c.args.settings.now.config c.args.prepared.server.turns c.turns.result.now (lane_count c.args.prepared.server.config c.args.settings.now.threads) c.serve_share-share.result.lanes (g.C.Clock.range c.args.media.now.clock.now) (g.G.Gate.passed c.args.media.now.gate.now)
    c.make_lanes.new.threads.items c.run_beside.new.threads.items (sym c.requires.prepared.config_is) c.turns.ensures (c.serve_share-share.ensures.lanes ∙ ap (λ k. lane_count k c.args.settings.now.threads) (sym c.requires.prepared.config_is)) c.run_beside.ensures.as_many
    c.make_lanes.ensures.fresh c.make_lanes.ensures.once c.make_lanes.ensures.count c.run_beside.ensures.threads in
    let made = made_turns c.args.settings.now c.args.prepared.server.config c.args.prepared.server.turns (g.C.Clock.range c.args.media.now.clock.now) (g.G.Gate.passed c.args.media.now.gate.now) _ _ _ c.make_lanes.new.hand c.in-Some.hand
    c.run_beside.new.control.hand c.run_beside.new.control.looped c.in-Some.is c.run_beside.ensures.control.1 in
    let same = made.same.2 in
    let all = c.requires.prepared.all in
    let cut = c.make_lanes.ensures.parts in
    let glued = c.join_threads.ensures.parts in
    let many = worked.many in
    omega (arith, same, all, cut, glued, many)

pub sweep_between-hand-requires : goal.sweep_between-hand-requires
sweep_between-hand-requires g c =
    let worked = have_worked c.args.prepared.server.config c.args.settings.now.config c.args.prepared.server.turns c.turns.result.now (lane_count c.args.prepared.server.config c.args.settings.now.threads) c.serve_share-share.result.lanes (g.C.Clock.range c.args.media.now.clock.now) (g.G.Gate.passed c.args.media.now.gate.now)
    c.make_lanes.new.threads.items c.run_beside.new.threads.items (sym c.requires.prepared.config_is) c.turns.ensures (c.serve_share-share.ensures.lanes ∙ ap (λ k. lane_count k c.args.settings.now.threads) (sym c.requires.prepared.config_is)) c.run_beside.ensures.as_many
    c.make_lanes.ensures.fresh c.make_lanes.ensures.once c.make_lanes.ensures.count c.run_beside.ensures.threads in
    let made = made_turns c.args.settings.now c.args.prepared.server.config c.args.prepared.server.turns (g.C.Clock.range c.args.media.now.clock.now) (g.G.Gate.passed c.args.media.now.gate.now) _ _ _ c.make_lanes.new.hand c.in-Some.hand
    c.run_beside.new.control.hand c.run_beside.new.control.looped c.in-Some.is c.run_beside.ensures.control.1 in
    let taken = has_taken c.args.prepared.server.config c.args.prepared.server.turns (lane_count c.args.prepared.server.config c.args.settings.now.threads) (g.C.Clock.range c.args.media.now.clock.now) (g.G.Gate.passed c.args.media.now.gate.now) c.in-Some.hand
    c.join_threads.new.hand c.survey.new.hand c.run_beside.new.threads.items c.run_beside.new.control.looped.totals c.join_threads.new.totals made.between worked.done
    (subst (λ t. IsHandOf t c.join_threads.new.hand) c.turns-3.ensures c.join_threads.ensures.table) c.join_threads.ensures.idle c.join_threads.ensures.starts c.join_threads.ensures.main
    worked.long c.join_threads.ensures.joins c.survey.ensures.same c.survey.ensures.whole in
    record { between = moved_between c.args.prepared.server.config c.args.settings.now.config c.args.prepared.server.turns c.turns-5.result.now c.survey.new.hand c.requires.prepared.config_is (sym c.turns-5.ensures) taken.between }

pub stop-requires-clause-between : goal.stop-requires-clause-between
stop-requires-clause-between g c = moved_between c.args.settings.now.config c.args.prepared.server.config c.turns-5.result.now c.args.prepared.server.turns c.sweep_between-hand.result (sym c.requires.prepared.config_is) c.turns-5.ensures c.sweep_between-hand.ensures.between

pub stop-requires-clause-open : goal.stop-requires-clause-open
stop-requires-clause-open g c =
    let worked = have_worked c.args.prepared.server.config c.args.settings.now.config c.args.prepared.server.turns c.turns.result.now (lane_count c.args.prepared.server.config c.args.settings.now.threads) c.serve_share-share.result.lanes (g.C.Clock.range c.args.media.now.clock.now) (g.G.Gate.passed c.args.media.now.gate.now)
    c.make_lanes.new.threads.items c.run_beside.new.threads.items (sym c.requires.prepared.config_is) c.turns.ensures (c.serve_share-share.ensures.lanes ∙ ap (λ k. lane_count k c.args.settings.now.threads) (sym c.requires.prepared.config_is)) c.run_beside.ensures.as_many
    c.make_lanes.ensures.fresh c.make_lanes.ensures.once c.make_lanes.ensures.count c.run_beside.ensures.threads in
    let made = made_turns c.args.settings.now c.args.prepared.server.config c.args.prepared.server.turns (g.C.Clock.range c.args.media.now.clock.now) (g.G.Gate.passed c.args.media.now.gate.now) _ _ _ c.make_lanes.new.hand c.in-Some.hand
    c.run_beside.new.control.hand c.run_beside.new.control.looped c.in-Some.is c.run_beside.ensures.control.1 in
    let taken = has_taken c.args.prepared.server.config c.args.prepared.server.turns (lane_count c.args.prepared.server.config c.args.settings.now.threads) (g.C.Clock.range c.args.media.now.clock.now) (g.G.Gate.passed c.args.media.now.gate.now) c.in-Some.hand
    c.join_threads.new.hand c.survey.new.hand c.run_beside.new.threads.items c.run_beside.new.control.looped.totals c.join_threads.new.totals made.between worked.done
    (subst (λ t. IsHandOf t c.join_threads.new.hand) c.turns-3.ensures c.join_threads.ensures.table) c.join_threads.ensures.idle c.join_threads.ensures.starts c.join_threads.ensures.main
    worked.long c.join_threads.ensures.joins c.survey.ensures.same c.survey.ensures.whole in
    opens_again c.args.prepared.server.config (history_of c.in-Some.hand) (history_of c.sweep_between-hand.result) _ (c.sweep_between-hand.ensures.board ∙ taken.history) made.opens

pub close_table-requires-clause-all : goal.close_table-requires-clause-all
close_table-requires-clause-all g c =
    let worked = have_worked c.args.prepared.server.config c.args.settings.now.config c.args.prepared.server.turns c.turns.result.now (lane_count c.args.prepared.server.config c.args.settings.now.threads) c.serve_share-share.result.lanes (g.C.Clock.range c.args.media.now.clock.now) (g.G.Gate.passed c.args.media.now.gate.now)
    c.make_lanes.new.threads.items c.run_beside.new.threads.items (sym c.requires.prepared.config_is) c.turns.ensures (c.serve_share-share.ensures.lanes ∙ ap (λ k. lane_count k c.args.settings.now.threads) (sym c.requires.prepared.config_is)) c.run_beside.ensures.as_many
    c.make_lanes.ensures.fresh c.make_lanes.ensures.once c.make_lanes.ensures.count c.run_beside.ensures.threads in
    let made = made_turns c.args.settings.now c.args.prepared.server.config c.args.prepared.server.turns (g.C.Clock.range c.args.media.now.clock.now) (g.G.Gate.passed c.args.media.now.gate.now) _ _ _ c.make_lanes.new.hand c.in-Some.hand
    c.run_beside.new.control.hand c.run_beside.new.control.looped c.in-Some.is c.run_beside.ensures.control.1 in
    let same = made.same.2 in
    let all = c.requires.prepared.all in
    let cut = c.make_lanes.ensures.parts in
    let glued = c.join_threads.ensures.parts in
    let many = worked.many in
    let surveyed = ap (λ v. v.parts) c.survey.ensures.same.1 in
    let swept = c.sweep_between-hand.ensures.same.2 in
    let stopped = c.stop.ensures.same.2 in
    omega (arith, same, all, cut, glued, many, surveyed, swept, stopped)

pub close_table-requires-clause-sound : goal.close_table-requires-clause-sound
close_table-requires-clause-sound g c = between_sound c.args.prepared.server.config c.args.prepared.server.turns c.stop.new.hand c.stop.ensures.between

pub returns-clause-did : goal.returns-clause-did
returns-clause-did g c =
    let worked = have_worked c.args.prepared.server.config c.args.settings.now.config c.args.prepared.server.turns c.turns.result.now (lane_count c.args.prepared.server.config c.args.settings.now.threads) c.serve_share-share.result.lanes (g.C.Clock.range c.args.media.now.clock.now) (g.G.Gate.passed c.args.media.now.gate.now)
    c.make_lanes.new.threads.items c.run_beside.new.threads.items (sym c.requires.prepared.config_is) c.turns.ensures (c.serve_share-share.ensures.lanes ∙ ap (λ k. lane_count k c.args.settings.now.threads) (sym c.requires.prepared.config_is)) c.run_beside.ensures.as_many
    c.make_lanes.ensures.fresh c.make_lanes.ensures.once c.make_lanes.ensures.count c.run_beside.ensures.threads in
    let made = made_turns c.args.settings.now c.args.prepared.server.config c.args.prepared.server.turns (g.C.Clock.range c.args.media.now.clock.now) (g.G.Gate.passed c.args.media.now.gate.now) _ _ _ c.make_lanes.new.hand c.in-Some.hand
    c.run_beside.new.control.hand c.run_beside.new.control.looped c.in-Some.is c.run_beside.ensures.control.1 in
    let taken = has_taken c.args.prepared.server.config c.args.prepared.server.turns (lane_count c.args.prepared.server.config c.args.settings.now.threads) (g.C.Clock.range c.args.media.now.clock.now) (g.G.Gate.passed c.args.media.now.gate.now) c.in-Some.hand
    c.join_threads.new.hand c.survey.new.hand c.run_beside.new.threads.items c.run_beside.new.control.looped.totals c.join_threads.new.totals made.between worked.done
    (subst (λ t. IsHandOf t c.join_threads.new.hand) c.turns-3.ensures c.join_threads.ensures.table) c.join_threads.ensures.idle c.join_threads.ensures.starts c.join_threads.ensures.main
    worked.long c.join_threads.ensures.joins c.survey.ensures.same c.survey.ensures.whole in
    let between = moved_between c.args.settings.now.config c.args.prepared.server.config c.turns-5.result.now c.args.prepared.server.turns c.sweep_between-hand.result (sym c.requires.prepared.config_is) c.turns-5.ensures c.sweep_between-hand.ensures.between in
    let swept = subst (λ k. (t : Totals) × Sweeps k 0 1 (g.C.Clock.range c.args.media.now.clock.now) c.survey.new.hand c.sweep_between-hand.result t) (sym c.requires.prepared.config_is) c.sweep_between-hand.ensures.swept in
    ran_whole c.args.settings.now.turns c.args.prepared.server.config c.args.settings.now.threads (g.C.Clock.range c.args.media.now.clock.now) (g.G.Gate.passed c.args.media.now.gate.now) _ _ _ _ _ _ _ _ _ _ _ _ _ _
    c.run_beside.new.control.looped.status c.run_beside.new.control.looped.counts c.sweep_between-hand.new.totals (entries c.in-Some.hand)
    (all_of (rows_each c.join_threads.ensures.joins.lanes) ++ all_rows c.args.prepared.server.config swept.1.visits) (entries c.sweep_between-hand.result) (entries c.stop.new.hand) c.stop.ensures.later
    c.stop.ensures.closes made.did
    (whole_run c.args.prepared.server.config c.args.settings.now.threads (g.C.Clock.range c.args.media.now.clock.now) made.did.rounds c.sweep_between-hand.new.totals swept.0 c.args.prepared.server.turns
    c.in-Some.hand c.survey.new.hand c.sweep_between-hand.result c.stop.new.hand (rows_each c.join_threads.ensures.joins.lanes) made.did.are_rounds made.did.board_is taken.made taken.list_is
    taken.counted taken.history swept.1 c.sweep_between-hand.ensures.board between c.stop.ensures.between c.stop.ensures.makes
    (c.sweep_between-hand.ensures.totals (taken.totals made.totals)) c.close_table.ensures.legal c.close_table.ensures.timed)
    (makes_gated (g.G.Gate.passed c.args.media.now.gate.now) c.args.prepared.server.config c.sweep_between-hand.result c.stop.new.hand _ between.orderly c.stop.ensures.makes
    (gated_more (g.G.Gate.passed c.args.media.now.gate.now) (made_by c.survey.new.hand) (made_by c.sweep_between-hand.result) (taken.gated made.gated) c.sweep_between-hand.ensures.gated))
    c.stop.ensures.ties
    (all_of_lanes c.args.prepared.server.config c.args.settings.now.threads (g.C.Clock.range c.args.media.now.clock.now) made.did.rounds c.sweep_between-hand.new.totals swept.0 c.args.prepared.server.turns
    c.in-Some.hand c.survey.new.hand c.sweep_between-hand.result c.stop.new.hand (rows_each c.join_threads.ensures.joins.lanes) made.did.are_rounds made.did.board_is taken.made taken.list_is
    taken.counted taken.history swept.1 c.sweep_between-hand.ensures.board between c.stop.ensures.between c.stop.ensures.makes
    (c.sweep_between-hand.ensures.totals (taken.totals made.totals)) c.close_table.ensures.legal c.close_table.ensures.timed)
    (swept_rows c.args.prepared.server.config c.args.settings.now.threads (g.C.Clock.range c.args.media.now.clock.now) made.did.rounds c.sweep_between-hand.new.totals swept.0 c.args.prepared.server.turns
    c.in-Some.hand c.survey.new.hand c.sweep_between-hand.result c.stop.new.hand (rows_each c.join_threads.ensures.joins.lanes) made.did.are_rounds made.did.board_is taken.made taken.list_is
    taken.counted taken.history swept.1 c.sweep_between-hand.ensures.board between c.stop.ensures.between c.stop.ensures.makes
    (c.sweep_between-hand.ensures.totals (taken.totals made.totals)) c.close_table.ensures.legal c.close_table.ensures.timed)
    c.close_table.ensures.ins c.requires.open c.stop.ensures.shut

use Rattle.std.proofs.Common.{◌∙◌, sym, subst}
use Rattle.relay_outside.specs.declared.settings.Config.{Config}
use Rattle.turn_table.specs.Hands.{entries}
use Rattle.board_turns.proofs.Betweens.{between_sound}
use Rattle.ng_server.specs.Servers.{history_of}
use Rattle.relay_runs.specs.Rounds.{all_of}
use Rattle.relay_runs.specs.Threads.{RelaysDue}
use Rattle.relay_runs.proofs.LoadRuns.{whole_load, load_gated, lane_rows, ran_load, ended_so}
use Rattle.relay_runs.proofs.Wholes.{moved_between, may_begin, made_turns, opens_again}
use Rattle.relay_runs.proofs.load_run.load_turns.Goals as goal

pub work-requires : goal.work-requires
work-requires g c =
    may_begin c.args.settings.now c.args.prepared.server.config c.args.prepared.server.turns _ c.args.prepared.hand c.requires.limit c.requires.prepared.config_is c.requires.prepared.between c.requires.prepared.nothing c.requires.open

pub relay_due-requires-clause-all : goal.relay_due-requires-clause-all
relay_due-requires-clause-all g c lifetimes within =
    let made = made_turns c.args.settings.now c.args.prepared.server.config c.args.prepared.server.turns (g.C.Clock.range c.args.media.now.clock.now) (g.G.Gate.passed c.args.media.now.gate.now) _ _ _ c.args.prepared.hand c.in-Some.hand
    c.work.new.self.hand c.work.new.self.looped c.in-Some.is c.work.ensures.1 in
    made.same.2 ∙ c.requires.prepared.all

pub relay_due-requires-clause-between : goal.relay_due-requires-clause-between
relay_due-requires-clause-between g c lifetimes within =
    let made = made_turns c.args.settings.now c.args.prepared.server.config c.args.prepared.server.turns (g.C.Clock.range c.args.media.now.clock.now) (g.G.Gate.passed c.args.media.now.gate.now) _ _ _ c.args.prepared.hand c.in-Some.hand
    c.work.new.self.hand c.work.new.self.looped c.in-Some.is c.work.ensures.1 in
    moved_between c.args.prepared.server.config c.args.settings.now.config c.args.prepared.server.turns c.turns.result.now c.in-Some.hand c.requires.prepared.config_is (sym c.turns.ensures) made.between

pub stop-requires-clause-between : goal.stop-requires-clause-between
stop-requires-clause-between g c =
    moved_between c.args.settings.now.config c.args.prepared.server.config c.turns.result.now c.args.prepared.server.turns c.relay_due.new.hand (sym c.requires.prepared.config_is) c.turns.ensures c.relay_due.ensures.between

pub stop-requires-clause-open : goal.stop-requires-clause-open
stop-requires-clause-open g c =
    let made = made_turns c.args.settings.now c.args.prepared.server.config c.args.prepared.server.turns (g.C.Clock.range c.args.media.now.clock.now) (g.G.Gate.passed c.args.media.now.gate.now) _ _ _ c.args.prepared.hand c.in-Some.hand
    c.work.new.self.hand c.work.new.self.looped c.in-Some.is c.work.ensures.1 in
    opens_again c.args.prepared.server.config (history_of c.in-Some.hand) (history_of c.relay_due.new.hand) _ c.relay_due.ensures.history made.opens

pub close_table-requires-clause-all : goal.close_table-requires-clause-all
close_table-requires-clause-all g c =
    let made = made_turns c.args.settings.now c.args.prepared.server.config c.args.prepared.server.turns (g.C.Clock.range c.args.media.now.clock.now) (g.G.Gate.passed c.args.media.now.gate.now) _ _ _ c.args.prepared.hand c.in-Some.hand
    c.work.new.self.hand c.work.new.self.looped c.in-Some.is c.work.ensures.1 in
    c.stop.ensures.same.2 ∙ c.relay_due.ensures.parts ∙ made.same.2 ∙ c.requires.prepared.all

pub close_table-requires-clause-sound : goal.close_table-requires-clause-sound
close_table-requires-clause-sound g c = between_sound c.args.prepared.server.config c.args.prepared.server.turns c.stop.new.hand c.stop.ensures.between

pub returns-clause-did : goal.returns-clause-did
returns-clause-did g c =
    let made = made_turns c.args.settings.now c.args.prepared.server.config c.args.prepared.server.turns (g.C.Clock.range c.args.media.now.clock.now) (g.G.Gate.passed c.args.media.now.gate.now) _ _ _ c.args.prepared.hand c.in-Some.hand
    c.work.new.self.hand c.work.new.self.looped c.in-Some.is c.work.ensures.1 in
    let due = subst (λ (k : Config). RelaysDue k c.args.settings.now.threads (g.C.Clock.range c.args.media.now.clock.now) (g.G.Gate.passed c.args.media.now.gate.now) c.in-Some.hand c.relay_due.new.hand
    c.work.new.self.looped.totals c.relay_due.new.looped.totals) (sym c.requires.prepared.config_is) c.relay_due.ensures.relays in
    let between = moved_between c.args.settings.now.config c.args.prepared.server.config c.turns.result.now c.args.prepared.server.turns c.relay_due.new.hand (sym c.requires.prepared.config_is) c.turns.ensures c.relay_due.ensures.between in
    ended_so c.args.settings.now.turns c.args.prepared.server.config c.args.settings.now.threads (g.C.Clock.range c.args.media.now.clock.now) (g.G.Gate.passed c.args.media.now.gate.now) _
    c.work.new.self.looped.status c.relay_due.new.looped.status c.work.new.self.looped.counts c.relay_due.new.looped.counts c.relay_due.new.looped.totals c.relay_due.ensures.same.0 c.relay_due.ensures.same.1
    (ran_load c.args.settings.now.turns c.args.prepared.server.config c.args.settings.now.threads (g.C.Clock.range c.args.media.now.clock.now) (g.G.Gate.passed c.args.media.now.gate.now) _ _ _ _ _ _ _ _ _ _ _ _ _ _
    c.work.new.self.looped.status c.work.new.self.looped.counts c.relay_due.new.looped.totals (entries c.in-Some.hand) (all_of due.beside) (entries c.relay_due.new.hand) (entries c.stop.new.hand)
    c.stop.ensures.later c.stop.ensures.closes made.did
    (whole_load c.args.prepared.server.config c.args.settings.now.threads (g.C.Clock.range c.args.media.now.clock.now) (g.G.Gate.passed c.args.media.now.gate.now) made.did.rounds
    c.work.new.self.looped.totals c.relay_due.new.looped.totals c.args.prepared.server.turns c.in-Some.hand c.relay_due.new.hand c.stop.new.hand c.requires.some made.did.are_rounds made.did.board_is made.between due
    c.relay_due.ensures.history between c.stop.ensures.between c.stop.ensures.makes made.totals c.close_table.ensures.legal c.close_table.ensures.timed)
    (load_gated c.args.prepared.server.config c.args.settings.now.threads (g.C.Clock.range c.args.media.now.clock.now) (g.G.Gate.passed c.args.media.now.gate.now) made.did.rounds
    c.work.new.self.looped.totals c.relay_due.new.looped.totals c.args.prepared.server.turns c.in-Some.hand c.relay_due.new.hand c.stop.new.hand c.requires.some made.did.are_rounds made.did.board_is made.between due
    c.relay_due.ensures.history between c.stop.ensures.between c.stop.ensures.makes made.totals c.close_table.ensures.legal c.close_table.ensures.timed made.gated)
    c.stop.ensures.ties
    (lane_rows c.args.prepared.server.config c.args.settings.now.threads (g.C.Clock.range c.args.media.now.clock.now) (g.G.Gate.passed c.args.media.now.gate.now) made.did.rounds
    c.work.new.self.looped.totals c.relay_due.new.looped.totals c.args.prepared.server.turns c.in-Some.hand c.relay_due.new.hand c.stop.new.hand c.requires.some made.did.are_rounds made.did.board_is made.between due
    c.relay_due.ensures.history between c.stop.ensures.between c.stop.ensures.makes made.totals c.close_table.ensures.legal c.close_table.ensures.timed)
    due.list_is c.close_table.ensures.ins c.requires.open c.stop.ensures.shut)

pub returns-clause-took : goal.returns-clause-took
returns-clause-took g c ok n le few = c.relay_due.ensures.took (sym c.relay_due.ensures.same.0 ∙ ok) n le few

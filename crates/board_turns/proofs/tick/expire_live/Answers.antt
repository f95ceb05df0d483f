use Rattle.std.proofs.Common.{◌≡◌, ◌∙◌, ◌+◌, ◌-◌, ◌<◌, ◌≤◌, sym, ap, subst, Bool, true, false, cond, ℕ, List, length, arith}
use Rattle.std.proofs.lemmas.List.{length-map}
use Rattle.relay_outside.specs.declared.ports.PortCall.{PortCall}
use Rattle.relay_outside.specs.declared.settings.Config.{Config}
use Rattle.relay_outside.specs.DeviceLogs.{WhereLogged}
use Rattle.turn_table.specs.Hands.{parts}
use Rattle.call_board.specs.Acts.{Call}
use Rattle.call_board.specs.Calls.{live, is_due_at}
use Rattle.call_board.specs.Pairs.{closed_of}
use Rattle.call_board.specs.Shapes.{board_shape}
use Rattle.call_board.specs.Views.{call_view, view_of, view_at_moment}
use Rattle.relay_core.specs.Entries.{board_history}
use Rattle.relay_core.specs.KeptAfter.{IsWholeWith}
use Rattle.relay_core.specs.Turns.{GainsNested, made_by}
use Rattle.media_ports.specs.OpenPorts.{OpensHeld}
use Rattle.board_turns.specs.declared.board_turn.BoardEntryId.{BoardEntryId}
use Rattle.board_turns.specs.BoardTurns.{MakesNested}
use Rattle.board_turns.specs.Closings.{pairs_left}
use Rattle.board_turns.specs.CallEnds.{HoldsOpen, leg_pairs}
use Rattle.board_turns.specs.Ticks.{CanAsk, CanExpire, IsDueBy, asking_of}
use Rattle.board_turns.proofs.Staying.{may_again, same_config, works_none, works_both}
use Rattle.relay_core.proofs.Histories.{good_history}
use Rattle.media_ports.proofs.Asked.{gained_no_opening, gained_no_openings}
use Rattle.board_turns.specs.Stops.{stop_entry}
use Rattle.board_turns.proofs.HeldPorts.{holds_can, kept_live}
use Rattle.board_turns.proofs.Stopped.{nth}
use Rattle.board_turns.proofs.Ticked.{none_asked, next_asks, one_asked, all_asked}
use Rattle.board_turns.proofs.tick.expire_live.Goals as goal
use Rattle.board_turns.proofs.tick.expire_live.Goals.{then-expire_call, else-expire_call}

pub loop-asked-init : goal.loop-asked-init
loop-asked-init g c =
    let turn = c.args.turn.now in
    let main = turn.main in
    let log = g.P.PortMaker.log turn.ports.now in
    record {
      works = works_none g.P.PortMaker.log g.P.PortMaker.faults turn c.requires.may c.requires.empty;
      asked = λ begins. none_asked main.config.now main.turns.now main.hand.now main.entry_id turn.board.now log begins.in_turn;
      holds = c.requires.holds;
      left = omega arith;
      few = omega arith;
      closes = gained_no_opening log;
    }

pub expire_call-requires-clause-may : goal.expire_call-requires-clause-may
expire_call-requires-clause-may g c =
    may_again c.args.turn.now.main c.loop-asked.turn.main c.loop-asked.invariant.works.stays.nests

pub expire_call-requires-clause-empty : goal.expire_call-requires-clause-empty
expire_call-requires-clause-empty g c =
    c.loop-asked.invariant.works.empty

pub expire_call-requires-clause-can : goal.expire_call-requires-clause-can
expire_call-requires-clause-can g c =
    let turn = c.loop-asked.turn in
    let config = c.args.turn.now.main.config.now in
    let log = g.P.PortMaker.log turn.ports.now in
    let was = c.loop-asked.invariant in
    let same = same_config c.args.turn.now.main turn.main was.works.stays.nests in
    let count = c.live_count-count.ensures.shape in
    let left = was.left in
    let few = was.few in
    let below : c.loop-asked.asked - c.loop-asked.ended < length (board_shape turn.board.now).calls = omega (arith, count, left, few) in
    let next = nth (board_shape turn.board.now).calls (c.loop-asked.asked - c.loop-asked.ended) below in
    let whole = subst (λ (k : Config). IsWholeWith k turn.main.hand.now (board_shape turn.board.now)) same (was.works.whole c.requires.whole) in
    let holds = subst (λ (k : Config). HoldsOpen k turn.main.hand.now log) same was.holds in
    subst (λ (k : Config). CanAsk k turn.main.hand.now turn.board.now log (c.loop-asked.asked - c.loop-asked.ended)) (sym same)
    (record {
      live = next.0;
      at = next.1;
      can = holds_can config turn.main.hand.now turn.board.now log next.0.number whole holds
          (kept_live turn.board.now (c.loop-asked.asked - c.loop-asked.ended) next.0 next.1);
    })

pub loop-asked-preserved : goal.loop-asked-preserved
loop-asked-preserved g c =
    let old = c.args.turn.now in
    let turn = c.loop-asked.turn in
    let new = c.expire_call.new.turn in
    let was = c.loop-asked.invariant in
    let due = c.expire_call.result in
    let then_ended = c.if-expire_call.ended in
    let counted : then_ended ≡ cond due (c.loop-asked.ended + 1) c.loop-asked.ended =
    elim c.if-expire_call.branch [
      | then-expire_call w ↦ w.ended-is ∙ ap (λ (b : Bool). cond b (c.loop-asked.ended + 1) c.loop-asked.ended) (sym w.if-expire_call.true)
      | else-expire_call w ↦ w.ended-is ∙ ap (λ (b : Bool). cond b (c.loop-asked.ended + 1) c.loop-asked.ended) (sym w.if-expire_call.false)
    ] in
    record {
      works = works_both g.P.PortMaker.log g.P.PortMaker.faults old turn new was.works c.expire_call.ensures.works;
      asked = λ begins.
          let config = c.args.turn.now.main.config.now in
          let number = c.args.turn.now.main.entry_id.number in
          let moment = c.args.turn.now.main.entry_id.moment in
          let turn = c.loop-asked.turn in
          let l = made_by c.args.turn.now.main.hand.now in
          let h = board_history l number in
          let told_now = g.P.PortMaker.log turn.ports.now in
          let count = c.live_count-count.ensures.live config (view_at_moment (view_of config h) moment) begins.in_turn.shows in
          let long = length-map (live h) (call_view h) in
          let i = c.loop-asked.asked in
          let was = c.loop-asked.invariant in
          let asked = was.asked begins in
          let few = was.few in
          let before : i < length (live h) = omega (arith, count, long) in
          let next = nth (live h) i before in
          let of : Call = next.0 in
          let legs = closed_of h (stop_entry h) of in
          let same = same_config c.args.turn.now.main turn.main was.works.stays.nests in
          let overdue = is_due_at h of.number moment in
          let entry_same = was.works.stays.nests.entry_is in
          let asks = subst (λ (id : BoardEntryId). CanExpire turn.main.config.now turn.main.hand.now turn.board.now told_now id.moment (i - c.loop-asked.ended) of legs overdue)
          (sym entry_same)
          (subst (λ (k : Config). CanExpire k turn.main.hand.now turn.board.now told_now moment (i - c.loop-asked.ended) of legs overdue) (sym same)
          (next_asks config number moment c.args.turn.now.main.hand.now turn.main.hand.now turn.board.now told_now i c.loop-asked.ended (i - c.loop-asked.ended) of
          (subst (λ (k : Config). IsWholeWith k turn.main.hand.now (board_shape turn.board.now)) same (was.works.whole begins.in_turn.whole)) begins.in_turn.orderly begins.in_turn.above next.1 asked (omega (arith, few)))) in
          let old = c.args.turn.now in
          let new = c.expire_call.new.turn in
          let log = g.P.PortMaker.log old.ports.now in
          let told_new = g.P.PortMaker.log new.ports.now in
          let now = c.expire_call.ensures in
          let due = c.expire_call.result in
          let then_ended = c.if-expire_call.ended in
          let gained = subst (λ (id : BoardEntryId). GainsNested id.number id.moment (asking_of config of legs overdue due) turn.main.hand.now new.main.hand.now) entry_same
          (subst (λ (k : Config). MakesNested (asking_of k of legs overdue due) turn.main new.main) same (now.gained of legs overdue asks)) in
          let opened = subst (λ (k : Config). (held : List ℕ) → WhereLogged told_now (λ (calls : List PortCall). OpensHeld k calls held)
          → WhereLogged told_new (λ (calls : List PortCall). OpensHeld k calls (cond due (pairs_left (leg_pairs legs) held) held))) same (now.«open» of legs overdue asks) in
          let timed_out = subst (λ (id : BoardEntryId). overdue ≡ false → parts turn.main.hand.now ≡ 1024 → IsDueBy config (made_by turn.main.hand.now) of.cell id.moment due) entry_same
          (subst (λ (k : Config). overdue ≡ false → parts turn.main.hand.now ≡ 1024 → IsDueBy k (made_by turn.main.hand.now) of.cell turn.main.entry_id.moment due) same
          (now.timed_out of legs overdue asks)) in
          one_asked config number moment old.main.hand.now turn.main.hand.now new.main.hand.now turn.board.now new.board.now told_now told_new i c.loop-asked.ended then_ended of
          due begins.in_turn.orderly was.works.stays.nests.same next.1 asked counted gained (now.asked of legs overdue asks) opened (now.overdue of legs overdue asks) timed_out;
      holds = c.expire_call.ensures.holds was.holds;
      left = one_fewer due (length (board_shape turn.board.now).calls) (length (board_shape new.board.now).calls) c.loop-asked.ended then_ended (length (board_shape old.board.now).calls)
          counted c.expire_call.ensures.fewer was.left;
      few = at_most due c.loop-asked.asked c.loop-asked.ended then_ended counted was.few;
      closes = gained_no_openings (g.P.PortMaker.log old.ports.now) (g.P.PortMaker.log turn.ports.now) (g.P.PortMaker.log new.ports.now) was.closes c.expire_call.ensures.closes;
    }
  where
    at_most : (b : Bool) (i ended then_ended : ℕ) → then_ended ≡ cond b (ended + 1) ended → ended ≤ i → then_ended ≤ i + 1
    at_most true i ended then_ended is few = omega (arith, is, few)
    at_most false i ended then_ended is few = omega (arith, is, few)

    one_fewer : (b : Bool) (n after ended then_ended all : ℕ) → then_ended ≡ cond b (ended + 1) ended → n ≡ after + cond b 1 0 → n + ended ≡ all → after + then_ended ≡ all
    one_fewer true n after ended then_ended all is fewer left = omega (arith, is, fewer, left)
    one_fewer false n after ended then_ended all is fewer left = omega (arith, is, fewer, left)

pub returns-clause-works : goal.returns-clause-works
returns-clause-works g c =
    c.loop-asked.invariant.works

pub returns-clause-closes : goal.returns-clause-closes
returns-clause-closes g c =
    c.loop-asked.invariant.closes

pub returns-clause-ends : goal.returns-clause-ends
returns-clause-ends g c begins =
    let config = c.args.turn.now.main.config.now in
    let number = c.args.turn.now.main.entry_id.number in
    let moment = c.args.turn.now.main.entry_id.moment in
    let h = board_history (made_by c.args.turn.now.main.hand.now) number in
    let count = c.live_count-count.ensures.live config (view_at_moment (view_of config h) moment) begins.in_turn.shows in
    let long = length-map (live h) (call_view h) in
    let was = c.loop-asked.invariant in
    let over : c.loop-asked.asked ≡ length (live h) = omega (arith, count, long) in
    all_asked config number moment c.args.turn.now.main.hand.now c.loop-asked.turn.main.hand.now c.loop-asked.turn.board.now (g.P.PortMaker.log c.loop-asked.turn.ports.now) c.loop-asked.asked c.loop-asked.ended
    (good_history config (made_by c.args.turn.now.main.hand.now) begins.in_turn.orderly number) begins.in_turn.timely over (was.asked begins)

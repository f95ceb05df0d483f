use Rattle.std.proofs.Common.{◌≡◌, ◌∙◌, ◌+◌, ◌++◌, ◌<◌, refl, sym, ap, subst, ℕ, List, [], ◌∷◌, Some, take, length, arith}
use Rattle.std.proofs.Math.Seq.{take-length}
use Rattle.std.proofs.lemmas.List.{length-map, map-append}
use Rattle.std.specs.List.{flat_map}
use Rattle.relay_outside.specs.declared.ports.PortCall.{PortCall}
use Rattle.relay_outside.specs.declared.settings.Config.{Config}
use Rattle.relay_outside.specs.DeviceLogs.{WhereLogged}
use Rattle.histories.specs.Words.{has}
use Rattle.port_pool.specs.declared.holder.Holder.{Holder}
use Rattle.call_board.specs.Acts.{Call}
use Rattle.call_board.specs.Boards.{BoardMatches, IsLive}
use Rattle.call_board.specs.Calls.{live}
use Rattle.call_board.specs.Pairs.{held, closed_of}
use Rattle.call_board.specs.Shapes.{board_shape}
use Rattle.call_board.specs.Views.{View, call_view, view_of}
use Rattle.call_board.specs.Whole.{with_ended}
use Rattle.call_board.proofs.Entries.{ended_more, whole}
use Rattle.call_board.proofs.Found.{cells_while_ending}
use Rattle.relay_core.specs.Entries.{board_history}
use Rattle.relay_core.specs.KeptAfter.{IsWholeWith}
use Rattle.relay_core.specs.Scripts.{Owed, ending}
use Rattle.relay_core.specs.Turns.{GainsNested, made_by}
use Rattle.relay_core.proofs.Histories.{good_history}
use Rattle.media_ports.specs.OpenPorts.{OpensHeld}
use Rattle.media_ports.proofs.Asked.{gained_no_opening, gained_no_openings}
use Rattle.media_ports.proofs.Leased.{take_next}
use Rattle.board_turns.proofs.Staying.{may_again, same_config, makes_both, works_none, works_both}
use Rattle.board_turns.specs.BoardTurns.{MakesNested}
use Rattle.board_turns.specs.Closings.{pairs_left}
use Rattle.board_turns.specs.CallEnds.{CanEnd, HoldsOpen, IsCallOf, ending_of, leg_pairs, with_call_ended}
use Rattle.board_turns.specs.Stops.{stop_entry, still_held}
use Rattle.board_turns.proofs.Lefts.{left_none, left_twice, told_alike}
use Rattle.board_turns.proofs.Closed.{gains_nothing}
use Rattle.board_turns.proofs.Stopped.{nth, spread_more, next_number, stop_call}
use Rattle.board_turns.proofs.Expiring.{ask_index, ask_number}
use Rattle.board_turns.proofs.HeldPorts.{holds_can, kept_live}
use Rattle.board_turns.proofs.stop.end_live.Goals as goal

pub loop-ended-init : goal.loop-ended-init
loop-ended-init g c =
    let turn = c.args.turn.now in
    let main = turn.main in
    let h = board_history (made_by main.hand.now) main.entry_id.number in
    let log = g.P.PortMaker.log turn.ports.now in
    record {
      works = works_none g.P.PortMaker.log g.P.PortMaker.faults turn c.requires.may c.requires.empty;
      holds = c.requires.holds;
      left = omega arith;
      gained = λ on. gains_nothing main.entry_id.number main.entry_id.moment main.hand.now;
      shows = λ on. on.board;
      opens = λ on. told_alike main.config.now log (leg_pairs (held h)) (pairs_left [] (leg_pairs (held h))) (left_none (leg_pairs (held h))) on.opens;
      closes = gained_no_opening log;
    }

pub end_call-requires-clause-may : goal.end_call-requires-clause-may
end_call-requires-clause-may g c =
    may_again c.args.turn.now.main c.loop-ended.turn.main c.loop-ended.invariant.works.stays.nests

pub end_call-requires-clause-empty : goal.end_call-requires-clause-empty
end_call-requires-clause-empty g c =
    c.loop-ended.invariant.works.empty

pub end_call-requires-clause-can : goal.end_call-requires-clause-can
end_call-requires-clause-can g c =
    let turn = c.loop-ended.turn in
    let config = c.args.turn.now.main.config.now in
    let log = g.P.PortMaker.log turn.ports.now in
    let was = c.loop-ended.invariant in
    let same = same_config c.args.turn.now.main turn.main was.works.stays.nests in
    let count = c.live_count-count.ensures.shape in
    let left = c.loop-ended.invariant.left in
    let calls = (board_shape c.loop-ended.turn.board.now).calls in
    let below : 0 < length calls = omega (arith, count, left) in
    let next = nth calls 0 below in
    let number_is = ask_number turn.board.now 0 next.0 c.call_at-call.result next.1 c.call_at-call.ensures.shape in
    let whole = subst (λ (k : Config). IsWholeWith k turn.main.hand.now (board_shape turn.board.now)) same (was.works.whole c.requires.whole) in
    let holds = subst (λ (k : Config). HoldsOpen k turn.main.hand.now log) same was.holds in
    subst (λ (k : Config). CanEnd k turn.main.hand.now turn.board.now log c.call_at-call.result) (sym same)
    (holds_can config turn.main.hand.now turn.board.now log c.call_at-call.result whole holds
    (subst (λ (k : ℕ). IsLive turn.board.now k) (sym number_is) (kept_live turn.board.now 0 next.0 next.1)))

pub loop-ended-preserved : goal.loop-ended-preserved
loop-ended-preserved g c =
    let before = c.args.turn.now in
    let mid = c.loop-ended.turn in
    let after_end = c.end_call.new.turn in
    let had = c.loop-ended.invariant in
    let left_was = had.left in
    let one_less = c.end_call.ensures.fewer in
    record {
      works = works_both g.P.PortMaker.log g.P.PortMaker.faults before mid after_end had.works c.end_call.ensures.works;
      holds = c.end_call.ensures.holds had.holds;
      left = omega (arith, left_was, one_less);
      gained = λ on.
          let config = c.args.turn.now.main.config.now in
          let number = c.args.turn.now.main.entry_id.number in
          let moment = c.args.turn.now.main.entry_id.moment in
          let turn = c.loop-ended.turn in
          let l = made_by c.args.turn.now.main.hand.now in
          let h = board_history l number in
          let e = stop_entry h in
          let fits = good_history config l on.orderly number in
          let count = c.live_count-count.ensures.live config (view_of config h) on.board in
          let long = length-map (live h) (call_view h) in
          let i = c.loop-ended.ended in
          let was = c.loop-ended.invariant in
          let before : i < length (live h) = omega (arith, count, long) in
          let next = nth (live h) i before in
          let of : Call = next.0 in
          let v = with_ended h e (take i (live h)) (view_of config h) in
          let log = g.P.PortMaker.log turn.ports.now in
          let legs = closed_of h e of in
          let first : Some c.call_at-call.result ≡ Some of.number = sym (c.call_at-call.ensures.live config v (was.shows on)) ∙ next_number config h e i of fits next.1 in
          let same : c.call_at-call.result ≡ of.number = cc in
          let config_same = same_config c.args.turn.now.main turn.main was.works.stays.nests in
          let can : IsCallOf turn.main.config.now (made_by turn.main.hand.now) turn.board.now c.call_at-call.result of legs =
          subst (λ (k : Config). IsCallOf k (made_by turn.main.hand.now) turn.board.now c.call_at-call.result of legs) (sym config_same)
          (subst (λ (k : ℕ). IsCallOf config (made_by turn.main.hand.now) turn.board.now k of legs) (sym same)
          (stop_call config number moment c.args.turn.now.main.hand.now turn.main.hand.now i of turn.board.now on.orderly on.above next.1 (was.gained on) (was.shows on))) in
          let old = c.args.turn.now in
          let new = c.end_call.new.turn in
          let now = c.end_call.ensures in
          let start = g.P.PortMaker.log old.ports.now in
          let after = g.P.PortMaker.log new.ports.now in
          let taken = take_next (live h) i of next.1 in
          let pairs = leg_pairs (flat_map (closed_of h e) (take i (live h))) in
          let all_pairs : pairs ++ leg_pairs legs ≡ leg_pairs (flat_map (closed_of h e) (take (i + 1) (live h))) =
          sym (ap leg_pairs (ap (flat_map (closed_of h e)) taken ∙ spread_more (closed_of h e) (take i (live h)) of)
          ∙ map-append (λ (leg : Holder). leg.pair) (flat_map (closed_of h e) (take i (live h))) legs) in
          let gained = subst (λ (k : Config). MakesNested (ending_of k of legs) turn.main new.main) config_same (now.gained of legs can) in
          let opens = subst (λ (k : Config). WhereLogged log (λ (calls : List PortCall). OpensHeld k calls (pairs_left pairs (leg_pairs (held h))))
          → WhereLogged after (λ (calls : List PortCall). OpensHeld k calls (pairs_left (leg_pairs legs) (pairs_left pairs (leg_pairs (held h)))))) config_same
          (now.«open» of legs can (pairs_left pairs (leg_pairs (held h)))) (was.opens on) in
          subst (λ (ws : List Owed). MakesNested ws old.main new.main)
          (sym (ap (flat_map (ending config h e)) taken ∙ spread_more (ending config h e) (take i (live h)) of))
          (makes_both (flat_map (ending config h e) (take i (live h))) (ending config h e of) old.main turn.main new.main was.works.stays.nests (was.gained on) gained);
      shows = λ on.
          let config = c.args.turn.now.main.config.now in
          let number = c.args.turn.now.main.entry_id.number in
          let moment = c.args.turn.now.main.entry_id.moment in
          let turn = c.loop-ended.turn in
          let l = made_by c.args.turn.now.main.hand.now in
          let h = board_history l number in
          let e = stop_entry h in
          let fits = good_history config l on.orderly number in
          let count = c.live_count-count.ensures.live config (view_of config h) on.board in
          let long = length-map (live h) (call_view h) in
          let i = c.loop-ended.ended in
          let was = c.loop-ended.invariant in
          let before : i < length (live h) = omega (arith, count, long) in
          let next = nth (live h) i before in
          let of : Call = next.0 in
          let v = with_ended h e (take i (live h)) (view_of config h) in
          let log = g.P.PortMaker.log turn.ports.now in
          let legs = closed_of h e of in
          let first : Some c.call_at-call.result ≡ Some of.number = sym (c.call_at-call.ensures.live config v (was.shows on)) ∙ next_number config h e i of fits next.1 in
          let same : c.call_at-call.result ≡ of.number = cc in
          let config_same = same_config c.args.turn.now.main turn.main was.works.stays.nests in
          let can : IsCallOf turn.main.config.now (made_by turn.main.hand.now) turn.board.now c.call_at-call.result of legs =
          subst (λ (k : Config). IsCallOf k (made_by turn.main.hand.now) turn.board.now c.call_at-call.result of legs) (sym config_same)
          (subst (λ (k : ℕ). IsCallOf config (made_by turn.main.hand.now) turn.board.now k of legs) (sym same)
          (stop_call config number moment c.args.turn.now.main.hand.now turn.main.hand.now i of turn.board.now on.orderly on.above next.1 (was.gained on) (was.shows on))) in
          let old = c.args.turn.now in
          let new = c.end_call.new.turn in
          let now = c.end_call.ensures in
          let start = g.P.PortMaker.log old.ports.now in
          let after = g.P.PortMaker.log new.ports.now in
          let taken = take_next (live h) i of next.1 in
          let pairs = leg_pairs (flat_map (closed_of h e) (take i (live h))) in
          let all_pairs : pairs ++ leg_pairs legs ≡ leg_pairs (flat_map (closed_of h e) (take (i + 1) (live h))) =
          sym (ap leg_pairs (ap (flat_map (closed_of h e)) taken ∙ spread_more (closed_of h e) (take i (live h)) of)
          ∙ map-append (λ (leg : Holder). leg.pair) (flat_map (closed_of h e) (take i (live h))) legs) in
          let gained = subst (λ (k : Config). MakesNested (ending_of k of legs) turn.main new.main) config_same (now.gained of legs can) in
          let opens = subst (λ (k : Config). WhereLogged log (λ (calls : List PortCall). OpensHeld k calls (pairs_left pairs (leg_pairs (held h))))
          → WhereLogged after (λ (calls : List PortCall). OpensHeld k calls (pairs_left (leg_pairs legs) (pairs_left pairs (leg_pairs (held h)))))) config_same
          (now.«open» of legs can (pairs_left pairs (leg_pairs (held h)))) (was.opens on) in
          subst (λ (w : View). BoardMatches config new.board.now w)
          (ap (λ (k : ℕ). with_call_ended v k legs) same ∙ ended_more h e (take i (live h)) (of ∷ []) (view_of config h)
          ∙ ap (λ (cs : List Call). with_ended h e cs (view_of config h)) (sym taken))
          (now.ended of legs can config v (was.shows on) (cells_while_ending config h e (take i (live h)) (view_of config h) fits refl));
      opens = λ on.
          let config = c.args.turn.now.main.config.now in
          let number = c.args.turn.now.main.entry_id.number in
          let moment = c.args.turn.now.main.entry_id.moment in
          let turn = c.loop-ended.turn in
          let l = made_by c.args.turn.now.main.hand.now in
          let h = board_history l number in
          let e = stop_entry h in
          let fits = good_history config l on.orderly number in
          let count = c.live_count-count.ensures.live config (view_of config h) on.board in
          let long = length-map (live h) (call_view h) in
          let i = c.loop-ended.ended in
          let was = c.loop-ended.invariant in
          let before : i < length (live h) = omega (arith, count, long) in
          let next = nth (live h) i before in
          let of : Call = next.0 in
          let v = with_ended h e (take i (live h)) (view_of config h) in
          let log = g.P.PortMaker.log turn.ports.now in
          let legs = closed_of h e of in
          let first : Some c.call_at-call.result ≡ Some of.number = sym (c.call_at-call.ensures.live config v (was.shows on)) ∙ next_number config h e i of fits next.1 in
          let same : c.call_at-call.result ≡ of.number = cc in
          let config_same = same_config c.args.turn.now.main turn.main was.works.stays.nests in
          let can : IsCallOf turn.main.config.now (made_by turn.main.hand.now) turn.board.now c.call_at-call.result of legs =
          subst (λ (k : Config). IsCallOf k (made_by turn.main.hand.now) turn.board.now c.call_at-call.result of legs) (sym config_same)
          (subst (λ (k : ℕ). IsCallOf config (made_by turn.main.hand.now) turn.board.now k of legs) (sym same)
          (stop_call config number moment c.args.turn.now.main.hand.now turn.main.hand.now i of turn.board.now on.orderly on.above next.1 (was.gained on) (was.shows on))) in
          let old = c.args.turn.now in
          let new = c.end_call.new.turn in
          let now = c.end_call.ensures in
          let start = g.P.PortMaker.log old.ports.now in
          let after = g.P.PortMaker.log new.ports.now in
          let taken = take_next (live h) i of next.1 in
          let pairs = leg_pairs (flat_map (closed_of h e) (take i (live h))) in
          let all_pairs : pairs ++ leg_pairs legs ≡ leg_pairs (flat_map (closed_of h e) (take (i + 1) (live h))) =
          sym (ap leg_pairs (ap (flat_map (closed_of h e)) taken ∙ spread_more (closed_of h e) (take i (live h)) of)
          ∙ map-append (λ (leg : Holder). leg.pair) (flat_map (closed_of h e) (take i (live h))) legs) in
          let gained = subst (λ (k : Config). MakesNested (ending_of k of legs) turn.main new.main) config_same (now.gained of legs can) in
          let opens = subst (λ (k : Config). WhereLogged log (λ (calls : List PortCall). OpensHeld k calls (pairs_left pairs (leg_pairs (held h))))
          → WhereLogged after (λ (calls : List PortCall). OpensHeld k calls (pairs_left (leg_pairs legs) (pairs_left pairs (leg_pairs (held h)))))) config_same
          (now.«open» of legs can (pairs_left pairs (leg_pairs (held h)))) (was.opens on) in
          told_alike config after (pairs_left (leg_pairs legs) (pairs_left pairs (leg_pairs (held h)))) (still_held h e (take (i + 1) (live h)))
          (λ q. left_twice pairs (leg_pairs legs) (leg_pairs (held h)) q ∙ ap (λ (ps : List ℕ). has (pairs_left ps (leg_pairs (held h))) q) all_pairs) opens;
      closes = gained_no_openings (g.P.PortMaker.log before.ports.now) (g.P.PortMaker.log mid.ports.now) (g.P.PortMaker.log after_end.ports.now) had.closes c.end_call.ensures.none;
    }

pub returns-clause-works : goal.returns-clause-works
returns-clause-works g c =
    c.loop-ended.invariant.works

pub returns-clause-closes : goal.returns-clause-closes
returns-clause-closes g c =
    c.loop-ended.invariant.closes

pub call_at-call-requires : goal.call_at-call-requires
call_at-call-requires g c =
    let count = c.live_count-count.ensures.shape in
    let left = c.loop-ended.invariant.left in
    let calls = (board_shape c.loop-ended.turn.board.now).calls in
    let below : 0 < length calls = omega (arith, count, left) in
    let next = nth calls 0 below in
    ask_index c.loop-ended.turn.board.now 0 next.0 next.1

pub returns-clause-gained : goal.returns-clause-gained
returns-clause-gained g c on =
    let config = c.args.turn.now.main.config.now in
    let number = c.args.turn.now.main.entry_id.number in
    let moment = c.args.turn.now.main.entry_id.moment in
    let l = made_by c.args.turn.now.main.hand.now in
    let h = board_history l number in
    let e = stop_entry h in
    let count = c.live_count-count.ensures.live config (view_of config h) on.board in
    let long = length-map (live h) (call_view h) in
    let was = c.loop-ended.invariant in
    let over : c.loop-ended.ended ≡ length (live h) = omega (arith, count, long) in
    let all : take c.loop-ended.ended (live h) ≡ live h = ap (λ (k : ℕ). take k (live h)) over ∙ take-length (live h) in
    subst (λ (cs : List Call). GainsNested number moment (flat_map (ending config h e) cs) c.args.turn.now.main.hand.now c.loop-ended.turn.main.hand.now) all (was.gained on)

pub returns-clause-board : goal.returns-clause-board
returns-clause-board g c on =
    let config = c.args.turn.now.main.config.now in
    let number = c.args.turn.now.main.entry_id.number in
    let moment = c.args.turn.now.main.entry_id.moment in
    let l = made_by c.args.turn.now.main.hand.now in
    let h = board_history l number in
    let e = stop_entry h in
    let count = c.live_count-count.ensures.live config (view_of config h) on.board in
    let long = length-map (live h) (call_view h) in
    let was = c.loop-ended.invariant in
    let over : c.loop-ended.ended ≡ length (live h) = omega (arith, count, long) in
    let all : take c.loop-ended.ended (live h) ≡ live h = ap (λ (k : ℕ). take k (live h)) over ∙ take-length (live h) in
    subst (λ (w : View). BoardMatches config c.loop-ended.turn.board.now w)
    (ap (λ (cs : List Call). with_ended h e cs (view_of config h)) all ∙ sym (whole config h e (good_history config l on.orderly number) refl refl)) (was.shows on)

pub returns-clause-count : goal.returns-clause-count
returns-clause-count g c on =
    let h = board_history (made_by c.args.turn.now.main.hand.now) c.args.turn.now.main.entry_id.number in
    c.live_count-count.ensures.live c.args.turn.now.main.config.now (view_of c.args.turn.now.main.config.now h) on.board ∙ length-map (live h) (call_view h)

pub returns-clause-open : goal.returns-clause-open
returns-clause-open g c on =
    let config = c.args.turn.now.main.config.now in
    let number = c.args.turn.now.main.entry_id.number in
    let moment = c.args.turn.now.main.entry_id.moment in
    let l = made_by c.args.turn.now.main.hand.now in
    let h = board_history l number in
    let e = stop_entry h in
    let count = c.live_count-count.ensures.live config (view_of config h) on.board in
    let long = length-map (live h) (call_view h) in
    let was = c.loop-ended.invariant in
    let over : c.loop-ended.ended ≡ length (live h) = omega (arith, count, long) in
    let all : take c.loop-ended.ended (live h) ≡ live h = ap (λ (k : ℕ). take k (live h)) over ∙ take-length (live h) in
    subst (λ (cs : List Call). WhereLogged (g.P.PortMaker.log c.loop-ended.turn.ports.now) (λ (calls : List PortCall). OpensHeld config calls (still_held h e cs))) all (was.opens on)

use Rattle.std.proofs.Common.{◌≡◌, ◌∙◌, ◌++◌, refl, sym, ap, subst, ℕ, ◌*◌, true, List, length, replicate, arith}
use Rattle.std.proofs.lemmas.List.{length-map}
use Rattle.turn_table.specs.Hands.{entries}
use Rattle.offer_answer.specs.Offers.{pairs_demanded, key_count}
use Rattle.offer_answer.specs.Widths.{WritesFrom}
use Rattle.port_pool.specs.declared.pairs.Lease.{Lease}
use Rattle.call_board.specs.declared.board_plan.BoardPlan.{BoardPlan}
use Rattle.call_board.specs.Acts.{BoardEntry}
use Rattle.call_board.specs.Boards.{BoardMatches, lease_at, leases_at, pairs_in}
use Rattle.call_board.specs.Pairs.{held}
use Rattle.call_board.specs.Plans.{CallRoom, leased}
use Rattle.call_board.specs.Views.{view_of, view_at_moment, with_leases}
use Rattle.call_board.proofs.Entries.{draws_keep}
use Rattle.call_board.proofs.Outs.{are_free}
use Rattle.relay_core.specs.Entries.{board_history}
use Rattle.relay_core.specs.Turns.{GainsNested, made_by}
use Rattle.relay_core.proofs.Histories.{good_history}
use Rattle.media_ports.specs.OpenPorts.{LogsHeld}
use Rattle.media_ports.proofs.Asked.{gained_opens_alone}
use Rattle.board_turns.proofs.Staying.{may_again, same_config, nests_none, nests_both}
use Rattle.board_turns.specs.declared.board_turn.BoardEntryId.{BoardEntryId}
use Rattle.board_turns.specs.Closings as closing
use Rattle.board_turns.specs.Closings.{CanClose, ClosesLegs, closings_of, pairs_left}
use Rattle.board_turns.specs.Ties.{TiesTakes}
use Rattle.relay_core.specs.PlaceHistories.{GoneHome}
use Rattle.relay_outside.specs.declared.settings.Config.{Config}
use Rattle.relay_outside.specs.DeviceLogs.{Gained, WhereLogged}
use Rattle.media_ports.specs.OpenPorts.{OpensHeld}
use Rattle.media_ports.specs.Draws.{AreDrawn, KeyBytes}
use Rattle.call_board.specs.Acts as act
use Rattle.board_turns.specs.CallEnds.{leg_pairs}
use Rattle.board_turns.proofs.Tying.{ties_both, ties_gone, ties_uncalled}
use Rattle.board_turns.proofs.Unopened.{gone_open_none}
use Rattle.offer_command.specs.Leases.{planned_pairs, with_taken}
use Rattle.offer_command.specs.Undo.{keys_before}
use Rattle.offer_command.specs.Brings.{HasLegRoom}
use Rattle.offer_command.proofs.OpensAsked.{gained_pairs, gained_undone}
use Rattle.offer_command.proofs.Counted.{plan_few, may_lease}
use Rattle.offer_command.specs.Offers.{target_of, offer_of, dropped_legs, leased_view, next_key_number, demand_of, offered_text, with_offer}
use Rattle.offer_command.proofs.Kept.{both_held}
use Rattle.offer_command.proofs.Leased.{are_shut, pairs_leased}
use Rattle.offer_command.proofs.LeasesTaken.{planned_count}
use Rattle.offer_command.proofs.Taken.{ports_are, pairs_of_legs}
use Rattle.offer_command.proofs.Done.{can_close, does_offer, dropped_leased, keys_length}
use Rattle.offer_command.proofs.Targets.{planned_are, keys_count}
use Rattle.offer_command.proofs.Limits.{sound_of, some_due, may_apply, due_leased, board_history_short}
use Rattle.offer_command.proofs.Undone.{does_undone}
use Rattle.std.proofs.Common.{map}
use Rattle.turn_table.specs.Hands.{starts}
use Rattle.histories.specs.Words.{has}
use Rattle.port_pool.specs.Signals.{NewKey}
use Rattle.offer_answer.specs.Laws.{key_place}
use Rattle.offer_answer.specs.Nexts.{numbered_keys}
use Rattle.offer_answer.specs.Offers.{key_asked, legs_demanded}
use Rattle.offer_answer.specs.Shapes.{keys_demanded}
use Rattle.call_board.specs.Shapes.{PlansOfferOf, board_shape}
use Rattle.call_board.specs.Whole.{holders_of_new_legs}
use Rattle.relay_core.specs.KeptAfter.{IsWholeWith, cell_shape_after, holder_after}
use Rattle.board_turns.specs.Closings.{leases_of_legs}
use Rattle.board_turns.specs.Departures.{AllHaveEnds, cell_kept, leases_going}
use Rattle.offer_command.specs.Shapes.{OfferedBy, ShapeTakes}
use Rattle.offer_command.proofs.WholenessHands.{keys_brought, legs_brought, offer_moves, places_numbered}
use Rattle.offer_command.proofs.WholenessPlans.{plans_kept, plans_leased}
use Rattle.offer_command.proofs.WholenessTurns.{accepted_whole, undone_stays}
use Rattle.offer_command.proofs.act.offer_act.Goals as goal

-- the leases that were taken, by the view of the board's history
leases_are : (config : Config) (h : List BoardEntry) (moment : ℕ) (p q : BoardPlan) (leases : List Lease) → leases ≡ leases_at config (view_at_moment (view_of config h) moment) (planned_pairs config (view_at_moment (view_of config h) moment) p) →
    q ≡ leased p → leases ≡ leases_at config (view_of config h) (planned_pairs config (view_of config h) q)
leases_are config h moment p q leases is plan = is ∙ ap (λ (x : BoardPlan). leases_at config (view_of config h) (planned_pairs config (view_of config h) x)) (sym plan)

pub lease_offer-requires-clause-can : goal.lease_offer-requires-clause-can
lease_offer-requires-clause-can g c =
    let config = c.args.turn.now.main.config.now in
    let l = made_by c.args.turn.now.main.hand.now in
    let h = board_history l c.args.turn.now.main.entry_id.number in
    let turn = c.requires.begins.in_turn in
    let id = c.requires.due.0 in
    let ask = c.requires.due.1 in
    let d = some_due config h id ask c.args.offer.sdp.now c.args.offer.plan c.requires.due.2 in
    let few = plan_few c.args.offer.plan (target_of config h id).rounds ask d.plans.1.plan_for.demands (sound_of config h id ask c.args.offer.plan _ d) in
    let short = board_history_short l c.args.turn.now.main.entry_id.number turn.may.numbered in
    let low = turn.low in
    may_lease config h c.args.turn.now.board.now (g.P.PortMaker.log c.args.turn.now.ports.now) c.args.offer.plan (view_at_moment (view_of config h) c.args.turn.now.main.entry_id.moment) turn.may.parts.families (good_history config l turn.orderly c.args.turn.now.main.entry_id.number)
    (omega (arith, short, low)) c.requires.planned few.0 few.1 turn.shows refl refl refl turn.opens

pub prepare_offer-requires-clause-due : goal.prepare_offer-requires-clause-due
prepare_offer-requires-clause-due g c =
    let h = board_history (made_by c.args.turn.now.main.hand.now) c.args.turn.now.main.entry_id.number in
    let id = c.requires.due.0 in
    let ask = c.requires.due.1 in (
      id,
      ask,
      due_leased c.args.turn.now.main.config.now h id ask c.args.offer.plan c.in-Ok.leased.plan.plan c.in-Ok.leased.plan.drawn.list c.in-Ok.ensures.plan
          (c.requires.due.2.due c.in-Ok.leased.plan.drawn.list c.in-Ok.ensures.keys),
    )

pub prepare_offer-requires-clause-leases : goal.prepare_offer-requires-clause-leases
prepare_offer-requires-clause-leases g c =
    let config = c.args.turn.now.main.config.now in
    let l = made_by c.args.turn.now.main.hand.now in
    let number = c.args.turn.now.main.entry_id.number in
    let moment = c.args.turn.now.main.entry_id.moment in
    let h = board_history l number in
    let turn = c.requires.begins.in_turn in
    let free = are_free config h (good_history config l turn.orderly number) in
    leases_are config h moment c.args.offer.plan c.in-Ok.leased.plan.plan c.in-Ok.leased.pairs.leases.list (c.in-Ok.ensures.leases (view_at_moment (view_of config h) moment) turn.shows free) c.in-Ok.ensures.plan

pub prepare_offer-requires-clause-shut : goal.prepare_offer-requires-clause-shut
prepare_offer-requires-clause-shut g c =
    let turn = c.args.turn.now in
    let config = turn.main.config.now in
    let h = board_history (made_by turn.main.hand.now) turn.main.entry_id.number in
    let in_turn = c.requires.begins.in_turn in
    are_shut config turn.main.hand.now turn.board.now (view_at_moment (view_of config h) turn.main.entry_id.moment) h (legs_demanded c.in-Ok.leased.plan.plan.plan)
    c.in-Ok.leased.pairs.leases.list in_turn.whole in_turn.shows refl (prepare_offer-requires-clause-leases g c)

pub prepare_offer-requires-clause-first : goal.prepare_offer-requires-clause-first
prepare_offer-requires-clause-first g c =
    let config = c.args.turn.now.main.config.now in
    let h = board_history (made_by c.args.turn.now.main.hand.now) c.args.turn.now.main.entry_id.number in
    c.in-Ok.ensures.first (view_at_moment (view_of config h) c.args.turn.now.main.entry_id.moment) c.requires.begins.in_turn.shows

pub returns-in-Err-clause-undoes : goal.returns-in-Err-clause-undoes
returns-in-Err-clause-undoes g c id ask can e code acts =
    let config = c.args.turn.now.main.config.now in
    let l = made_by c.args.turn.now.main.hand.now in
    let h = board_history l c.args.turn.now.main.entry_id.number in
    let v = view_at_moment (view_of config h) c.args.turn.now.main.entry_id.moment in
    let turn = c.requires.begins.in_turn in
    let free = are_free config h (good_history config l turn.orderly c.args.turn.now.main.entry_id.number) in
    let d = some_due config h id ask c.args.offer.sdp.now c.args.offer.plan can in
    does_undone config c.args.turn.now.main.hand.now c.args.turn.now.main.entry_id e c.lease_offer.new.board (g.P.PortMaker.log c.lease_offer.new.ports) id ask code (keys_before c.in-Err.fault)
    (planned_pairs config (view_of config h) c.args.offer.plan) acts
    (sym (planned_are config h id ask c.args.offer.plan d.plans.1))
    (c.in-Err.ensures.undone v turn.shows free) (c.in-Err.ensures.still_open (leg_pairs (held h)) turn.opens)

pub returns-in-Err-clause-opens_before : goal.returns-in-Err-clause-opens_before
returns-in-Err-clause-opens_before g c =
    let log = g.P.PortMaker.log in
    let config = c.args.turn.now.main.config.now in
    let l = made_by c.args.turn.now.main.hand.now in
    let h = board_history l c.args.turn.now.main.entry_id.number in
    let v = view_at_moment (view_of config h) c.args.turn.now.main.entry_id.moment in
    let turn = c.requires.begins.in_turn in
    let free = are_free config h (good_history config l turn.orderly c.args.turn.now.main.entry_id.number) in
    let pairs = planned_pairs config (view_of config h) c.args.offer.plan in
    let leases = leases_at config (view_of config h) pairs in
    let many = length-map pairs (lease_at config (view_of config h).leases) ∙ planned_count config c.args.turn.now.board.now v c.args.offer.plan turn.shows c.requires.planned in
    gained_undone config pairs (pairs_demanded c.args.offer.plan.plan) leases (pairs_leased config (view_of config h) pairs leases refl) many (key_count c.args.offer.plan.plan) c.in-Err.fault
    (log c.args.turn.now.ports.now) (log c.lease_offer.new.ports) c.in-Err.ensures.early (c.in-Err.ensures.closes v turn.shows free)

pub apply_offer-drawn-requires-clause-may : goal.apply_offer-drawn-requires-clause-may
apply_offer-drawn-requires-clause-may g c =
    let config = c.args.turn.now.main.config.now in
    let l = made_by c.args.turn.now.main.hand.now in
    let h = board_history l c.args.turn.now.main.entry_id.number in
    let turn = c.requires.begins.in_turn in
    let id = c.requires.due.0 in
    let ask = c.requires.due.1 in
    let draws = c.in-Ok.leased.plan.drawn.list in
    let d = due_leased config h id ask c.args.offer.plan c.in-Ok.leased.plan.plan draws c.in-Ok.ensures.plan (c.requires.due.2.due draws c.in-Ok.ensures.keys) in
    let v = view_at_moment (view_of config h) c.args.turn.now.main.entry_id.moment in
    let good = good_history config l turn.orderly c.args.turn.now.main.entry_id.number in
    let pairs = planned_pairs config (view_of config h) c.args.offer.plan in
    let keep = draws_keep (with_leases v pairs) (length draws) in
    let short = board_history_short l c.args.turn.now.main.entry_id.number turn.may.numbered in
    let low = turn.low in
    may_apply config h id ask c.in-Ok.leased.plan.plan c.args.turn.now.board.now c.lease_offer.new.board (with_taken v pairs (length draws))
    good (c.in-Ok.ensures.taken v turn.shows (are_free config h good)) keep.calls_are keep.begun_is (omega (arith, short, low)) c.lease_offer.ensures.calls d.plans.1
    (subst (λ (q : BoardPlan). CallRoom c.args.turn.now.board.now q.begun) (sym c.in-Ok.ensures.plan) c.requires.planned.call)

pub close_legs-requires-clause-can : goal.close_legs-requires-clause-can
close_legs-requires-clause-can g c =
    let config = c.args.turn.now.main.config.now in
    let l = made_by c.args.turn.now.main.hand.now in
    let entry_id = c.args.turn.now.main.entry_id in
    let h = board_history l entry_id.number in
    let turn = c.requires.begins.in_turn in
    let good = good_history config l turn.orderly entry_id.number in
    let id = c.requires.due.0 in
    let ask = c.requires.due.1 in
    let p = c.in-Ok.leased.plan.plan in
    let leases = c.in-Ok.leased.pairs.leases.list in
    let draws = c.in-Ok.leased.plan.drawn.list in
    let log = g.P.PortMaker.log c.lease_offer.new.ports in
    let board = c.lease_offer.new.board in
    let d = due_leased config h id ask c.args.offer.plan p draws c.in-Ok.ensures.plan (c.requires.due.2.due draws c.in-Ok.ensures.keys) in
    let those = planned_pairs config (view_of config h) p in
    let v = view_at_moment (view_of config h) entry_id.moment in
    let free = are_free config h good in
    let are = leases_are config h entry_id.moment c.args.offer.plan p leases (c.in-Ok.ensures.leases v turn.shows free) c.in-Ok.ensures.plan in
    let first = c.in-Ok.ensures.first v turn.shows in
    let shows =
    subst (λ (q : BoardPlan). BoardMatches config board (leased_view config h entry_id.moment (planned_pairs config (view_of config h) q) (key_count q.plan))) (sym c.in-Ok.ensures.plan)
    (subst (λ (k : ℕ). BoardMatches config board (leased_view config h entry_id.moment (planned_pairs config (view_of config h) c.args.offer.plan) k)) c.in-Ok.ensures.keys (c.in-Ok.ensures.taken v turn.shows free)) in
    let others = leg_pairs (held h) in
    let more = pairs_in leases in
    let opens = c.in-Ok.ensures.are_open others (more ++ others) turn.opens (both_held others more) in
    let same = planned_are config h id ask p d.plans.1 in
    let keep = draws_keep (with_leases v those) (key_count p.plan) in
    let ports = c.in-Ok.ensures.ports ∙ ports_are config h id ask draws those leases are same in
    let pairs : pairs_in leases ≡ leg_pairs (offer_of config h id ask draws).legs =
    pairs_leased config (view_of config h) those leases are ∙ same ∙ sym (pairs_of_legs config h id ask draws) in
    subst (λ (k : Config). CanClose k c.prepare_offer.new.main.hand.now c.apply_offer-drawn.new.board log c.prepare_offer.new.gone) (sym (same_config c.args.turn.now.main c.prepare_offer.new.main c.prepare_offer.ensures.nests))
    (can_close config entry_id.number entry_id.moment c.args.turn.now.main.hand.now c.prepare_offer.new.main.hand.now c.args.turn.now.board.now c.apply_offer-drawn.new.board log id ask p draws those
    (key_count p.plan) c.prepare_offer.new.gone turn.orderly turn.whole turn.shows c.prepare_offer.ensures.nests.same.1 d same (c.prepare_offer.ensures.gained id ask d) (c.prepare_offer.ensures.went id ask d)
    (subst (λ (m : ℕ). BoardMatches config c.apply_offer-drawn.new.board (with_offer (offer_of config h id ask draws) m (leased_view config h entry_id.moment those (key_count p.plan)))) (ap (λ (e : BoardEntryId). e.moment) c.prepare_offer.ensures.nests.entry_is)
    (c.apply_offer-drawn.ensures.taken config h id ask (leased_view config h entry_id.moment those (key_count p.plan)) good d first ports shows keep.calls_are keep.begun_is))
    (subst (λ (ps : List ℕ). LogsHeld config log (ps ++ leg_pairs (held h))) pairs opens))

pub returns-clause-does : goal.returns-clause-does
returns-clause-does g c id ask can e fits acts now =
    let config = c.args.turn.now.main.config.now in
    let l = made_by c.args.turn.now.main.hand.now in
    let entry_id = c.args.turn.now.main.entry_id in
    let h = board_history l entry_id.number in
    let turn = c.requires.begins.in_turn in
    let good = good_history config l turn.orderly entry_id.number in
    let p = c.in-Ok.leased.plan.plan in
    let leases = c.in-Ok.leased.pairs.leases.list in
    let draws = c.in-Ok.leased.plan.drawn.list in
    let log = g.P.PortMaker.log c.lease_offer.new.ports in
    let board = c.lease_offer.new.board in
    let given : c.apply_offer-drawn.result.list ≡ draws = ap (λ (ks : KeyBytes). ks.list) c.apply_offer-drawn.ensures.keys in
    let mid = c.prepare_offer.new.main in
    let new = c.close_legs.new.turn in
    let gone = c.prepare_offer.new.gone in
    let same = same_config c.args.turn.now.main c.prepare_offer.new.main c.prepare_offer.ensures.nests in
    let closed : GainsNested entry_id.number entry_id.moment (closings_of config gone) mid.hand.now new.main.hand.now =
    subst (λ (e : BoardEntryId). GainsNested e.number e.moment (closings_of config gone) mid.hand.now new.main.hand.now) c.prepare_offer.ensures.nests.entry_is
    (subst (λ (k : Config). GainsNested mid.entry_id.number mid.entry_id.moment (closings_of k gone) mid.hand.now new.main.hand.now) same c.close_legs.ensures.gained) in
    let left = subst (λ (k : Config). (held : List ℕ) → WhereLogged log (λ calls. OpensHeld k calls held) → WhereLogged (g.P.PortMaker.log new.ports.now) (λ calls. OpensHeld k calls (pairs_left (pairs_in (closing.leases_of_legs gone)) held))) same c.close_legs.ensures.«open» in
    let d = due_leased config h id ask c.args.offer.plan p draws c.in-Ok.ensures.plan (can.due draws c.in-Ok.ensures.keys) in
    let those = planned_pairs config (view_of config h) p in
    let v = view_at_moment (view_of config h) entry_id.moment in
    let free = are_free config h good in
    let are = leases_are config h entry_id.moment c.args.offer.plan p leases (c.in-Ok.ensures.leases v turn.shows free) c.in-Ok.ensures.plan in
    let first = c.in-Ok.ensures.first v turn.shows in
    let before =
    subst (λ (q : BoardPlan). BoardMatches config board (leased_view config h entry_id.moment (planned_pairs config (view_of config h) q) (key_count q.plan))) (sym c.in-Ok.ensures.plan)
    (subst (λ (k : ℕ). BoardMatches config board (leased_view config h entry_id.moment (planned_pairs config (view_of config h) c.args.offer.plan) k)) c.in-Ok.ensures.keys (c.in-Ok.ensures.taken v turn.shows free)) in
    let others = leg_pairs (held h) in
    let more = pairs_in leases in
    let opens = c.in-Ok.ensures.are_open others (more ++ others) turn.opens (both_held others more) in
    let same_pairs = planned_are config h id ask p d.plans.1 in
    let keep = draws_keep (with_leases v those) (key_count p.plan) in
    let ports = c.in-Ok.ensures.ports ∙ ports_are config h id ask draws those leases are same_pairs in
    let pairs : pairs_in leases ≡ leg_pairs (offer_of config h id ask draws).legs =
    pairs_leased config (view_of config h) those leases are ∙ same_pairs ∙ sym (pairs_of_legs config h id ask draws) in
    let drawn = c.in-Ok.ensures.keys ∙ ap (λ (q : BoardPlan). key_count q.plan) (sym c.in-Ok.ensures.plan) in
    let shows = subst (λ (m : ℕ). BoardMatches config c.apply_offer-drawn.new.board (with_offer (offer_of config h id ask draws) m (leased_view config h entry_id.moment those (key_count p.plan)))) (ap (λ (e : BoardEntryId). e.moment) c.prepare_offer.ensures.nests.entry_is)
    (c.apply_offer-drawn.ensures.taken config h id ask (leased_view config h entry_id.moment those (key_count p.plan)) good d first ports before keep.calls_are keep.begun_is) in
    does_offer config c.args.turn.now.main.hand.now c.prepare_offer.new.main.hand.now c.close_legs.new.turn.main.hand.now entry_id e new.board.now (g.P.PortMaker.log new.ports.now) id ask draws those (key_count p.plan)
    c.prepare_offer.new.gone turn.orderly fits (acts ∙ ap (λ (ds : List (List ℕ)). act.Offered (offer_of config h id ask ds)) given) now
    (sym same_pairs)
    (keys_length (next_key_number h) draws (demand_of config h id ask).keys (drawn ∙ keys_count config h id ask p d.plans.1) ∙ drawn)
    (c.prepare_offer.ensures.went id ask d) (c.prepare_offer.ensures.gained id ask d) closed
    (c.close_legs.ensures.returned config (with_offer (offer_of config h id ask draws) entry_id.moment (leased_view config h entry_id.moment those (key_count p.plan))) shows)
    (left (leg_pairs (offer_of config h id ask draws).legs ++ leg_pairs (held h))
    (subst (λ (ps : List ℕ). LogsHeld config log (ps ++ leg_pairs (held h))) pairs opens))

pub returns-clause-text : goal.returns-clause-text
returns-clause-text g c id ask can =
    let config = c.args.turn.now.main.config.now in
    let l = made_by c.args.turn.now.main.hand.now in
    let entry_id = c.args.turn.now.main.entry_id in
    let h = board_history l entry_id.number in
    let turn = c.requires.begins.in_turn in
    let p = c.in-Ok.leased.plan.plan in
    let leases = c.in-Ok.leased.pairs.leases.list in
    let draws = c.in-Ok.leased.plan.drawn.list in
    let d = due_leased config h id ask c.args.offer.plan p draws c.in-Ok.ensures.plan (can.due draws c.in-Ok.ensures.keys) in
    let v = view_at_moment (view_of config h) entry_id.moment in
    let good = good_history config l turn.orderly entry_id.number in
    let free = are_free config h good in
    let are = leases_are config h entry_id.moment c.args.offer.plan p leases (c.in-Ok.ensures.leases v turn.shows free) c.in-Ok.ensures.plan in
    let ports = c.in-Ok.ensures.ports ∙ ports_are config h id ask draws (planned_pairs config (view_of config h) p) leases are (planned_are config h id ask p d.plans.1) in
    c.apply_offer-drawn.ensures.text config h id ask good d (c.in-Ok.ensures.first v turn.shows) ports can.lines_are
    ∙ ap (λ (xs : List ℕ). xs ++ offered_text config h id (offer_of config h id ask draws)) c.requires.room.text.0
    ∙ ap (λ (ds : List (List ℕ)). offered_text config h id (offer_of config h id ask ds)) (sym (ap (λ (ks : KeyBytes). ks.list) c.apply_offer-drawn.ensures.keys))

pub returns-clause-within : goal.returns-clause-within
returns-clause-within g c =
    let within = c.apply_offer-drawn.ensures.within in
    let none = ap length c.requires.room.text.0 in
    let same = ap (λ (q : BoardPlan). q.plan.reply_len) c.in-Ok.ensures.plan in
    omega (arith, within, none, same)

pub returns-clause-opens : goal.returns-clause-opens
returns-clause-opens g c =
    let log = g.P.PortMaker.log in
    let config = c.args.turn.now.main.config.now in
    let l = made_by c.args.turn.now.main.hand.now in
    let entry_id = c.args.turn.now.main.entry_id in
    let h = board_history l entry_id.number in
    let v = view_at_moment (view_of config h) entry_id.moment in
    let turn = c.requires.begins.in_turn in
    let free = are_free config h (good_history config l turn.orderly entry_id.number) in
    let count = pairs_demanded c.args.offer.plan.plan in
    let pairs = planned_pairs config (view_of config h) c.args.offer.plan in
    let leases = c.in-Ok.leased.pairs.leases.list in
    let are = pairs_leased config (view_of config h) pairs leases (c.in-Ok.ensures.leases v turn.shows free) in
    gained_opens_alone config pairs (replicate (2 * count) true) (log c.args.turn.now.ports.now) (log c.lease_offer.new.ports) (log c.close_legs.new.turn.ports.now)
    (gained_pairs config pairs count leases are c.in-Ok.ensures.pairs (log c.args.turn.now.ports.now) (log c.lease_offer.new.ports) c.in-Ok.ensures.opens)
    (gone_open_none g.P.Out.OutEnd.log config c.prepare_offer.new.gone (log c.lease_offer.new.ports) (log c.close_legs.new.turn.ports.now)
    (subst (λ (k : Config). Gained (log c.lease_offer.new.ports) (log c.close_legs.new.turn.ports.now) (ClosesLegs g.P.Out.OutEnd.log k c.prepare_offer.new.gone)) (same_config c.args.turn.now.main c.prepare_offer.new.main c.prepare_offer.ensures.nests) c.close_legs.ensures.closes))

pub prepare_offer-requires-clause-count : goal.prepare_offer-requires-clause-count
prepare_offer-requires-clause-count g c = c.in-Ok.ensures.pairs ∙ ap (λ (q : BoardPlan). pairs_demanded q.plan) (sym c.in-Ok.ensures.plan)

pub prepare_offer-requires-clause-opened : goal.prepare_offer-requires-clause-opened
prepare_offer-requires-clause-opened g c = c.in-Ok.ensures.opened ∙ prepare_offer-requires-clause-count g c

pub prepare_offer-requires-clause-keys : goal.prepare_offer-requires-clause-keys
prepare_offer-requires-clause-keys g c = c.in-Ok.ensures.keys ∙ ap (λ (q : BoardPlan). key_count q.plan) (sym c.in-Ok.ensures.plan)

pub apply_offer-drawn-requires-clause-keys : goal.apply_offer-drawn-requires-clause-keys
apply_offer-drawn-requires-clause-keys g c = c.in-Ok.ensures.keys ∙ ap (λ (q : BoardPlan). key_count q.plan) (sym c.in-Ok.ensures.plan)

pub apply_offer-drawn-requires-clause-made : goal.apply_offer-drawn-requires-clause-made
apply_offer-drawn-requires-clause-made g c = subst (λ (q : BoardPlan). WritesFrom q.plan c.args.offer.sdp.now) (sym c.in-Ok.ensures.plan) c.requires.made

pub apply_offer-drawn-requires-clause-room : goal.apply_offer-drawn-requires-clause-room
apply_offer-drawn-requires-clause-room g c =
    let same = ap (λ (q : BoardPlan). q.plan.reply_len) c.in-Ok.ensures.plan in
    let room = c.requires.room.text.1 in
    omega (arith, same, room)

pub prepare_offer-requires-clause-ends : goal.prepare_offer-requires-clause-ends
prepare_offer-requires-clause-ends g c = c.in-Ok.ensures.are_opened

pub returns-in-Err-clause-early : goal.returns-in-Err-clause-early
returns-in-Err-clause-early g c = c.in-Err.ensures.early

pub returns-in-Err-clause-draws_before : goal.returns-in-Err-clause-draws_before
returns-in-Err-clause-draws_before g c = c.in-Err.ensures.draws_before

pub returns-in-Err-clause-cause : goal.returns-in-Err-clause-cause
returns-in-Err-clause-cause g c = c.in-Err.ensures.cause

pub lease_offer-requires-clause-room : goal.lease_offer-requires-clause-room
lease_offer-requires-clause-room g c = c.requires.room.lease

pub prepare_offer-requires-clause-room : goal.prepare_offer-requires-clause-room
prepare_offer-requires-clause-room g c = subst (λ (q : BoardPlan). HasLegRoom q.plan c.args.offer.room.prepare) (sym c.in-Ok.ensures.plan) c.requires.room.prepare

pub apply_offer-drawn-requires-clause-ports : goal.apply_offer-drawn-requires-clause-ports
apply_offer-drawn-requires-clause-ports g c =
    ap length c.in-Ok.ensures.ports ∙ length-map c.in-Ok.leased.pairs.leases.list (λ (lease : Lease). lease.rtp_port)
    ∙ c.in-Ok.ensures.pairs ∙ ap (λ (q : BoardPlan). pairs_demanded q.plan) (sym c.in-Ok.ensures.plan)

pub close_legs-requires-clause-may : goal.close_legs-requires-clause-may
close_legs-requires-clause-may g c = may_again c.args.turn.now.main c.prepare_offer.new.main c.prepare_offer.ensures.nests

pub close_legs-requires-clause-home : goal.close_legs-requires-clause-home
close_legs-requires-clause-home g c =
    subst (λ (k : Config). GoneHome g.P.Out.OutEnd.log k c.prepare_offer.new.gone) (sym (same_config c.args.turn.now.main c.prepare_offer.new.main c.prepare_offer.ensures.nests)) c.prepare_offer.ensures.home

pub returns-in-Err-clause-works : goal.returns-in-Err-clause-works
returns-in-Err-clause-works g c =
    let turn = c.args.turn.now in
    record {
      stays = record {
        nests = nests_none turn.main c.requires.begins.in_turn.may;
        devices = record { board_is = refl; ports_are = refl; gone_is = refl };
        replies = c.lease_offer.ensures.replies;
        later = c.lease_offer.ensures.later.0;
      };
      ties = ties_uncalled turn.main.config.now (g.P.PortMaker.log turn.ports.now) (g.P.PortMaker.log c.lease_offer.new.ports) (entries turn.main.hand.now) c.lease_offer.ensures.gives_back;
      empty = c.requires.begins.empty;
      whole = λ was. undone_stays turn.main.config.now (board_shape turn.board.now) (board_shape c.lease_offer.new.board)
          (cell_shape_after turn.main.config.now (starts turn.main.hand.now) (made_by turn.main.hand.now)) (holder_after turn.main.config.now (starts turn.main.hand.now) (made_by turn.main.hand.now))
          (legs_demanded c.args.offer.plan.plan) c.in-Err.ensures.shape_undone was;
    }

pub returns-clause-works : goal.returns-clause-works
returns-clause-works g c =
    let turn = c.args.turn.now in
    let config = turn.main.config.now in
    let log = g.P.PortMaker.log in
    let rows = entries turn.main.hand.now in
    let l = made_by turn.main.hand.now in
    let h = board_history l turn.main.entry_id.number in
    let id = c.requires.due.0 in
    let ask = c.requires.due.1 in
    let draws = c.in-Ok.leased.plan.drawn.list in
    let d = due_leased config h id ask c.args.offer.plan c.in-Ok.leased.plan.plan draws c.in-Ok.ensures.plan (c.requires.due.2.due draws c.in-Ok.ensures.keys) in
    let mid = c.prepare_offer.new.main in
    let new = c.close_legs.new.turn in
    let gone = c.prepare_offer.new.gone in
    let taken = log c.lease_offer.new.ports in
    let closed = c.close_legs.ensures in
    let same = same_config c.args.turn.now.main c.prepare_offer.new.main c.prepare_offer.ensures.nests in
    let leased = c.lease_offer.ensures.later.0 in
    let later = closed.stays.later in
    let p = c.in-Ok.leased.plan.plan in
    let leases = c.in-Ok.leased.pairs.leases.list in
    let o = offer_of config h id ask draws in
    let v = view_at_moment (view_of config h) turn.main.entry_id.moment in
    let in_turn = c.requires.begins.in_turn in
    let free = are_free config h (good_history config l in_turn.orderly turn.main.entry_id.number) in
    let are = leases_are config h turn.main.entry_id.moment c.args.offer.plan p leases (c.in-Ok.ensures.leases v in_turn.shows free) c.in-Ok.ensures.plan in
    let keys : numbered_keys c.in-Ok.leased.plan.first_key draws (keys_demanded p.plan) ≡ (offer_of config h id ask draws).keys =
    keys_brought config h id ask p draws c.in-Ok.leased.plan.first_key d.plans.1 (c.in-Ok.ensures.first v in_turn.shows) in
    let closes : GainsNested turn.main.entry_id.number turn.main.entry_id.moment (closings_of config gone) mid.hand.now new.main.hand.now =
    subst (λ (e : BoardEntryId). GainsNested e.number e.moment (closings_of config gone) mid.hand.now new.main.hand.now) c.prepare_offer.ensures.nests.entry_is
    (subst (λ (k : Config). GainsNested mid.entry_id.number mid.entry_id.moment (closings_of k gone) mid.hand.now new.main.hand.now) same closed.gained) in
    let stays_config : new.main.config.now ≡ config = same_config turn.main new.main (nests_both turn.main mid new.main c.prepare_offer.ensures.nests closed.stays.nests) in
    record {
      stays = record {
        nests = nests_both turn.main mid new.main c.prepare_offer.ensures.nests closed.stays.nests;
        devices = record { board_is = closed.stays.devices.board_is; ports_are = closed.stays.devices.ports_are; gone_is = closed.stays.devices.gone_is };
        replies = closed.stays.replies ∙ c.apply_offer-drawn.ensures.replies ∙ c.lease_offer.ensures.replies;
        later = omega (arith, leased, later);
      };
      ties = ties_both config (log turn.ports.now) taken (log new.ports.now) rows rows (entries new.main.hand.now)
          (ties_uncalled config (log turn.ports.now) taken rows c.lease_offer.ensures.gives_back)
          (ties_gone g.P.Out.OutEnd.log config taken (log new.ports.now) rows (entries mid.hand.now) (entries new.main.hand.now) gone
          c.requires.begins.in_turn.may.parts.families
          (dropped_leased config h d.entry (offer_of config h id ask draws) gone (good_history config l c.requires.begins.in_turn.orderly turn.main.entry_id.number) d.acts (c.prepare_offer.ensures.went id ask d))
          c.prepare_offer.ensures.leave
          (subst (λ (k : Config). TiesTakes k taken (log new.ports.now) (entries mid.hand.now) (entries new.main.hand.now)) same closed.takes)
          (subst (λ (k : Config). Gained taken (log new.ports.now) (ClosesLegs g.P.Out.OutEnd.log k gone)) same closed.closes));
      empty = closed.empty;
      whole = λ was. subst (λ (k : Config). IsWholeWith k new.main.hand.now (board_shape new.board.now)) (sym stays_config)
          (accepted_whole config turn.board.now c.lease_offer.new.board c.apply_offer-drawn.new.board new.board.now
          (cell_shape_after config (starts turn.main.hand.now) l) (cell_shape_after config (starts new.main.hand.now) (made_by new.main.hand.now))
          (holder_after config (starts turn.main.hand.now) l) (holder_after config (starts new.main.hand.now) (made_by new.main.hand.now)) was p o.of (sym d.plans.1.call_is) (sym d.plans.1.cell_is)
          leases o.keys o.dropped c.in-Ok.leased.plan.numbers.items (leases_of_legs gone)
          (subst (λ (q : BoardPlan). ShapeTakes (legs_demanded q.plan) leases (board_shape turn.board.now) (board_shape c.lease_offer.new.board)) (sym c.in-Ok.ensures.plan) c.in-Ok.ensures.shape)
          c.lease_offer.ensures.calls c.in-Ok.ensures.ports
          (ap (map key_place) (sym keys) ∙ places_numbered c.in-Ok.leased.plan.first_key draws (keys_demanded p.plan)
          (c.in-Ok.ensures.keys ∙ ap (λ (q : BoardPlan). key_count q.plan) (sym c.in-Ok.ensures.plan) ∙ sym (length-map p.plan.key_places.items key_asked)))
          (λ section. sym (d.plans.1.plan_for.demands.drops_are section)) closed.pool
          (subst (λ (k : ℕ). AllHaveEnds (cell_kept config turn.main.hand.now k) → leases_of_legs gone ≡ leases_going (λ leg. has o.dropped leg.section) (cell_kept config turn.main.hand.now k)) d.plans.1.cell_is
          (c.prepare_offer.ensures.left id ask d))
          (offer_moves config turn.main.entry_id.number turn.main.entry_id.moment o (holders_of_new_legs o.of leases (legs_demanded p.plan)) gone turn.main.hand.now mid.hand.now new.main.hand.now
          (nests_both turn.main mid new.main c.prepare_offer.ensures.nests closed.stays.nests).same.1 (legs_brought config h id ask p draws leases d.plans.1 are) (c.prepare_offer.ensures.gained id ask d) closes)
          (plans_leased turn.board.now c.args.offer.plan p c.in-Ok.ensures.plan c.requires.plans)
          (subst (λ (ks : List NewKey). OfferedBy p p.begun c.in-Ok.leased.plan.numbers.items ks c.lease_offer.new.board c.apply_offer-drawn.new.board) keys c.apply_offer-drawn.ensures.shape));
    }

pub returns-clause-later : goal.returns-clause-later
returns-clause-later g c = c.lease_offer.ensures.later.1

pub returns-clause-count : goal.returns-clause-count
returns-clause-count g c = ap (λ (ks : KeyBytes). length ks.list) c.apply_offer-drawn.ensures.keys ∙ c.in-Ok.ensures.keys

pub returns-clause-draws : goal.returns-clause-draws
returns-clause-draws g c =
    subst (λ (ks : KeyBytes). Gained (g.K.KeySource.log c.args.keys.now) (g.K.KeySource.log c.lease_offer.new.keys) (AreDrawn ks.list)) (sym c.apply_offer-drawn.ensures.keys) c.in-Ok.ensures.draws

pub prepare_offer-requires-clause-may : goal.prepare_offer-requires-clause-may
prepare_offer-requires-clause-may g c = c.requires.begins.in_turn.may

pub prepare_offer-requires-clause-above : goal.prepare_offer-requires-clause-above
prepare_offer-requires-clause-above g c = c.requires.begins.in_turn.above

pub prepare_offer-requires-clause-orderly : goal.prepare_offer-requires-clause-orderly
prepare_offer-requires-clause-orderly g c = c.requires.begins.in_turn.orderly

pub prepare_offer-requires-clause-empty : goal.prepare_offer-requires-clause-empty
prepare_offer-requires-clause-empty g c = c.requires.begins.empty

pub apply_offer-drawn-requires-clause-plans : goal.apply_offer-drawn-requires-clause-plans
apply_offer-drawn-requires-clause-plans g c =
    let calls = c.lease_offer.ensures.calls in
    let rest = c.in-Ok.ensures.shape.rest in
    plans_kept c.args.turn.now.board.now c.lease_offer.new.board c.in-Ok.leased.plan.plan (ap (λ cs. cs.list) calls.calls_are) calls.begun_is rest.config_is rest.taken_is
    (plans_leased c.args.turn.now.board.now c.args.offer.plan c.in-Ok.leased.plan.plan c.in-Ok.ensures.plan c.requires.plans)

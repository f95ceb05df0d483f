use Rattle.std.proofs.Common.{◌≡◌, ◌∙◌, ◌≤◌, refl, ap, sym, subst, ◌++◌, ℕ, List, [], ◌∷◌, length, arith}
use Rattle.relay_outside.specs.declared.settings.Config.{Config}
use Rattle.port_pool.specs.Signals.{NewKey}
use Rattle.offer_answer.specs.Offers.{PlanFor, legs_demanded, key_count}
use Rattle.offer_answer.specs.declared.plan.Plan.{Plan}
use Rattle.call_board.specs.Pairs.{drawn_keys_from}
use Rattle.call_board.specs.Views.{view_of}
use Rattle.call_cell.specs.Preparations.{PrepareFor, added, prepared_keys, drops_of, key_room}
use Rattle.call_cell.specs.Shapes.{CellShape}
use Rattle.histories.specs.Words.{has}
use Rattle.relay_core.specs.Entries.{Cell, board_history}
use Rattle.relay_core.specs.Turns.{made_by}
use Rattle.relay_core.specs.Steps.{AreOpened}
use Rattle.relay_core.specs.PlaceHistories.{GoneHome}
use Rattle.relay_core.proofs.Histories.{good_history}
use Rattle.board_turns.specs.InCells.{CanPrepare, in_cell_of}
use Rattle.board_turns.specs.OfferEvents.{brings}
use Rattle.board_turns.specs.Departures.{AllHaveEnds, DroppedRemoved, cell_kept, leases_going}
use Rattle.board_turns.specs.declared.board_turn.BoardEntryId.{BoardEntryId}
use Rattle.relay_core.specs.Turns.{GainsNested}
use Rattle.board_turns.proofs.Staying.{may_again, same_config, nests_both}
use Rattle.offer_command.specs.Leases.{planned_pairs}
use Rattle.offer_command.specs.LegBoxes.{leased_parts}
use Rattle.offer_command.specs.Offers.{offer_of, target_of, demand_of}
use Rattle.offer_command.proofs.Filled.{keys_told, drops_told}
use Rattle.offer_command.proofs.Targets.{cell_within, legs_are, keys_are}
use Rattle.offer_command.proofs.Leased.{are_leased}
use Rattle.offer_command.proofs.Preparing.{keys_new, can_prepare, brought}
use Rattle.offer_command.proofs.Dropped.{went_dropped}
use Rattle.offer_command.proofs.Leaving.{legs_opened, opened_leave}
use Rattle.offer_command.proofs.WholenessHands.{kept_opened}
use Rattle.offer_command.proofs.cell.prepare_offer.Goals as goal

pub open_legs-requires-clause-cell : goal.open_legs-requires-clause-cell
open_legs-requires-clause-cell g c =
    let main = c.args.main.now in
    let h = board_history (made_by main.hand.now) main.entry_id.number in
    let good = good_history main.config.now (made_by main.hand.now) c.requires.orderly main.entry_id.number in
    let d = c.requires.due.2 in
    let within = cell_within main.config.now h c.requires.due.0 c.requires.due.1 c.args.taken.now.plan c.args.taken.now.drawn.list good d in
    let is = d.plans.1.cell_is in
    let low = within.0 in
    let high = within.1 in
    (omega (arith, low, is), omega (arith, high, is))

pub open_legs-requires-clause-leased : goal.open_legs-requires-clause-leased
open_legs-requires-clause-leased g c =
    let main = c.args.main.now in
    let l = made_by main.hand.now in
    are_leased main.config.now (board_history l main.entry_id.number) (legs_demanded c.args.taken.now.plan.plan) c.args.pairs.leases.list (good_history main.config.now l c.requires.orderly main.entry_id.number) c.requires.leases

pub open_legs-requires-clause-shut : goal.open_legs-requires-clause-shut
open_legs-requires-clause-shut g c = c.requires.shut

pub open_legs-requires-clause-room : goal.open_legs-requires-clause-room
open_legs-requires-clause-room g c = c.requires.room.legs

pub open_legs-requires-clause-none : goal.open_legs-requires-clause-none
open_legs-requires-clause-none g c = c.requires.room.no_legs

pub bring_keys-requires-clause-keys : goal.bring_keys-requires-clause-keys
bring_keys-requires-clause-keys g c =
    subst (λ (q : Plan). length c.args.taken.now.drawn.list ≡ key_count q) (sym c.planned-demanded.ensures) c.requires.keys

pub bring_keys-requires-clause-room : goal.bring_keys-requires-clause-room
bring_keys-requires-clause-room g c =
    let room = c.open_legs.ensures.room.1 in
    let keys = c.requires.room.keys in
    subst (λ (q : Plan). key_count q ≤ key_room c.open_legs.new.prepare) (sym c.planned-demanded.ensures) (omega (arith, room, keys))

pub prepare_cell-requires-clause-may : goal.prepare_cell-requires-clause-may
prepare_cell-requires-clause-may g c = may_again c.args.main.now c.open_legs.new.main c.open_legs.ensures.nests

pub prepare_cell-requires-clause-cell : goal.prepare_cell-requires-clause-cell
prepare_cell-requires-clause-cell g c =
    let main = c.args.main.now in
    let config = main.config.now in
    let h = board_history (made_by main.hand.now) main.entry_id.number in
    let good = good_history config (made_by main.hand.now) c.requires.orderly main.entry_id.number in
    let d = c.requires.due.2 in
    let within = cell_within config h c.requires.due.0 c.requires.due.1 c.args.taken.now.plan c.args.taken.now.drawn.list good d in
    let is = c.cell.ensures ∙ d.plans.1.cell_is in
    let low_cell = within.0 in
    let high_cell = within.1 in
    let high : c.cell.result ≤ config.max_sessions = omega (arith, high_cell, is) in
    (omega (arith, low_cell, is), subst (λ (k : Config). c.cell.result ≤ k.max_sessions) (sym (same_config main c.open_legs.new.main c.open_legs.ensures.nests)) high)

pub prepare_cell-requires-clause-keys : goal.prepare_cell-requires-clause-keys
prepare_cell-requires-clause-keys g c =
    let main = c.args.main.now in
    let config = main.config.now in
    let h = board_history (made_by main.hand.now) main.entry_id.number in
    let good = good_history config (made_by main.hand.now) c.requires.orderly main.entry_id.number in
    let d = c.requires.due.2 in
    let within = cell_within config h c.requires.due.0 c.requires.due.1 c.args.taken.now.plan c.args.taken.now.drawn.list good d in
    let is = c.cell.ensures ∙ d.plans.1.cell_is in
    let high_cell = within.1 in
    let high : c.cell.result ≤ config.max_sessions = omega (arith, high_cell, is) in
    keys_new config main.entry_id.number main.entry_id.moment c.cell.result (added c.open_legs.new.prepare) main.hand.now c.open_legs.new.main.hand.now c.requires.orderly high
    c.open_legs.ensures.gained

pub prepare_cell-requires-clause-tells : goal.prepare_cell-requires-clause-tells
prepare_cell-requires-clause-tells g c =
    let main = c.args.main.now in
    let h = board_history (made_by main.hand.now) main.entry_id.number in
    let id = c.requires.due.0 in
    let ask = c.requires.due.1 in
    let rounds = (target_of main.config.now h id).rounds in
    let asked = demand_of main.config.now h id ask in
    let demands : PlanFor c.planned-demanded.result.now asked = subst (λ (q : Plan). PlanFor q asked) (sym c.planned-demanded.ensures) c.requires.due.2.plans.1.plan_for.demands in
    let signal = c.bring_keys.new.prepare in
    let keys = drawn_keys_from c.args.taken.now.first_key c.args.taken.now.drawn.list asked.keys in
    let stands = c.bring_keys.ensures.stands rounds ask demands (c.open_legs.ensures.stands [] [] c.requires.room.nothing) in
    subst (λ (ks : List NewKey). PrepareFor signal ks (drops_of signal)) (sym (keys_told signal keys asked.dropped stands))
    (subst (λ (ds : List ℕ). PrepareFor signal keys ds) (sym (drops_told signal keys rounds ask stands)) stands)

pub prepare_cell-requires-clause-comes : goal.prepare_cell-requires-clause-comes
prepare_cell-requires-clause-comes g c =
    let main = c.args.main.now in
    let config = main.config.now in
    let l = made_by main.hand.now in
    let h = board_history l main.entry_id.number in
    let good = good_history config l c.requires.orderly main.entry_id.number in
    let id = c.requires.due.0 in
    let ask = c.requires.due.1 in
    let d = c.requires.due.2 in
    let p = c.args.taken.now.plan in
    let draws = c.args.taken.now.drawn.list in
    let leases = c.args.pairs.leases.list in
    let t = target_of config h id in
    let asked = demand_of config h id ask in
    let demands : PlanFor c.planned-demanded.result.now asked = subst (λ (q : Plan). PlanFor q asked) (sym c.planned-demanded.ensures) d.plans.1.plan_for.demands in
    let signal = c.bring_keys.new.prepare in
    let legs = added c.open_legs.new.prepare in
    let keys = drawn_keys_from c.args.taken.now.first_key draws asked.keys in
    let stands = c.bring_keys.ensures.stands t.rounds ask demands (c.open_legs.ensures.stands [] [] c.requires.room.nothing) in
    let call = c.call.ensures ∙ d.plans.1.call_is in
    let list : legs ≡ (offer_of config h id ask draws).legs = legs_are config h id ask p draws leases legs d.plans.1 c.requires.leases c.open_legs.ensures.legs in
    let within = cell_within config h id ask p draws good d in
    let is = c.cell.ensures ∙ d.plans.1.cell_is in
    let high_cell = within.1 in
    let high : c.cell.result ≤ config.max_sessions = omega (arith, high_cell, is) in
    let parts = c.bring_keys.ensures.legs.parts_are ∙ c.open_legs.ensures.parts ∙ ap (λ (xs : List _). xs ++ leased_parts leases c.args.pairs.opened.list) c.requires.room.no_parts in
    subst (λ (k : Config). CanPrepare k (made_by c.open_legs.new.main.hand.now) c.cell.result signal c.call.result (prepared_keys signal) (drops_of signal))
    (sym (same_config main c.open_legs.new.main c.open_legs.ensures.nests))
    (can_prepare config main.entry_id.number main.entry_id.moment main.hand.now c.open_legs.new.main.hand.now id ask p draws
    (view_of config h) (planned_pairs config (view_of config h) p) signal leases c.args.pairs.opened.list
    legs c.call.result c.cell.result (prepared_keys signal) (drops_of signal)
    c.requires.orderly c.requires.above (let port = c.last_port-last.ensures in omega (arith, port)) d high is call (c.bring_keys.ensures.legs.added_are ∙ list)
    (keys_are config h id ask p draws c.args.taken.now.first_key (prepared_keys signal) c.requires.first (keys_told signal keys asked.dropped stands))
    (drops_told signal keys t.rounds ask stands)
    c.requires.leases (are_leased config h (legs_demanded p.plan) leases good c.requires.leases) parts
    (prepare_cell-requires-clause-tells g c) c.open_legs.ensures.gained)

pub prepare_cell-requires-clause-ready : goal.prepare_cell-requires-clause-ready
prepare_cell-requires-clause-ready g c = c.bring_keys.ensures.legs.ready (c.open_legs.ensures.ready c.requires.room.ready)

pub prepare_cell-requires-clause-opened : goal.prepare_cell-requires-clause-opened
prepare_cell-requires-clause-opened g c =
    let main = c.args.main.now in
    let config = main.config.now in
    let signal = c.bring_keys.new.prepare in
    let leases = c.args.pairs.leases.list in
    let parts = c.bring_keys.ensures.legs.parts_are ∙ c.open_legs.ensures.parts ∙ ap (λ (xs : List _). xs ++ leased_parts leases c.args.pairs.opened.list) c.requires.room.no_parts in
    subst (λ (k : Config). AreOpened g.O.OutEnd.log k signal) (sym (same_config main c.open_legs.new.main c.open_legs.ensures.nests))
    (legs_opened g.I.InEnd.log g.O.OutEnd.log config signal _ _ leases c.args.pairs.opened.list parts c.requires.ends
    (prepare_cell-requires-clause-tells g c))

pub returns-clause-nests : goal.returns-clause-nests
returns-clause-nests g c = nests_both c.args.main.now c.open_legs.new.main c.prepare_cell.new.main c.open_legs.ensures.nests c.prepare_cell.ensures.nests

pub returns-clause-gained : goal.returns-clause-gained
returns-clause-gained g c id ask d =
    let main = c.args.main.now in
    let config = main.config.now in
    let mid = c.open_legs.new.main in
    let new = c.prepare_cell.new.main in
    let h = board_history (made_by main.hand.now) main.entry_id.number in
    let p = c.args.taken.now.plan in
    let draws = c.args.taken.now.drawn.list in
    let t = target_of config h id in
    let asked = demand_of config h id ask in
    let demands : PlanFor c.planned-demanded.result.now asked = subst (λ (q : Plan). PlanFor q asked) (sym c.planned-demanded.ensures) d.plans.1.plan_for.demands in
    let signal = c.bring_keys.new.prepare in
    let legs = added c.open_legs.new.prepare in
    let keys = drawn_keys_from c.args.taken.now.first_key draws asked.keys in
    let stands = c.bring_keys.ensures.stands t.rounds ask demands (c.open_legs.ensures.stands [] [] c.requires.room.nothing) in
    let list : legs ≡ (offer_of config h id ask draws).legs = legs_are config h id ask p draws c.args.pairs.leases.list legs d.plans.1 c.requires.leases c.open_legs.ensures.legs in
    brought config main.entry_id.number main.entry_id.moment main.hand.now mid.hand.now new.hand.now (offer_of config h id ask draws) legs
    c.call.result c.cell.result (added signal) (prepared_keys signal) (drops_of signal)
    list (c.cell.ensures ∙ d.plans.1.cell_is) (c.call.ensures ∙ d.plans.1.call_is)
    (c.bring_keys.ensures.legs.added_are ∙ list)
    (keys_are config h id ask p draws c.args.taken.now.first_key (prepared_keys signal) c.requires.first (keys_told signal keys asked.dropped stands))
    (drops_told signal keys t.rounds ask stands) c.open_legs.ensures.gained
    (subst (λ (e : BoardEntryId). GainsNested e.number e.moment (in_cell_of c.cell.result (brings c.call.result signal) ∷ []) mid.hand.now new.hand.now) c.open_legs.ensures.nests.entry_is c.prepare_cell.ensures.gained)

pub returns-clause-went : goal.returns-clause-went
returns-clause-went g c id ask d =
    let main = c.args.main.now in
    let config = main.config.now in
    let mid = c.open_legs.new.main in
    let h = board_history (made_by main.hand.now) main.entry_id.number in
    let good = good_history config (made_by main.hand.now) c.requires.orderly main.entry_id.number in
    let p = c.args.taken.now.plan in
    let draws = c.args.taken.now.drawn.list in
    let t = target_of config h id in
    let asked = demand_of config h id ask in
    let within = cell_within config h id ask p draws good d in
    let is = c.cell.ensures ∙ d.plans.1.cell_is in
    let high_cell = within.1 in
    let high : c.cell.result ≤ config.max_sessions = omega (arith, high_cell, is) in
    let demands : PlanFor c.planned-demanded.result.now asked = subst (λ (q : Plan). PlanFor q asked) (sym c.planned-demanded.ensures) d.plans.1.plan_for.demands in
    let signal = c.bring_keys.new.prepare in
    let keys = drawn_keys_from c.args.taken.now.first_key draws asked.keys in
    let stands = c.bring_keys.ensures.stands t.rounds ask demands (c.open_legs.ensures.stands [] [] c.requires.room.nothing) in
    went_dropped config main.entry_id.number main.entry_id.moment c.cell.result (added c.open_legs.new.prepare) main.hand.now mid.hand.now id ask p draws
    (drops_of signal) c.prepare_cell.new.gone c.requires.orderly c.requires.above d high is (drops_told signal keys t.rounds ask stands) c.open_legs.ensures.gained
    (subst (λ (k : Config). DroppedRemoved k (made_by mid.hand.now) c.cell.result (drops_of signal) c.prepare_cell.new.gone) (same_config main mid c.open_legs.ensures.nests) c.prepare_cell.ensures.went)

pub returns-clause-home : goal.returns-clause-home
returns-clause-home g c =
    subst (λ (k : Config). GoneHome g.O.OutEnd.log k c.prepare_cell.new.gone) (same_config c.args.main.now c.open_legs.new.main c.open_legs.ensures.nests) c.prepare_cell.ensures.home

pub returns-clause-leave : goal.returns-clause-leave
returns-clause-leave g c =
    let main = c.args.main.now in
    opened_leave g.O.OutEnd.log main.config.now main.entry_id.number main.entry_id.moment (added c.open_legs.new.prepare) c.prepare_cell.new.gone c.cell.result
    (Cell (brings c.call.result c.bring_keys.new.prepare))
    main.hand.now c.open_legs.new.main.hand.now c.prepare_cell.new.main.hand.now refl c.open_legs.ensures.gained c.prepare_cell.ensures.row

pub returns-clause-left : goal.returns-clause-left
returns-clause-left g c id ask d ends =
    let main = c.args.main.now in
    let config = main.config.now in
    let mid = c.open_legs.new.main in
    let h = board_history (made_by main.hand.now) main.entry_id.number in
    let draws = c.args.taken.now.drawn.list in
    let t = target_of config h id in
    let asked = demand_of config h id ask in
    let demands : PlanFor c.planned-demanded.result.now asked = subst (λ (q : Plan). PlanFor q asked) (sym c.planned-demanded.ensures) d.plans.1.plan_for.demands in
    let signal = c.bring_keys.new.prepare in
    let keys = drawn_keys_from c.args.taken.now.first_key draws asked.keys in
    let stands = c.bring_keys.ensures.stands t.rounds ask demands (c.open_legs.ensures.stands [] [] c.requires.room.nothing) in
    let kept : cell_kept mid.config.now mid.hand.now c.cell.result ≡ cell_kept config main.hand.now c.args.taken.now.plan.cell =
    ap (λ (k : Config). cell_kept k mid.hand.now c.cell.result) (same_config main mid c.open_legs.ensures.nests)
    ∙ kept_opened config main.entry_id.number main.entry_id.moment (added c.open_legs.new.prepare) main.hand.now mid.hand.now c.open_legs.ensures.nests.same.1 c.open_legs.ensures.gained c.cell.result
    ∙ ap (λ (n : ℕ). cell_kept config main.hand.now n) c.cell.ensures in
    c.prepare_cell.ensures.left (subst AllHaveEnds (sym kept) ends)
    ∙ ap (λ (shape : CellShape). leases_going (λ leg. has (drops_of signal) leg.section) shape) kept
    ∙ ap (λ (ds : List ℕ). leases_going (λ leg. has ds leg.section) (cell_kept config main.hand.now c.args.taken.now.plan.cell)) (drops_told signal keys t.rounds ask stands)

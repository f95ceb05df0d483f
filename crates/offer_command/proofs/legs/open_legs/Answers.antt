use Rattle.std.proofs.Common.{◌≡◌, ◌≤◌, ◌<◌, ◌∙◌, ◌++◌, ℕ, List, [], ◌∷◌, Some, ap, sym, subst, refl, map, arith}
use Rattle.std.specs.Prelude.{option_map, slice_get}
use Rattle.histories.specs.Words.{here}
use Rattle.port_pool.specs.Ports.{pair_count}
use Rattle.port_pool.specs.declared.pairs.Lease.{Lease}
use Rattle.port_pool.specs.Pools.{AreFree}
use Rattle.port_pool.specs.declared.holder.Holder.{Holder}
use Rattle.offer_answer.specs.Rounds.{Demand}
use Rattle.offer_answer.specs.Laws.{new_leg_place}
use Rattle.offer_answer.specs.Offers.{PlanFor, pairs_demanded as pairs_of_plan}
use Rattle.offer_answer.specs.declared.plan.Plan.{Plan}
use Rattle.call_cell.specs.Preparations.{added, parts_added}
use Rattle.media_ports.specs.Addresses.{pairs_of_leases}
use Rattle.media_ports.specs.Ends.{ArePairsOpened}
use Rattle.media_ports.specs.Ends as pair_ends
use Rattle.relay_core.specs.Entries.{box_of}
use Rattle.relay_outside.specs.declared.settings.Config.{Config}
use Rattle.relay_core.specs.Scripts.{open_owed}
use Rattle.relay_core.specs.Turns.{GainsNested, made_by}
use Rattle.board_turns.specs.BoardTurns.{MakesNested}
use Rattle.board_turns.specs.NestedSteps.{IsShut}
use Rattle.board_turns.specs.declared.board_turn.BoardEntryId.{BoardEntryId}
use Rattle.board_turns.proofs.Staying.{may_again, same_config, nests_none, nests_both}
use Rattle.offer_command.specs.LegBoxes.{AreShut, IsBoxOpened}
use Rattle.offer_command.proofs.LegsOpened.{none_done, one_done, all_legs, all_opened, all_parts, no_ends_left, leases_left, ends_left, gains_nothing, gains_leg, shut_still, opened_since, popped, holder_for, pairs_left, holder_read, holder_same}
use Rattle.offer_command.proofs.legs.open_legs.Goals as goal

pub loop-index-init : goal.loop-index-init
loop-index-init g c =
    let main = c.args.main.now in
    let none = c.requires.none in
    record {
      nests = nests_none main c.requires.may;
      gained = subst (λ (legs : List Holder). MakesNested (map (open_owed main.config.now) legs) main main) (sym none)
          (gains_nothing main.entry_id.number main.entry_id.moment main.hand.now);
      done = none_done c.args.plan.now.plan c.args.plan.now.call c.args.plan.now.cell
          (IsBoxOpened g.I.InEnd.log g.I.InEnd.faults g.O.OutEnd.log g.O.OutEnd.faults main.config.now main.entry_id.number main.entry_id.moment main.hand.now)
          c.args.pairs.leases.list c.args.pairs.opened.list (added c.args.prepare.now) (parts_added c.args.prepare.now) none;
      leased = c.requires.leased.differ;
      shut = c.requires.shut;
      opened = c.requires.opened;
      stands = λ keys dropped s. s;
      leg_room = omega arith;
      key_room = refl;
      ready = λ r. r;
    }

pub unwrap-lease-requires : goal.unwrap-lease-requires
unwrap-lease-requires g c =
    let low = leases_left _ _ _ _ _ _ _ _ _ _ _ _ c.loop-index.invariant.done (let a = c.loop-index-test.true in let b = c.requires.leases in let d = c.pairs-index-end.ensures.count in let p = ap pairs_of_plan c.planned-demanded.ensures in omega arith) in
    c.pop.ensures.left.1 low

pub unwrap-ends-requires : goal.unwrap-ends-requires
unwrap-ends-requires g c =
    let low = ends_left _ _ _ _ _ _ _ _ _ _ _ _ c.loop-index.invariant.done (let a = c.loop-index-test.true in let b = c.requires.pairs in let d = c.pairs-index-end.ensures.count in let p = ap pairs_of_plan c.planned-demanded.ensures in omega arith) in
    c.pop-in-loop-index.ensures.left.1 low

pub open_leg-requires-clause-may : goal.open_leg-requires-clause-may
open_leg-requires-clause-may g c = may_again c.args.main.now c.loop-index.main c.loop-index.invariant.nests

pub open_leg-requires-clause-pair : goal.open_leg-requires-clause-pair
open_leg-requires-clause-pair g c =
    let inv = c.loop-index.invariant in
    let rest = c.pop.new.self.list in
    let left = popped c.loop-index.leases.list rest c.pop.result c.unwrap-lease.result c.pop.ensures.list c.unwrap-lease.ensures in
    let pairs = pairs_left c.loop-index.leases.list rest c.unwrap-lease.result c.pair.result left c.pair.ensures in (
      subst (λ (k : Config). c.pair.result < pair_count k) (sym (same_config c.args.main.now c.loop-index.main inv.nests))
          (subst (AreFree (pair_count c.args.main.now.config.now)) pairs inv.leased).0,
      sym c.pair.ensures,
    )

pub open_leg-requires-clause-cell : goal.open_leg-requires-clause-cell
open_leg-requires-clause-cell g c =
    let is = c.cell.ensures in
    let low = c.requires.cell.0 in
    let high = c.requires.cell.1 in (
      omega (arith, is, low),
      subst (λ (k : Config). c.cell.result ≤ k.max_sessions) (sym (same_config c.args.main.now c.loop-index.main c.loop-index.invariant.nests)) (omega (arith, is, high)),
    )

pub open_leg-requires-clause-room : goal.open_leg-requires-clause-room
open_leg-requires-clause-room g c =
    let test = c.loop-index-test.true in
    let end = c.pairs-index-end.ensures.count in
    let count = ap pairs_of_plan c.planned-demanded.ensures in
    let legs = c.requires.room in
    let left = c.loop-index.invariant.leg_room in
    omega (arith, test, end, count, legs, left)

pub open_leg-requires-clause-shut : goal.open_leg-requires-clause-shut
open_leg-requires-clause-shut g c =
    let inv = c.loop-index.invariant in
    let config = c.args.main.now.config.now in
    let hand = c.loop-index.main.hand.now in
    let rest = c.pop.new.self.list in
    let left = popped c.loop-index.leases.list rest c.pop.result c.unwrap-lease.result c.pop.ensures.list c.unwrap-lease.ensures in
    subst (λ (k : Config). IsShut k hand c.pair.result) (sym (same_config c.args.main.now c.loop-index.main inv.nests))
    (subst (AreShut config hand) (pairs_left c.loop-index.leases.list rest c.unwrap-lease.result c.pair.result left c.pair.ensures) inv.shut c.pair.result (here refl))

pub open_leg-requires-clause-ends : goal.open_leg-requires-clause-ends
open_leg-requires-clause-ends g c =
    let inv = c.loop-index.invariant in
    let opens = ArePairsOpened g.I.InEnd.log g.O.OutEnd.log c.args.main.now.config.now in
    let lease = c.unwrap-lease.result in
    let ends = c.unwrap-ends.result in
    let open_rest = c.pop-in-loop-index.new.self.list in
    let left = popped c.loop-index.leases.list c.pop.new.self.list c.pop.result lease c.pop.ensures.list c.unwrap-lease.ensures in
    let open_left = popped c.loop-index.opened.list open_rest c.pop-in-loop-index.result ends c.pop-in-loop-index.ensures.list c.unwrap-ends.ensures in
    subst (λ (k : Config). pair_ends.IsPairOpened g.I.InEnd.log g.O.OutEnd.log k lease ends) (sym (same_config c.args.main.now c.loop-index.main inv.nests))
    (subst (λ (leases : List Lease). opens leases (ends ∷ open_rest)) left (subst (opens c.loop-index.leases.list) open_left inv.opened)).0

pub loop-index-preserved : goal.loop-index-preserved
loop-index-preserved g c =
    let inv = c.loop-index.invariant in
    let step = c.open_leg.ensures in
    let old = c.args.main.now in
    let mid = c.loop-index.main in
    let new = c.open_leg.new.main in
    let config = old.config.now in
    let number = old.entry_id.number in
    let moment = old.entry_id.moment in
    let same = same_config old mid inv.nests in
    let leg = c.pair_leg-section.result in
    let lease = c.unwrap-lease.result in
    let ends = c.unwrap-ends.result in
    let rest = c.pop.new.self.list in
    let open_rest = c.pop-in-loop-index.new.self.list in
    let legs = added c.loop-index.prepare in
    let more = added c.open_leg.new.prepare in
    let call = c.args.plan.now.call in
    let cell = c.args.plan.now.cell in
    let holder = holder_read c.call.result c.cell.result leg c.pair.result c.generation.result in
    let same_holder : holder ≡ holder_for call cell lease leg = holder_same c.call.result c.cell.result lease leg c.pair.result c.generation.result c.pair.ensures c.generation.ensures
    ∙ ap (λ (n : ℕ). holder_for n c.cell.result lease leg) c.call.ensures ∙ ap (λ (n : ℕ). holder_for call n lease leg) c.cell.ensures in
    let says : (asked : Demand) → PlanFor c.args.plan.now.plan asked → option_map new_leg_place (slice_get asked.pairs c.loop-index.index) ≡ Some leg =
    λ asked demands. c.pair_leg-section.ensures asked (subst (λ (q : Plan). PlanFor q asked) (sym c.planned-demanded.ensures) demands) in
    let left = popped c.loop-index.leases.list rest c.pop.result lease c.pop.ensures.list c.unwrap-lease.ensures in
    let open_left = popped c.loop-index.opened.list open_rest c.pop-in-loop-index.result ends c.pop-in-loop-index.ensures.list c.unwrap-ends.ensures in
    let pairs = pairs_left c.loop-index.leases.list rest lease c.pair.result left c.pair.ensures in
    let more_is : more ≡ legs ++ holder ∷ [] = step.added in
    let free = subst (AreFree (pair_count config)) pairs inv.leased in
    let gained : GainsNested number moment (open_owed config holder ∷ []) mid.hand.now new.hand.now =
    subst (λ (e : BoardEntryId). GainsNested e.number e.moment (open_owed config holder ∷ []) mid.hand.now new.hand.now) inv.nests.entry_is
    (subst (λ (k : Config). GainsNested mid.entry_id.number mid.entry_id.moment (open_owed k holder ∷ []) mid.hand.now new.hand.now) same step.gained) in
    let opened : IsBoxOpened g.I.InEnd.log g.I.InEnd.faults g.O.OutEnd.log g.O.OutEnd.faults config number moment mid.hand.now holder ends =
    subst (λ (e : BoardEntryId). IsBoxOpened g.I.InEnd.log g.I.InEnd.faults g.O.OutEnd.log g.O.OutEnd.faults config e.number e.moment mid.hand.now holder ends) inv.nests.entry_is
    (subst (λ (k : Config). IsBoxOpened g.I.InEnd.log g.I.InEnd.faults g.O.OutEnd.log g.O.OutEnd.faults k mid.entry_id.number mid.entry_id.moment mid.hand.now holder ends) same step.opened) in
    record {
      nests = nests_both old mid new inv.nests step.nests;
      gained = gains_leg config number moment legs more holder old.hand.now mid.hand.now new.hand.now more_is inv.gained gained;
      done = one_done c.args.plan.now.plan call cell
          (IsBoxOpened g.I.InEnd.log g.I.InEnd.faults g.O.OutEnd.log g.O.OutEnd.faults config number moment old.hand.now)
          c.args.pairs.leases.list c.loop-index.leases.list rest c.args.pairs.opened.list c.loop-index.opened.list open_rest c.loop-index.index legs more (parts_added c.args.prepare.now)
          (parts_added c.loop-index.prepare) (parts_added c.open_leg.new.prepare) lease ends leg inv.done left open_left says
          (opened_since g.I.InEnd.log g.I.InEnd.faults g.O.OutEnd.log g.O.OutEnd.faults config number moment old.hand.now mid.hand.now (holder_for call cell lease leg) ends inv.nests.same
          (subst (λ (h : Holder). IsBoxOpened g.I.InEnd.log g.I.InEnd.faults g.O.OutEnd.log g.O.OutEnd.faults config number moment mid.hand.now h ends) same_holder opened))
          (more_is ∙ ap (λ (h : Holder). legs ++ h ∷ []) same_holder) step.parts;
      leased = free.2;
      shut = shut_still config number moment holder (pairs_of_leases rest) mid.hand.now new.hand.now step.nests.same.1 gained (subst (AreShut config mid.hand.now) pairs inv.shut) free.1;
      opened = (subst (λ (ls : List Lease). ArePairsOpened g.I.InEnd.log g.O.OutEnd.log config ls (ends ∷ open_rest)) left
          (subst (ArePairsOpened g.I.InEnd.log g.O.OutEnd.log config c.loop-index.leases.list) open_left inv.opened)).1;
      stands = λ keys dropped s. step.stands keys dropped (inv.stands keys dropped s);
      leg_room = let a = step.room.0 in let b = inv.leg_room in omega (arith, a, b);
      key_room = step.room.1 ∙ inv.key_room;
      ready = λ r. step.ready (inv.ready r);
    }

pub returns-clause-legs : goal.returns-clause-legs
returns-clause-legs g c =
    all_legs _ _ _ _ _ _ _ _ _ _ _ _ c.loop-index.invariant.done (let a = c.loop-index-test.false in let b = c.requires.leases in let d = c.pairs-index-end.ensures.count in let p = ap pairs_of_plan c.planned-demanded.ensures in let e = c.loop-index.auto.index-end in omega arith)

pub returns-clause-opened : goal.returns-clause-opened
returns-clause-opened g c =
    all_opened _ _ _ _ _ _ _ _ _ _ _ _ c.loop-index.invariant.done (let a = c.loop-index-test.false in let b = c.requires.pairs in let d = c.pairs-index-end.ensures.count in let p = ap pairs_of_plan c.planned-demanded.ensures in let e = c.loop-index.auto.index-end in omega arith)

pub returns-clause-parts : goal.returns-clause-parts
returns-clause-parts g c =
    let d = c.pairs-index-end.ensures.count in
    let p = ap pairs_of_plan c.planned-demanded.ensures in
    all_parts _ _ _ _ _ _ _ _ _ _ _ _ c.loop-index.invariant.done (omega arith) (omega arith)

pub destroy_empty-requires : goal.destroy_empty-requires
destroy_empty-requires g c =
    let past = c.loop-index-test.false in
    let pairs = c.requires.pairs in
    let end = c.pairs-index-end.ensures.count in
    let count = ap pairs_of_plan c.planned-demanded.ensures in
    let within = c.loop-index.auto.index-end in
    no_ends_left _ _ _ _ _ _ _ _ _ _ _ _ c.loop-index.invariant.done (omega (arith, past, pairs, end, count, within))

pub returns-clause-room : goal.returns-clause-room
returns-clause-room g c =
    let past = c.loop-index-test.false in
    let end = c.pairs-index-end.ensures.count in
    let count = ap pairs_of_plan c.planned-demanded.ensures in
    let within = c.loop-index.auto.index-end in
    let left = c.loop-index.invariant.leg_room in
    (omega (arith, past, end, count, within, left), c.loop-index.invariant.key_room)

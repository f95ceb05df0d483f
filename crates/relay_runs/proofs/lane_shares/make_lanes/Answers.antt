use Rattle.std.proofs.Common.{rules, ◌≡◌, ◌∙◌, ◌+◌, ◌<◌, ap, sym, subst, refl, arith, length}
use Rattle.turn_table.specs.Hands.{starts}
use Rattle.media_lane.specs.Starts.{HasLaneStarts}
use Rattle.media_lane.proofs.Places.{parts_begin}
use Rattle.relay_runs.specs.Threads.{AreNumbers, IsFreshLane, all_lanes, numbers_of}
use Rattle.relay_runs.proofs.Dues.{due_same}
use Rattle.relay_runs.proofs.MediaThreads.{left_between}
use Rattle.relay_runs.proofs.Making.{once_more, long_more, many_more, fresh_more, few_more, room_more, no_fresh, none_once, none_long, none_few, cut_fresh}
use Rattle.relay_runs.proofs.lane_shares.make_lanes.Goals as goal

pub loop-index-init : goal.loop-index-init
loop-index-init g c =
    let xs = c.args.threads.now.items in
    record {
      as_many = refl;
      fresh = no_fresh c.args.share.lanes xs c.requires.room (λ own. IsFreshLane c.args.config.now c.args.turns.now c.args.share.lanes own);
      few = none_few c.args.share.lanes xs c.requires.room;
      room = λ i d lt. (c.requires.room i d lt).room;
      once = none_once c.args.share.lanes xs c.requires.room;
      long = none_long c.args.share.lanes xs c.requires.room;
      parts_are = omega arith;
      list = refl;
      between = c.requires.between;
      due = refl;
    }

pub new-requires-clause-begins : goal.new-requires-clause-begins
new-requires-clause-begins g c =
    subst (λ l. HasLaneStarts c.args.config.now l) (sym c.split_hand-part.ensures.new.1)
    (parts_begin c.args.config.now (starts c.loop-index.hand) c.loop-index.invariant.between.parts)

pub loop-index-preserved : goal.loop-index-preserved
loop-index-preserved g c =
    let config = c.args.config.now in
    let turns = c.args.turns.now in
    let before = c.loop-index.invariant in
    let left = c.split_hand-part.ensures.left in
    let xs = c.loop-index.threads.items in
    let zs = c.add_lane.new.threads.items in
    let adds = c.add_lane.ensures in
    let some : 0 < length c.args.threads.now.items = c.requires.some (let test = c.loop-index-test.true in omega (arith, test)) in
    let many = before.as_many in
    let at = c.min-at.ensures in
    let count = c.len.ensures in
    let lt : c.min-at.result < length xs = omega (arith, some, many, at, count) in
    let fresh = cut_fresh config turns c.args.share.lanes c.loop-index.hand c.split_hand-part.result _ before.between.of_table c.split_hand-part.ensures.new c.new.ensures.hand c.new.ensures.config
    c.new.ensures.number.1 c.no_totals.ensures in
    record {
      as_many = many_more xs zs c.min-at.result _ adds ∙ before.as_many;
      fresh = fresh_more xs zs c.min-at.result _ lt adds (λ own. IsFreshLane config turns c.args.share.lanes own) before.fresh fresh;
      few = few_more xs zs c.min-at.result _ lt adds c.loop-index.index before.few;
      room = room_more xs zs c.min-at.result _ lt adds c.args.share.lanes before.room;
      once = once_more c.loop-index.index xs zs _ _ lt adds c.new.ensures.number.0 before.once;
      long = long_more xs zs c.min-at.result _ lt adds ∙ ap (λ n. n + 1) before.long;
      parts_are = (let parts = left.3 in let all = before.parts_are in omega (arith, parts, all));
      list = left.2 ∙ before.list;
      between = left_between config turns c.loop-index.hand c.split_hand-part.new.hand left before.between;
      due = due_same xs zs c.min-at.result _ lt adds ∙ before.due;
    }

pub returns-clause-once : goal.returns-clause-once
returns-clause-once g c =
    let end : c.loop-index.index ≡ c.args.share.lanes = search rules in
    subst (λ n. AreNumbers n (numbers_of (all_lanes c.loop-index.threads.items))) end c.loop-index.invariant.once

pub returns-clause-count : goal.returns-clause-count
returns-clause-count g c = (let end : c.loop-index.index ≡ c.args.share.lanes = search rules in c.loop-index.invariant.long ∙ end)

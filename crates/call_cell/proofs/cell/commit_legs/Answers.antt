use Rattle.std.proofs.Common.{arith}
use Rattle.call_cell.proofs.Answering.{room_is, room_more, commits_more, rest_more}
use Rattle.call_cell.proofs.cell.commit_legs.Goals as goal

pub commit_leg-requires : goal.commit_leg-requires
commit_leg-requires g c =
    let i = c.loop-leg.leg-index in
    let x = c.leg-item.result in
    record {
      room = λ needs. room_is c.args.signal.now c.args.legs.now c.loop-leg.legs i c.loop-leg.contexts c.args.contexts.now x c.loop-leg-test.true
          (c.loop-leg.invariant.2 i x (omega arith)) c.loop-leg.invariant.0 c.requires.room needs;
    }

pub loop-leg-preserved : goal.loop-leg-preserved
loop-leg-preserved g c =
    let i = c.loop-leg.leg-index in
    let x = c.leg-item.result in
    let same = c.loop-leg.invariant.2 i x (omega arith) in (
      room_more c.args.signal.now c.args.legs.now c.loop-leg.legs i c.loop-leg.contexts c.commit_leg.new.contexts c.args.contexts.now x c.loop-leg-test.true same
          c.loop-leg.invariant.0 c.commit_leg.ensures.room,
      commits_more c.args.signal.now c.args.legs.now c.loop-leg.legs i c.commit_leg.new.leg x c.loop-leg-test.true c.loop-leg.auto.legs same
          c.loop-leg.invariant.1 c.commit_leg.ensures.commits,
      rest_more c.args.legs.now c.loop-leg.legs i c.commit_leg.new.leg c.loop-leg.invariant.2,
    )

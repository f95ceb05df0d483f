use Rattle.std.proofs.Common.{◌<◌, ap, sym, subst, ◌∙◌, arith, count_by}
use Rattle.relay_outside.specs.declared.address.Addr.{Addr}
use Rattle.call_cell.specs.declared.leg.Leg.{Leg}
use Rattle.call_cell.specs.GivenEnds.{is_of_address, TakesEndsOf}
use Rattle.call_cell.proofs.Few.{at_in}
use Rattle.call_cell.proofs.GivenEnds.{none_given, room_for, one_given, all_given}
use Rattle.call_cell.proofs.given_ends.give_ends.Goals as goal

pub loop-leg-init : goal.loop-leg-init
loop-leg-init g c = none_given c.args.config.now c.args.legs.now c.args.ends.now.items c.requires.room

pub take_ends_of-rtp-requires : goal.take_ends_of-rtp-requires
take_ends_of-rtp-requires g c =
    subst (λ (at : Addr). 0 < count_by (λ (e : Addr × _ × _). is_of_address at e) c.loop-leg.ends.items) (sym c.address.ensures)
    (room_for c.args.config.now c.loop-leg.leg-index c.args.legs.now c.loop-leg.legs c.args.ends.now.items c.loop-leg.ends.items c.leg-item.result
    c.loop-leg-test.true c.loop-leg.invariant)

pub put_ends-requires : goal.put_ends-requires
put_ends-requires g c =
    let i = c.loop-leg.leg-index in
    let x = c.leg-item.result in
    ap (λ (leg : Leg _). leg.sending.ends) (c.loop-leg.invariant.rest i x (omega arith))
    ∙ c.requires.emptied _ (at_in c.args.legs.now i x c.loop-leg-test.true)

pub loop-leg-preserved : goal.loop-leg-preserved
loop-leg-preserved g c =
    let i = c.loop-leg.leg-index in
    let x = c.leg-item.result in
    one_given c.args.config.now i c.args.legs.now c.loop-leg.legs c.args.ends.now.items c.loop-leg.ends.items c.take_ends_of-rtp.new.ends.items x c.put_ends.new.self
    c.take_ends_of-rtp.result c.loop-leg-test.true c.loop-leg.auto.legs c.loop-leg.invariant
    (subst (λ (at : Addr). TakesEndsOf at c.loop-leg.ends.items c.take_ends_of-rtp.new.ends.items c.take_ends_of-rtp.result) c.address.ensures c.take_ends_of-rtp.ensures)
    c.put_ends.ensures

pub returns-clause-saved : goal.returns-clause-saved
returns-clause-saved g c = c.loop-leg.invariant.saved

pub returns-clause-gives : goal.returns-clause-gives
returns-clause-gives g c =
    all_given c.args.config.now c.loop-leg.leg-index c.args.legs.now c.loop-leg.legs c.args.ends.now.items c.loop-leg.ends.items
    (omega (arith, c.loop-leg-test.false, c.loop-leg.auto.legs)) c.loop-leg.invariant

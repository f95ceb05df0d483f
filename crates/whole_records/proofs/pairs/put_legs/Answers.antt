use Rattle.std.proofs.Common.{rules, ◌≡◌, ◌+◌, ◌∷◌, List, drop, drop_of_length-le}
use Rattle.std.proofs.lemmas.List.{drop_more}
use Rattle.call_cell.specs.declared.saved.LegSaved.{LegSaved}
use Rattle.whole_records.proofs.Puts.{one_put, all_put}
use Rattle.whole_records.proofs.pairs.put_legs.Goals as goal

pub loop-leg-preserved : goal.loop-leg-preserved
loop-leg-preserved c =
    let legs : List LegSaved = c.args.legs.now in
    let i = c.loop-leg.leg-index in
    let one : LegSaved = c.leg-item.result in
    let step : drop i legs ≡ one ∷ drop (i + 1) legs = search (rules, drop_more) in
    one_put (λ (leg : LegSaved). leg.holder.pair) c.loop-leg.pairs.items c.push.new.self.items c.args.pairs.now.items one (drop i legs) (drop (i + 1) legs) legs
    c.loop-leg.invariant step c.in_ok-push.ensures.items

pub returns : goal.returns
returns c =
    let legs : List LegSaved = c.args.legs.now in
    let i = c.loop-leg.leg-index in
    all_put (λ (leg : LegSaved). leg.holder.pair) c.loop-leg.pairs.items c.args.pairs.now.items (drop i legs) legs c.loop-leg.invariant (drop_of_length-le legs c.loop-leg-test.false)

use Rattle.std.proofs.Common.{◌++◌, [], List, subst, get_or, take, arith}
use Rattle.offer_answer.specs.Offers.{key_asked}
use Rattle.port_pool.specs.Signals.{NewKey}
use Rattle.call_board.specs.Pairs.{drawn_keys_from}
use Rattle.call_cell.specs.Preparations.{PrepareFor}
use Rattle.offer_command.proofs.Filled.{keys_more, legs_still, keys_whole, got_at}
use Rattle.offer_command.proofs.cell.add_keys.Goals as goal

pub loop-index-preserved : goal.loop-index-preserved
loop-index-preserved g c =
    let inv = c.loop-index.invariant in
    let step = c.add_one.ensures in
    let draws = c.as_slice-keys.result.now in
    let i = c.loop-index.index in
    let bytes = get_or draws i [] in
    let got = got_at draws i c.loop-index-test.true in
    let place = key_asked c.key_leg.result in
    let first = c.args.first_key in
    record {
      stands = λ asked keys dropped demands stands.
          subst (λ (ks : List NewKey). PrepareFor c.add_one.new.prepare ks dropped) (keys_more first draws i asked.keys bytes place keys got (c.key_leg.ensures asked demands))
          (step.stands (keys ++ drawn_keys_from first (take i draws) asked.keys) dropped (inv.stands asked keys dropped demands stands));
      legs = legs_still c.args.prepare.now c.loop-index.prepare c.add_one.new.prepare inv.legs step.legs;
      key_room = let a = step.room in let b = inv.key_room in omega (arith, a, b);
    }

pub returns-clause-stands : goal.returns-clause-stands
returns-clause-stands g c asked keys dropped demands stands =
    let draws = c.as_slice-keys.result.now in
    subst (λ (ks : List NewKey). PrepareFor c.loop-index.prepare (keys ++ ks) dropped)
    (keys_whole c.args.first_key c.loop-index.index draws c.args.drawn.now.list asked.keys c.as_slice-keys.ensures (let a = c.loop-index-test.false in omega (arith, a)))
    (c.loop-index.invariant.stands asked keys dropped demands stands)

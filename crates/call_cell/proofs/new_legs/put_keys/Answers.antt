use Rattle.std.proofs.Common.{arith, ◌∙◌}
use Rattle.call_cell.proofs.Joined.{one_put, all_put, nil_of}
use Rattle.call_cell.proofs.Shaped.{shape_one, shape_all}
use Rattle.call_cell.proofs.new_legs.put_keys.Goals as goal

pub loop-key-preserved : goal.loop-key-preserved
loop-key-preserved g c = (
  λ apart. one_put c.args.keys.items c.loop-key.keys.items c.pop.new.self.items c.in-Some.key c.args.legs.now c.loop-key.legs c.put_key.new.legs
      c.in-Some.ensures.items (c.loop-key.invariant.0 apart) c.put_key.ensures.legs,
  shape_one c.args.keys.items c.loop-key.keys.items c.pop.new.self.items c.in-Some.key c.args.legs.now c.loop-key.legs c.put_key.new.legs
      c.in-Some.ensures.items c.loop-key.invariant.1 c.put_key.ensures.shape,
  c.put_key.ensures.ends ∙ c.loop-key.invariant.2,
  c.put_key.ensures.counts ∙ c.loop-key.invariant.3,
  c.put_key.ensures.forms ∙ c.loop-key.invariant.4,
)

pub returns-clause-legs : goal.returns-clause-legs
returns-clause-legs g c apart =
    all_put c.args.keys.items c.loop-key.keys.items c.args.legs.now c.loop-key.legs
    (nil_of c.loop-key.keys.items (omega (arith, c.in_default.ensures.cases.0, c.loop-key.keys.ok.0))) (c.loop-key.invariant.0 apart).1

pub returns-clause-shape : goal.returns-clause-shape
returns-clause-shape g c =
    shape_all c.args.keys.items c.loop-key.keys.items c.args.legs.now c.loop-key.legs
    (nil_of c.loop-key.keys.items (omega (arith, c.in_default.ensures.cases.0, c.loop-key.keys.ok.0))) c.loop-key.invariant.1

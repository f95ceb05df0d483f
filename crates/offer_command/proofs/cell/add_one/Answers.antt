use Rattle.std.proofs.Common.{◌++◌, [], ◌∷◌, subst}
use Rattle.srtp_keys.specs.MasterKey.{MasterKey}
use Rattle.call_cell.specs.Preparations.{PrepareFor}
use Rattle.offer_command.specs.PreparedLegs.{drawn_key}
use Rattle.offer_command.proofs.cell.add_one.Goals as goal

pub returns-clause-stands : goal.returns-clause-stands
returns-clause-stands g c keys dropped stands =
    subst (λ (key : MasterKey). PrepareFor c.add_key.new.self (keys ++ drawn_key c.args.place.0 c.args.place.1 c.args.place.2 key ∷ []) dropped) c.from_draw.ensures
    (c.add_key.ensures.stands keys dropped stands)

use Rattle.std.proofs.Common.{ap, arith, length}
use Rattle.std.proofs.lemmas.List.{length-map}
use Rattle.call_cell.specs.declared.leg.Leg.{Leg}
use Rattle.call_cell.proofs.prepare.Prepare.destroy_empty.Goals as goal

pub destroy_empty-requires : goal.destroy_empty-requires
destroy_empty-requires g c =
    omega (arith, length-map c.args.self.legs.items (λ (leg : Leg _). leg.holder), ap length c.requires.none, c.args.self.legs.ok.0)

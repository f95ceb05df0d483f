use Rattle.std.proofs.Common.{◌∙◌, ap, refl, List, [], ◌∷◌, ◌++◌, Option}
use Rattle.std.specs.List.{cons_option, filter_map}
use Rattle.std.proofs.lemmas.List.Elements.{filter_map-append}
use Rattle.port_pool.specs.declared.pairs.Lease.{Lease}
use Rattle.call_cell.specs.declared.leg.Leg.{Leg}
use Rattle.call_cell.specs.CellEnds.{parts_of}
use Rattle.call_cell.specs.Preparations.{parts_added}
use Rattle.call_cell.proofs.Prepared.{one_more_leg}
use Rattle.call_cell.proofs.prepare.Prepare.add_leg.Goals as goal

pub returns-clause-parts : goal.returns-clause-parts
returns-clause-parts g c =
    ap (λ (l : List (Leg _)). filter_map (λ (leg : Leg _). parts_of leg) l) c.push_reserved.ensures.items
    ∙ filter_map-append (λ (leg : Leg _). parts_of leg) c.args.self.now.legs.items (c.new.result ∷ [])
    ∙ ap (λ (o : Option (Lease × _ × _)). parts_added c.args.self.now ++ cons_option o []) c.new.ensures.parts

pub returns-clause-stands : goal.returns-clause-stands
returns-clause-stands g c keys dropped for =
    one_more_leg c.args.self.now _ c.new.result keys dropped refl refl c.push_reserved.ensures.items c.new.ensures.fresh for

use Rattle.std.proofs.Common.{arith}
use Rattle.call_cell.proofs.SavedLegs.{first_taken, first_saved, first_emptied}
use Rattle.call_cell.proofs.saving.save_first.Goals as goal

pub into_saved-requires : goal.into_saved-requires
into_saved-requires g c =
    let old = c.args.legs.now in
    let is = first_taken old.items c.remove.new.self.items c.remove.result (omega (arith, c.requires.some, old.ok.0)) c.remove.ensures.value c.remove.ensures.by_index.2 in
    (first_emptied old.items c.remove.new.self.items c.remove.result is c.requires.emptied).0

pub returns-clause-first : goal.returns-clause-first
returns-clause-first g c =
    let old = c.args.legs.now in
    let is = first_taken old.items c.remove.new.self.items c.remove.result (omega (arith, c.requires.some, old.ok.0)) c.remove.ensures.value c.remove.ensures.by_index.2 in
    first_saved old.items c.remove.new.self.items c.remove.result c.into_saved.result is c.into_saved.ensures

pub returns-clause-emptied : goal.returns-clause-emptied
returns-clause-emptied g c =
    let old = c.args.legs.now in
    let is = first_taken old.items c.remove.new.self.items c.remove.result (omega (arith, c.requires.some, old.ok.0)) c.remove.ensures.value c.remove.ensures.by_index.2 in
    (first_emptied old.items c.remove.new.self.items c.remove.result is c.requires.emptied).1

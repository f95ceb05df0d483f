use Rattle.hand_over.proofs.OnePlace.{is_cell, takes_at}
use Rattle.hand_over.proofs.places.take_at.Goals as goal

pub take_of_part-requires : goal.take_of_part-requires
take_of_part-requires g c = is_cell c.args.parts.now c.args.place c.index-parts-place.result c.requires.cell

pub returns : goal.returns
returns g c = takes_at c.args.parts.now c.args.place c.index-parts-place.result c.take_of_part.new.held c.take_of_part.result c.requires.within c.take_of_part.ensures

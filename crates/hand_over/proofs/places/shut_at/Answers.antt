use Rattle.hand_over.proofs.OnePlace.{can_shut, gives_at}
use Rattle.hand_over.proofs.places.shut_at.Goals as goal

pub shut_part-requires : goal.shut_part-requires
shut_part-requires g c = can_shut c.args.parts.now c.args.place c.index-parts-place.result c.requires.open_box.0 c.requires.open_box.1

pub returns : goal.returns
returns g c = gives_at c.args.parts.now c.args.place c.index-parts-place.result c.shut_part.new.held c.shut_part.result c.requires.within c.shut_part.ensures

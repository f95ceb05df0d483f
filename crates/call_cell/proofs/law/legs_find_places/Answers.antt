use Rattle.call_cell.proofs.Callers.{places_fit}
use Rattle.call_cell.proofs.law.legs_find_places.Goals as goal

pub returns : goal.returns
returns g c config cell h signal call keys dropped for prep can = places_fit config cell h signal call keys dropped for prep can

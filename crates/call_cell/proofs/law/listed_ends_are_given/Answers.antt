use Rattle.call_cell.proofs.ListedEnds.{listed_room, each_its_own, stood_there}
use Rattle.call_cell.proofs.law.listed_ends_are_given.Goals as goal

pub returns-clause-room : goal.returns-clause-room
returns-clause-room g c config saved those same = listed_room config saved those same

pub returns-clause-order : goal.returns-clause-order
returns-clause-order g c config those ends left same gives = each_its_own config those ends left same gives

pub returns-clause-stood : goal.returns-clause-stood
returns-clause-stood g c config those ends left leg own gives i is = stood_there config those ends left leg own gives i is

use Rattle.std.proofs.Common.{}
use Rattle.ng_frame.proofs.Framed.{frame_found, frame_real}
use Rattle.ng_frame.proofs.frame.one_frame.Goals as goal

pub returns-clause-found : goal.returns-clause-found
returns-clause-found c = frame_found

pub returns-clause-real : goal.returns-clause-real
returns-clause-real c = frame_real

use Rattle.call_cell.proofs.Shields.{is_fresh}
use Rattle.call_cell.proofs.law.notes_are_new.Goals as goal

pub returns : goal.returns
returns c config h p ok s good q i = is_fresh config h p ok s good q i

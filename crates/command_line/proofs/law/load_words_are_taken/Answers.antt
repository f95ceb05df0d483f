use Rattle.std.proofs.Common.{Some, codes, refl}
use Rattle.command_line.proofs.LoadLaw.{load_law}
use Rattle.command_line.proofs.Tasks.{loads}
use Rattle.command_line.proofs.law.load_words_are_taken.Goals as goal

pub returns : goal.returns
returns c words settings is = loads (codes "load") words (Some settings) refl refl refl (load_law words settings is)

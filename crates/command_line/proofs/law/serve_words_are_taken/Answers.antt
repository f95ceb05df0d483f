use Rattle.std.proofs.Common.{Some, codes, refl}
use Rattle.command_line.proofs.ServeLaw.{serve_law}
use Rattle.command_line.proofs.Tasks.{serves}
use Rattle.command_line.proofs.law.serve_words_are_taken.Goals as goal

pub returns : goal.returns
returns c words settings is = serves (codes "serve") words (Some settings) refl (serve_law words settings is)

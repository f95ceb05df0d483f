use Rattle.std.proofs.lemmas.Result.{err_from_is_err_and}
use Rattle.clap.specs.Words.{app_of}
use Rattle.command_line.proofs.Simple.{replay_simple}
use Rattle.command_line.proofs.read.read_replay.Goals as goal

pub parse-requires : goal.parse-requires
parse-requires c = record { simple = replay_simple (app_of c.in_ok-command.command) c.in_ok-command.ensures }

pub returns-in_err-command-clause-value : goal.returns-in_err-command-clause-value
returns-in_err-command-clause-value c =
    let p = err_from_is_err_and c.from_residual.result c.from_residual.ensures.1 in
    rw (p.1, p.2) tt

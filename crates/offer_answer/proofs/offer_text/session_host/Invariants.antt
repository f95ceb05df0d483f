use Rattle.std.proofs.Common.{◌≡◌, drop}
use Rattle.offer_answer.specs.Texts.{session_host}
use Rattle.offer_answer.proofs.offer_text.session_host.Given as goal

-- no section so far has a port
abbrev pub invariant-loop-index : goal.invariant-loop-index
invariant-loop-index l = session_host l.config l.sections ≡ session_host l.config (drop l.index l.sections)

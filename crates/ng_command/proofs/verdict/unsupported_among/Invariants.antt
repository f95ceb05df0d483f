use Rattle.std.proofs.Common.{◌≡◌, drop, find}
use Rattle.ng_bencode.specs.Row.{list_in}
use Rattle.ng_bencode.specs.Tree.{pairs_of}
use Rattle.ng_command.specs.Faults.{is_unsupported}
use Rattle.ng_command.proofs.verdict.unsupported_among.Given as goal

-- no key so far is at fault, so what is left has the answer
abbrev pub invariant-loop-key : goal.invariant-loop-key
invariant-loop-key l = find (λ key. is_unsupported l.kind (pairs_of (list_in l.pairs)) key) l.keys ≡ find (λ key. is_unsupported l.kind (pairs_of (list_in l.pairs)) key) (drop l.key-index l.keys)

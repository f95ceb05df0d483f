use Rattle.std.proofs.Common.{◌≡◌, drop}
use Rattle.ng_bencode.specs.Tree.{trees_of}
use Rattle.ng_command.specs.Values.{texts_in, has_word}
use Rattle.ng_command.proofs.values.is_among.Given as goal

-- no value so far is the word, so what is left decides
abbrev pub invariant-loop-value : goal.invariant-loop-value
invariant-loop-value l = has_word l.word (texts_in (trees_of l.value-items)) ≡ has_word l.word (texts_in (trees_of (drop l.value-index l.value-items)))

use Rattle.std.proofs.Common.{◌≡◌, take, map}
use Rattle.ng_bencode.specs.Row.{list_in}
use Rattle.ng_bencode.specs.Tree.{tree_of}
use Rattle.state_values.specs.Numbers.{number_tree}
use Rattle.state_values.proofs.numbers.words_value.Given as goal

-- what is put are the numbers so far
abbrev pub invariant-loop-number : goal.invariant-loop-number
invariant-loop-number l = map tree_of (list_in l.values) ≡ map number_tree (take l.number-index l.numbers)

use Rattle.std.proofs.Common.{◌≡◌, ◌++◌, drop}
use Rattle.ng_bencode.specs.Tree.{trees_of, pairs_of}
use Rattle.ng_bencode.specs.Spells.{spellings, entry_spellings}
use Rattle.ng_bencode.proofs.write.+write.Given as goal

-- what is written, with what is left to write, is the whole
abbrev pub invariant-write_items-loop-item : goal.invariant-write_items-loop-item
invariant-write_items-loop-item l = l.out.list ++ spellings (trees_of (drop l.item-index l.item-items)) ≡ l.initial.out.list ++ spellings (trees_of l.item-items)

abbrev pub invariant-write_pairs-loop-pair : goal.invariant-write_pairs-loop-pair
invariant-write_pairs-loop-pair l = l.out.list ++ entry_spellings (pairs_of (drop l.pair-index l.pair-items)) ≡ l.initial.out.list ++ entry_spellings (pairs_of l.pair-items)

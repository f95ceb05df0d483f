use Rattle.std.proofs.Common.{◌≡◌, ◌++◌, ◌≤◌, length}
use Rattle.std.specs.Vec.Iter.{into_iter_items}
use Rattle.ng_bencode.specs.Row.{list_in, spare_in}
use Rattle.ng_json.proofs.decode.row_of.Given as goal

-- the pairs so far, with those that are left, are all
abbrev pub invariant-loop-pair : goal.invariant-loop-pair
invariant-loop-pair l = record {
  list : list_in l.pairs ++ into_iter_items l.pair-iterator ≡ into_iter_items l.initial.pair-iterator;
  room : length (into_iter_items l.pair-iterator) ≤ spare_in l.pairs;
}

use Rattle.std.proofs.Common.{◌≡◌, ◌≤◌, drop, map, option_map}
use Rattle.serde_json.specs.Data.{items_depth, members_depth}
use Rattle.serde_json.specs.View.{items_view, members_view}
use Rattle.ng_bencode.specs.Row.{list_in}
use Rattle.ng_bencode.specs.Tree.{tree_of, pairs_of, no_entries}
use Rattle.ng_json.specs.Twins.{trees_in, pairs_in}
use Rattle.ng_json.proofs.Trees.{before_trees}
use Rattle.ng_json.proofs.decode.+twin.Given as goal

-- the values so far, with those of the items that are left, are those of the array
abbrev pub invariant-values_in-loop-item : goal.invariant-values_in-loop-item
invariant-values_in-loop-item l = record {
  deep : items_depth (items_view (drop l.item-index l.item-items)) ≤ l.room → items_depth (items_view l.item-items) ≤ l.room;
  left : items_depth (items_view l.item-items) ≤ l.room → items_depth (items_view (drop l.item-index l.item-items)) ≤ l.room;
  found : trees_in (items_view l.item-items) ≡ option_map (before_trees (map tree_of (list_in l.found))) (trees_in (items_view (drop l.item-index l.item-items)));
}

-- the pairs so far, with those of the members that are left, are those of the object
abbrev pub invariant-pairs_in-loop-text : goal.invariant-pairs_in-loop-text
invariant-pairs_in-loop-text l = record {
  deep : members_depth (members_view l.text-iterator) ≤ l.room → members_depth (members_view l.members.entries) ≤ l.room;
  left : members_depth (members_view l.members.entries) ≤ l.room → members_depth (members_view l.text-iterator) ≤ l.room;
  found : pairs_in (members_view l.members.entries) no_entries ≡ pairs_in (members_view l.text-iterator) (pairs_of l.found.items);
}

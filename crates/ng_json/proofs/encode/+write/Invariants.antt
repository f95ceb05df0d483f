use Rattle.std.proofs.Common.{◌≡◌, ◌+◌, ◌*◌, ◌++◌, drop}
use Rattle.serde_json.specs.Data as json
use Rattle.serde_json.specs.Written.{items_text, members_text}
use Rattle.ng_bencode.specs.Row.{list_in}
use Rattle.ng_bencode.specs.Tree.{tree_of, trees_of, pairs_of}
use Rattle.ng_json.specs.JsonText.{data_of, items_data, members_data}
use Rattle.ng_json.specs.Members.{members_in}
use Rattle.ng_json.proofs.encode.+write.Given as goal

abbrev pub decreases-write_value : goal.decreases-write_value
decreases-write_value l = 2 * json.depth (data_of (tree_of l.value.now))

abbrev pub decreases-write_items : goal.decreases-write_items
decreases-write_items l = 2 * json.items_depth (items_data (trees_of (list_in l.values.now))) + 1

abbrev pub decreases-write_pairs : goal.decreases-write_pairs
decreases-write_pairs l = 2 * json.members_depth (members_data (pairs_of (list_in l.pairs.now)) json.no_members) + 1

-- what is written, with what is left to write, is the whole
abbrev pub invariant-write_items-loop-item : goal.invariant-write_items-loop-item
invariant-write_items-loop-item l = l.out.list ++ items_text l.later (items_data (trees_of (drop l.item-index l.item-items))) ≡ l.initial.out.list ++ items_text l.initial.later (items_data (trees_of l.item-items))

abbrev pub invariant-write_pairs-loop-member : goal.invariant-write_pairs-loop-member
invariant-write_pairs-loop-member l = l.out.list ++ members_text l.later (members_in (drop l.member-index l.member-items)) ≡ l.initial.out.list ++ members_text l.initial.later (members_in l.member-items)

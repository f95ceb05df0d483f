use Rattle.std.proofs.Common.{ap, arith}
use Rattle.serde_json.specs.Data as json
use Rattle.ng_bencode.specs.Tree.{trees_of}
use Rattle.ng_json.specs.JsonText.{items_data}
use Rattle.ng_json.specs.Members.{members_in}
use Rattle.ng_json.proofs.Places.{item_depth, member_depth}
use Rattle.ng_json.proofs.encode.+write.Goals as goal

pub write_items-write_value-requires : goal.write_items-write_value-requires
write_items-write_value-requires t c =
    let deep = item_depth c.as_slice-item-items.result.now c.loop-item.item-index c.item-item.result (omega arith) c.item-item.is in
    let all = ap (λ vs. json.items_depth (items_data (trees_of vs))) c.as_slice-item-items.ensures in
    (omega (arith, c.decreases, deep, all), tt)

pub write_pairs-write_value-requires : goal.write_pairs-write_value-requires
write_pairs-write_value-requires t c =
    let deep = member_depth c.as_slice-member-items.result.now c.loop-member.member-index c.member-item.result (omega arith) c.member-item.is in
    let items = ap (λ ms. json.members_depth (members_in ms)) c.as_slice-member-items.ensures.value in
    let all = ap json.members_depth c.in_ok-members.ensures in
    (omega (arith, c.decreases, deep, items, all), tt)

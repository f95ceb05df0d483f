use Rattle.std.proofs.Common.{◌≡◌, drop}
use Rattle.serde_json.specs.Data.{no_members}
use Rattle.ng_bencode.specs.Tree.{pairs_of}
use Rattle.ng_json.specs.JsonText.{members_data}
use Rattle.ng_json.specs.Members.{members_in}
use Rattle.ng_json.proofs.encode.sorted.Given as goal

-- the members so far, with those of the pairs that are left, are those of the dictionary
abbrev pub invariant-loop-pair : goal.invariant-loop-pair
invariant-loop-pair l = members_data (pairs_of (drop l.pair-index l.pair-items)) (members_in l.members.items) ≡ members_data (pairs_of l.pair-items) no_members

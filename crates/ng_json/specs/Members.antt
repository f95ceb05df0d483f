-- The members that a list of keys and values stands for.
use Rattle.std.specs.Prelude.{ℕ, List, [], ◌∷◌}
use Rattle.std.specs.Borrow.{Bor}
use Rattle.serde_json.specs.Data as json
use Rattle.ng_bencode.specs.Room.{Room}
use Rattle.ng_bencode.specs.Tree.{tree_of}
use Rattle.ng_bencode.specs.declared.value.Value.{Value}
use Rattle.ng_json.specs.JsonText.{data_of}

abbrev pub members_in : List (Room ℕ × Bor Value) → json.Members
members_in [] = json.no_members
members_in (m ∷ ms) = json.member m.0.list (data_of (tree_of m.1.now)) (members_in ms)

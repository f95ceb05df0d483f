-- The two dialects of control datagrams: bencode and JSON.
use Rattle.std.specs.Prelude.{ℕ, ◌==◌, Bool, true, false, List, [], ◌∷◌}
use Rattle.ng_bencode.specs.Tree.{Tree}
use Rattle.ng_bencode.specs.Spells.{Spells, spelling}
use Rattle.ng_json.specs.Twins as twins
use Rattle.ng_json.specs.JsonText.{json_text}

-- a body that begins with `{` is JSON, and every other is bencode
abbrev pub is_json : List ℕ → Bool
is_json [] = false
is_json (byte ∷ rest) = byte == 123

-- the text says this value: it spells it in bencode, or it is JSON that says the same
abbrev pub SaysIn : (in_json : Bool) → List ℕ → Tree → Type 0
SaysIn false text tree = Spells text tree
SaysIn true text tree = twins.SaysInJson text tree

-- the text by which a value is written
abbrev pub written_in : (in_json : Bool) → Tree → List ℕ
written_in false tree = spelling tree
written_in true tree = json_text tree

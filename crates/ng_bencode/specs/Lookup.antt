-- What a dictionary has under a key, where a space and a hyphen count as one.
use Rattle.std.specs.Prelude.{ℕ, List, [], ◌∷◌, Bool, true, false, Option, None, Some, ◌==◌, ◌&&◌, if◌then◌else◌}
use Rattle.ng_bencode.specs.Tree.{Tree, Entries, no_entries, entry}

-- a byte, a hyphen for a space
abbrev pub hyphen_for_space : ℕ → ℕ
hyphen_for_space byte = if byte == 32 then 45 else byte

-- byte for byte the same key
abbrev pub is_same_key : List ℕ → List ℕ → Bool
is_same_key [] [] = true
is_same_key [] (b ∷ bs) = false
is_same_key (a ∷ as') [] = false
is_same_key (a ∷ as') (b ∷ bs) = (hyphen_for_space a == hyphen_for_space b) && is_same_key as' bs

-- the value of the first pair whose key is this one
abbrev pub value_at : Entries → List ℕ → Option Tree
value_at no_entries key = None
value_at (entry name tree rest) key = if is_same_key name key then Some tree else value_at rest key

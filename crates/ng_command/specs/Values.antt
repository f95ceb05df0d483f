-- What may stand under a key of a command.
use Rattle.std.specs.Prelude.{ℕ, List, [], ◌∷◌, length, Bool, true, false, not, ◌&&◌, Option, Some, None, nat_lt, nat_le, is_some}
use Rattle.std.specs.List.{list_any}
use Rattle.std.specs.Str.{bytes_eq}
use Rattle.ng_bencode.specs.Tree.{Tree, Int, Bytes, Items, Dict, Trees, no_items, item, Entries}
use Rattle.ng_bencode.specs.Lookup.{value_at, is_same_key}

-- a byte string
abbrev pub string_of : Option Tree → Option (List ℕ)
string_of None = None
string_of (Some (Int z)) = None
string_of (Some (Bytes text)) = Some text
string_of (Some (Items items)) = None
string_of (Some (Dict pairs)) = None

abbrev pub text_at : Entries → List ℕ → Option (List ℕ)
text_at pairs key = string_of (value_at pairs key)

-- a call-id or a tag has 1 to 255 bytes
abbrev pub is_name : Option (List ℕ) → Bool
is_name None = false
is_name (Some text) = nat_lt 0 (length text) && nat_le (length text) 255

-- the byte strings among the values of a list
abbrev pub texts_in : Trees → List (List ℕ)
texts_in no_items = []
texts_in (item (Int z) rest) = texts_in rest
texts_in (item (Bytes text) rest) = text ∷ texts_in rest
texts_in (item (Items items) rest) = texts_in rest
texts_in (item (Dict pairs) rest) = texts_in rest

-- the words of a list; a byte string is a list of that one word
abbrev pub words_of : Option Tree → List (List ℕ)
words_of None = []
words_of (Some (Int z)) = []
words_of (Some (Bytes text)) = text ∷ []
words_of (Some (Items items)) = texts_in items
words_of (Some (Dict pairs)) = []

-- something is there, and it is neither a list nor a byte string
abbrev pub is_wordless : Option Tree → Bool
is_wordless None = false
is_wordless (Some (Int z)) = true
is_wordless (Some (Bytes text)) = false
is_wordless (Some (Items items)) = false
is_wordless (Some (Dict pairs)) = true

-- one of the words is this one, where a space and a hyphen count as one
abbrev pub has_word : List ℕ → List (List ℕ) → Bool
has_word word words = list_any (λ other. is_same_key other word) words

-- something is there, and it is none of these byte strings
abbrev pub is_other_than : List (List ℕ) → Option Tree → Bool
is_other_than allowed None = false
is_other_than allowed (Some (Int z)) = true
is_other_than allowed (Some (Bytes text)) = not (list_any (λ word. bytes_eq text word) allowed)
is_other_than allowed (Some (Items items)) = true
is_other_than allowed (Some (Dict pairs)) = true

-- a dictionary with this key
abbrev pub has_key : List ℕ → Option Tree → Bool
has_key key None = false
has_key key (Some (Int z)) = false
has_key key (Some (Bytes text)) = false
has_key key (Some (Items items)) = false
has_key key (Some (Dict pairs)) = is_some (value_at pairs key)

-- The byte strings of a value that a JSON text says are no longer than the text.
use Rattle.std.proofs.Common.{◌≡◌, ℕ, zero, suc, ◌+◌, ◌≤◌, Bool, true, false, cond, ◌&&◌, ◌==◌, nat_lt, List, [], ◌∷◌, drop, length, nat_le, Option, Some, None, option_map, option_and_then, unwrap_or, if◌then◌else◌, IfSome, subst, arith}
use Rattle.std.proofs.lemmas.List.{length-append, length-drop}
use Rattle.std.specs.Prelude.{⊤}
use Rattle.std.specs.Char.{encode_utf8}
use Rattle.std.specs.Ordering.{nat_cmp, match_ordering}
use Rattle.std.specs.Cmp.Lexicographic.{slice_cmp}
use Rattle.std.specs.declared.cmp.Ordering.{Ordering}
use Rattle.std.specs.declared.cmp.Ordering.TheVariants.{Less, Equal, Greater}
use Rattle.json.specs.Token.{Token}
use Rattle.json.specs.Text.{code_unit, short_escape, is_high_surrogate, is_low_surrogate, surrogate_pair, Within, plain, after_backslash, after_u, after_high, prepend, content}
use Rattle.json.specs.Word.{word, number_before}
use Rattle.json.specs.Lex.{Lexeme, token, comma, colon, Class, quote, backslash, operator, space, other, class, operator_lexeme, string_token, Mode, between, in_word, in_string, in_escape, lex_byte, lex, Place, fresh, after_value, after_comma, after_key, may_begin, may_close, begins_colon, if_allowed, place_token, punctuate, tokens}
use Rattle.json.specs.Json as tree
use Rattle.json.specs.Json.{Parse, parse_map, after_end_array, read_key, items_step, members_step, items, members, value_with, value, if_last}
use Rattle.serde_json.specs.Data as json
use Rattle.serde_json.specs.Data.{Num, put}
use Rattle.serde_json.specs.Find.{as_i64}
use Rattle.serde_json.specs.Read.{number_of, of_json, of_items, of_members, max_depth, read}
use Rattle.ng_bencode.specs.Tree.{Tree, Int, Items, Dict, item, Entries, no_entries, entry}
use Rattle.ng_command.proofs.Sizes.{TreeIsShort, TreesAreShort, PairsAreShort}
use Rattle.ng_json.specs.Strings.{is_marked, byte_of_digits, bytes_in_hex, bytes_of_string}
use Rattle.ng_json.specs.Twins.{tree_in, trees_in, pairs_in, with_pair_in_order, twin, SaysInJson}

-- ---- what is short

-- a string token has at most n bytes
abbrev IsShort : ℕ → Token → Type 0
IsShort n Token.begin_object = ⊤
IsShort n Token.end_object = ⊤
IsShort n Token.begin_array = ⊤
IsShort n Token.end_array = ⊤
IsShort n (Token.key s) = ⊤
IsShort n (Token.string s) = length s ≤ n
IsShort n (Token.number s) = ⊤
IsShort n (Token.boolean b) = ⊤
IsShort n Token.null = ⊤
IsShort n Token.bad = ⊤

abbrev AreShort : ℕ → List Token → Type 0
AreShort n [] = ⊤
AreShort n (t ∷ ts) = IsShort n t × AreShort n ts

abbrev LexemeIsShort : ℕ → Lexeme → Type 0
LexemeIsShort n (token t) = IsShort n t
LexemeIsShort n comma = ⊤
LexemeIsShort n colon = ⊤

abbrev LexemesAreShort : ℕ → List Lexeme → Type 0
LexemesAreShort n [] = ⊤
LexemesAreShort n (l ∷ ls) = LexemeIsShort n l × LexemesAreShort n ls

-- each string of the value has at most n bytes
abbrev mutual
  JsonIsShort : ℕ → tree.Json → Type 0
  JsonIsShort n tree.null = ⊤
  JsonIsShort n (tree.boolean b) = ⊤
  JsonIsShort n (tree.number s) = ⊤
  JsonIsShort n (tree.string s) = length s ≤ n
  JsonIsShort n (tree.array js) = JsonItemsAreShort n js
  JsonIsShort n (tree.object ms) = JsonMembersAreShort n ms

  JsonItemsAreShort : ℕ → tree.Items → Type 0
  JsonItemsAreShort n tree.no_items = ⊤
  JsonItemsAreShort n (tree.item j js) = JsonIsShort n j × JsonItemsAreShort n js

  JsonMembersAreShort : ℕ → tree.Members → Type 0
  JsonMembersAreShort n tree.no_members = ⊤
  JsonMembersAreShort n (tree.member k j ms) = JsonIsShort n j × JsonMembersAreShort n ms

abbrev mutual
  DataIsShort : ℕ → json.Data → Type 0
  DataIsShort n json.null = ⊤
  DataIsShort n (json.boolean b) = ⊤
  DataIsShort n (json.number m) = ⊤
  DataIsShort n (json.string s) = length s ≤ n
  DataIsShort n (json.array ds) = DataItemsAreShort n ds
  DataIsShort n (json.object ms) = DataMembersAreShort n ms

  DataItemsAreShort : ℕ → json.Items → Type 0
  DataItemsAreShort n json.no_items = ⊤
  DataItemsAreShort n (json.item d ds) = DataIsShort n d × DataItemsAreShort n ds

  DataMembersAreShort : ℕ → json.Members → Type 0
  DataMembersAreShort n json.no_members = ⊤
  DataMembersAreShort n (json.member k d ms) = DataIsShort n d × DataMembersAreShort n ms

-- ---- from bytes to tokens

abbrev AtMost : ℕ → Option (List ℕ) → Type 0
AtMost n None = ⊤
AtMost n (Some s) = length s ≤ n

up : (n m : ℕ) (r : Option (List ℕ)) → AtMost m r → m ≤ n → AtMost n r
up n m None h le = tt
up n m (Some s) h le = omega (arith, h, le)

longer : (n m : ℕ) (a : List ℕ) (r : Option (List ℕ)) → AtMost m r → length a + m ≤ n → AtMost n (prepend a r)
longer n m a None h le = tt
longer n m a (Some s) h le = omega (arith, length-append a s, h, le)

text_of_two : (n : ℕ) (b : Bool) (x y : Option (List ℕ)) → AtMost n x → AtMost n y → AtMost n (cond b x y)
text_of_two n true x y h k = h
text_of_two n false x y h k = k

then_text : (n : ℕ) (f : ℕ → Option (List ℕ)) (r : Option ℕ) → ((u : ℕ) → AtMost n (f u)) → AtMost n (option_and_then f r)
then_text n f None h = tt
then_text n f (Some u) h = h u

length-encode : (u : ℕ) → length (encode_utf8 u) ≤ 4
unfolding encode_utf8
length-encode u = grind arith

-- the content of a string is no longer than its text
content_short : (w : Within) (xs : List ℕ) → AtMost (length xs) (content w xs)
unfolding content
content_short plain [] = tt
content_short plain (x ∷ xs) =
    let n = length (x ∷ xs) in
    text_of_two n (x == 34) _ _ (omega arith) (text_of_two n (x == 92) _ _ (up n (length xs) _ (content_short after_backslash xs) (omega arith))
    (text_of_two n (nat_lt x 32) _ _ tt (longer n (length xs) (x ∷ []) _ (content_short plain xs) (omega arith))))
content_short after_backslash [] = tt
content_short after_backslash (x ∷ xs) =
    let n = length (x ∷ xs) in
    text_of_two n (x == 117) _ _ (up n (length xs) _ (content_short after_u xs) (omega arith))
    (then_text n _ (short_escape x) (λ c. longer n (length xs) (c ∷ []) _ (content_short plain xs) (omega arith)))
content_short after_u [] = tt
content_short after_u (a ∷ []) = tt
content_short after_u (a ∷ b ∷ []) = tt
content_short after_u (a ∷ b ∷ c ∷ []) = tt
content_short after_u (a ∷ b ∷ c ∷ d ∷ xs) =
    let n = length (a ∷ b ∷ c ∷ d ∷ xs) in
    then_text n _ (code_unit a b c d) (λ u. text_of_two n (is_high_surrogate u) _ _ (up n (length xs) _ (content_short (after_high u) xs) (omega arith))
    (text_of_two n (is_low_surrogate u) _ _ tt (longer n (length xs) (encode_utf8 u) _ (content_short plain xs) (omega (arith, length-encode u)))))
content_short (after_high h) [] = tt
content_short (after_high h) (s ∷ []) = tt
content_short (after_high h) (s ∷ u ∷ []) = tt
content_short (after_high h) (s ∷ u ∷ a ∷ []) = tt
content_short (after_high h) (s ∷ u ∷ a ∷ b ∷ []) = tt
content_short (after_high h) (s ∷ u ∷ a ∷ b ∷ c ∷ []) = tt
content_short (after_high h) (s ∷ u ∷ a ∷ b ∷ c ∷ d ∷ xs) =
    let n = length (s ∷ u ∷ a ∷ b ∷ c ∷ d ∷ xs) in
    text_of_two n ((s == 92) && (u == 117)) _ _ (then_text n _ (code_unit a b c d) (λ l. text_of_two n (is_low_surrogate l) _ _
    (longer n (length xs) (encode_utf8 (surrogate_pair h l)) _ (content_short plain xs) (omega (arith, length-encode (surrogate_pair h l)))) tt)) tt

string_short : (n : ℕ) (r : Option (List ℕ)) → AtMost n r → IsShort n (string_token r)
string_short n None h = tt
string_short n (Some s) h = h

lexeme_of_two : (n : ℕ) (b : Bool) (x y : Lexeme) → LexemeIsShort n x → LexemeIsShort n y → LexemeIsShort n (cond b x y)
lexeme_of_two n true x y h k = h
lexeme_of_two n false x y h k = k

token_of_two : (n : ℕ) (b : Bool) (x y : Token) → IsShort n x → IsShort n y → IsShort n (cond b x y)
token_of_two n true x y h k = h
token_of_two n false x y h k = k

operator_short : (n x : ℕ) → LexemeIsShort n (operator_lexeme x)
operator_short n x = search lexeme_of_two depth 12

number_short : (n : ℕ) (t : List ℕ) (r : Option (List ℕ)) → IsShort n (number_before t r)
number_short n t None = tt
number_short n t (Some rest) = search token_of_two

word_short : (n : ℕ) (t : List ℕ) → IsShort n (word t)
unfolding word
word_short n t = search (token_of_two, number_short)

byte_short : (m : Mode) (c : Class) (x : ℕ) (xs : List ℕ) (n : ℕ) (k : Mode → List Lexeme) → length xs ≤ n → ((next : Mode) → LexemesAreShort n (k next)) → LexemesAreShort n (lex_byte m c x xs k)
byte_short between quote x xs n k le h =
    (string_short n (content plain xs) (up n (length xs) (content plain xs) (content_short plain xs) le), h in_string)
byte_short between backslash x xs n k le h = (tt, h in_word)
byte_short between operator x xs n k le h = (operator_short n x, h between)
byte_short between space x xs n k le h = h between
byte_short between other x xs n k le h = (word_short n (x ∷ xs), h in_word)
byte_short in_word quote x xs n k le h = h in_word
byte_short in_word backslash x xs n k le h = h in_word
byte_short in_word operator x xs n k le h = (operator_short n x, h between)
byte_short in_word space x xs n k le h = h between
byte_short in_word other x xs n k le h = h in_word
byte_short in_string quote x xs n k le h = h between
byte_short in_string backslash x xs n k le h = h in_escape
byte_short in_string operator x xs n k le h = h in_string
byte_short in_string space x xs n k le h = h in_string
byte_short in_string other x xs n k le h = h in_string
byte_short in_escape c x xs n k le h = h in_string

lex_short : (n : ℕ) (m : Mode) (xs : List ℕ) → length xs ≤ n → LexemesAreShort n (lex m xs)
unfolding lex
lex_short n m [] le = tt
lex_short n m (x ∷ xs) le =
    byte_short m (class x) x xs n (λ next. lex next xs) (omega (arith, le)) (λ next. lex_short n next xs (omega (arith, le)))

allowed_short : (n : ℕ) (b : Bool) (t : Token) (k : Place → List Token) (next : Place) → IsShort n t → AreShort n (k next) → AreShort n (if_allowed b t k next)
allowed_short n true t k next h hs = (h, hs)
allowed_short n false t k next h hs = (tt, tt)

placed_short : (n : ℕ) (p : Place) (t : Token) (b : Bool) (k : Place → List Token) → IsShort n t → ((next : Place) → AreShort n (k next)) → AreShort n (place_token p t b k)
placed_short n p Token.begin_object b k h hs = allowed_short n (may_begin p) Token.begin_object k fresh tt (hs fresh)
placed_short n p Token.end_object b k h hs = allowed_short n (may_close p) Token.end_object k after_value tt (hs after_value)
placed_short n p Token.begin_array b k h hs = allowed_short n (may_begin p) Token.begin_array k fresh tt (hs fresh)
placed_short n p Token.end_array b k h hs = allowed_short n (may_close p) Token.end_array k after_value tt (hs after_value)
placed_short n p (Token.key s) b k h hs = (tt, tt)
placed_short n p (Token.string s) true k h hs = allowed_short n (may_begin p) (Token.key s) k after_key tt (hs after_key)
placed_short n p (Token.string s) false k h hs = allowed_short n (may_begin p) (Token.string s) k after_value h (hs after_value)
placed_short n p (Token.number s) b k h hs = allowed_short n (may_begin p) (Token.number s) k after_value tt (hs after_value)
placed_short n p (Token.boolean c) b k h hs = allowed_short n (may_begin p) (Token.boolean c) k after_value tt (hs after_value)
placed_short n p Token.null b k h hs = allowed_short n (may_begin p) Token.null k after_value tt (hs after_value)
placed_short n p Token.bad b k h hs = (tt, tt)

punctuated_short : (n : ℕ) (p : Place) (ls : List Lexeme) → LexemesAreShort n ls → AreShort n (punctuate p ls)
unfolding punctuate
punctuated_short n fresh [] h = tt
punctuated_short n after_value [] h = tt
punctuated_short n after_comma [] h = (tt, tt)
punctuated_short n after_key [] h = (tt, tt)
punctuated_short n fresh (token t ∷ ls) h =
    placed_short n fresh t (begins_colon ls) (λ next. punctuate next ls) h.0 (λ next. punctuated_short n next ls h.1)
punctuated_short n after_value (token t ∷ ls) h =
    placed_short n after_value t (begins_colon ls) (λ next. punctuate next ls) h.0 (λ next. punctuated_short n next ls h.1)
punctuated_short n after_comma (token t ∷ ls) h =
    placed_short n after_comma t (begins_colon ls) (λ next. punctuate next ls) h.0 (λ next. punctuated_short n next ls h.1)
punctuated_short n after_key (token t ∷ ls) h =
    placed_short n after_key t (begins_colon ls) (λ next. punctuate next ls) h.0 (λ next. punctuated_short n next ls h.1)
punctuated_short n fresh (comma ∷ ls) h = (tt, tt)
punctuated_short n after_value (comma ∷ ls) h = punctuated_short n after_comma ls h.1
punctuated_short n after_comma (comma ∷ ls) h = (tt, tt)
punctuated_short n after_key (comma ∷ ls) h = (tt, tt)
punctuated_short n fresh (colon ∷ ls) h = (tt, tt)
punctuated_short n after_value (colon ∷ ls) h = (tt, tt)
punctuated_short n after_comma (colon ∷ ls) h = (tt, tt)
punctuated_short n after_key (colon ∷ ls) h = punctuated_short n fresh ls h.1

tokens_short : (text : List ℕ) → AreShort (length text) (tokens text)
tokens_short text = punctuated_short (length text) fresh (lex between text) (lex_short (length text) between text (omega arith))

-- ---- from tokens to a value

-- what was parsed is so, and the tokens that are left are short
abbrev Parsed : {A : Type 0} → ℕ → (A → Type 0) → Option (A × List Token) → Type 0
Parsed n Is None = ⊤
Parsed n Is (Some p) = Is p.0 × AreShort n p.1

mapped : {A B : Type 0} (n : ℕ) (Is : A → Type 0) (Are : B → Type 0) (f : A → B) → ((a : A) → Is a → Are (f a)) → (r : Option (A × List Token)) → Parsed n Is r → Parsed n Are (parse_map f r)
mapped n Is Are f g None h = tt
mapped n Is Are f g (Some p) h = (g p.0 h.0, h.1)

end_short : (n : ℕ) (ts : List Token) → AreShort n ts → IfSome (after_end_array ts) (λ rest. AreShort n rest)
end_short n [] h = tt
end_short n (Token.begin_object ∷ ts) h = tt
end_short n (Token.end_object ∷ ts) h = tt
end_short n (Token.begin_array ∷ ts) h = tt
end_short n (Token.end_array ∷ ts) h = h.1
end_short n (Token.key s ∷ ts) h = tt
end_short n (Token.string s ∷ ts) h = tt
end_short n (Token.number s ∷ ts) h = tt
end_short n (Token.boolean b ∷ ts) h = tt
end_short n (Token.null ∷ ts) h = tt
end_short n (Token.bad ∷ ts) h = tt

key_short : (n : ℕ) (ts : List Token) → AreShort n ts → Parsed n (λ (k : Option (List ℕ)). ⊤) (read_key ts)
key_short n [] h = tt
key_short n (Token.begin_object ∷ ts) h = tt
key_short n (Token.end_object ∷ ts) h = (tt, h.1)
key_short n (Token.begin_array ∷ ts) h = tt
key_short n (Token.end_array ∷ ts) h = tt
key_short n (Token.key s ∷ ts) h = (tt, h.1)
key_short n (Token.string s ∷ ts) h = tt
key_short n (Token.number s ∷ ts) h = tt
key_short n (Token.boolean b ∷ ts) h = tt
key_short n (Token.null ∷ ts) h = tt
key_short n (Token.bad ∷ ts) h = tt

abbrev Keeps : {A : Type 0} → ℕ → (A → Type 0) → Parse A → Type 0
Keeps n Is parse = (ts : List Token) → AreShort n ts → Parsed n Is (parse ts)

one_item : (n : ℕ) (more : Parse tree.Items) → Keeps n (JsonItemsAreShort n) more → (r : Option (tree.Json × List Token)) → Parsed n (JsonIsShort n) r
    → Parsed n (JsonItemsAreShort n) (option_and_then (λ p. parse_map (tree.item p.0) (more p.1)) r)
one_item n more m None h = tt
one_item n more m (Some p) h = mapped n (JsonItemsAreShort n) (JsonItemsAreShort n) (tree.item p.0) (λ js k. (h.0, k)) (more p.1) (m p.1 h.1)

item_step : (n : ℕ) (parse : Parse tree.Json) (more : Parse tree.Items) → Keeps n (JsonIsShort n) parse → Keeps n (JsonItemsAreShort n) more → (ts : List Token) → AreShort n ts
    → (r : Option (List Token)) → IfSome r (λ rest. AreShort n rest) → Parsed n (JsonItemsAreShort n) (items_step parse more ts r)
item_step n parse more v m ts h None e = one_item n more m (parse ts) (v ts h)
item_step n parse more v m ts h (Some rest) e = (tt, e)

items_short : (n : ℕ) (parse : Parse tree.Json) → Keeps n (JsonIsShort n) parse → (turns : ℕ) → Keeps n (JsonItemsAreShort n) (items parse turns)
unfolding items
items_short n parse v zero ts h = tt
items_short n parse v (suc turns) ts h = item_step n parse (items parse turns) v (items_short n parse v turns) ts h (after_end_array ts) (end_short n ts h)

one_member : (n : ℕ) (k : List ℕ) (more : Parse tree.Members) → Keeps n (JsonMembersAreShort n) more → (r : Option (tree.Json × List Token)) → Parsed n (JsonIsShort n) r
    → Parsed n (JsonMembersAreShort n) (option_and_then (λ p. parse_map (tree.member k p.0) (more p.1)) r)
one_member n k more m None h = tt
one_member n k more m (Some p) h = mapped n (JsonMembersAreShort n) (JsonMembersAreShort n) (tree.member k p.0) (λ ms l. (h.0, l)) (more p.1) (m p.1 h.1)

member_step : (n : ℕ) (parse : Parse tree.Json) (more : Parse tree.Members) → Keeps n (JsonIsShort n) parse → Keeps n (JsonMembersAreShort n) more → (key : Option (List ℕ)) (ts : List Token)
    → AreShort n ts → Parsed n (JsonMembersAreShort n) (members_step parse more key ts)
member_step n parse more v m None ts h = (tt, h)
member_step n parse more v m (Some k) ts h = one_member n k more m (parse ts) (v ts h)

after_key_short : (n : ℕ) (parse : Parse tree.Json) (more : Parse tree.Members) → Keeps n (JsonIsShort n) parse → Keeps n (JsonMembersAreShort n) more
    → (r : Option (Option (List ℕ) × List Token)) → Parsed n (λ (k : Option (List ℕ)). ⊤) r → Parsed n (JsonMembersAreShort n) (option_and_then (λ p. members_step parse more p.0 p.1) r)
after_key_short n parse more v m None h = tt
after_key_short n parse more v m (Some p) h = member_step n parse more v m p.0 p.1 h.1

members_short : (n : ℕ) (parse : Parse tree.Json) → Keeps n (JsonIsShort n) parse → (turns : ℕ) → Keeps n (JsonMembersAreShort n) (members parse turns)
unfolding members
members_short n parse v zero ts h = tt
members_short n parse v (suc turns) ts h = after_key_short n parse (members parse turns) v (members_short n parse v turns) (read_key ts) (key_short n ts h)

with_short : (n : ℕ) (a : Parse tree.Items) (o : Parse tree.Members) → Keeps n (JsonItemsAreShort n) a → Keeps n (JsonMembersAreShort n) o → Keeps n (JsonIsShort n) (value_with a o)
with_short n a o f g [] h = tt
with_short n a o f g (Token.begin_object ∷ ts) h = mapped n (JsonMembersAreShort n) (JsonIsShort n) tree.object (λ ms k. k) (o ts) (g ts h.1)
with_short n a o f g (Token.end_object ∷ ts) h = tt
with_short n a o f g (Token.begin_array ∷ ts) h = mapped n (JsonItemsAreShort n) (JsonIsShort n) tree.array (λ js k. k) (a ts) (f ts h.1)
with_short n a o f g (Token.end_array ∷ ts) h = tt
with_short n a o f g (Token.key s ∷ ts) h = tt
with_short n a o f g (Token.string s ∷ ts) h = (h.0, h.1)
with_short n a o f g (Token.number s ∷ ts) h = (tt, h.1)
with_short n a o f g (Token.boolean b ∷ ts) h = (tt, h.1)
with_short n a o f g (Token.null ∷ ts) h = (tt, h.1)
with_short n a o f g (Token.bad ∷ ts) h = tt

value_short : (n depth : ℕ) → Keeps n (JsonIsShort n) (value depth)
unfolding value
value_short n zero ts h = with_short n (λ us. None) (λ us. None) (λ us k. tt) (λ us k. tt) ts h
value_short n (suc depth) ts h =
    with_short n (λ us. items (value depth) (length us) us) (λ us. members (value depth) (length us) us) (λ us k. items_short n (value depth) (value_short n depth) (length us) us k)
    (λ us k. members_short n (value depth) (value_short n depth) (length us) us k) ts h

last_short : (n : ℕ) (j : tree.Json) (ts : List Token) → JsonIsShort n j → IfSome (if_last j ts) (JsonIsShort n)
last_short n j [] h = h
last_short n j (t ∷ ts) h = tt

whole_short : (n : ℕ) (r : Option (tree.Json × List Token)) → Parsed n (JsonIsShort n) r → IfSome (option_and_then (λ p. if_last p.0 p.1) r) (JsonIsShort n)
whole_short n None h = tt
whole_short n (Some p) h = last_short n p.0 p.1 h.0

-- ---- from a value to its twin

put_short : (n : ℕ) (k : List ℕ) (d : json.Data) (ms : json.Members) → DataIsShort n d → DataMembersAreShort n ms → DataMembersAreShort n (put k d ms)
put_short n k d json.no_members h hs = (h, tt)
put_short n k d (json.member l e ms) h hs = by (slice_cmp nat_cmp k l) (put_short n k d ms h hs.1)
  where
    by : (at : Ordering) → DataMembersAreShort n (put k d ms)
        → DataMembersAreShort n (match_ordering at (json.member k d (json.member l e ms)) (json.member l d ms) (json.member l e (put k d ms)))
    by Less more = (h, hs)
    by Equal more = (h, hs.1)
    by Greater more = (hs.0, more)

map_some : {A B : Type 0} (Is : A → Type 0) (Are : B → Type 0) (f : A → B) → ((a : A) → Is a → Are (f a)) → (r : Option A) → IfSome r Is → IfSome (option_map f r) Are
map_some Is Are f g None h = tt
map_some Is Are f g (Some a) h = g a h

then_some : {A B : Type 0} (Is : A → Type 0) (Are : B → Type 0) (f : A → Option B) → ((a : A) → Is a → IfSome (f a) Are) → (r : Option A) → IfSome r Is → IfSome (option_and_then f r) Are
then_some Is Are f g None h = tt
then_some Is Are f g (Some a) h = g a h

any_some : {A : Type 0} (r : Option A) → IfSome r (λ a. ⊤)
any_some None = tt
any_some (Some a) = tt

mutual
  data_short : (n : ℕ) (j : tree.Json) → JsonIsShort n j → IfSome (of_json j) (DataIsShort n)
  data_short n tree.null h = tt
  data_short n (tree.boolean b) h = tt
  data_short n (tree.number s) h = map_some (λ (m : Num). ⊤) (DataIsShort n) json.number (λ m k. tt) (number_of s) (any_some (number_of s))
  data_short n (tree.string s) h = h
  data_short n (tree.array js) h = map_some (DataItemsAreShort n) (DataIsShort n) json.array (λ ds k. k) (of_items js) (data_items_short n js h)
  data_short n (tree.object ms) h = map_some (DataMembersAreShort n) (DataIsShort n) json.object (λ found k. k) (of_members ms json.no_members) (data_members_short n ms json.no_members h tt)

  data_items_short : (n : ℕ) (js : tree.Items) → JsonItemsAreShort n js → IfSome (of_items js) (DataItemsAreShort n)
  data_items_short n tree.no_items h = tt
  data_items_short n (tree.item j js) h =
      then_some (DataIsShort n) (DataItemsAreShort n) (λ d. option_map (json.item d) (of_items js))
      (λ d k. map_some (DataItemsAreShort n) (DataItemsAreShort n) (json.item d) (λ ds l. (k, l)) (of_items js) (data_items_short n js h.1)) (of_json j) (data_short n j h.0)

  data_members_short : (n : ℕ) (ms : tree.Members) (found : json.Members) → JsonMembersAreShort n ms → DataMembersAreShort n found → IfSome (of_members ms found) (DataMembersAreShort n)
  data_members_short n tree.no_members found h hs = hs
  data_members_short n (tree.member k j ms) found h hs =
      then_some (DataIsShort n) (DataMembersAreShort n) (λ d. of_members ms (put k d found))
      (λ d l. data_members_short n ms (put k d found) h.1 (put_short n k d found l hs)) (of_json j) (data_short n j h.0)

hex_short : (digits : List ℕ) → AtMost (length digits) (bytes_in_hex digits)
unfolding bytes_in_hex
hex_short [] = omega arith
hex_short (high ∷ []) = tt
hex_short (high ∷ low ∷ rest) = by (byte_of_digits high low) (bytes_in_hex rest) (hex_short rest)
  where
    by : (b : Option ℕ) (r : Option (List ℕ)) → AtMost (length rest) r → AtMost (length (high ∷ low ∷ rest)) (option_and_then (λ byte. option_map (λ bytes. byte ∷ bytes) r) b)
    by None r h = tt
    by (Some byte) None h = tt
    by (Some byte) (Some bytes) h = omega (arith, h)

unwrapped_short : (n : ℕ) (text : List ℕ) (r : Option (List ℕ)) → AtMost n r → n ≤ length text → length (unwrap_or r text) ≤ length text
unwrapped_short n text None h le = omega arith
unwrapped_short n text (Some s) h le = omega (arith, h, le)

string_bytes_short : (text : List ℕ) → length (bytes_of_string text) ≤ length text
string_bytes_short text = by (is_marked text)
  where
    by : (b : Bool) → length (if b then unwrap_or (bytes_in_hex (drop 2 text)) text else text) ≤ length text
    by true = unwrapped_short (length (drop 2 text)) text (bytes_in_hex (drop 2 text)) (hex_short (drop 2 text)) (omega (arith, length-drop 2 text))
    by false = omega arith

pair_short : (n : ℕ) (key : List ℕ) (t : Tree) (found : Entries) → TreeIsShort n t → PairsAreShort n found → IfSome (with_pair_in_order key t found) (PairsAreShort n)
pair_short n key t no_entries h hs = (h, tt)
pair_short n key t (entry name u rest) h hs = by (slice_cmp nat_cmp key name) (with_pair_in_order key t rest) (pair_short n key t rest h hs.1)
  where
    by : (at : Ordering) (r : Option Entries) → IfSome r (PairsAreShort n)
        → IfSome (match_ordering at (Some (entry key t (entry name u rest))) None (option_map (entry name u) r)) (PairsAreShort n)
    by Less r more = (h, hs)
    by Equal r more = tt
    by Greater r more = map_some (PairsAreShort n) (PairsAreShort n) (entry name u) (λ es k. (hs.0, k)) r more

mutual
  tree_short : (n : ℕ) (d : json.Data) → DataIsShort n d → IfSome (tree_in d) (TreeIsShort n)
  tree_short n json.null h = tt
  tree_short n (json.boolean b) h = tt
  tree_short n (json.number m) h = map_some (λ z. ⊤) (TreeIsShort n) Int (λ z k. tt) (as_i64 m) (any_some (as_i64 m))
  tree_short n (json.string s) h = omega (arith, string_bytes_short s, h)
  tree_short n (json.array ds) h = map_some (TreesAreShort n) (TreeIsShort n) Items (λ ts k. k) (trees_in ds) (trees_short n ds h)
  tree_short n (json.object ms) h = map_some (PairsAreShort n) (TreeIsShort n) Dict (λ es k. k) (pairs_in ms no_entries) (pairs_short n ms no_entries h tt)

  trees_short : (n : ℕ) (ds : json.Items) → DataItemsAreShort n ds → IfSome (trees_in ds) (TreesAreShort n)
  trees_short n json.no_items h = tt
  trees_short n (json.item d ds) h =
      then_some (TreeIsShort n) (TreesAreShort n) (λ t. option_map (item t) (trees_in ds))
      (λ t k. map_some (TreesAreShort n) (TreesAreShort n) (item t) (λ ts l. (k, l)) (trees_in ds) (trees_short n ds h.1)) (tree_in d) (tree_short n d h.0)

  pairs_short : (n : ℕ) (ms : json.Members) (found : Entries) → DataMembersAreShort n ms → PairsAreShort n found → IfSome (pairs_in ms found) (PairsAreShort n)
  pairs_short n json.no_members found h hs = hs
  pairs_short n (json.member text d ms) found h hs =
      then_some (TreeIsShort n) (PairsAreShort n) (λ t. option_and_then (λ more. pairs_in ms more) (with_pair_in_order (bytes_of_string text) t found))
      (λ t k. then_some (PairsAreShort n) (PairsAreShort n) (λ more. pairs_in ms more) (λ more l. pairs_short n ms more h.1 l) (with_pair_in_order (bytes_of_string text) t found)
      (pair_short n (bytes_of_string text) t found k hs))
      (tree_in d) (tree_short n d h.0)

-- ---- the whole

read_short : (text : List ℕ) → IfSome (read text) (DataIsShort (length text))
read_short text =
    then_some (JsonIsShort (length text)) (DataIsShort (length text)) of_json (λ j h. data_short (length text) j h)
    (option_and_then (λ p. if_last p.0 p.1) (value max_depth (tokens text))) (whole_short (length text) (value max_depth (tokens text)) (value_short (length text) max_depth (tokens text) (tokens_short text)))

taken : {A : Type 0} (Is : A → Type 0) (r : Option A) (a : A) → IfSome r Is → r ≡ Some a → Is a
taken Is r a h e = subst (λ o. IfSome o Is) e h

unless_deep : (n : ℕ) (b : Bool) (d : json.Data) → DataIsShort n d → IfSome (cond b (tree_in d) None) (TreeIsShort n)
unless_deep n true d h = tree_short n d h
unless_deep n false d h = tt

twin_short : (n : ℕ) (d : json.Data) → DataIsShort n d → IfSome (twin d) (TreeIsShort n)
unfolding twin
twin_short n d h = unless_deep n (nat_le (json.depth d) 16) d h

-- the byte strings of a value that a text says are no longer than the text
pub says_short : (text : List ℕ) (tree : Tree) → SaysInJson text tree → TreeIsShort (length text) tree
says_short text tree says =
    taken (TreeIsShort (length text)) (twin says.value) tree
    (twin_short (length text) says.value (taken (DataIsShort (length text)) (read text) says.value (read_short text) says.is_json.is)) says.is_twin

-- What was written is read as what it was written for.
use Rattle.std.proofs.Common.{◌≡◌, ℕ, ℤ, pos, negsuc, suc, ◌≤◌, ◌^◌, max, Bool, true, false, List, [], ◌∷◌, ◌++◌, Some, option_map, option_and_then, FitsSigned, IsUtf8, decimal, refl, sym, ap, ap₂, ◌∙◌, subst, arith, append-nil, lt-ltb}
use Rattle.std.proofs.lemmas.Fmt.{IsAscii-decimal, IsAscii-signed}
use Rattle.std.proofs.lemmas.Str.{IsUtf8-append, IsUtf8-nil, IsUtf8-from_ascii}
use Rattle.std.specs.Fmt.{signed_decimal}
use Rattle.std.specs.Int.{w64}
use Rattle.std.specs.Ordering.{match_ordering}
use Rattle.std.specs.declared.cmp.Ordering.{Ordering}
use Rattle.std.specs.declared.cmp.Ordering.TheVariants.{Less, Equal, Greater}
use Rattle.json.specs.Json as tree
use Rattle.json.specs.Lex.{tokens}
use Rattle.json.specs.Print.{quoted, ArePrintable, IsNumber}
use Rattle.json.specs.Token.{Token}
use Rattle.json.specs.Tree.{json_tokens, items_tokens, members_tokens}
use Rattle.json.specs.Tree as trees
use Rattle.json.proofs.Printed.Decimals.{IsNumber-decimal, IsNumber-signed_decimal}
use Rattle.json.proofs.Printed.Tokens.{tokens-print}
use Rattle.json.proofs.Printed.Trees.{value-json_tokens}
use Rattle.json.proofs.Printed.Utf8.{IsUtf8-are_ascii, IsUtf8-quoted}
use Rattle.serde_json.specs.Data as json
use Rattle.serde_json.specs.Find.{of_integer, as_i64}
use Rattle.serde_json.specs.Read.{number_of, of_json, of_items, of_members, read, max_depth}
use Rattle.serde_json.specs.Written.{number_text, outline, items_outline, members_outline, comma_if, compact_text, items_text, members_text}
use Rattle.serde_json.proofs.Numbers.{number_of-decimal, number_of-negative}
use Rattle.serde_json.proofs.Texts.{print-outline}
use Rattle.ng_bencode.specs.Tree.{Tree, Int, Bytes, Items, Dict, Trees, no_items, item, Entries, no_entries, entry, depth, items_depth, entries_depth}
use Rattle.ng_json.specs.Strings.{bytes_of_string, string_of_bytes}
use Rattle.ng_json.specs.Twins.{tree_in, trees_in, pairs_in, with_pair_in_order, SaysInJson}
use Rattle.ng_json.specs.JsonText.{data_of, items_data, members_data, with_member, json_text, IsSorted, ItemsAreSorted, PairsAreSorted}
use Rattle.ng_json.proofs.Back.{string_back, string_is_utf8}
use Rattle.ng_json.proofs.Commuting.{order}
use Rattle.ng_json.proofs.Gathering.{just, chain, member_put, with_pairs, Ascend, gathered}
use Rattle.ng_json.proofs.Sorting.{AreOrdered, apart_none, members_ordered, put_all, put_in_order}
use Rattle.ng_json.proofs.Texts.{written}
use Rattle.ng_json.proofs.Trees.{twin_some}

-- ---- the twin of what is written

int_back : (z : ℤ) → FitsSigned w64 z → as_i64 (of_integer z) ≡ Some z
int_back (pos n) h = rw (lt-ltb n (2 ^ 63) (omega (arith, h))) refl
int_back (negsuc n) h = refl

ascend : (es : Entries) → PairsAreSorted es → Ascend es
ascend no_entries h = tt
ascend (entry k t rest) h = (h.2, ascend rest h.3)

mutual
  tree_back : (t : Tree) → IsSorted t → tree_in (data_of t) ≡ Some t
  tree_back (Int z) h = ap (option_map Int) (int_back z h)
  tree_back (Bytes bytes) h = ap (λ b. Some (Bytes b)) (string_back bytes h)
  tree_back (Items items) h = ap (option_map Items) (trees_back items h)
  tree_back (Dict pairs) h = ap (option_map Dict) (pairs_back pairs json.no_members no_entries h ∙ gathered pairs (ascend pairs h))

  trees_back : (ts : Trees) → ItemsAreSorted ts → trees_in (items_data ts) ≡ Some ts
  trees_back no_items h = refl
  trees_back (item t rest) h = rw (tree_back t h.0, trees_back rest h.1) refl

  pairs_back : (es : Entries) (ms : json.Members) (found : Entries) → PairsAreSorted es → pairs_in (members_data es ms) found ≡ option_and_then (λ more. with_pairs es more) (pairs_in ms found)
  pairs_back no_entries ms found h = sym (just (pairs_in ms found))
  pairs_back (entry k t rest) ms found h =
      pairs_back rest (with_member (string_of_bytes k) (data_of t) ms) found h.3
      ∙ ap (option_and_then (λ more. with_pairs rest more)) (member_put (string_of_bytes k) (data_of t) t (tree_back t h.1) ms found)
      ∙ chain (λ more. with_pairs rest more) (λ more. with_pair_in_order (bytes_of_string (string_of_bytes k)) t more) (pairs_in ms found)
      ∙ ap (λ key. option_and_then (λ more. option_and_then (λ m. with_pairs rest m) (with_pair_in_order key t more)) (pairs_in ms found)) (string_back k h.0)

-- ---- its depth

deep_with : (k : List ℕ) (d : json.Data) (ms : json.Members) → json.members_depth (with_member k d ms) ≡ max (json.depth d) (json.members_depth ms)
deep_with k d json.no_members = refl
deep_with k d (json.member l e rest) = by (deep_with k d rest) (order k l)
  where
    by : json.members_depth (with_member k d rest) ≡ max (json.depth d) (json.members_depth rest) → (at : Ordering) → json.members_depth (match_ordering at (json.member k d (json.member l e rest)) (json.member l e (with_member k d rest)) (json.member l e (with_member k d rest)))
        ≡ max (json.depth d) (json.members_depth (json.member l e rest))
    by more Less = refl
    by more Equal = omega (arith, more)
    by more Greater = omega (arith, more)

mutual
  same_depth : (t : Tree) → json.depth (data_of t) ≡ depth t
  same_depth (Int z) = refl
  same_depth (Bytes bytes) = refl
  same_depth (Items items) = omega (arith, same_items_depth items)
  same_depth (Dict pairs) = omega (arith, same_pairs_depth pairs json.no_members)

  same_items_depth : (ts : Trees) → json.items_depth (items_data ts) ≡ items_depth ts
  same_items_depth no_items = refl
  same_items_depth (item t rest) = omega (arith, same_depth t, same_items_depth rest)

  same_pairs_depth : (es : Entries) (ms : json.Members) → json.members_depth (members_data es ms) ≡ max (entries_depth es) (json.members_depth ms)
  same_pairs_depth no_entries ms = omega arith
  same_pairs_depth (entry k t rest) ms =
      omega (arith, same_depth t, same_pairs_depth rest (with_member (string_of_bytes k) (data_of t) ms), deep_with (string_of_bytes k) (data_of t) ms)

-- ---- values that are read as they are written

-- an integer, whose digits are read as it
record IsRead (n : json.Num) : Type 0 where
  is : number_of (number_text n) ≡ Some n
  is_number : IsNumber (number_text n)
  utf8 : IsUtf8 (number_text n)

abbrev mutual
  IsWritten : json.Data → Type 0
  IsWritten json.null = Unit {0}
  IsWritten (json.boolean b) = ⊥
  IsWritten (json.number n) = IsRead n
  IsWritten (json.string text) = IsUtf8 text
  IsWritten (json.array ds) = ItemsAreWritten ds
  IsWritten (json.object ms) = AreOrdered ms × MembersAreWritten ms

  ItemsAreWritten : json.Items → Type 0
  ItemsAreWritten json.no_items = Unit {0}
  ItemsAreWritten (json.item d rest) = IsWritten d × ItemsAreWritten rest

  MembersAreWritten : json.Members → Type 0
  MembersAreWritten json.no_members = Unit {0}
  MembersAreWritten (json.member k d rest) = IsUtf8 k × IsWritten d × MembersAreWritten rest

number_read : (z : ℤ) → FitsSigned w64 z → IsRead (of_integer z)
number_read (pos n) h = record {
  is = number_of-decimal n (omega (arith, h));
  is_number = IsNumber-decimal n (omega (arith, h));
  utf8 = IsUtf8-from_ascii (decimal n) (IsAscii-decimal n (omega (arith, h)));
}
number_read (negsuc n) h = record {
  is = number_of-negative n (omega (arith, h));
  is_number = IsNumber-signed_decimal (negsuc n) (omega (arith, h));
  utf8 = IsUtf8-from_ascii (signed_decimal (negsuc n)) (IsAscii-signed (negsuc n) (omega (arith, h)));
}

written_with : (k : List ℕ) (d : json.Data) (ms : json.Members) → IsUtf8 k → IsWritten d → MembersAreWritten ms → MembersAreWritten (with_member k d ms)
written_with k d json.no_members u w h = (u, w, tt)
written_with k d (json.member l e rest) u w h = by (written_with k d rest u w h.2) (order k l)
  where
    by : MembersAreWritten (with_member k d rest) → (at : Ordering) → MembersAreWritten (match_ordering at (json.member k d (json.member l e rest)) (json.member l e (with_member k d rest)) (json.member l e (with_member k d rest)))
    by more Less = (u, w, h)
    by more Equal = (h.0, h.1, more)
    by more Greater = (h.0, h.1, more)

mutual
  is_written : (t : Tree) → IsSorted t → IsWritten (data_of t)
  is_written (Int z) h = number_read z h
  is_written (Bytes bytes) h = string_is_utf8 bytes h
  is_written (Items items) h = items_are_written items h
  is_written (Dict pairs) h = (members_ordered pairs json.no_members h (apart_none pairs) tt, members_are_written pairs json.no_members h tt)

  items_are_written : (ts : Trees) → ItemsAreSorted ts → ItemsAreWritten (items_data ts)
  items_are_written no_items h = tt
  items_are_written (item t rest) h = (is_written t h.0, items_are_written rest h.1)

  members_are_written : (es : Entries) (ms : json.Members) → PairsAreSorted es → MembersAreWritten ms → MembersAreWritten (members_data es ms)
  members_are_written no_entries ms h w = w
  members_are_written (entry k t rest) ms h w =
      members_are_written rest (with_member (string_of_bytes k) (data_of t) ms) h.3 (written_with (string_of_bytes k) (data_of t) ms (string_is_utf8 k h.0) (is_written t h.1) w)

-- ---- their text

comma_utf8 : (later : Bool) → IsUtf8 (comma_if later)
comma_utf8 true = IsUtf8-are_ascii (44 ∷ []) refl
comma_utf8 false = IsUtf8-nil

mutual
  text_utf8 : (d : json.Data) → IsWritten d → IsUtf8 (compact_text d)
  text_utf8 json.null w = IsUtf8-are_ascii (110 ∷ 117 ∷ 108 ∷ 108 ∷ []) refl
  text_utf8 (json.boolean b) w = absurd w
  text_utf8 (json.number n) w = w.utf8
  text_utf8 (json.string text) w = IsUtf8-quoted text w
  text_utf8 (json.array ds) w = IsUtf8-append (91 ∷ []) (items_text false ds) (IsUtf8-are_ascii (91 ∷ []) refl) (items_utf8 false ds w)
  text_utf8 (json.object ms) w = IsUtf8-append (123 ∷ []) (members_text false ms) (IsUtf8-are_ascii (123 ∷ []) refl) (members_utf8 false ms w.1)

  items_utf8 : (later : Bool) (ds : json.Items) → ItemsAreWritten ds → IsUtf8 (items_text later ds)
  items_utf8 later json.no_items w = IsUtf8-are_ascii (93 ∷ []) refl
  items_utf8 later (json.item d rest) w = IsUtf8-append (comma_if later) _ (comma_utf8 later) (IsUtf8-append (compact_text d) _ (text_utf8 d w.0) (items_utf8 true rest w.1))

  members_utf8 : (later : Bool) (ms : json.Members) → MembersAreWritten ms → IsUtf8 (members_text later ms)
  members_utf8 later json.no_members w = IsUtf8-are_ascii (125 ∷ []) refl
  members_utf8 later (json.member k d rest) w =
      IsUtf8-append (comma_if later) _ (comma_utf8 later)
      (IsUtf8-append (quoted k) _ (IsUtf8-quoted k w.0) (IsUtf8-append (58 ∷ []) _ (IsUtf8-are_ascii (58 ∷ []) refl) (IsUtf8-append (compact_text d) _ (text_utf8 d w.1) (members_utf8 true rest w.2))))

-- ---- their tokens

printable_append : (ts us : List Token) → ArePrintable ts → ArePrintable us → ArePrintable (ts ++ us)
unfolding ArePrintable
printable_append [] us h k = k
printable_append (t ∷ ts) us h k = (h.0, printable_append ts us h.1 k)

mutual
  unfolding ArePrintable

  printable : (d : json.Data) → IsWritten d → ArePrintable (json_tokens (outline d))
  printable json.null w = (tt, tt)
  printable (json.boolean b) w = absurd w
  printable (json.number n) w = (w.is_number, tt)
  printable (json.string text) w = (tt, tt)
  printable (json.array ds) w = (tt, items_printable ds w)
  printable (json.object ms) w = (tt, members_printable ms w.1)

  items_printable : (ds : json.Items) → ItemsAreWritten ds → ArePrintable (items_tokens (items_outline ds))
  items_printable json.no_items w = (tt, tt)
  items_printable (json.item d rest) w = printable_append _ _ (printable d w.0) (items_printable rest w.1)

  members_printable : (ms : json.Members) → MembersAreWritten ms → ArePrintable (members_tokens (members_outline ms))
  members_printable json.no_members w = (tt, tt)
  members_printable (json.member k d rest) w = (tt, printable_append _ _ (printable d w.1) (members_printable rest w.2))

mutual
  outline_depth : (d : json.Data) → trees.depth (outline d) ≡ json.depth d
  outline_depth json.null = refl
  outline_depth (json.boolean b) = refl
  outline_depth (json.number n) = refl
  outline_depth (json.string text) = refl
  outline_depth (json.array ds) = ap suc (items_outline_depth ds)
  outline_depth (json.object ms) = ap suc (members_outline_depth ms)

  items_outline_depth : (ds : json.Items) → trees.items_depth (items_outline ds) ≡ json.items_depth ds
  items_outline_depth json.no_items = refl
  items_outline_depth (json.item d rest) = ap₂ max (outline_depth d) (items_outline_depth rest)

  members_outline_depth : (ms : json.Members) → trees.members_depth (members_outline ms) ≡ json.members_depth ms
  members_outline_depth json.no_members = refl
  members_outline_depth (json.member k d rest) = ap₂ max (outline_depth d) (members_outline_depth rest)

mutual
  outline_read : (d : json.Data) → IsWritten d → of_json (outline d) ≡ Some d
  outline_read json.null w = refl
  outline_read (json.boolean b) w = refl
  outline_read (json.number n) w = ap (option_map json.number) w.is
  outline_read (json.string text) w = refl
  outline_read (json.array ds) w = ap (option_map json.array) (items_read ds w)
  outline_read (json.object ms) w = ap (option_map json.object) (members_read ms json.no_members w.1 ∙ ap Some (put_in_order ms w.0))

  items_read : (ds : json.Items) → ItemsAreWritten ds → of_items (items_outline ds) ≡ Some ds
  items_read json.no_items w = refl
  items_read (json.item d rest) w = rw (outline_read d w.0, items_read rest w.1) refl

  members_read : (ms found : json.Members) → MembersAreWritten ms → of_members (members_outline ms) found ≡ Some (put_all ms found)
  members_read json.no_members found w = refl
  members_read (json.member k d rest) found w = rw (outline_read d w.1) (members_read rest (json.put k d found) w.2)

text_read : (d : json.Data) → IsWritten d → json.depth d ≤ 127 → read (compact_text d) ≡ Some d
text_read d w shallow =
    let shown : tokens (compact_text d) ≡ json_tokens (outline d) = ap tokens (sym (print-outline d)) ∙ tokens-print (json_tokens (outline d)) (printable d w) in
    let parsed : tree.value max_depth (tokens (compact_text d)) ≡ Some (outline d, []) =
    ap (tree.value max_depth) (shown ∙ sym (append-nil (json_tokens (outline d)))) ∙ value-json_tokens (outline d) max_depth [] (omega (arith, outline_depth d, shallow)) in
    rw parsed (outline_read d w)

pub says_back : (t : Tree) → IsSorted t → depth t ≤ 16 → SaysInJson (json_text t) t
says_back t sorted shallow =
    let w = is_written t sorted in
    let deep = same_depth t in
    subst (λ text. SaysInJson text t) (written t) (record {
      value = data_of t;
      is_json = record { utf8 = text_utf8 (data_of t) w; is = text_read (data_of t) w (omega (arith, deep, shallow)) };
      is_twin = twin_some (data_of t) t (omega (arith, deep, shallow)) (tree_back t sorted);
    })

-- The members of an object as they are written stand in their order.
use Rattle.std.proofs.Common.{◌≡◌, ℕ, Bool, true, false, cond, List, [], ◌∷◌, refl, sym, ap, ◌∙◌}
use Rattle.std.proofs.lemmas.Cmp.{nat_list_cmp_total}
use Rattle.std.proofs.lemmas.List.Sorted.{ranks_by}
use Rattle.std.specs.Cmp.{IsStrictWeakOrder}
use Rattle.std.specs.Cmp.Lexicographic.{slice_cmp}
use Rattle.std.specs.Ordering.{nat_cmp, match_ordering, is_lt}
use Rattle.std.specs.declared.cmp.Ordering.{Ordering}
use Rattle.std.specs.declared.cmp.Ordering.TheVariants.{Less, Equal, Greater}
use Rattle.serde_json.specs.Data as json
use Rattle.ng_bencode.specs.Tree.{Tree, Int, Bytes, Items, Dict, Trees, no_items, item, Entries, no_entries, entry}
use Rattle.ng_json.specs.Strings.{string_of_bytes}
use Rattle.ng_json.specs.JsonText.{data_of, items_data, members_data, with_member}
use Rattle.ng_json.specs.Order.{Member, json_items, members_of, AreInByteOrder, IsWrittenAs, ItemsAreWrittenAs, PairsAreWrittenAs, IsInByteOrder}
use Rattle.ng_json.proofs.Ordered.{put, put_all, sorted, Sorts, all_sorted, none_sorted}
use Rattle.ng_json.proofs.Texts.{written}

abbrev lower : Member → Member → Bool
lower a b = is_lt (slice_cmp nat_cmp a.0 b.0)

lower_ranks : IsStrictWeakOrder lower
lower_ranks = ranks_by nat_list_cmp_total (λ (m : Member). m.0)

at_place : (o : Ordering) (a b : json.Members) → match_ordering o a b b ≡ cond (is_lt o) a b
at_place Less a b = refl
at_place Equal a b = refl
at_place Greater a b = refl

chosen : (b : Bool) (xs ys : List Member) → cond b (members_of xs) (members_of ys) ≡ members_of (cond b xs ys)
chosen true xs ys = refl
chosen false xs ys = refl

put_so : (key : List ℕ) (d : json.Data) (ms : List Member) → with_member key d (members_of ms) ≡ members_of (put lower (key, d) ms)
put_so key d [] = refl
put_so key d (m ∷ ms) =
    let front : json.Members = json.member key d (members_of (m ∷ ms)) in
    let back : json.Members = json.member m.0 m.1 (with_member key d (members_of ms)) in
    at_place (slice_cmp nat_cmp key m.0) front back ∙ ap (λ l. cond (lower (key, d) m) front (json.member m.0 m.1 l)) (put_so key d ms)
    ∙ chosen (lower (key, d) m) ((key, d) ∷ m ∷ ms) (m ∷ put lower (key, d) ms)

-- the values of a list, and the members of a dictionary in its order
abbrev items_list : Trees → List json.Data
items_list no_items = []
items_list (item tree rest) = data_of tree ∷ items_list rest

abbrev members_list : Entries → List Member
members_list no_entries = []
members_list (entry key tree rest) = (string_of_bytes key, data_of tree) ∷ members_list rest

items_so : (items : Trees) → items_data items ≡ json_items (items_list items)
items_so no_items = refl
items_so (item tree rest) = ap (json.item (data_of tree)) (items_so rest)

members_so : (pairs : Entries) (found : List Member) → members_data pairs (members_of found) ≡ members_of (put_all lower (members_list pairs) found)
members_so no_entries found = refl
members_so (entry key tree rest) found = ap (members_data rest) (put_so (string_of_bytes key) (data_of tree) found) ∙ members_so rest (put lower (string_of_bytes key, data_of tree) found)

in_order : (ms : List Member) → AreInByteOrder ms (put_all lower ms [])
in_order ms =
    let h : Sorts lower lower_ranks ms (put_all lower ms []) = all_sorted lower lower_ranks ms [] [] (none_sorted lower lower_ranks) in
    record { ascend = sorted lower (put_all lower ms []) h.ordered; same = h.same; stable = h.stable }

mutual
  written_as : (tree : Tree) → IsWrittenAs tree (data_of tree)
  written_as (Int z) = refl
  written_as (Bytes bytes) = refl
  written_as (Items items) = (items_list items, items_written items, ap json.array (items_so items))
  written_as (Dict pairs) = (members_list pairs, put_all lower (members_list pairs) [], pairs_written pairs, in_order (members_list pairs), ap json.object (members_so pairs []))

  items_written : (items : Trees) → ItemsAreWrittenAs items (items_list items)
  items_written no_items = tt
  items_written (item tree rest) = (written_as tree, items_written rest)

  pairs_written : (pairs : Entries) → PairsAreWrittenAs pairs (members_list pairs)
  pairs_written no_entries = tt
  pairs_written (entry key tree rest) = (refl, written_as tree, pairs_written rest)

pub stands_in_order : (tree : Tree) → IsInByteOrder tree
stands_in_order tree = record { value = data_of tree; is_written_as = written_as tree; is_text = sym (written tree) }

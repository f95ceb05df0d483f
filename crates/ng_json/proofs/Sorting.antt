-- The members of a sorted dictionary, written and read.
use Rattle.std.proofs.Common.{◌≡◌, ℕ, List, refl, sym, ap, ◌∙◌}
use Rattle.std.specs.Ordering.{match_ordering}
use Rattle.std.specs.declared.cmp.Ordering.{Ordering}
use Rattle.std.specs.declared.cmp.Ordering.TheVariants.{Less, Equal, Greater}
use Rattle.serde_json.specs.Data as json
use Rattle.ng_bencode.specs.Tree.{Entries, no_entries, entry}
use Rattle.ng_json.specs.Strings.{bytes_of_string, string_of_bytes}
use Rattle.ng_json.specs.JsonText.{data_of, members_data, with_member, IsBelow, AreBytes, PairsAreSorted}
use Rattle.ng_json.proofs.Back.{string_back}
use Rattle.ng_json.proofs.Commuting.{order, turned, turned_back, same_key, itself, chained, greater_still, greater_at}

-- the key is below each of these
abbrev pub IsUnder : List ℕ → json.Members → Type 0
IsUnder key json.no_members = Unit {0}
IsUnder key (json.member other d rest) = (order key other ≡ Less) × IsUnder key rest

-- each key is below those after it
abbrev pub AreOrdered : json.Members → Type 0
AreOrdered json.no_members = Unit {0}
AreOrdered (json.member key d rest) = IsUnder key rest × AreOrdered rest

-- the key is none of these
abbrev pub IsNew : List ℕ → json.Members → Type 0
IsNew key json.no_members = Unit {0}
IsNew key (json.member other d rest) = (order key other ≡ Equal → ⊥) × IsNew key rest

under_chain : (a b : List ℕ) → order a b ≡ Less → (ms : json.Members) → IsUnder b ms → IsUnder a ms
under_chain a b less json.no_members h = tt
under_chain a b less (json.member o e rest) h = (chained a b o less h.0, under_chain a b less rest h.1)

under_with : (o key : List ℕ) (d : json.Data) → order o key ≡ Less → (ms : json.Members) → IsUnder o ms → IsUnder o (with_member key d ms)
under_with o key d less json.no_members h = (less, tt)
under_with o key d less (json.member l e rest) h = by (under_with o key d less rest h.1) (order key l)
  where
    by : IsUnder o (with_member key d rest) → (at : Ordering) → IsUnder o (match_ordering at (json.member key d (json.member l e rest)) (json.member l e (with_member key d rest)) (json.member l e (with_member key d rest)))
    by more Less = (less, h)
    by more Equal = (h.0, more)
    by more Greater = (h.0, more)

ordered_with : (key : List ℕ) (d : json.Data) (ms : json.Members) → IsNew key ms → AreOrdered ms → AreOrdered (with_member key d ms)
ordered_with key d json.no_members new h = (tt, tt)
ordered_with key d (json.member l e rest) new h = by (ordered_with key d rest new.1 h.1) (order key l) refl
  where
    by : AreOrdered (with_member key d rest) → (at : Ordering) → order key l ≡ at → AreOrdered (match_ordering at (json.member key d (json.member l e rest)) (json.member l e (with_member key d rest)) (json.member l e (with_member key d rest)))
    by more Less is = ((is, under_chain key l is rest h.0), h)
    by more Equal is = absurd (new.0 is)
    by more Greater is = (under_with l key d (turned_back key l is) rest h.0, more)

new_with : (k key : List ℕ) (d : json.Data) → (order k key ≡ Equal → ⊥) → (ms : json.Members) → IsNew k ms → IsNew k (with_member key d ms)
new_with k key d other json.no_members h = (other, tt)
new_with k key d other (json.member l e rest) h = by (new_with k key d other rest h.1) (order key l)
  where
    by : IsNew k (with_member key d rest) → (at : Ordering) → IsNew k (match_ordering at (json.member key d (json.member l e rest)) (json.member l e (with_member key d rest)) (json.member l e (with_member key d rest)))
    by more Less = (other, h)
    by more Equal = (h.0, more)
    by more Greater = (h.0, more)

-- the strings of the keys are none of these
abbrev pub Apart : Entries → json.Members → Type 0
Apart no_entries ms = Unit {0}
Apart (entry k t rest) ms = IsNew (string_of_bytes k) ms × Apart rest ms

pub apart_none : (es : Entries) → Apart es json.no_members
apart_none no_entries = tt
apart_none (entry k t rest) = (tt, apart_none rest)

-- keys that differ are written otherwise
strings_differ : (a b : List ℕ) → AreBytes a → AreBytes b → order a b ≡ Less → order (string_of_bytes b) (string_of_bytes a) ≡ Equal → ⊥
strings_differ a b fit other less equal =
    let same : b ≡ a = sym (string_back b other) ∙ ap bytes_of_string (same_key (string_of_bytes b) (string_of_bytes a) equal) ∙ string_back a fit in
    let tied : order a b ≡ Equal = ap (order a) same ∙ itself a in
    cc

apart_with : (key : List ℕ) (d : json.Data) (es : Entries) (ms : json.Members) → AreBytes key → IsBelow key es → PairsAreSorted es → Apart es ms → Apart es (with_member (string_of_bytes key) d ms)
apart_with key d no_entries ms fit below sorted h = tt
apart_with key d (entry k t rest) ms fit below sorted h =
    (new_with (string_of_bytes k) (string_of_bytes key) d (strings_differ key k fit sorted.0 below.0) ms h.0, apart_with key d rest ms fit below.1 sorted.3 h.1)

pub members_ordered : (es : Entries) (ms : json.Members) → PairsAreSorted es → Apart es ms → AreOrdered ms → AreOrdered (members_data es ms)
members_ordered no_entries ms sorted apart h = h
members_ordered (entry k t rest) ms sorted apart h =
    members_ordered rest (with_member (string_of_bytes k) (data_of t) ms) sorted.3 (apart_with k (data_of t) rest ms sorted.0 sorted.2 sorted.3 apart.1)
    (ordered_with (string_of_bytes k) (data_of t) ms apart.0 h)

-- ---- members that are put one after the other

-- the members, put one after the other
abbrev pub put_all : json.Members → json.Members → json.Members
put_all json.no_members found = found
put_all (json.member k d rest) found = put_all rest (json.put k d found)

module _ (a b : List ℕ) (x y : json.Data) (less : order a b ≡ Less) where
  puts_commute : (ms : json.Members) → json.put b y (json.put a x ms) ≡ json.put a x (json.put b y ms)
  puts_commute json.no_members = rw (less, turned a b less) refl
  puts_commute (json.member l e rest) = by (puts_commute rest) (order a l) refl
    where
      front : order a l ≡ Less → (ob : Ordering) → order b l ≡ ob → json.put b y (json.put a x (json.member l e rest)) ≡ json.put a x (json.put b y (json.member l e rest))
      front ea Less eb = rw (ea, eb, turned a b less) (rw less refl)
      front ea Equal eb = rw (ea, eb, turned a b less) (rw ea refl)
      front ea Greater eb = rw (ea, eb, turned a b less) (rw ea refl)

      by : json.put b y (json.put a x rest) ≡ json.put a x (json.put b y rest) → (oa : Ordering) → order a l ≡ oa → json.put b y (json.put a x (json.member l e rest)) ≡ json.put a x (json.put b y (json.member l e rest))
      by more Less ea = front ea (order b l) refl
      by more Equal ea = let eb = greater_at a b l less ea in rw (ea, eb) (rw ea refl)
      by more Greater ea = let eb = greater_still a b l less ea in rw (ea, eb) (rw ea (ap (json.member l e) more))

put_past : (k : List ℕ) (d : json.Data) (ms found : json.Members) → IsUnder k ms → put_all ms (json.put k d found) ≡ json.put k d (put_all ms found)
put_past k d json.no_members found h = refl
put_past k d (json.member l e rest) found h = ap (put_all rest) (puts_commute k l d e h.0 found) ∙ put_past k d rest (json.put l e found) h.1

put_first : (k : List ℕ) (d : json.Data) (ms : json.Members) → IsUnder k ms → json.put k d ms ≡ json.member k d ms
put_first k d json.no_members h = refl
put_first k d (json.member l e rest) h = rw h.0 refl

pub put_in_order : (ms : json.Members) → AreOrdered ms → put_all ms json.no_members ≡ ms
put_in_order json.no_members h = refl
put_in_order (json.member k d rest) h = put_past k d rest json.no_members h.0 ∙ ap (json.put k d) (put_in_order rest h.1) ∙ put_first k d rest h.0

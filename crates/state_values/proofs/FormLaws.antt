-- Flags, variants, options and lists that are written alike are the same, and each is spelled.
use Rattle.std.proofs.Common.{◌≡◌, ℕ, zero, suc, Bool, true, false, ◌+◌, ◌<◌, ◌≤◌, ◌^◌, List, All, map, Option, Some, None, IfSome, refl, sym, ap, ◌∙◌, arith}
use Rattle.std.proofs.lemmas.List.{map-id}
use Rattle.relay_outside.specs.declared.address.Family.{Family}
use Rattle.relay_outside.specs.declared.address.Family.TheVariants as family
use Rattle.sdes_lines.specs.declared.crypto_line.Suite.{Suite}
use Rattle.sdes_lines.specs.declared.crypto_line.Suite.TheVariants.{Tag80, Tag32}
use Rattle.sdp_text.specs.declared.proto.Proto.{Proto}
use Rattle.sdp_text.specs.declared.proto.Proto.TheVariants.{Avp, Avpf, Savp, Savpf, Other}
use Rattle.port_pool.specs.declared.holder.Side.{Side}
use Rattle.port_pool.specs.declared.holder.Side.TheVariants.{A, B}
use Rattle.ng_bencode.specs.Tree.{Tree, Bytes, Items, Dict, no_items, item, Entries, no_entries, entry, entries_depth}
use Rattle.ng_bencode.specs.Spells.{EntriesIntsFit}
use Rattle.state_values.specs.Numbers.{number_tree, list_tree}
use Rattle.state_values.specs.Forms.{option_tree, flag_number, flag_tree, side_number, side_tree, family_number, family_tree, suite_number, suite_tree, proto_number, proto_tree}
use Rattle.state_values.proofs.NumberTrees.{same_number}
use Rattle.state_values.proofs.ListTrees.{same_list, same_seen}
use Rattle.state_values.proofs.FormTrees.{few_flags, few_sides, few_families, few_suites, few_protos}
use Rattle.state_values.proofs.Spelled.{Spelled}

pub same_bytes : (a b : List ℕ) → Bytes a ≡ Bytes b → a ≡ b
same_bytes a b e = cc

-- a variant is found by its number
abbrev flag_of : ℕ → Bool
flag_of zero = false
flag_of (suc n) = true

flag_back : (flag : Bool) → flag_of (flag_number flag) ≡ flag
flag_back false = refl
flag_back true = refl

abbrev side_of : ℕ → Side
side_of zero = A
side_of (suc n) = B

side_back : (side : Side) → side_of (side_number side) ≡ side
side_back A = refl
side_back B = refl

abbrev family_of : ℕ → Family
family_of zero = family.V4
family_of (suc n) = family.V6

family_back : (it : Family) → family_of (family_number it) ≡ it
family_back family.V4 = refl
family_back family.V6 = refl

abbrev suite_of : ℕ → Suite
suite_of zero = Tag80
suite_of (suc n) = Tag32

suite_back : (suite : Suite) → suite_of (suite_number suite) ≡ suite
suite_back Tag80 = refl
suite_back Tag32 = refl

abbrev proto_of : ℕ → Proto
proto_of zero = Avp
proto_of (suc zero) = Avpf
proto_of (suc (suc zero)) = Savp
proto_of (suc (suc (suc zero))) = Savpf
proto_of (suc (suc (suc (suc n)))) = Other

proto_back : (proto : Proto) → proto_of (proto_number proto) ≡ proto
proto_back Avp = refl
proto_back Avpf = refl
proto_back Savp = refl
proto_back Savpf = refl
proto_back Other = refl

same_variant : {V : Type 0} (number : V → ℕ) (back : ℕ → V) → ((v : V) → back (number v) ≡ v) → (a b : V) → number a < 2 ^ 64 → number b < 2 ^ 64
    → number_tree (number a) ≡ number_tree (number b) → a ≡ b
same_variant number back is a b low small e = sym (is a) ∙ ap back (same_number (number a) (number b) low small e) ∙ is b

pub same_flag : (a b : Bool) → flag_tree a ≡ flag_tree b → a ≡ b
same_flag a b e = same_variant flag_number flag_of flag_back a b (omega (arith, few_flags a)) (omega (arith, few_flags b)) e

pub same_side : (a b : Side) → side_tree a ≡ side_tree b → a ≡ b
same_side a b e = same_variant side_number side_of side_back a b (omega (arith, few_sides a)) (omega (arith, few_sides b)) e

pub same_family : (a b : Family) → family_tree a ≡ family_tree b → a ≡ b
same_family a b e = same_variant family_number family_of family_back a b (omega (arith, few_families a)) (omega (arith, few_families b)) e

pub same_suite : (a b : Suite) → suite_tree a ≡ suite_tree b → a ≡ b
same_suite a b e = same_variant suite_number suite_of suite_back a b (omega (arith, few_suites a)) (omega (arith, few_suites b)) e

pub same_proto : (a b : Proto) → proto_tree a ≡ proto_tree b → a ≡ b
same_proto a b e = same_variant proto_number proto_of proto_back a b (omega (arith, few_protos a)) (omega (arith, few_protos b)) e

pub same_option : {T : Type 0} (written : T → Tree) (Each : T → Type 0) → ((x y : T) → Each x → Each y → written x ≡ written y → x ≡ y)
    → (a b : Option T) → IfSome a Each → IfSome b Each → option_tree written a ≡ option_tree written b → a ≡ b
same_option written Each same None None fits_a fits_b e = refl
same_option written Each same None (Some y) fits_a fits_b e = let f : Items no_items ≡ Items (item (written y) no_items) = e in absurd (cc)
same_option written Each same (Some x) None fits_a fits_b e = let f : Items (item (written x) no_items) ≡ Items no_items = e in absurd (cc)
same_option written Each same (Some x) (Some y) fits_a fits_b e =
    let f : Items (item (written x) no_items) ≡ Items (item (written y) no_items) = e in
    let g : written x ≡ written y = cc in
    let h = same x y fits_a fits_b g in
    λ i. Some (h i)

any_there : {T : Type 0} (it : Option T) → IfSome it (λ (x : T). Unit {0})
any_there None = tt
any_there (Some it) = tt

-- the same for elements of any range
pub same_plain_option : {T : Type 0} (written : T → Tree) → ((x y : T) → written x ≡ written y → x ≡ y) → (a b : Option T)
    → option_tree written a ≡ option_tree written b → a ≡ b
same_plain_option {T} written same a b e = same_option written (λ (x : T). Unit {0}) (λ x y fits_x fits_y f. same x y f) a b (any_there a) (any_there b) e

pub same_each : {T : Type 0} (written : T → Tree) (Each : T → Type 0) → ((x y : T) → Each x → Each y → written x ≡ written y → x ≡ y)
    → (a b : List T) → All Each a → All Each b → list_tree written a ≡ list_tree written b → a ≡ b
same_each {T} written Each same a b fits_a fits_b e =
    sym (map-id a) ∙ same_seen written (λ (it : T). it) Each same a b fits_a fits_b (same_list written (list_tree written a) (map written a) b refl e) ∙ map-id b

-- ---- how deep they are

pub bytes_spelled : (bytes : List ℕ) → Spelled 0 (Bytes bytes)
bytes_spelled bytes = record { ints = tt; deep = omega arith }

pub option_spelled : {T : Type 0} (written : T → Tree) (most : ℕ) → ((it : T) → Spelled most (written it)) → (it : Option T)
    → Spelled (1 + most) (option_tree written it)
option_spelled written most each None = record { ints = tt; deep = omega arith }
option_spelled written most each (Some it) = let one = each it in record { ints = (one.ints, tt); deep = omega (arith, one.deep) }

pub record SpelledEntries (most : ℕ) (entries : Entries) : Type 0 where
  pub ints : EntriesIntsFit entries
  pub deep : entries_depth entries ≤ most

pub ended : {most : ℕ} → SpelledEntries most no_entries
ended = record { ints = tt; deep = omega arith }

pub then_entry : {most few : ℕ} {key : List ℕ} {tree : Tree} {rest : Entries} → few ≤ most → Spelled few tree → SpelledEntries most rest
    → SpelledEntries most (entry key tree rest)
then_entry within one more = record { ints = (one.ints, more.ints); deep = omega (arith, within, one.deep, more.deep) }

pub dict_spelled : {most : ℕ} {entries : Entries} → SpelledEntries most entries → Spelled (1 + most) (Dict entries)
dict_spelled all = record { ints = all.ints; deep = omega (arith, all.deep) }

-- Flags, variants and options, read again.
use Rattle.std.proofs.Common.{◌≡◌, ℕ, Bool, true, false, ◌<◌, ◌≤◌, ◌^◌, List, [], ◌∷◌, map, length, Option, Some, None, sym, ◌∙◌, arith}
use Rattle.relay_outside.specs.declared.address.Family.{Family}
use Rattle.relay_outside.specs.declared.address.Family.TheVariants as family
use Rattle.sdes_lines.specs.declared.crypto_line.Suite.{Suite}
use Rattle.sdes_lines.specs.declared.crypto_line.Suite.TheVariants.{Tag80, Tag32}
use Rattle.sdp_text.specs.declared.proto.Proto.{Proto}
use Rattle.sdp_text.specs.declared.proto.Proto.TheVariants.{Avp, Avpf, Savp, Savpf, Other}
use Rattle.port_pool.specs.declared.holder.Side.{Side}
use Rattle.port_pool.specs.declared.holder.Side.TheVariants.{A, B}
use Rattle.ng_bencode.specs.declared.value.Value.{Value}
use Rattle.ng_bencode.specs.Tree.{Tree, Items, no_items, item, items_of, tree_of}
use Rattle.state_values.specs.Numbers.{number_tree}
use Rattle.state_values.specs.Forms.{option_tree, flag_number, side_number, family_number, suite_number, proto_number}
use Rattle.state_values.proofs.NumberTrees.{same_number}

-- how many variants there are
pub few_flags : (flag : Bool) → flag_number flag ≤ 1
few_flags false = omega arith
few_flags true = omega arith

pub few_sides : (side : Side) → side_number side ≤ 1
few_sides A = omega arith
few_sides B = omega arith

pub few_families : (family : Family) → family_number family ≤ 1
few_families family.V4 = omega arith
few_families family.V6 = omega arith

pub few_suites : (suite : Suite) → suite_number suite ≤ 1
few_suites Tag80 = omega arith
few_suites Tag32 = omega arith

pub few_protos : (proto : Proto) → proto_number proto ≤ 4
few_protos Avp = omega arith
few_protos Avpf = omega arith
few_protos Savp = omega arith
few_protos Savpf = omega arith
few_protos Other = omega arith

-- the number that is read is the one that is written
pub number_is : (whole : Tree) (n m : ℕ) → n < 2 ^ 64 → m < 2 ^ 64 → whole ≡ number_tree n → whole ≡ number_tree m → n ≡ m
number_is whole n m low small is same = same_number n m low small (sym is ∙ same)

-- no option is a list of two or more
pub too_many : (whole : Tree) (values : List Value) (there : Option Tree) → 2 ≤ length values → whole ≡ Items (items_of (map tree_of values))
    → whole ≡ option_tree (λ (tree : Tree). tree) there → ⊥
too_many whole [] there long is same = absurd (omega arith)
too_many whole (one ∷ []) there long is same = absurd (omega arith)
too_many whole (one ∷ two ∷ values) None long is same =
    let e : Items (item (tree_of one) (item (tree_of two) (items_of (map tree_of values)))) ≡ Items no_items = sym is ∙ same in
    absurd (cc)
too_many whole (one ∷ two ∷ values) (Some tree) long is same =
    let e : Items (item (tree_of one) (item (tree_of two) (items_of (map tree_of values)))) ≡ Items (item tree no_items) = sym is ∙ same in
    let f : item (tree_of two) (items_of (map tree_of values)) ≡ no_items = cc in
    absurd (cc)

-- where nothing is an option at all, nothing is an option of this kind
pub no_option : {T : Type 0} (written : T → Tree) {whole : Tree} → ((there : Option Tree) → whole ≡ option_tree (λ (tree : Tree). tree) there → ⊥)
    → (it : Option T) → whole ≡ option_tree written it → ⊥
no_option written none None same = none None same
no_option written none (Some it) same = none (Some (written it)) same

-- A side of a section after an offer: its leg, its keys, and which legs stay.
use Rattle.std.proofs.Common.{◌≡◌, ◌∙◌, refl, ap, ℕ, ◌<◌, Bool, true, false, cond, not, ◌==◌, List, [], ◌∷◌, map, filter, get_or, Option, Some, None, option_map, unwrap_or}
use Rattle.std.proofs.lemmas.Bool.{and_parts}
use Rattle.histories.specs.Words.{In, here, there, has, or_else}
use Rattle.histories.proofs.Lists.{equal_if}
use Rattle.relay_outside.specs.declared.settings.Config.{Config}
use Rattle.sdes_lines.specs.declared.crypto_line.Suite.{Suite}
use Rattle.sdes_lines.specs.declared.crypto_line.Suite.TheVariants.{Tag80, Tag32}
use Rattle.port_pool.specs.declared.holder.Side.{Side}
use Rattle.port_pool.specs.declared.holder.Side.TheVariants.{A, B}
use Rattle.port_pool.specs.Ports.{pair_port}
use Rattle.port_pool.specs.Signals.{NewKey, side_eq, suite_eq}
use Rattle.offer_answer.specs.Rounds.{NewLeg}
use Rattle.offer_answer.specs.Keys.{is_for, key_among}
use Rattle.offer_answer.specs.Texts.{new_port}
use Rattle.offer_answer.specs.Shapes.{LegShape, SectionShape, bare_shape, new_key_shape, shape_drawn, leg_with_new, shape_with_new}
use Rattle.call_cell.specs.Shapes.{CellLegShape, with_key_numbers}
use Rattle.call_board.specs.Returns.{leg_lease}
use Rattle.call_shapes.specs.Events.{section_flags}
use Rattle.call_shapes.specs.Agreement.{IsLegOf, SideAgrees, stands_on, key_of, side_of_shape}
use Rattle.call_shapes.proofs.Sieves.{none_both, all_both, none_pass, flag_is}
use Rattle.call_shapes.proofs.KeyNumbers.{numbered, found_one, found_none}

-- Keys.

suite_if : (a b : Suite) → suite_eq a b ≡ true → a ≡ b
suite_if Tag80 Tag80 e = refl
suite_if Tag32 Tag32 e = refl
suite_if Tag80 Tag32 e = absurd (let f = e in cc)
suite_if Tag32 Tag80 e = absurd (let f = e in cc)

abbrev numbers_among : List NewKey → Suite → Option ℕ
numbers_among keys suite = option_map (λ (key : NewKey). key.number) (key_among keys suite)

same_key : (keys : List NewKey) (suite : Suite) → option_map new_key_shape (key_among keys suite) ≡ key_of suite (numbers_among keys suite)
same_key [] suite = refl
same_key (key ∷ keys) suite = by (same_key keys suite) (suite_eq key.suite suite) refl
  where
    by : option_map new_key_shape (key_among keys suite) ≡ key_of suite (numbers_among keys suite) → (b : Bool) → suite_eq key.suite suite ≡ b
        → option_map new_key_shape (cond b (Some key) (key_among keys suite))
        ≡ key_of suite (option_map (λ (key : NewKey). key.number) (cond b (Some key) (key_among keys suite)))
    by rest true e = ap (λ (s : Suite). Some (key.number, s)) (suite_if key.suite suite e)
    by rest false e = rest

key_or : (suite : Suite) (new old : Option ℕ) → or_else (key_of suite new) (key_of suite old) ≡ key_of suite (or_else new old)
key_or suite None old = refl
key_or suite (Some number) old = refl

-- the new key, or else the old one
newer_key : (keys : List NewKey) (section : ℕ) (side : Side) (suite : Suite) (kept : Option (ℕ × Suite)) (number : Option ℕ) → kept ≡ key_of suite number
    → or_else (shape_drawn keys section side suite) kept ≡ key_of suite (or_else (numbers_among (filter (is_for section side) keys) suite) number)
newer_key keys section side suite kept number e =
    ap (or_else (shape_drawn keys section side suite)) e
    ∙ ap (λ (o : Option (ℕ × Suite)). or_else o (key_of suite number)) (same_key (filter (is_for section side) keys) suite)
    ∙ key_or suite (numbers_among (filter (is_for section side) keys) suite) number

pub no_keys : (keys : List NewKey) (section : ℕ) (side : Side) → ((key : NewKey) → In key keys → key.section ≡ section → ⊥) → filter (is_for section side) keys ≡ []
no_keys keys section side never = none_pass (is_for section side) keys (λ key i. by key i (is_for section side key) refl)
  where
    by : (key : NewKey) → In key keys → (b : Bool) → is_for section side key ≡ b → is_for section side key ≡ false
    by key i true e = absurd (never key i (equal_if key.section section (and_parts (key.section == section) (side_eq key.side side) e).0))
    by key i false e = e

-- A side of a section.

-- without pairs
pub bare_after : (config : Config) (legs : List NewLeg) (ports : List ℕ) (keys : List NewKey) (section : ℕ) (side : Side) (committed : Bool) (kept : LegShape)
    (joined : List CellLegShape) → filter (stands_on section side) joined ≡ [] → filter (is_for section side) keys ≡ [] → kept.long_key ≡ None → kept.short_key ≡ None
    → SideAgrees config false committed (leg_with_new legs ports keys section side kept) (filter (stands_on section side) (with_key_numbers keys joined))
bare_after config legs ports keys section side committed kept joined none no_key long short = (
  found_none section side keys joined none,
  ap (λ (ks : List NewKey). or_else (option_map new_key_shape (key_among ks Tag80)) kept.long_key) no_key ∙ long,
  ap (λ (ks : List NewKey). or_else (option_map new_key_shape (key_among ks Tag32)) kept.short_key) no_key ∙ short,
)

-- with pairs
pub pairs_after : (config : Config) (legs : List NewLeg) (ports : List ℕ) (keys : List NewKey) (section : ℕ) (side : Side) (committed : Bool) (kept : LegShape)
    (joined : List CellLegShape) (leg : CellLegShape) → filter (stands_on section side) joined ≡ leg ∷ []
    → unwrap_or (new_port legs ports section side) kept.port ≡ pair_port config leg.holder.pair
    → kept.long_key ≡ key_of Tag80 leg.tag80 → kept.short_key ≡ key_of Tag32 leg.tag32 → leg.is_committed ≡ committed
    → SideAgrees config true committed (leg_with_new legs ports keys section side kept) (filter (stands_on section side) (with_key_numbers keys joined))
pairs_after config legs ports keys section side committed kept joined leg one port long short is = (
  numbered (filter (is_for section side) keys) leg,
  found_one section side keys joined leg one,
  record {
    port_is = port;
    long_is = newer_key keys section side Tag80 kept.long_key leg.tag80 long;
    short_is = newer_key keys section side Tag32 kept.short_key leg.tag32 short;
  },
  is,
)

pub side_new : (legs : List NewLeg) (ports : List ℕ) (keys : List NewKey) (section : ℕ) (old : SectionShape) (side : Side)
    → side_of_shape (shape_with_new legs ports keys section old) side ≡ leg_with_new legs ports keys section side (side_of_shape old side)
side_new legs ports keys section old A = refl
side_new legs ports keys section old B = refl

abbrev pub having : Bool → SectionShape → SectionShape
having pairs old = record old { has_pairs = pairs }

pub side_having : (pairs : Bool) (old : SectionShape) (side : Side) → side_of_shape (having pairs old) side ≡ side_of_shape old side
side_having pairs old A = refl
side_having pairs old B = refl

pub no_long : (side : Side) → (side_of_shape bare_shape side).long_key ≡ None
no_long A = refl
no_long B = refl

pub no_short : (side : Side) → (side_of_shape bare_shape side).short_key ≡ None
no_short A = refl
no_short B = refl

-- Which legs stay.

abbrev pub stays : List ℕ → CellLegShape → Bool
stays dropped leg = not (get_or (section_flags dropped) leg.holder.section false)

flag_at : (dropped : List ℕ) (section : ℕ) (side : Side) (b : Bool) → section < 8 → has dropped section ≡ b
    → (leg : CellLegShape) → stands_on section side leg ≡ true → stays dropped leg ≡ not b
flag_at dropped section side b below e leg on =
    ap (λ n. not (get_or (section_flags dropped) n false)) (equal_if leg.holder.section section (and_parts (leg.holder.section == section) (side_eq leg.holder.side side) on).0)
    ∙ ap not (flag_is dropped section below ∙ e)

pub gone_at : (dropped : List ℕ) (section : ℕ) (side : Side) (legs : List CellLegShape) → section < 8 → has dropped section ≡ true
    → filter (stands_on section side) (filter (stays dropped) legs) ≡ []
gone_at dropped section side legs below e = none_both (stands_on section side) (stays dropped) (flag_at dropped section side true below e) legs

pub kept_at : (dropped : List ℕ) (section : ℕ) (side : Side) (legs : List CellLegShape) → section < 8 → has dropped section ≡ false
    → filter (stands_on section side) (filter (stays dropped) legs) ≡ filter (stands_on section side) legs
kept_at dropped section side legs below e = all_both (stands_on section side) (stays dropped) (flag_at dropped section side false below e) legs

pub leases_are : (config : Config) (cell call : ℕ) (legs : List CellLegShape) → ((leg : CellLegShape) → In leg legs → IsLegOf config cell call leg)
    → map (λ (leg : CellLegShape). leg.lease) legs ≡ map (leg_lease config) (map (λ (leg : CellLegShape). leg.holder) legs)
leases_are config cell call [] are = refl
leases_are config cell call (leg ∷ legs) are =
    ap (λ l. l ∷ map (λ (leg : CellLegShape). leg.lease) legs) (are leg (here refl)).lease_is
    ∙ ap (λ l. leg_lease config leg.holder ∷ l) (leases_are config cell call legs (λ x i. are x (there i)))

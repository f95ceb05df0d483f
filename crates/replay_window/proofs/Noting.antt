-- Noting an index: which of the indices up to the greatest the bits then tell.
use Rattle.std.proofs.Common.{◌≡◌, ◌≢◌, ℕ, ◌+◌, ◌-◌, ◌<◌, ◌≤◌, ◌⊎◌, inl, inr, Bool, true, false, List, [], ◌∷◌, Option, Some, None, max, arith, sym, ◌∙◌, ap, refl}
use Rattle.std.specs.Prelude.{◌==◌, ◌||◌, nat_le, if◌then◌else◌, unwrap_or}
use Rattle.std.specs.Int.{bit_at}
use Rattle.std.specs.Int.RustNames.{bit_or}
use Rattle.std.specs.Option.{option_map_or}
use Rattle.std.proofs.lemmas.Bool.Decides.{nat_tests}
use Rattle.std.proofs.lemmas.Bool.{cases_eq, cases_lt}
use Rattle.std.proofs.lemmas.Nat.Bits.{bit_at_or, bit_at-pow_same, bit_at-pow_other, bit_at-zero, bit_at-lt}
use Rattle.replay_window.specs.declared.answers.Fresh.{Fresh}
use Rattle.replay_window.specs.declared.answers.Fresh.TheVariants.{Yes, TooOld, Used}
use Rattle.replay_window.specs.Indices.{greatest_index, is_too_old, is_noted, fresh}
use Rattle.replay_window.specs.Windows.{BitsTell}

-- the greatest index, or 0 where there is none
abbrev pub top_of : List ℕ → ℕ
top_of noted = unwrap_or (greatest_index noted) 0

-- no noted index is above the greatest
noted_below : (noted : List ℕ) (index : ℕ) → is_noted noted index ≡ true → index ≤ top_of noted
noted_below [] index is = cc
noted_below (first ∷ noted) index is =
    step first index (is_noted noted index) (top_of noted) (noted_below noted index) is
  where
    step : (first index : ℕ) (rest : Bool) (top : ℕ) → (rest ≡ true → index ≤ top) → ((first == index) || rest) ≡ true → index ≤ max first top
    step first index true top below is = omega (arith, below refl)
    step first index false top below is = grind (arith, nat_tests)

pub unnoted_above : (noted : List ℕ) (index : ℕ) → top_of noted < index → is_noted noted index ≡ false
unnoted_above noted index above = none (is_noted noted index) (λ known. let low : index ≤ top_of noted = noted_below noted index known in omega arith)
  where
    none : (known : Bool) → (known ≡ true → ⊥) → known ≡ false
    none true not = absurd (not refl)
    none false not = refl

differ : (a b : ℕ) → a ≢ b → (a == b) ≡ false
differ a b apart = grind (arith, nat_tests)

equal : (a b : ℕ) → a ≡ b → (a == b) ≡ true
equal a b is = grind (arith, nat_tests)

-- a test as a bit
abbrev pub bit_of : Bool → ℕ
bit_of b = if b then 1 else 0

here : (noted : List ℕ) (index other : ℕ) → index ≡ other → 1 ≡ bit_of (is_noted (index ∷ noted) other)
here noted index other same = sym (ap (λ b. bit_of (b || is_noted noted other)) (equal index other same))

elsewhere : (noted : List ℕ) (index other : ℕ) → index ≢ other → bit_of (is_noted noted other) ≡ bit_of (is_noted (index ∷ noted) other)
elsewhere noted index other apart = sym (ap (λ b. bit_of (b || is_noted noted other)) (differ index other apart))

-- the lowest bit set
pub or_one_low : (n : ℕ) → bit_at (bit_or n 1) 0 ≡ 1
or_one_low n = let least = bit_at-lt n 0 in
    let one : bit_at 1 0 ≡ 1 = bit_at-pow_same 0 in
    bit_at_or n 1 0 ∙ omega arith

pub or_one_high : (n k : ℕ) → 0 < k → bit_at (bit_or n 1) k ≡ bit_at n k
or_one_high n k above = let none : bit_at 1 k ≡ 0 = bit_at-pow_other 0 k (omega arith) in
    bit_at_or n 1 k ∙ omega arith

-- the bits, where nothing was noted
pub tell_nothing : BitsTell 0 []
tell_nothing k within below = bit_at-zero k

-- the first index
tell_one : (index : ℕ) → BitsTell 1 (index ∷ [])
tell_one index k within below = elim (cases_lt 0 k) [
  | inl above ↦ bit_at-pow_other 0 k (omega arith) ∙ elsewhere [] index (max index 0 - k) (omega arith)
  | inr low ↦
      let zeroth : k ≡ 0 = omega arith in
      ap (λ n. bit_at 1 n) zeroth ∙ bit_at-pow_same 0 ∙ here [] index (max index 0 - k) (omega arith)
]

-- a list without a greatest index is empty
pub tell_first : (noted : List ℕ) (index : ℕ) → greatest_index noted ≡ None → BitsTell 1 (index ∷ noted)
tell_first [] index none = tell_one index
tell_first (first ∷ noted) index none = cc

-- an index that lies `gap` above the greatest
above_bit : (noted : List ℕ) (index gap bits shifted k other : ℕ) → index ≡ top_of noted + gap → 0 < gap → BitsTell bits noted
    → ((k : ℕ) → k < gap → bit_at shifted k ≡ 0) → ((k : ℕ) → gap ≤ k → k < 128 → bit_at shifted k ≡ bit_at bits (k - gap))
    → k < 128 → k ≤ index → other ≡ index - k → bit_at (bit_or shifted 1) k ≡ bit_of (is_noted (index ∷ noted) other)
above_bit noted index gap bits shifted k other apart above tell low high within under is = by_place (cases_lt 0 k)
  where
    old : bit_at shifted k ≡ bit_of (is_noted noted other)
    old = elim (cases_lt k gap) [
      | inl new ↦
          let beyond : top_of noted < other = omega arith in
          low k new ∙ sym (ap bit_of (unnoted_above noted other beyond))
      | inr known ↦
          let place : top_of noted - (k - gap) ≡ other = omega arith in
          high k known within ∙ tell (k - gap) (omega arith) (omega arith) ∙ ap (λ n. bit_of (is_noted noted n)) place
    ]

    by_place : (0 < k) ⊎ (k ≤ 0) → bit_at (bit_or shifted 1) k ≡ bit_of (is_noted (index ∷ noted) other)
    by_place (inl behind) = or_one_high shifted k behind ∙ old ∙ elsewhere noted index other (omega arith)
    by_place (inr at) =
        let zeroth : k ≡ 0 = omega arith in
        ap (λ n. bit_at (bit_or shifted 1) n) zeroth ∙ or_one_low shifted ∙ here noted index other (omega arith)

pub tell_above : (noted : List ℕ) (index gap bits shifted : ℕ) → index ≡ top_of noted + gap → 0 < gap → BitsTell bits noted
    → ((k : ℕ) → k < gap → bit_at shifted k ≡ 0) → ((k : ℕ) → gap ≤ k → k < 128 → bit_at shifted k ≡ bit_at bits (k - gap))
    → BitsTell (bit_or shifted 1) (index ∷ noted)
tell_above noted index gap bits shifted apart above tell low high k within below =
    above_bit noted index gap bits shifted k (max index (top_of noted) - k) apart above tell low high within (omega arith) (omega arith)

-- an index that lies `behind` below the greatest
below_bit : (noted : List ℕ) (index behind bits marked k other : ℕ) → top_of noted ≡ index + behind → BitsTell bits noted
    → bit_at marked behind ≡ 1 → ((k : ℕ) → k < 128 → k ≢ behind → bit_at marked k ≡ bit_at bits k)
    → k < 128 → k ≤ top_of noted → other ≡ top_of noted - k → bit_at marked k ≡ bit_of (is_noted (index ∷ noted) other)
below_bit noted index behind bits marked k other below tell set others within under is = elim (cases_eq k behind) [
  | inl same ↦ ap (λ n. bit_at marked n) same ∙ set ∙ here noted index other (omega arith)
  | inr apart ↦
      others k within apart ∙ tell k within under ∙ ap (λ n. bit_of (is_noted noted n)) (sym is)
      ∙ elsewhere noted index other (λ at. apart (omega arith))
]

pub tell_below : (noted : List ℕ) (index behind bits marked : ℕ) → top_of noted ≡ index + behind → BitsTell bits noted
    → bit_at marked behind ≡ 1 → ((k : ℕ) → k < 128 → k ≢ behind → bit_at marked k ≡ bit_at bits k)
    → BitsTell marked (index ∷ noted)
tell_below noted index behind bits marked below tell set others k within under =
    below_bit noted index behind bits marked k (max index (top_of noted) - k) below tell set others within (omega arith) (omega arith)

-- ---- which indices are fresh

pub fresh_first : (noted : List ℕ) (index : ℕ) → greatest_index noted ≡ None → Yes ≡ fresh noted index
unfolding fresh
fresh_first [] index none = refl
fresh_first (first ∷ noted) index none = absurd (cc)

pub fresh_above : (noted : List ℕ) (index : ℕ) → top_of noted < index → Yes ≡ fresh noted index
unfolding fresh
fresh_above noted index above =
    sym (by_tests (is_too_old noted index) (is_noted noted index) (not_behind (greatest_index noted) index above) (unnoted_above noted index above))
  where
    not_behind : (top : Option ℕ) (index : ℕ) → unwrap_or top 0 < index → option_map_or (λ t. nat_le (index + 128) t) top false ≡ false
    not_behind None index is = refl
    not_behind (Some t) index is = grind (arith, nat_tests)

    by_tests : (old known : Bool) → old ≡ false → known ≡ false → ◌≡◌ {A = Fresh} (if old then TooOld else if known then Used else Yes) Yes
    by_tests old known eo ek = rw (eo, ek) refl

-- an index that is fresh is less than 128 behind the greatest
pub fresh_near : (noted : List ℕ) (index : ℕ) → fresh noted index ≡ Yes → top_of noted < index + 128
unfolding fresh
fresh_near noted index is = near (greatest_index noted) index (cases (is_too_old noted index) (is_noted noted index) is)
  where
    cases : (old known : Bool) → ◌≡◌ {A = Fresh} (if old then TooOld else if known then Used else Yes) Yes → old ≡ false
    cases true known is = cc
    cases false known is = refl

    near : (top : Option ℕ) (index : ℕ) → option_map_or (λ t. nat_le (index + 128) t) top false ≡ false → unwrap_or top 0 < index + 128
    near None index is = omega arith
    near (Some t) index is = grind (arith, nat_tests)

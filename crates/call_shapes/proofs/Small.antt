-- The legs of a call are at most 16, two for each of its eight sections.
use Rattle.std.proofs.Common.{◌≡◌, ◌∙◌, refl, ap, subst, ℕ, zero, suc, ◌+◌, ◌*◌, ◌<◌, ◌≤◌, ◌⊎◌, inl, inr, Bool, true, false, cond, ◌&&◌, ◌==◌, List, [], ◌∷◌, filter, length, nat_lt, arith}
use Rattle.std.proofs.lemmas.Bool.{cases_order, lt-ltb, le-ltb, ne_eqb}
use Rattle.relay_outside.specs.declared.settings.Config.{Config}
use Rattle.histories.specs.Words.{In, here, there}
use Rattle.histories.proofs.Lists.{equal}
use Rattle.port_pool.specs.declared.holder.Side.{Side}
use Rattle.port_pool.specs.declared.holder.Side.TheVariants.{A, B}
use Rattle.port_pool.specs.Signals.{side_eq}
use Rattle.offer_answer.specs.Shapes.{LegShape}
use Rattle.call_cell.specs.Shapes.{CellLegShape, CellShape, IsSmall}
use Rattle.offer_answer.specs.Shapes.{DialogShape}
use Rattle.call_shapes.specs.Agreement.{CallAgrees, SideAgrees, section_kept, side_of_shape, stands_on}
use Rattle.call_shapes.proofs.Times.{one_if}

abbrev below_section : ℕ → CellLegShape → Bool
below_section n leg = nat_lt leg.holder.section n

long_case : {A : Type 0} (x : A) (xs : List A) (b : Bool) → length (cond b (x ∷ xs) xs) ≡ one_if b + length xs
long_case x xs true = omega arith
long_case x xs false = omega arith

long_step : (p : CellLegShape → Bool) (leg : CellLegShape) (legs : List CellLegShape) → length (filter p (leg ∷ legs)) ≡ one_if (p leg) + length (filter p legs)
long_step p leg legs = long_case leg (filter p legs) (p leg)

side_once : (side : Side) (e : Bool) → one_if (e && side_eq side A) + one_if (e && side_eq side B) ≡ one_if e
side_once A true = refl
side_once A false = refl
side_once B true = refl
side_once B false = refl

below_step : (section n : ℕ) → (section ≡ n) ⊎ ((section < n) ⊎ (n < section)) → one_if (nat_lt section (n + 1)) ≡ one_if (nat_lt section n) + one_if (section == n)
below_step section n (inl same) =
    rw (lt-ltb section (n + 1) (omega (arith, same)), le-ltb section n (omega (arith, same)), equal section n same) refl
below_step section n (inr (inl low)) =
    let other : (section == n) ≡ false = ne_eqb section n (λ e. omega (arith, e, low)) in
    rw (lt-ltb section (n + 1) (omega (arith, low)), lt-ltb section n low, other) refl
below_step section n (inr (inr high)) =
    let other : (section == n) ≡ false = ne_eqb section n (λ e. omega (arith, e, high)) in
    rw (le-ltb section (n + 1) (omega (arith, high)), le-ltb section n (omega (arith, high)), other) refl

one_leg : (leg : CellLegShape) (n : ℕ)
    → one_if (below_section (n + 1) leg) ≡ one_if (below_section n leg) + (one_if (stands_on n A leg) + one_if (stands_on n B leg))
one_leg leg n =
    let both = side_once leg.holder.side (leg.holder.section == n) in
    let below = below_step leg.holder.section n (cases_order leg.holder.section n) in
    omega (arith, both, below)

all_legs : (legs : List CellLegShape) (n : ℕ)
    → length (filter (below_section (n + 1)) legs) ≡ length (filter (below_section n) legs) + (length (filter (stands_on n A) legs) + length (filter (stands_on n B) legs))
all_legs [] n = refl
all_legs (leg ∷ legs) n =
    let rest = all_legs legs n in
    let one = one_leg leg n in
    let a = long_step (below_section (n + 1)) leg legs in
    let b = long_step (below_section n) leg legs in
    let c = long_step (stands_on n A) leg legs in
    let d = long_step (stands_on n B) leg legs in
    omega (arith, rest, one, a, b, c, d)

none_below : (legs : List CellLegShape) → length (filter (below_section 0) legs) ≡ 0
none_below [] = refl
none_below (leg ∷ legs) =
    let step = long_step (below_section 0) leg legs in
    let none : one_if (below_section 0 leg) ≡ 0 = ap one_if (le-ltb leg.holder.section 0 (omega arith)) in
    let rest = none_below legs in
    omega (arith, step, none, rest)

-- where at most one leg stands on each side of each section, at most two for each section are below one
most_below : (legs : List CellLegShape) (count : ℕ) → ((section : ℕ) (side : Side) → section < count → length (filter (stands_on section side) legs) ≤ 1)
    → (n : ℕ) → n ≤ count → length (filter (below_section n) legs) ≤ 2 * n
most_below legs count one zero h = let none = none_below legs in omega (arith, none)
most_below legs count one (suc n) h =
    let next : n + 1 ≡ suc n = omega arith in
    let rest = most_below legs count one n (omega (arith, h)) in
    let step = all_legs legs n in
    let a = one n A (omega (arith, h)) in
    let b = one n B (omega (arith, h)) in
    subst (λ k. length (filter (below_section k) legs) ≤ 2 * k) next (omega (arith, rest, step, a, b))

all_below : (legs : List CellLegShape) (count : ℕ) → ((leg : CellLegShape) → In leg legs → leg.holder.section < count) → filter (below_section count) legs ≡ legs
all_below [] count within = refl
all_below (leg ∷ legs) count within =
    ap (λ b. cond b (leg ∷ filter (below_section count) legs) (filter (below_section count) legs)) (lt-ltb leg.holder.section count (within leg (here refl)))
    ∙ ap (λ (l : List CellLegShape). leg ∷ l) (all_below legs count (λ other i. within other (there i)))

one_found : (config : Config) (has_pairs committed : Bool) (kept : LegShape) (found : List CellLegShape) → SideAgrees config has_pairs committed kept found → length found ≤ 1
one_found config true committed kept found (leg, is, agrees, done) = let long = ap length is in omega (arith, long)
one_found config false committed kept found h = let long = ap length h.0 in omega (arith, long)

-- the legs of a cell whose call agrees with it
pub agreeing_small : (config : Config) (cell call : ℕ) (dialog : DialogShape) (shape : CellShape) → CallAgrees config cell call dialog shape → IsSmall shape.legs
agreeing_small config cell call dialog shape h =
    let within = λ (leg : CellLegShape) (i : In leg shape.legs). (h.legs leg i).section in
    record {
      few = (let most = most_below shape.legs 8 (λ section side below. one_found config (section_kept dialog section).has_pairs (section_kept dialog section).is_committed
          (side_of_shape (section_kept dialog section) side) (filter (stands_on section side) shape.legs) (h.sections section side below)) 8 (omega arith) in
          let all = ap length (all_below shape.legs 8 within) in omega (arith, most, all));
      sections = within;
    }

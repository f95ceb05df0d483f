-- The nearest number: which it is by the halves of the cycle, and that no other number is nearer.
use Rattle.std.proofs.Common.{◌≡◌, ℕ, ◌+◌, ◌-◌, ◌*◌, ◌/◌, ◌%◌, ◌^◌, ◌<◌, ◌≤◌, true, false, inl, inr, ◌⊎◌, arith, ◌∙◌, ap}
use Rattle.std.specs.Prelude.{if◌then◌else◌, nat_le}
use Rattle.std.proofs.lemmas.Bool.{cases_lt}
use Rattle.std.proofs.lemmas.Bool.Decides.{nat_tests}
use Rattle.replay_window.specs.declared.answers.Near.TheVariants.{At, Below, Beyond}
use Rattle.replay_window.specs.Indices.{IsNearest, distance, nearer, nearest_lifted, as_index}

-- the number with the top's own quotient, lifted
abbrev pub own_lifted : ℕ → ℕ → ℕ
own_lifted top seq = (top / 65536 + 1) * 65536 + seq

first_nearer : (goal first second : ℕ) → distance first goal ≤ distance second goal → nearer goal first second ≡ first
first_nearer goal first second is = grind (arith, nat_tests)

second_nearer : (goal first second : ℕ) → distance second goal < distance first goal → nearer goal first second ≡ second
second_nearer goal first second is = grind (arith, nat_tests)

both_further : (goal least first second : ℕ) → least ≤ distance first goal → least ≤ distance second goal
    → least ≤ distance (nearer goal first second) goal
both_further goal least first second one two =
    elim (nat_le (distance first goal) (distance second goal)) as (λ choice. least ≤ distance (if choice then first else second) goal)
    [ true ↦ one | false ↦ two ]

pub as_below : (lifted : ℕ) → lifted < 65536 → as_index lifted ≡ Below
as_below lifted is = grind (arith, nat_tests)

pub as_at : (index lifted : ℕ) → lifted ≡ index + 65536 → index < 2 ^ 48 → as_index lifted ≡ At index
as_at index lifted is within = grind (arith, nat_tests)

pub as_beyond : (lifted : ℕ) → 2 ^ 48 + 65536 ≤ lifted → as_index lifted ≡ Beyond
as_beyond lifted is = grind (arith, nat_tests)

pub nearest_own : (top seq : ℕ) → seq ≤ top % 65536 + 32768 → top % 65536 ≤ seq + 32768 → seq < 65536
    → nearest_lifted top seq ≡ own_lifted top seq
unfolding nearest_lifted
nearest_own top seq high low within =
    let goal = top + 65536 in
    let own = own_lifted top seq in
    first_nearer goal own (nearer goal (own - 65536) (own + 65536))
    (both_further goal (distance own goal) (own - 65536) (own + 65536) (omega arith) (omega arith))

pub nearest_before : (top seq : ℕ) → top % 65536 + 32768 < seq → seq < 65536 → nearest_lifted top seq ≡ own_lifted top seq - 65536
unfolding nearest_lifted
nearest_before top seq high within =
    let goal = top + 65536 in
    let own = own_lifted top seq in
    let inner : nearer goal (own - 65536) (own + 65536) ≡ own - 65536 =
    first_nearer goal (own - 65536) (own + 65536) (omega arith) in
    ap (λ other. nearer goal own other) inner ∙ second_nearer goal own (own - 65536) (omega arith)

pub nearest_after : (top seq : ℕ) → seq + 32768 < top % 65536 → seq < 65536 → nearest_lifted top seq ≡ own_lifted top seq + 65536
unfolding nearest_lifted
nearest_after top seq low within =
    let goal = top + 65536 in
    let own = own_lifted top seq in
    let inner : nearer goal (own - 65536) (own + 65536) ≡ own + 65536 =
    second_nearer goal (own - 65536) (own + 65536) (omega arith) in
    ap (λ other. nearer goal own other) inner ∙ second_nearer goal own (own + 65536) (omega arith)

is_nearest : (top seq lifted : ℕ) → seq < 65536
    → lifted ≡ own_lifted top seq → seq ≤ top % 65536 + 32768 → top % 65536 ≤ seq + 32768 → IsNearest top seq lifted
is_nearest top seq lifted within is high low = record {
  ends = omega arith;
  least = λ other ends. omega arith;
  own_at_tie = λ other ends _ _. omega arith;
}

is_nearest_before : (top seq lifted : ℕ) → seq < 65536 → lifted ≡ own_lifted top seq - 65536 → top % 65536 + 32768 < seq
    → IsNearest top seq lifted
is_nearest_before top seq lifted within is high = record {
  ends = omega arith;
  least = λ other ends. omega arith;
  own_at_tie = λ other ends apart tie. omega arith;
}

is_nearest_after : (top seq lifted : ℕ) → seq < 65536 → lifted ≡ own_lifted top seq + 65536 → seq + 32768 < top % 65536
    → IsNearest top seq lifted
is_nearest_after top seq lifted within is low = record {
  ends = omega arith;
  least = λ other ends. omega arith;
  own_at_tie = λ other ends apart tie. omega arith;
}

pub nearest_lifted-nearest : (top seq : ℕ) → seq < 65536 → IsNearest top seq (nearest_lifted top seq)
nearest_lifted-nearest top seq within = by_high (cases_lt (top % 65536 + 32768) seq) (cases_lt (seq + 32768) (top % 65536))
  where
    by_high : (top % 65536 + 32768 < seq) ⊎ (seq ≤ top % 65536 + 32768) → (seq + 32768 < top % 65536) ⊎ (top % 65536 ≤ seq + 32768)
        → IsNearest top seq (nearest_lifted top seq)
    by_high (inl high) _ = is_nearest_before top seq (nearest_lifted top seq) within (nearest_before top seq high within) high
    by_high (inr high) (inl low) = is_nearest_after top seq (nearest_lifted top seq) within (nearest_after top seq low within) low
    by_high (inr high) (inr low) = is_nearest top seq (nearest_lifted top seq) within (nearest_own top seq high low within) high low

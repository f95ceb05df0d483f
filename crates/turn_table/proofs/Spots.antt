-- Each place below 960 times the rows has a spot of its own, and each spot has its place.
use Rattle.std.proofs.Common.{◌≡◌, ℕ, ◌+◌, ◌*◌, ◌/◌, ◌%◌, ◌^◌, ◌<◌, ◌≤◌, sym, ap, ◌∙◌, arith}
use Rattle.std.proofs.lemmas.Nat.{div-mul-add, mod-mul-add, div-add-mod'}
use Rattle.std.proofs.Math.Nat.{mod-lt, mul-le-mul_right, div-lt_iff_lt-mul}
use Rattle.turn_table.specs.Layout.{column_rows, spot_of, place_at}

-- the columns have room for all places
pub rows_hold : (n : ℕ) → n ≤ 960 * column_rows n
rows_hold n = omega arith

pub spot_low : (rows k : ℕ) → k < 960 * rows → spot_of rows k < 960 * rows
spot_low rows k low =
    let c : k % 960 * rows ≤ 959 * rows = mul-le-mul_right rows (omega arith) in
    let q : k / 960 < rows = omega arith in omega arith

-- the place at the spot of k is k
pub place_spot : (rows k : ℕ) → k < 960 * rows → place_at rows (spot_of rows k) ≡ k
place_spot rows k low =
    let q : k / 960 < rows = omega arith in
    let d : spot_of rows k / rows ≡ k % 960 = div-mul-add (k % 960) rows (k / 960) q in
    let m : spot_of rows k % rows ≡ k / 960 = mod-mul-add (k % 960) rows (k / 960) q in
    ap (λ z. z + 960 * (spot_of rows k % rows)) d ∙ (ap (λ z. k % 960 + 960 * z) m ∙ omega arith)

-- no two places have one spot
pub one_spot : (rows j k : ℕ) → j < 960 * rows → k < 960 * rows → spot_of rows j ≡ spot_of rows k → j ≡ k
one_spot rows j k j_low k_low e = sym (place_spot rows j j_low) ∙ (ap (place_at rows) e ∙ place_spot rows k k_low)

column_low : (rows i : ℕ) → i < 960 * rows → i / rows < 960
column_low rows i low = (div-lt_iff_lt-mul (omega arith)).1 low

-- the spot of the place at a spot is that spot
pub spot_place : (rows i : ℕ) → i < 960 * rows → spot_of rows (place_at rows i) ≡ i
spot_place rows i low =
    let c = column_low rows i low in
    let d : place_at rows i % 960 ≡ i / rows = omega arith in
    let m : place_at rows i / 960 ≡ i % rows = omega arith in
    ap (λ z. z * rows + place_at rows i / 960) d ∙ (ap (λ z. i / rows * rows + z) m ∙ div-add-mod' i rows)

pub place_low : (rows i : ℕ) → i < 960 * rows → place_at rows i < 960 * rows
place_low rows i low = let c = column_low rows i low in let q : i % rows < rows = mod-lt i (omega arith) in omega arith

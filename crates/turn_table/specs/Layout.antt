-- Where the places lie: those with one number modulo 960 lie side by side, in 960 columns of an even number of rows.
use Rattle.std.specs.Prelude.{ℕ, ◌+◌, ◌*◌, ◌/◌, ◌%◌}

-- how many spots a column has
abbrev pub column_rows : ℕ → ℕ
column_rows places = (places + 1919) / 1920 * 2

-- the spot of the place k: its column is the remainder, and its row there the quotient
abbrev pub spot_of : ℕ → ℕ → ℕ
spot_of rows k = k % 960 * rows + k / 960

-- the place of a spot, which is spare where there is no such place
abbrev pub place_at : ℕ → ℕ → ℕ
place_at rows spot = spot / rows + 960 * (spot % rows)

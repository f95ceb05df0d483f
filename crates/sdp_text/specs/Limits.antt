-- What readers that stop at a limit give.
use Rattle.std.specs.Prelude.{ℕ, List, length, Option, Some, None, nat_le, if◌then◌else◌}

-- the list, where it is no longer than the limit
abbrev pub no_longer : ℕ → Option (List ℕ) → Option (List ℕ)
no_longer limit None = None
no_longer limit (Some xs) = if nat_le (length xs) limit then Some xs else None

-- The moments of a load.
use Rattle.std.specs.Prelude.{◌≡◌, ℕ, ◌==◌, true, Option, List}
use Rattle.std.specs.List.{list_all}
use Rattle.relay_outside.specs.DeviceLogs.{WhereLogged}

-- each moment that was told is 0
abbrev pub AreZero : Option (List ℕ) → Type 0
AreZero log = WhereLogged log (λ moments. list_all (λ moment. moment == 0) moments ≡ true)

-- What a growing list shows to its callers: its items, and for how many more it has room.
use Rattle.std.specs.Prelude.{ℕ, List}

pub record Room (T : Type 0) : Type 0 where
  pub list : List T
  pub spare : ℕ

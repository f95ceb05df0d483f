-- A list with the room that is left for more of it.
use Rattle.std.specs.Prelude.{ℕ, List}

-- the items, and how many more go in without taking memory
pub record Reserve (T : Type 0) : Type 0 where
  pub list : List T
  pub spare : ℕ

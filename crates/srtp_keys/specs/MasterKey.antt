-- A drawn key as contracts see it.
use Rattle.std.specs.Prelude.{ℕ, List}

-- its number, and its bytes: 16 of master key and 14 of master salt
pub record MasterKey : Type 0 where
  pub number : ℕ
  pub bytes : List ℕ

-- Where a table keeps an empty vector with room for its states.
use Rattle.std.specs.Prelude.{◌≡◌, ℕ, ◌≤◌, [], ◌∷◌, vec_capacity}
use Rattle.std.specs.declared.vec.Vec.{Vec}
use mathlib.Core.Option.{some}
use Rattle.atomic_table.specs.Table.{State}

-- the one slot is home, with an empty vector that has room for n items
abbrev pub HasRoom : {S A : Type 0} → ℕ → State (Vec S A) (Unit {0}) → Type 0
HasRoom {S = S} {A = A} n s = (v : Vec S A) × (s.homes ≡ some v ∷ []) × (v.items ≡ []) × (n ≤ vec_capacity v)

-- Packet indices, over a plain list of the indices that were noted: which index a sequence number most likely stands
-- for (RFC 3711, section 3.3.1), and which indices may still be taken (section 3.3.2).
use Rattle.std.specs.Prelude.{ℕ, ◌≡◌, ◌≢◌, ◌≤◌, ◌+◌, ◌-◌, ◌*◌, ◌/◌, ◌%◌, ◌^◌, ◌==◌, List, [], ◌∷◌, Bool, false, Option, Some, None, unwrap_or, max, nat_le, nat_lt, if◌then◌else◌}
use Rattle.std.specs.List.{list_any}
use Rattle.std.specs.Option.{option_map_or}
use Rattle.replay_window.specs.declared.answers.Near.{Near}
use Rattle.replay_window.specs.declared.answers.Near.TheVariants.{At, Below, Beyond}
use Rattle.replay_window.specs.declared.answers.Fresh.{Fresh}
use Rattle.replay_window.specs.declared.answers.Fresh.TheVariants.{Yes, TooOld, Used}

-- the greatest of the noted indices, where there is one
abbrev pub greatest_index : List ℕ → Option ℕ
greatest_index [] = None
greatest_index (index ∷ noted) = Some (max index (unwrap_or (greatest_index noted) 0))

-- the distance of two numbers
abbrev pub distance : ℕ → ℕ → ℕ
distance a b = (a - b) + (b - a)

-- of two numbers the one nearer to a goal, and the first where both are as near
abbrev pub nearer : ℕ → ℕ → ℕ → ℕ
nearer goal first second = if nat_le (distance first goal) (distance second goal) then first else second

-- Of the whole numbers that end in a sequence number, thus of its sums with the multiples of 65,536, the one nearest to
-- the top; at a tie the one with the top's own quotient by 65,536. It may be negative, so numbers are counted here from
-- 65,536 below zero: the answer is the number plus 65,536. (`near_is_nearest` is the law that no other number is nearer.)
unfoldable pub nearest_lifted : ℕ → ℕ → ℕ
nearest_lifted top seq =
    let own = (top / 65536 + 1) * 65536 + seq in
    nearer (top + 65536) own (nearer (top + 65536) (own - 65536) (own + 65536))

-- a lifted number is the nearest one: it ends in the sequence number, no other number that does is nearer, and where
-- another is as near this one has the top's own quotient
pub record IsNearest (top seq lifted : ℕ) : Type 0 where
  pub ends : lifted % 65536 ≡ seq
  pub least : (other : ℕ) → other % 65536 ≡ seq → distance lifted (top + 65536) ≤ distance other (top + 65536)
  pub own_at_tie : (other : ℕ) → other % 65536 ≡ seq → other ≢ lifted
      → distance lifted (top + 65536) ≡ distance other (top + 65536) → lifted / 65536 ≡ top / 65536 + 1

-- a lifted number as an answer: there is no index below zero, and none from 2 ^ 48 on
abbrev pub as_index : ℕ → Near
as_index lifted =
    if nat_lt lifted 65536 then Below else if nat_lt (lifted - 65536) (2 ^ 48) then At (lifted - 65536) else Beyond

-- the index that a sequence number most likely stands for
unfoldable pub near : List ℕ → ℕ → Near
near noted seq = option_map_or (λ top. as_index (nearest_lifted top seq)) (greatest_index noted) (At seq)

-- an index that lies 128 or more behind the greatest
abbrev pub is_too_old : List ℕ → ℕ → Bool
is_too_old noted index = option_map_or (λ top. nat_le (index + 128) top) (greatest_index noted) false

abbrev pub is_noted : List ℕ → ℕ → Bool
is_noted noted index = list_any (λ other. other == index) noted

-- whether an index may be taken: it isn't too old and wasn't noted
unfoldable pub fresh : List ℕ → ℕ → Fresh
fresh noted index =
    if is_too_old noted index then TooOld else if is_noted noted index then Used else Yes

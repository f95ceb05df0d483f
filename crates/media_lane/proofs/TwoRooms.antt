-- The two rooms of a lane, after one of them was written.
use Rattle.std.proofs.Common.{◌≡◌, sym, ◌∙◌, ap, ℕ, ◌-◌, ◌<◌, ◌≤◌, min, List, [], ◌++◌, take, length, slice_index_or, slice_set, arith}
use Rattle.std.proofs.lemmas.Grind.{get_or-set_at}
use Rattle.std.proofs.lemmas.List.{take-take, take_at, take_min}

module _ (rooms : List (List ℕ)) (free : ℕ) (room : List ℕ) (one_of : free < 2) (two : length rooms ≡ 2) where
  -- the free room, when it has become that of the last relay
  pub last_is : slice_index_or (slice_set rooms free room) (1 - (1 - free)) [] ≡ room
  last_is = get_or-set_at rooms free (1 - (1 - free)) room [] (omega (arith, one_of)) (omega (arith, one_of, two))

  -- what was sent stands at its front
  pub sent_is : (sent left : ℕ) → sent ≡ min left (length room)
      → take sent (slice_index_or (slice_set rooms free room) (1 - (1 - free)) []) ≡ take left (slice_index_or (slice_set rooms free room) (1 - (1 - free)) [])
  sent_is sent left is =
      let last = slice_index_or (slice_set rooms free room) (1 - (1 - free)) [] in
      ap (λ (n : ℕ). take n last) is ∙ ap (λ (xs : List ℕ). take (min left (length xs)) last) (sym last_is) ∙ take_min left last

  -- bytes at its front
  pub front_is : (bytes : List ℕ) → length bytes ≤ 2000 → take (length bytes) room ≡ bytes
      → take (length bytes) (take 2001 (slice_index_or (slice_set rooms free room) free [])) ≡ bytes
  front_is bytes short is =
      take-take (length bytes) 2001 (slice_index_or (slice_set rooms free room) free []) (omega (arith, short))
      ∙ ap (λ (xs : List ℕ). take (length bytes) xs) (get_or-set_at rooms free free room [] (omega arith) (omega (arith, one_of, two)))
      ∙ is

-- what was taken into the front of the free room
pub taken_is : (rooms : List (List ℕ)) (free : ℕ) (front rest : List ℕ) → free < 2 → length rooms ≡ 2 → length front ≡ 2001
    → take 2001 (slice_index_or (slice_set rooms free (front ++ rest)) free []) ≡ front
taken_is rooms free front rest one_of two long =
    ap (λ (xs : List ℕ). take 2001 xs) (get_or-set_at rooms free free (front ++ rest) [] (omega arith) (omega (arith, one_of, two))) ∙ take_at front rest 2001 long

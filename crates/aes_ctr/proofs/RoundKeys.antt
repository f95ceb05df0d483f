-- The words of a key schedule, and a round's key.
use Rattle.std.proofs.Common.{◌≡◌, ℕ, ◌+◌, ◌*◌, ◌<◌, List, [], ◌∷◌, ◌++◌, length, get_or, take, drop, ap, sym, ◌∙◌, arith, length-drop, get_or-take}
use Rattle.std.proofs.lemmas.List.{get_or-drop, length-take-le}
use Rattle.aes_ctr.specs.Aes.{word_at, key_schedule, round_key}
use Rattle.aes_ctr.specs.Columns.{column_bytes, HoldsSchedule}
use Rattle.aes_ctr.proofs.Columns.{same_word, same_state, whole_state}
use Rattle.aes_ctr.proofs.Expanding.{length-expanded}

four_words : (schedule : List ℕ) (round : ℕ) → round < 11 → length schedule ≡ 176
    → word_at schedule (4 * round) ++ word_at schedule (4 * round + 1) ++ word_at schedule (4 * round + 2) ++ word_at schedule (4 * round + 3) ≡ take 16 (drop (16 * round) schedule)
four_words schedule round lt long =
    let size : length (take 16 (drop (16 * round) schedule)) ≡ 16 = length-take-le 16 (drop (16 * round) schedule) (omega (arith, length-drop (16 * round) schedule)) in
    same_state
    (same_word (byte_at 0 (4 * (4 * round)) (omega arith) (omega arith)) (byte_at 1 (4 * (4 * round) + 1) (omega arith) (omega arith)) (byte_at 2 (4 * (4 * round) + 2) (omega arith) (omega arith)) (byte_at 3 (4 * (4 * round) + 3) (omega arith) (omega arith)))
    (same_word (byte_at 4 (4 * (4 * round + 1)) (omega arith) (omega arith)) (byte_at 5 (4 * (4 * round + 1) + 1) (omega arith) (omega arith)) (byte_at 6 (4 * (4 * round + 1) + 2) (omega arith) (omega arith)) (byte_at 7 (4 * (4 * round + 1) + 3) (omega arith) (omega arith)))
    (same_word (byte_at 8 (4 * (4 * round + 2)) (omega arith) (omega arith)) (byte_at 9 (4 * (4 * round + 2) + 1) (omega arith) (omega arith)) (byte_at 10 (4 * (4 * round + 2) + 2) (omega arith) (omega arith)) (byte_at 11 (4 * (4 * round + 2) + 3) (omega arith) (omega arith)))
    (same_word (byte_at 12 (4 * (4 * round + 3)) (omega arith) (omega arith)) (byte_at 13 (4 * (4 * round + 3) + 1) (omega arith) (omega arith)) (byte_at 14 (4 * (4 * round + 3) + 2) (omega arith) (omega arith)) (byte_at 15 (4 * (4 * round + 3) + 3) (omega arith) (omega arith)))
    ∙ whole_state (take 16 (drop (16 * round) schedule)) size
  where
    byte_at : (k place : ℕ) → k < 16 → 16 * round + k ≡ place → get_or schedule place 0 ≡ get_or (take 16 (drop (16 * round) schedule)) k 0
    byte_at k place low is =
        sym (get_or-take 16 (drop (16 * round) schedule) k 0 low ∙ get_or-drop (16 * round) schedule k 0 ∙ ap (λ n. get_or schedule n 0) is)

pub round_key_words : (words key now : List ℕ) (round : ℕ) → key ≡ now → HoldsSchedule words key → round < 11
    → column_bytes (get_or words (4 * round) 0 ∷ get_or words (4 * round + 1) 0 ∷ get_or words (4 * round + 2) 0 ∷ get_or words (4 * round + 3) 0 ∷ []) ≡ round_key (key_schedule now) round
round_key_words words key now round is held lt =
    let size : length (key_schedule key) ≡ 176 = omega (arith, length-expanded key 40, held.long) in
    same_state (held.each (4 * round) (omega arith)) (held.each (4 * round + 1) (omega arith)) (held.each (4 * round + 2) (omega arith)) (held.each (4 * round + 3) (omega arith))
    ∙ four_words (key_schedule key) round lt size ∙ ap (λ (k : List ℕ). round_key (key_schedule k) round) is

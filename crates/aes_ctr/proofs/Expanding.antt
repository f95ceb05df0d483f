-- One more word of the key schedule.
use Rattle.std.proofs.Common.{◌≡◌, ℕ, zero, suc, ◌+◌, ◌-◌, ◌*◌, ◌/◌, ◌%◌, ◌<◌, ◌≤◌, List, ◌++◌, length, take, slice_index, refl, sym, ap, ◌∙◌, arith, get_or-take, length-append, ◌≢◌, eq-eqb}
use Rattle.std.proofs.lemmas.List.{take_all, take-append-le}
use Rattle.std.proofs.lemmas.Bool.{ne_eqb}
use Rattle.aes_ctr.specs.Aes.{word_at, add_words, rot_word, sub_word, round_constant, next_word, expanded, key_schedule}

-- a byte that lies in the first n
byte_of_take : (words : List ℕ) (n j : ℕ) → j < n → slice_index (take n words) j ≡ slice_index words j
byte_of_take words n j h = get_or-take n words j 0 h

-- word i depends on the words before it alone
next_word-take : (words : List ℕ) (i : ℕ) → 4 ≤ i → next_word (take (4 * i) words) i ≡ next_word words i
unfolding next_word
next_word-take words i h =
    let a = byte_of_take words (4 * i) (4 * (i - 4)) (omega arith) in
    let b = byte_of_take words (4 * i) (4 * (i - 4) + 1) (omega arith) in
    let c = byte_of_take words (4 * i) (4 * (i - 4) + 2) (omega arith) in
    let d = byte_of_take words (4 * i) (4 * (i - 4) + 3) (omega arith) in
    let e = byte_of_take words (4 * i) (4 * (i - 1)) (omega arith) in
    let f = byte_of_take words (4 * i) (4 * (i - 1) + 1) (omega arith) in
    let g = byte_of_take words (4 * i) (4 * (i - 1) + 2) (omega arith) in
    let k = byte_of_take words (4 * i) (4 * (i - 1) + 3) (omega arith) in
    rw (a, b, c, d, e, f, g, k) refl

-- word i, where i is a multiple of 4
pub next_word_fourth : (words before rotated constant added earlier word : List ℕ) (i : ℕ) → i % 4 ≡ 0 → before ≡ word_at words (i - 1)
    → rotated ≡ sub_word (rot_word before) → constant ≡ round_constant (i / 4) → added ≡ add_words rotated constant → earlier ≡ word_at words (i - 4)
    → word ≡ add_words earlier added → word ≡ next_word words i
unfolding next_word
next_word_fourth words before rotated constant added earlier word i m eb er ec ea ee ew = rw (ew, ee, ea, er, ec, eb, eq-eqb (i % 4) 0 m) refl

-- word i, where it is not
pub next_word_other : (words added earlier word : List ℕ) (i : ℕ) → i % 4 ≢ 0 → added ≡ word_at words (i - 1) → earlier ≡ word_at words (i - 4)
    → word ≡ add_words earlier added → word ≡ next_word words i
unfolding next_word
next_word_other words added earlier word i m ea ee ew = rw (ew, ee, ea, ne_eqb (i % 4) 0 m) refl

pub expanded_more : (words key word after : List ℕ) (i : ℕ) → 4 ≤ i → 4 * i ≤ length words → take (4 * i) words ≡ expanded key (i - 4) → word ≡ next_word words i
    → take (4 * i + length word) after ≡ take (4 * i) words ++ word → take (4 * (i + 1)) after ≡ expanded key (i + 1 - 4)
unfolding expanded next_word
expanded_more words key word after i low fits held is now =
    let long : length word ≡ 4 = ap (λ (l : List ℕ). length l) is in
    let size : 4 * i + length word ≡ 4 * (i + 1) = omega arith in
    let front : take (4 * (i + 1)) after ≡ take (4 * i) words ++ word = rw size at now in
    let more : i + 1 - 4 ≡ suc (i - 4) = omega arith in
    let place : i - 4 + 4 ≡ i = omega arith in
    let next : word ≡ next_word (expanded key (i - 4)) i = is ∙ sym (next_word-take words i low) ∙ ap (λ (l : List ℕ). next_word l i) held in
    rw (front, more, held, place, ← next) refl

pub length-expanded : (key : List ℕ) (n : ℕ) → length (expanded key n) ≡ length key + 4 * n
unfolding expanded next_word
length-expanded key zero = omega arith
length-expanded key (suc n) = omega (arith, length-append {A = ℕ} (expanded key n) (next_word (expanded key n) (n + 4)), length-expanded key n)

-- the schedule begins with its key
pub take-expanded : (key : List ℕ) (n : ℕ) → take (length key) (expanded key n) ≡ key
unfolding expanded
take-expanded key zero = take_all (length key) key (omega arith)
take-expanded key (suc n) =
    take-append-le (length key) (expanded key n) (next_word (expanded key n) (n + 4)) (omega (arith, length-expanded key n)) ∙ take-expanded key n

pub take-key_schedule : (key : List ℕ) → length key ≡ 16 → take 16 (key_schedule key) ≡ key
take-key_schedule key long = rw long at (take-expanded key 40)

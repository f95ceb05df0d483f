-- Exclusive or, and the keystream, byte by byte.
use Rattle.std.proofs.Common.{◌≡◌, ℕ, zero, suc, ◌+◌, ◌-◌, ◌*◌, ◌/◌, ◌%◌, ◌<◌, ◌≤◌, List, [], ◌∷◌, length, get_or, bit_xor, refl, ap, sym, ◌∙◌, arith, min, take, drop, replicate, length-drop, take_all, inl, inr}
use Rattle.std.proofs.lemmas.List.{ext_get_or, get_or_append_left, get_or-append_right, get_or-take, get_or-drop, length-take-le}
use Rattle.std.proofs.lemmas.List.FromFn.{length-map-range_with_len, get_or-map-range_with_len}
use Rattle.std.proofs.lemmas.Bool.{cases_lt}
use Rattle.std.proofs.lemmas.Simd.{put_chunk_whole}
use lib.Lanes.{zip2, put_chunk}
use Rattle.std.specs.Int.Bits.{xor_assoc, xor_self, xor_zero_r}
use borrow.Rule.Slice.PartMut.{put_mid}
use Rattle.aes_ctr.specs.Aes.{aes, add_round_key}
use Rattle.aes_ctr.specs.Keystream.{xored, counter_block, keystream, keystream_byte}

pub length-xored : (xs ys : List ℕ) → length xs ≤ length ys → length (xored xs ys) ≡ length xs
length-xored [] ys h = refl
length-xored (x ∷ xs) [] h = absurd (omega arith)
length-xored (x ∷ xs) (y ∷ ys) h = ap suc (length-xored xs ys (omega arith))

pub get_or-xored : (xs ys : List ℕ) (i : ℕ) → i < length xs → length xs ≤ length ys → get_or (xored xs ys) i 0 ≡ bit_xor (get_or xs i 0) (get_or ys i 0)
get_or-xored [] ys i lt h = absurd (omega arith)
get_or-xored (x ∷ xs) [] i lt h = absurd (omega arith)
get_or-xored (x ∷ xs) (y ∷ ys) zero lt h = refl
get_or-xored (x ∷ xs) (y ∷ ys) (suc i) lt h = get_or-xored xs ys i (omega arith) (omega arith)

-- a list that is the exclusive or of two at each place
pub xored_by_places : (xs ys zs : List ℕ) → length zs ≡ length xs → length xs ≤ length ys → ((i : ℕ) → i < length xs → get_or zs i 0 ≡ bit_xor (get_or xs i 0) (get_or ys i 0))
    → zs ≡ xored xs ys
xored_by_places xs ys zs long fits each =
    ext_get_or 0 _ _ (long ∙ sym (length-xored xs ys fits)) (λ i h. let lt : i < length xs = omega arith in each i lt ∙ sym (get_or-xored xs ys i lt fits))

-- to change by the same list twice changes nothing, so that `apply` undoes itself
pub xored-xored : (xs ys : List ℕ) → length xs ≤ length ys → xored (xored xs ys) ys ≡ xs
xored-xored [] ys h = refl
xored-xored (x ∷ xs) [] h = absurd (omega arith)
xored-xored (x ∷ xs) (y ∷ ys) h = rw (xor_assoc x y y, xor_self y, xor_zero_r x, xored-xored xs ys (omega arith)) refl

-- zeros become the list
pub xored-zeros : (ys : List ℕ) (n : ℕ) → length ys ≡ n → xored (replicate n 0) ys ≡ ys
xored-zeros [] zero h = refl
xored-zeros [] (suc n) h = absurd (omega arith)
xored-zeros (y ∷ ys) zero h = absurd (omega arith)
xored-zeros (y ∷ ys) (suc n) h = ap (λ (l : List ℕ). y ∷ l) (xored-zeros ys n (omega arith))

pub length-aes : (key input : List ℕ) → length (aes key input) ≡ 16
unfolding aes add_round_key
length-aes key input = refl

-- ---- a list of which the k places from a on were written

mid_below : (xs ys : List ℕ) (a k i : ℕ) → a ≤ length xs → i < a → get_or (put_mid a k xs ys) i 0 ≡ get_or xs i 0
mid_below xs ys a k i fits lt =
    let front : i < length (take a xs) = omega (arith, length-take-le a xs fits) in
    get_or_append_left (take a xs) _ 0 i front ∙ get_or-take a xs i 0 lt

mid_at : (xs ys : List ℕ) (a k i : ℕ) → a ≤ length xs → length ys ≡ k → a ≤ i → i < a + k → get_or (put_mid a k xs ys) i 0 ≡ get_or ys (i - a) 0
mid_at xs ys a k i fits long low high =
    let within : i - a < length ys = omega arith in
    get_or-append_right (take a xs) _ a i 0 (length-take-le a xs fits) low ∙ get_or_append_left ys _ 0 (i - a) within

mid_above : (xs ys : List ℕ) (a k i : ℕ) → a ≤ length xs → length ys ≡ k → a + k ≤ i → get_or (put_mid a k xs ys) i 0 ≡ get_or xs i 0
mid_above xs ys a k i fits long high =
    let place : a + (k + (i - a - k)) ≡ i = omega arith in
    get_or-append_right (take a xs) _ a i 0 (length-take-le a xs fits) (omega arith) ∙ get_or-append_right ys _ k (i - a) 0 long (omega arith)
    ∙ get_or-drop k (drop a xs) (i - a - k) 0 ∙ get_or-drop a xs (k + (i - a - k)) 0 ∙ ap (λ n. get_or xs n 0) place

-- ---- the bytes of the keystream

keystream_byte_in_block : (key stream : List ℕ) (iv index i : ℕ) → stream ≡ aes key (counter_block iv index) → 16 * index ≤ i → i < 16 * index + 16
    → get_or stream (i - 16 * index) 0 ≡ keystream_byte key iv i
unfolding keystream_byte
keystream_byte_in_block key stream iv index i is low high =
    let block : i / 16 ≡ index = omega arith in
    let place : i % 16 ≡ i - 16 * index = omega arith in
    rw (block, place, is) refl

pub length-keystream : (key : List ℕ) (iv n : ℕ) → length (keystream key iv n) ≡ n
unfolding keystream
length-keystream key iv n = length-map-range_with_len (keystream_byte key iv) 0 n

pub get_or-keystream : (key : List ℕ) (iv n i : ℕ) → i < n → get_or (keystream key iv n) i 0 ≡ keystream_byte key iv i
unfolding keystream
get_or-keystream key iv n i h = get_or-map-range_with_len (keystream_byte key iv) 0 n i i 0 h (omega arith)

-- ---- a list of which the first n bytes were changed by the keystream

pub record Applied (key : List ℕ) (iv : ℕ) (old now : List ℕ) (n : ℕ) : Type 0 where
  pub changed : (i : ℕ) → i < n → i < length old → get_or now i 0 ≡ bit_xor (get_or old i 0) (keystream_byte key iv i)
  pub left : (i : ℕ) → n ≤ i → get_or now i 0 ≡ get_or old i 0

pub applied_none : (key : List ℕ) (iv : ℕ) (old : List ℕ) → Applied key iv old old 0
applied_none key iv old = record { changed = λ i lt _. absurd (omega arith); left = λ i _. refl }

-- one more block, or what is left of the bytes
pub applied_more : (key : List ℕ) (iv : ℕ) (old now stream part : List ℕ) (index size k : ℕ) → length now ≡ length old → 16 * index < length old → size ≡ min (length old - 16 * index) 16
    → k ≡ size → stream ≡ aes key (counter_block iv index) → part ≡ xored (take k (drop (16 * index) now)) stream → Applied key iv old now (16 * index)
    → Applied key iv old (put_mid (16 * index) k now part) (16 * (index + 1))
applied_more key iv old now stream part index size k long more es ek is ep held =
    let fits : 16 * index ≤ length now = omega arith in
    let wide : length stream ≡ 16 = ap (λ (l : List ℕ). length l) is ∙ length-aes key (counter_block iv index) in
    let mid : List ℕ = take k (drop (16 * index) now) in
    let size_mid : length mid ≡ k = length-take-le k (drop (16 * index) now) (omega (arith, length-drop (16 * index) now)) in
    let size_part : length part ≡ k = ap (λ (l : List ℕ). length l) ep ∙ length-xored mid stream (omega arith) ∙ size_mid in
    record {
      changed = λ i lt within. elim (cases_lt i (16 * index)) [
        | inl below ↦ mid_below now part (16 * index) k i fits below ∙ held.changed i below within
        | inr from ↦
            let in_part : i < 16 * index + k = omega arith in
            let place : 16 * index + (i - 16 * index) ≡ i = omega arith in
            let was : get_or mid (i - 16 * index) 0 ≡ get_or old i 0 =
            get_or-take k (drop (16 * index) now) (i - 16 * index) 0 (omega arith) ∙ get_or-drop (16 * index) now (i - 16 * index) 0
            ∙ ap (λ n. get_or now n 0) place ∙ held.left i from in
            let of_stream : get_or stream (i - 16 * index) 0 ≡ keystream_byte key iv i = keystream_byte_in_block key stream iv index i is from (omega arith) in
            mid_at now part (16 * index) k i fits size_part from in_part ∙ ap (λ (l : List ℕ). get_or l (i - 16 * index) 0) ep
            ∙ get_or-xored mid stream (i - 16 * index) (omega arith) (omega arith)
            ∙ (rw (was, of_stream) refl)
      ];
      left = λ i from. mid_above now part (16 * index) k i fits size_part (omega arith) ∙ held.left i (omega arith);
    }

pub applied_all : (key : List ℕ) (iv : ℕ) (old now : List ℕ) (n : ℕ) → length now ≡ length old → length old ≤ n → Applied key iv old now n → now ≡ xored old (keystream key iv (length old))
applied_all key iv old now n long all held =
    xored_by_places old (keystream key iv (length old)) now long (omega (arith, length-keystream key iv (length old))) (λ i lt.
    held.changed i (omega arith) lt ∙ ap (λ b. bit_xor (get_or old i 0) b) (sym (get_or-keystream key iv (length old) i lt)))

-- ---- 16 bytes at a time

zip2-xored : (xs ys : List ℕ) → zip2 bit_xor xs ys ≡ xored xs ys
zip2-xored [] ys = refl
zip2-xored (x ∷ xs) [] = refl
zip2-xored (x ∷ xs) (y ∷ ys) = ap (λ (l : List ℕ). bit_xor x y ∷ l) (zip2-xored xs ys)

-- 16 bytes that are read, changed and written back
pub put-xored : (xs ys : List ℕ) → length xs ≡ 16 → length ys ≡ 16 → put_chunk 0 xs (zip2 bit_xor (take 16 xs) ys) ≡ xored xs ys
put-xored xs ys long wide =
    let whole : take 16 xs ≡ xs = take_all 16 xs (omega arith) in
    let size : length xs ≡ length (zip2 bit_xor (take 16 xs) ys) = sym (length-xored xs ys (omega arith)) ∙ ap (λ (l : List ℕ). length l) (sym (zip2-xored xs ys) ∙ ap (λ (l : List ℕ). zip2 bit_xor l ys) (sym whole)) in
    put_chunk_whole xs _ size ∙ ap (λ (l : List ℕ). zip2 bit_xor l ys) whole ∙ zip2-xored xs ys

-- What eight words of a generator are, and what one more draw is told as.
use Rattle.std.proofs.Common.{◌≡◌, ℕ, zero, suc, ◌+◌, ◌-◌, ◌*◌, ◌%◌, ◌^◌, ◌<◌, Bool, true, false, nat_lt, List, [], ◌∷◌, ◌++◌, take, refl, ap, sym, ◌∙◌, arith, append_assoc, append-nil}
use Rattle.std.proofs.lemmas.List.FromFn.{map-range_with_len_more}
use Rattle.std.proofs.lemmas.Bool.Decides.{nat_tests}
use Rattle.std.specs.Int.{to_le_bytes, w32}
use Rattle.std.specs.List.{flat_map, range_with_len}
use Rattle.rand_core.specs.Steps.{word_bytes, fill_via_u32}
use Rattle.rand_chacha.specs.ChaCha.{ChaCha, next_word}
use Rattle.relay_outside.specs.DeviceLogs.{Gains, where_logged}
use Rattle.relay_outside.specs.Failures.{next_count}
use Rattle.relay_outside.specs.declared.keys.KeyCall.TheVariants.{Drawn}
use Rattle.outside_real.specs.KeyStream.{stream_word, stream_bytes, key_of_draw, draws, logged_draws}

-- one more place
range_more : (f : ℕ → List ℕ) (i k : ℕ) → flat_map f (range_with_len i (suc k)) ≡ flat_map f (range_with_len i k) ++ f (i + k)
range_more f i zero = let e : i + 0 ≡ i = omega arith in append-nil (f i) ∙ ap f (sym e)
range_more f i (suc k) =
    let e : i + 1 + k ≡ i + suc k = omega arith in
    ap (λ (l : List ℕ). f i ++ l) (range_more f (i + 1) k)
    ∙ sym (append_assoc (f i) (flat_map f (range_with_len (i + 1) k)) (f (i + 1 + k)))
    ∙ ap (λ (n : ℕ). (f i ++ flat_map f (range_with_len (i + 1) k)) ++ f n) e

-- the words of a generator in stream 0, as far as its stream does not wrap around
words_of : (key : List ℕ) (i k : ℕ) → i + k < 2 ^ 68
    → word_bytes (to_le_bytes w32) (next_word 10) k (record { key = key; stream = 0; word_pos = i })
    ≡ (stream_bytes key i k, record { key = key; stream = 0; word_pos = i + k })
unfolding word_bytes
words_of key i zero fits = let e : i ≡ i + 0 = omega arith in ap (λ (n : ℕ). let g : ChaCha = record { key = key; stream = 0; word_pos = n } in let none : List ℕ = [] in (none, g)) e
words_of key i (suc k) fits =
    let before = words_of key i k (omega arith) in
    let e : (i + k + 1) % 2 ^ 68 ≡ i + suc k = omega arith in
    rw (before, e, range_more (λ j. to_le_bytes w32 (stream_word key j)) i k) refl

-- words leave the key and the stream of a generator
words_keep : (k : ℕ) (g : ChaCha) → let after = word_bytes (to_le_bytes w32) (next_word 10) k g in (after.1.key ≡ g.key) × (after.1.stream ≡ g.stream)
unfolding word_bytes
words_keep zero g = (refl, refl)
words_keep (suc k) g = words_keep k g

pub fill_keeps : (g after : ChaCha) (bytes : List ℕ) → (bytes, after) ≡ fill_via_u32 (next_word 10) 30 g → (after.key ≡ g.key) × (after.stream ≡ g.stream)
fill_keeps g after bytes e =
    let kept = words_keep 8 g in
    (ap (λ (p : List ℕ × ChaCha). p.1.key) e ∙ kept.0, ap (λ (p : List ℕ × ChaCha). p.1.stream) e ∙ kept.1)

-- the thirty bytes that a generator gives, which has given n keys
module _ (g after : ChaCha) (bytes : List ℕ) (n : ℕ) (zeroth : g.stream ≡ 0) (at : g.word_pos ≡ 8 * n) (few : n < 2 ^ 64) (e : (bytes, after) ≡ fill_via_u32 (next_word 10) 30 g) where
  gives : ◌≡◌ {A = List ℕ × ChaCha} (bytes, after) (key_of_draw g.key n, record { key = g.key; stream = 0; word_pos = 8 * n + 8 })
  unfolding key_of_draw
  gives =
      let same : g ≡ record { key = g.key; stream = 0; word_pos = 8 * n } = λ i. record { key = g.key; stream = zeroth i; word_pos = at i } in
      e ∙ ap (λ (from : ChaCha). fill_via_u32 (next_word 10) 30 from) same
      ∙ ap (λ (p : List ℕ × ChaCha). (take 30 p.0, p.1)) (words_of g.key (8 * n) 8 (omega arith))

  pub gives_key : bytes ≡ key_of_draw g.key n
  gives_key = ap (λ (p : List ℕ × ChaCha). p.0) gives

  pub moves_on : after.word_pos ≡ 8 * n + 8
  moves_on = ap (λ (p : List ℕ × ChaCha). p.1.word_pos) gives

-- one more draw is told, unless the draws are told no more
told_so : (before now : Bool) (words : List ℕ) (n m : ℕ) (key : List ℕ)
    → (now ≡ true → (before ≡ true) × (draws words m ≡ draws words n ++ Drawn key ∷ []))
    → Gains (where_logged before (draws words n)) (where_logged now (draws words m)) (Drawn key)
told_so before false words n m key more = tt
told_so false true words n m key more = absurd (cc (more refl).0)
told_so true true words n m key more = (more refl).1

pub told_more : (words : List ℕ) (n m : ℕ) (key : List ℕ) → m ≡ next_count n → (n < 2 ^ 64 - 1 → key ≡ key_of_draw words n)
    → Gains (logged_draws (record { seed_words = words; drawn = n })) (logged_draws (record { seed_words = words; drawn = m })) (Drawn key)
told_more words n m key next is =
    told_so (nat_lt n (2 ^ 64 - 1)) (nat_lt m (2 ^ 64 - 1)) words n m key λ few.
    let low : m < 2 ^ 64 - 1 = grind (arith, nat_tests) in
    let one : m ≡ n + 1 = omega arith in
    let shown : nat_lt n (2 ^ 64 - 1) ≡ true = grind (arith, nat_tests) in
    let more : draws words (n + 1) ≡ draws words n ++ Drawn (key_of_draw words n) ∷ [] = map-range_with_len_more (λ k. Drawn (key_of_draw words k)) 0 n n (omega arith) in
    (shown, ap (draws words) one ∙ more ∙ ap (λ (k : List ℕ). draws words n ++ Drawn k ∷ []) (sym (is (omega arith))))

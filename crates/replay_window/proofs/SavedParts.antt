-- What saved windows are made of, read again.
use Rattle.std.proofs.Common.{◌≡◌, ℕ, zero, suc, ◌+◌, ◌*◌, ◌/◌, ◌%◌, ◌^◌, ◌<◌, List, [], ◌∷◌, ◌++◌, length, map, get_or, take, drop, Option, Some, None, refl, sym, ap, subst, ◌∙◌, arith, shr-shr}
use Rattle.std.specs.Int.{w64, w128, to_be_bytes, from_be_bytes}
use Rattle.std.proofs.Props.{props}
use Rattle.std.specs.List.{range_with_len}
use Rattle.std.specs.Option.{ForNone, ForSome}
use Rattle.std.proofs.lemmas.Nat.{be_bytes_8, from_be_bytes-to_be_bytes_8}
use Rattle.std.proofs.lemmas.List.{ext_get_or}
use Rattle.std.proofs.lemmas.List.FromFn.{length-map-range_with_len, get_or-map-range_with_len}
use Rattle.replay_window.specs.declared.window.Window.{Window}
use Rattle.replay_window.specs.SavedWindows.{FitsWindow, saved_greatest, saved_window}

-- ---- a number of 16 bytes is its halves

low_half : (n : ℕ) → to_be_bytes w64 (n % 2 ^ 64) ≡ to_be_bytes w64 n
low_half n = same_8 (omega arith) (omega arith) (omega arith) (omega arith) (omega arith) (omega arith) (omega arith) (omega arith)
  where
    same_8 : {a b c d e f g h a' b' c' d' e' f' g' h' : ℕ} → a ≡ a' → b ≡ b' → c ≡ c' → d ≡ d' → e ≡ e' → f ≡ f' → g ≡ g' → h ≡ h'
        → ◌≡◌ {A = List ℕ} (a ∷ b ∷ c ∷ d ∷ e ∷ f ∷ g ∷ h ∷ []) (a' ∷ b' ∷ c' ∷ d' ∷ e' ∷ f' ∷ g' ∷ h' ∷ [])
    same_8 ea eb ec ed ee ef eg eh = λ i. ea i ∷ eb i ∷ ec i ∷ ed i ∷ ee i ∷ ef i ∷ eg i ∷ eh i ∷ []

halves : (n : ℕ) → to_be_bytes w64 (n / 2 ^ 64) ++ to_be_bytes w64 (n % 2 ^ 64) ≡ to_be_bytes w128 n
halves n =
    let at = λ (k : ℕ). ap (λ a. a % 256) (shr-shr n 64 k) in
    ap (λ low. to_be_bytes w64 (n / 2 ^ 64) ++ low) (low_half n)
    ∙ (λ i. at 56 i ∷ at 48 i ∷ at 40 i ∷ at 32 i ∷ at 24 i ∷ at 16 i ∷ at 8 i ∷ n / 2 ^ 64 % 256 ∷ to_be_bytes w64 n)

-- eight bytes that are read
word_read : (a b c d e f g h n : ℕ) → ((i : ℕ) → get_or (a ∷ b ∷ c ∷ d ∷ e ∷ f ∷ g ∷ h ∷ []) i 0 < 256)
    → n ≡ from_be_bytes w64 (a ∷ b ∷ c ∷ d ∷ e ∷ f ∷ g ∷ h ∷ []) → to_be_bytes w64 n ≡ a ∷ b ∷ c ∷ d ∷ e ∷ f ∷ g ∷ h ∷ []
word_read a b c d e f g h n small is = be_bytes_8 (a ∷ b ∷ c ∷ d ∷ e ∷ f ∷ g ∷ h ∷ []) n refl small is

small_8 : (s : List ℕ) (k : ℕ) → ((i : ℕ) → get_or s i 0 < 256) → (i : ℕ)
    → get_or (get_or s k 0 ∷ get_or s (k + 1) 0 ∷ get_or s (k + 2) 0 ∷ get_or s (k + 3) 0 ∷ get_or s (k + 4) 0 ∷ get_or s (k + 5) 0 ∷ get_or s (k + 6) 0 ∷ get_or s (k + 7) 0 ∷ []) i 0 < 256
small_8 s k small zero = small k
small_8 s k small (suc zero) = small (k + 1)
small_8 s k small (suc (suc zero)) = small (k + 2)
small_8 s k small (suc (suc (suc zero))) = small (k + 3)
small_8 s k small (suc (suc (suc (suc zero)))) = small (k + 4)
small_8 s k small (suc (suc (suc (suc (suc zero))))) = small (k + 5)
small_8 s k small (suc (suc (suc (suc (suc (suc zero)))))) = small (k + 6)
small_8 s k small (suc (suc (suc (suc (suc (suc (suc zero))))))) = small (k + 7)
small_8 s k small (suc (suc (suc (suc (suc (suc (suc (suc i)))))))) = omega arith

-- the eight bytes of a list from one place on
abbrev pub eight : List ℕ → ℕ → List ℕ
eight s k = get_or s k 0 ∷ get_or s (k + 1) 0 ∷ get_or s (k + 2) 0 ∷ get_or s (k + 3) 0 ∷ get_or s (k + 4) 0 ∷ get_or s (k + 5) 0 ∷ get_or s (k + 6) 0 ∷ get_or s (k + 7) 0 ∷ []

-- a list of 25 is its elements
whole : (s : List ℕ) → length s ≡ 25 → get_or s 0 0 ∷ (eight s 1 ++ (eight s 9 ++ eight s 17)) ≡ s
whole s long =
    let size : length (map (λ k. get_or s k 0) (range_with_len 0 25)) ≡ 25 = length-map-range_with_len (λ (k : ℕ). get_or s k 0) 0 25 in
    ext_get_or 0 _ _ (size ∙ sym long) (λ i h. get_or-map-range_with_len (λ (k : ℕ). get_or s k 0) 0 25 i i 0 (omega (arith, size)) (omega arith))

pub parts : (s : List ℕ) (index high low bits : ℕ) → length s ≡ 25 → ((i : ℕ) → get_or s i 0 < 256)
    → index ≡ from_be_bytes w64 (eight s 1) → high ≡ from_be_bytes w64 (eight s 9) → low ≡ from_be_bytes w64 (eight s 17)
    → low < 2 ^ 64 → bits ≡ high * 2 ^ 64 + low
    → s ≡ get_or s 0 0 ∷ (to_be_bytes w64 index ++ to_be_bytes w128 bits)
parts s index high low bits long small ei eh el within eb =
    let i = be_bytes_8 (eight s 1) index refl (small_8 s 1 small) ei in
    let h = be_bytes_8 (eight s 9) high refl (small_8 s 9 small) eh in
    let l = be_bytes_8 (eight s 17) low refl (small_8 s 17 small) el in
    let at_high : high ≡ bits / 2 ^ 64 = omega arith in
    let at_low : low ≡ bits % 2 ^ 64 = omega arith in
    sym (ap (λ w. get_or s 0 0 ∷ (to_be_bytes w64 index ++ w)) (sym (halves bits) ∙ ap (λ n. to_be_bytes w64 n ++ to_be_bytes w64 (bits % 2 ^ 64)) (sym at_high) ∙ ap (λ n. to_be_bytes w64 high ++ to_be_bytes w64 n) (sym at_low))
    ∙ (λ j. get_or s 0 0 ∷ (i j ++ (h j ++ l j))) ∙ whole s long)

-- ---- bytes that are alike have the same parts

pub record SameParts (f i b f' i' b' : ℕ) : Type 0 where
  pub flag : f ≡ f'
  pub index : i ≡ i'
  pub bits : b ≡ b'

pub same_parts : (f i b f' i' b' : ℕ) → i < 2 ^ 64 → i' < 2 ^ 64 → b < 2 ^ 128 → b' < 2 ^ 128
    → f ∷ (to_be_bytes w64 i ++ to_be_bytes w128 b) ≡ f' ∷ (to_be_bytes w64 i' ++ to_be_bytes w128 b')
    → SameParts f i b f' i' b'
same_parts f i b f' i' b' li li' lb lb' same =
    let mid : to_be_bytes w64 i ≡ to_be_bytes w64 i' = ap (λ s. take 8 (drop 1 s)) same in
    let end : to_be_bytes w128 b ≡ to_be_bytes w128 b' = ap (λ s. drop 9 s) same in
    let both = halves b ∙ end ∙ sym (halves b') in
    let high : to_be_bytes w64 (b / 2 ^ 64) ≡ to_be_bytes w64 (b' / 2 ^ 64) = ap (λ s. take 8 s) both in
    let low : to_be_bytes w64 (b % 2 ^ 64) ≡ to_be_bytes w64 (b' % 2 ^ 64) = ap (λ s. drop 8 s) both in
    let number = λ (m n : ℕ) (lm : m < 2 ^ 64) (ln : n < 2 ^ 64) (e : to_be_bytes w64 m ≡ to_be_bytes w64 n). sym (from_be_bytes-to_be_bytes_8 m lm) ∙ ap (from_be_bytes w64) e ∙ from_be_bytes-to_be_bytes_8 n ln in
    let at_high = number (b / 2 ^ 64) (b' / 2 ^ 64) (omega arith) (omega arith) high in
    let at_low = number (b % 2 ^ 64) (b' % 2 ^ 64) (omega arith) (omega arith) low in
    record {
      flag = ap (λ s. get_or s 0 0) same;
      index = number i i' li li' mid;
      bits = omega (arith, at_high, at_low);
    }

-- ---- windows by their parts

abbrev pub flag_of : Option ℕ → ℕ
flag_of None = 0
flag_of (Some index) = 1

abbrev pub index_of : Option ℕ → ℕ
index_of None = 0
index_of (Some index) = index

pub by_parts : (window : Window) → saved_window window ≡ flag_of window.greatest ∷ (to_be_bytes w64 (index_of window.greatest) ++ to_be_bytes w128 window.bits)
unfolding saved_window
by_parts window = by_greatest window.greatest
  where
    by_greatest : (top : Option ℕ) → saved_greatest top ++ to_be_bytes w128 window.bits ≡ flag_of top ∷ (to_be_bytes w64 (index_of top) ++ to_be_bytes w128 window.bits)
    by_greatest None = refl
    by_greatest (Some index) = refl

index_within : (top : Option ℕ) → ForSome top (λ index. index < 2 ^ 48) → index_of top < 2 ^ 64
index_within None fits = omega arith
index_within (Some index) fits = let low : index < 2 ^ 48 = fits index refl in omega arith

abbrev InRange : Option ℕ → Type 0
InRange top = ForSome top (λ index. index < 2 ^ 48)

abbrev IsUnused : Option ℕ → ℕ → Type 0
IsUnused top bits = ForNone top (bits ≡ 0)

-- windows alike in their fields are one: the facts beside them have one proof each
same_window : (top : Option ℕ) (bits : ℕ) (other : Option ℕ) (others : ℕ) → top ≡ other → bits ≡ others
    → (r : InRange top) (u : IsUnused top bits) (r' : InRange other) (u' : IsUnused other others)
    → ◌≡◌ {A = Window} (record { greatest = top; bits = bits; in_range = r; unused = u }) (record { greatest = other; bits = others; in_range = r'; unused = u' })
same_window top bits other others same_top same_bits r u =
    subst (λ (f : Option ℕ × ℕ). (r' : InRange f.0) (u' : IsUnused f.0 f.1)
    → ◌≡◌ {A = Window} (record { greatest = top; bits = bits; in_range = r; unused = u }) (record { greatest = f.0; bits = f.1; in_range = r'; unused = u' }))
    (λ i. (same_top i, same_bits i))
    (λ r' u'. λ i. record { greatest = top; bits = bits; in_range = range_prop r r' i; unused = unused_prop u u' i })
  where
    range_prop : IsProp (InRange top)
    range_prop = hlevel props

    unused_prop : IsProp (IsUnused top bits)
    unused_prop = hlevel props

same_fields : (a b : Window) → a.greatest ≡ b.greatest → a.bits ≡ b.bits → a ≡ b
same_fields a b top bits = same_window a.greatest a.bits b.greatest b.bits top bits a.in_range a.unused b.in_range b.unused

pub same_saved : (a b : Window) → FitsWindow a → FitsWindow b → saved_window a ≡ saved_window b → a ≡ b
same_saved a b fits_a fits_b same =
    let parts = same_parts (flag_of a.greatest) (index_of a.greatest) a.bits (flag_of b.greatest) (index_of b.greatest) b.bits
    (index_within a.greatest fits_a.in_range) (index_within b.greatest fits_b.in_range) fits_a.width fits_b.width (sym (by_parts a) ∙ same ∙ by_parts b) in
    same_fields a b (same_top a.greatest b.greatest parts.flag parts.index) parts.bits
  where
    same_top : (s t : Option ℕ) → flag_of s ≡ flag_of t → index_of s ≡ index_of t → s ≡ t
    same_top None None flag index = refl
    same_top None (Some j) flag index = absurd (cc)
    same_top (Some i) None flag index = absurd (cc)
    same_top (Some i) (Some j) flag index = ap (λ n. Some n) index

-- ---- what is loaded

pub none_saved : (window : Window) (bytes : List ℕ) (flag index bits : ℕ) → bytes ≡ flag ∷ (to_be_bytes w64 index ++ to_be_bytes w128 bits)
    → flag ≡ 0 → index ≡ 0 → bits ≡ 0 → window.greatest ≡ None → FitsWindow window × (saved_window window ≡ bytes)
none_saved window bytes flag index bits is flag_is index_is bits_is top =
    let unused : window.bits ≡ 0 = window.unused top in (
      record { in_range = window.in_range; unused = window.unused; width = omega (arith, unused) },
      by_parts window
          ∙ ap (λ (t : Option ℕ). flag_of t ∷ (to_be_bytes w64 (index_of t) ++ to_be_bytes w128 window.bits)) top
          ∙ ap (λ n. 0 ∷ (to_be_bytes w64 0 ++ to_be_bytes w128 n)) (unused ∙ sym bits_is)
          ∙ (λ i. sym flag_is i ∷ (to_be_bytes w64 (sym index_is i) ++ to_be_bytes w128 bits)) ∙ sym is,
    )

pub some_saved : (window : Window) (bytes : List ℕ) (flag index bits : ℕ) → bytes ≡ flag ∷ (to_be_bytes w64 index ++ to_be_bytes w128 bits)
    → flag ≡ 1 → bits < 2 ^ 128 → window.greatest ≡ Some index → window.bits ≡ bits → FitsWindow window × (saved_window window ≡ bytes)
some_saved window bytes flag index bits is flag_is within top same = (
  record { in_range = window.in_range; unused = window.unused; width = omega (arith, same) },
  by_parts window
      ∙ ap (λ (t : Option ℕ). flag_of t ∷ (to_be_bytes w64 (index_of t) ++ to_be_bytes w128 window.bits)) top
      ∙ ap (λ n. 1 ∷ (to_be_bytes w64 index ++ to_be_bytes w128 n)) same
      ∙ ap (λ n. n ∷ (to_be_bytes w64 index ++ to_be_bytes w128 bits)) (sym flag_is) ∙ sym is,
)

-- the parts of a window that is saved as these bytes
pub saves_parts : (window : Window) (bytes : List ℕ) (flag index bits : ℕ) → bytes ≡ flag ∷ (to_be_bytes w64 index ++ to_be_bytes w128 bits)
    → index < 2 ^ 64 → bits < 2 ^ 128 → FitsWindow window → saved_window window ≡ bytes
    → SameParts (flag_of window.greatest) (index_of window.greatest) window.bits flag index bits
saves_parts window bytes flag index bits is li lb fits same =
    same_parts (flag_of window.greatest) (index_of window.greatest) window.bits flag index bits (index_within window.greatest fits.in_range) li fits.width lb
    (sym (by_parts window) ∙ same ∙ is)

pub no_window : (top : Option ℕ) (bits flag index others : ℕ) → ForSome top (λ index. index < 2 ^ 48) → ForNone top (bits ≡ 0)
    → SameParts (flag_of top) (index_of top) bits flag index others
    → (flag ≡ 0 → index ≡ 0 → others ≡ 0 → ⊥) → (flag ≡ 1 → index < 2 ^ 48 → ⊥) → ⊥
no_window None bits flag index others range unused same not_none not_some = not_none (sym same.flag) (sym same.index) (sym same.bits ∙ unused refl)
no_window (Some i) bits flag index others range unused same not_none not_some =
    let low : i < 2 ^ 48 = range i refl in
    not_some (sym same.flag) (omega (arith, same.index))

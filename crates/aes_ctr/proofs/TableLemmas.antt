-- The tables of `mixed_column` are the substitution and the products of MixColumns.
use Rattle.std.proofs.Common.{◌≡◌, ℕ, zero, suc, ◌/◌, ◌%◌, ◌<◌, Bool, true, ◌&&◌, List, [], ◌∷◌, length, eqb, get_or, bit_xor, refl, sym, ap, ◌∙◌, subst, arith, eqb-true}
use Rattle.std.proofs.lemmas.Bool.{and_parts}
use Rattle.std.proofs.lemmas.Nat.{xor_comm}
use Rattle.std.specs.Int.Bits.{xor_assoc}
use Rattle.aes_ctr.specs.Field.{times_x, product}
use Rattle.aes_ctr.specs.Aes.{sub_byte, mixed_byte, add_words}
use Rattle.aes_ctr.specs.Columns.{word_bytes, mixed_bytes}
use Rattle.aes_ctr.specs.declared.substitution.TheConstants.{S_BOX}
use Rattle.aes_ctr.specs.declared.tables.TheConstants.{FIRST, SECOND, THIRD, FOURTH}
use Rattle.aes_ctr.proofs.FieldLemmas.{product_two, product_three}
use Rattle.aes_ctr.proofs.SBox.{s_box_at}
use Rattle.aes_ctr.proofs.Columns.{same_word, word_bytes-xor}

-- a byte times 3
abbrev pub thrice : ℕ → ℕ
thrice b = bit_xor b (times_x b)

and_four : (a b c d : Bool) → (a && (b && (c && d))) ≡ true → (a ≡ true) × (b ≡ true) × (c ≡ true) × (d ≡ true)
and_four a b c d h =
    let p = and_parts a (b && (c && d)) h in
    let q = and_parts b (c && d) p.1 in
    let r = and_parts c d q.1 in
    (p.0, q.0, r.0, r.1)

-- an entry has these bytes
unfoldable pub is_entry : ℕ → ℕ → ℕ → ℕ → ℕ → Bool
is_entry entry a b c d = eqb (entry / 16777216 % 256) a && (eqb (entry / 65536 % 256) b && (eqb (entry / 256 % 256) c && eqb (entry % 256) d))

entry_bytes : (entry a b c d : ℕ) → is_entry entry a b c d ≡ true → word_bytes entry ≡ a ∷ b ∷ c ∷ d ∷ []
unfolding is_entry
entry_bytes entry a b c d is =
    let parts = and_four (eqb (entry / 16777216 % 256) a) (eqb (entry / 65536 % 256) b) (eqb (entry / 256 % 256) c) (eqb (entry % 256) d) is in
    same_word (eqb-true _ _ parts.0) (eqb-true _ _ parts.1) (eqb-true _ _ parts.2) (eqb-true _ _ parts.3)

-- a test holds of the entries of two tables, place by place
unfoldable pub holds : (ℕ → ℕ → Bool) → List ℕ → List ℕ → Bool
holds test [] ys = true
holds test (x ∷ xs) [] = true
holds test (x ∷ xs) (y ∷ ys) = test x y && holds test xs ys

holds-at : (test : ℕ → ℕ → Bool) (xs ys : List ℕ) (i : ℕ) → holds test xs ys ≡ true → i < length xs → i < length ys → test (get_or xs i 0) (get_or ys i 0) ≡ true
unfolding holds
holds-at test [] ys i h lx ly = absurd (omega arith)
holds-at test (x ∷ xs) [] i h lx ly = absurd (omega arith)
holds-at test (x ∷ xs) (y ∷ ys) zero h lx ly = (and_parts (test x y) (holds test xs ys) h).0
holds-at test (x ∷ xs) (y ∷ ys) (suc i) h lx ly = holds-at test xs ys i (and_parts (test x y) (holds test xs ys) h).1 (omega arith) (omega arith)

-- a table whose entries are made of those of the S-box, at the place of a byte
table_at : (table : List ℕ) (f g h k : ℕ → ℕ) → holds (λ entry s. is_entry entry (f s) (g s) (h s) (k s)) table S_BOX ≡ true → length table ≡ 256
    → (i b : ℕ) → i ≡ b → b < 256 → word_bytes (get_or table i 0) ≡ f (sub_byte b) ∷ g (sub_byte b) ∷ h (sub_byte b) ∷ k (sub_byte b) ∷ []
table_at table f g h k all long i b same lt =
    let P : ℕ → Type 0 = λ s. word_bytes (get_or table b 0) ≡ f s ∷ g s ∷ h s ∷ k s ∷ [] in
    let s : ℕ = get_or S_BOX b 0 in
    ap (λ n. word_bytes (get_or table n 0)) same
    ∙ subst P (s_box_at b lt) (entry_bytes (get_or table b 0) (f s) (g s) (h s) (k s) (holds-at (λ entry s. is_entry entry (f s) (g s) (h s) (k s)) table S_BOX b all (omega arith) lt))

abbrev once : ℕ → ℕ
once b = b

first_holds : holds (λ entry s. is_entry entry (times_x s) (once s) (once s) (thrice s)) FIRST S_BOX ≡ true
unfolding holds is_entry
first_holds = refl

second_holds : holds (λ entry s. is_entry entry (thrice s) (times_x s) (once s) (once s)) SECOND S_BOX ≡ true
unfolding holds is_entry
second_holds = refl

third_holds : holds (λ entry s. is_entry entry (once s) (thrice s) (times_x s) (once s)) THIRD S_BOX ≡ true
unfolding holds is_entry
third_holds = refl

fourth_holds : holds (λ entry s. is_entry entry (once s) (once s) (thrice s) (times_x s)) FOURTH S_BOX ≡ true
unfolding holds is_entry
fourth_holds = refl

pub first_at : (i b : ℕ) → i ≡ b → b < 256 → word_bytes (get_or FIRST i 0) ≡ times_x (sub_byte b) ∷ sub_byte b ∷ sub_byte b ∷ thrice (sub_byte b) ∷ []
first_at = table_at FIRST times_x once once thrice first_holds refl

pub second_at : (i b : ℕ) → i ≡ b → b < 256 → word_bytes (get_or SECOND i 0) ≡ thrice (sub_byte b) ∷ times_x (sub_byte b) ∷ sub_byte b ∷ sub_byte b ∷ []
second_at = table_at SECOND thrice times_x once once second_holds refl

pub third_at : (i b : ℕ) → i ≡ b → b < 256 → word_bytes (get_or THIRD i 0) ≡ sub_byte b ∷ thrice (sub_byte b) ∷ times_x (sub_byte b) ∷ sub_byte b ∷ []
third_at = table_at THIRD once thrice times_x once third_holds refl

pub fourth_at : (i b : ℕ) → i ≡ b → b < 256 → word_bytes (get_or FOURTH i 0) ≡ sub_byte b ∷ sub_byte b ∷ thrice (sub_byte b) ∷ times_x (sub_byte b) ∷ []
fourth_at = table_at FOURTH once once thrice times_x fourth_holds refl

-- ---- the exclusive or of the four entries

turned : (a b c d : ℕ) → bit_xor (bit_xor (bit_xor a b) c) d ≡ bit_xor (bit_xor (bit_xor b c) d) a
turned a b c d = ap (λ n. bit_xor n d) (xor_assoc a b c) ∙ xor_assoc a (bit_xor b c) d ∙ xor_comm a (bit_xor (bit_xor b c) d)

mixed_as : (p q r s : ℕ) → mixed_byte p q r s ≡ bit_xor (bit_xor (bit_xor (times_x p) (thrice q)) r) s
unfolding mixed_byte
mixed_as p q r s = ap (λ n. bit_xor (bit_xor (bit_xor n (product 3 q)) r) s) (product_two p) ∙ ap (λ n. bit_xor (bit_xor (bit_xor (times_x p) n) r) s) (product_three q)

pub mixed_of_entries : (f g h k p q r s : ℕ) → word_bytes f ≡ times_x p ∷ p ∷ p ∷ thrice p ∷ [] → word_bytes g ≡ thrice q ∷ times_x q ∷ q ∷ q ∷ []
    → word_bytes h ≡ r ∷ thrice r ∷ times_x r ∷ r ∷ [] → word_bytes k ≡ s ∷ s ∷ thrice s ∷ times_x s ∷ []
    → word_bytes (bit_xor (bit_xor (bit_xor f g) h) k) ≡ mixed_bytes p q r s
mixed_of_entries f g h k p q r s ef eg eh ek =
    let sum : List ℕ → List ℕ → List ℕ → List ℕ → List ℕ = λ w x y z. add_words (add_words (add_words w x) y) z in
    word_bytes-xor (bit_xor (bit_xor f g) h) k
    ∙ ap (λ (w : List ℕ). add_words w (word_bytes k)) (word_bytes-xor (bit_xor f g) h)
    ∙ ap (λ (w : List ℕ). add_words (add_words w (word_bytes h)) (word_bytes k)) (word_bytes-xor f g)
    ∙ ap (λ (w : List ℕ). sum w (word_bytes g) (word_bytes h) (word_bytes k)) ef
    ∙ ap (λ (w : List ℕ). sum (times_x p ∷ p ∷ p ∷ thrice p ∷ []) w (word_bytes h) (word_bytes k)) eg
    ∙ ap (λ (w : List ℕ). sum (times_x p ∷ p ∷ p ∷ thrice p ∷ []) (thrice q ∷ times_x q ∷ q ∷ q ∷ []) w (word_bytes k)) eh
    ∙ ap (λ (w : List ℕ). sum (times_x p ∷ p ∷ p ∷ thrice p ∷ []) (thrice q ∷ times_x q ∷ q ∷ q ∷ []) (r ∷ thrice r ∷ times_x r ∷ r ∷ []) w) ek
    ∙ same_word (sym (mixed_as p q r s))
    (turned p (times_x q) (thrice r) s ∙ sym (mixed_as q r s p))
    (turned p q (times_x r) (thrice s) ∙ turned q (times_x r) (thrice s) p ∙ sym (mixed_as r s p q))
    (sym (turned (times_x s) (thrice p) q r) ∙ sym (mixed_as s p q r))

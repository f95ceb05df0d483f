-- Pieces of one length each, one after another.
use Rattle.std.proofs.Common.{◌≡◌, ℕ, zero, suc, ◌+◌, ◌*◌, ◌<◌, List, [], ◌∷◌, ◌++◌, length, get_or, take, drop, set, All, arith, sym, ap, subst, ◌∙◌, refl, length-append}
use Rattle.std.specs.List.{flat_map}
use Rattle.std.proofs.lemmas.List.{append-nil, take-append-drop, take-take, drop-take, take_more, take_more_set, take_at, drop_at, drop-drop, take_all, length-drop, get_or-drop}
use Rattle.std.proofs.lemmas.List.Concat.{flat_map-append}
use Rattle.std.proofs.lemmas.List.Elements.{All-head, All-tail}

-- a part and the one behind it are one part
pub part_more : (bytes : List ℕ) (n m : ℕ) → take n bytes ++ take m (drop n bytes) ≡ take (n + m) bytes
part_more bytes n m =
    ap (λ (l : List ℕ). l ++ take m (drop n bytes)) (sym (take-take n (n + m) bytes (omega arith)))
    ∙ ap (λ (l : List ℕ). take n (take (n + m) bytes) ++ l) (sym (drop-take n m bytes)) ∙ take-append-drop n (take (n + m) bytes)

-- two lists cut at one length are the same in both parts
pub same_parts : (a b c d : List ℕ) → length a ≡ length c → a ++ b ≡ c ++ d → (a ≡ c) × (b ≡ d)
same_parts a b c d long is = (
  sym (take_at a b (length c) long) ∙ ap (take (length c)) is ∙ take_at c d (length c) refl,
  sym (drop_at a b (length c) long) ∙ ap (drop (length c)) is ∙ drop_at c d (length c) refl,
)

-- a part that is written behind those written before
pub written_more : (old new front part : List ℕ) (at n : ℕ) → take (at + length part) new ≡ take at old ++ part → take at old ≡ front → at + length part ≡ n
    → take n new ≡ front ++ part
written_more old new front part at n begins was size =
    subst (λ (k : ℕ). take k new ≡ front ++ part) size (begins ∙ ap (λ (l : List ℕ). l ++ part) was)

-- a part that is read behind those read before
pub read_more : (bytes front part : List ℕ) (at size n : ℕ) → front ≡ take at bytes → part ≡ take size (drop at bytes) → at + size ≡ n → front ++ part ≡ take n bytes
read_more bytes front part at size n was is long =
    ap (λ (l : List ℕ). l ++ part) was ∙ ap (λ (l : List ℕ). take at bytes ++ l) is ∙ part_more bytes at size ∙ ap (λ (k : ℕ). take k bytes) long

-- a part that stands behind others
pub part_behind : (bytes front part rest : List ℕ) (at size : ℕ) → front ++ (part ++ rest) ≡ bytes → length front ≡ at → length part ≡ size → part ≡ take size (drop at bytes)
part_behind bytes front part rest at size is here long =
    sym (take_at part rest size long) ∙ ap (take size) (sym (drop_at front (part ++ rest) at here) ∙ ap (drop at) is)

-- two parts that are written are the whole
pub two_written : (one two front back : List ℕ) (at n : ℕ) → take (0 + length front) one ≡ front → take (at + length back) two ≡ take at one ++ back
    → length front ≡ at → at + length back ≡ n → length two ≡ n → two ≡ front ++ back
two_written one two front back at n first second here size long =
    let begins : take at one ≡ front = subst (λ (k : ℕ). take k one ≡ front) (omega arith) first in
    sym (take_all n two (omega arith)) ∙ written_more one two front back at n second begins size

-- two parts that are read are the whole
pub two_read : (bytes front back : List ℕ) (at size : ℕ) → front ≡ take at bytes → back ≡ take size (drop at bytes) → length bytes ≡ at + size → front ++ back ≡ bytes
two_read bytes front back at size first second long = read_more bytes front back at size (at + size) first second refl ∙ take_all (at + size) bytes (omega arith)

-- of two parts, the first
pub front_is : (bytes front back : List ℕ) (at : ℕ) → front ++ back ≡ bytes → length front ≡ at → front ≡ take at bytes
front_is bytes front back at is here = sym (take_at front back at here) ∙ ap (take at) is

-- of two parts, the second
pub back_is : (bytes front back : List ℕ) (at size : ℕ) → front ++ back ≡ bytes → length front ≡ at → length back ≡ size → back ≡ take size (drop at bytes)
back_is bytes front back at size is here long =
    sym (take_all size back (omega arith)) ∙ ap (take size) (sym (drop_at front back at here) ∙ ap (drop at) is)

-- the byte at a place, as a part
pub byte_part : (bytes : List ℕ) (at : ℕ) → at < length bytes → take 1 (drop at bytes) ≡ get_or bytes at 0 ∷ []
byte_part bytes at within =
    let held : 0 < length (drop at bytes) = omega (arith, length-drop at bytes) in
    let same : at + 0 ≡ at = omega arith in
    take_more (drop at bytes) 0 0 held ∙ ap (λ (n : ℕ). n ∷ []) (get_or-drop at bytes 0 0 ∙ ap (λ (k : ℕ). get_or bytes k 0) same)

module _ {X : Type 0} (piece : X → List ℕ) where
  pub piece_more : (xs : List X) (i : ℕ) (d : X) → i < length xs → flat_map piece (take (i + 1) xs) ≡ flat_map piece (take i xs) ++ piece (get_or xs i d)
  piece_more xs i d within =
      ap (flat_map piece) (take_more xs i d within) ∙ flat_map-append piece (take i xs) (get_or xs i d ∷ [])
      ∙ ap (λ (l : List ℕ). flat_map piece (take i xs) ++ l) (append-nil (piece (get_or xs i d)))

  pub piece_more_set : (xs : List X) (i : ℕ) (x : X) → i < length xs → flat_map piece (take (i + 1) (set xs i x)) ≡ flat_map piece (take i xs) ++ piece x
  piece_more_set xs i x within =
      ap (flat_map piece) (take_more_set xs i x within) ∙ flat_map-append piece (take i xs) (x ∷ [])
      ∙ ap (λ (l : List ℕ). flat_map piece (take i xs) ++ l) (append-nil (piece x))

  module _ (size : ℕ) (each : (x : X) → length (piece x) ≡ size) where
    pub length-pieces : (xs : List X) → length (flat_map piece xs) ≡ size * length xs
    length-pieces [] = grind arith
    length-pieces (x ∷ xs) = grind (arith, length-append (piece x) (flat_map piece xs), length-pieces xs, each x)

    -- the piece at a place
    pub piece_at : (xs : List X) (i : ℕ) (d : X) → i < length xs → take size (drop (size * i) (flat_map piece xs)) ≡ piece (get_or xs i d)
    piece_at [] i d within = absurd (omega arith)
    piece_at (x ∷ xs) zero d within =
        let none : size * 0 ≡ 0 = omega arith in
        rw none (take_at (piece x) (flat_map piece xs) size (each x))
    piece_at (x ∷ xs) (suc i) d within =
        let more : size * suc i ≡ size + size * i = grind arith in
        rw more
        (ap (take size) (sym (drop-drop (size * i) size (piece x ++ flat_map piece xs)) ∙ ap (drop (size * i)) (drop_at (piece x) (flat_map piece xs) size (each x)))
        ∙ piece_at xs i d (omega arith))

    -- lists with the same pieces are the same, where a piece tells what it is of
    pub same_pieces : (P : X → Type 0) → ((x y : X) → P x → P y → piece x ≡ piece y → x ≡ y)
        → (xs ys : List X) → length xs ≡ length ys → All P xs → All P ys → flat_map piece xs ≡ flat_map piece ys → xs ≡ ys
    same_pieces P tells [] [] long px py is = refl
    same_pieces P tells [] (y ∷ ys) long px py is = absurd (omega arith)
    same_pieces P tells (x ∷ xs) [] long px py is = absurd (omega arith)
    same_pieces P tells (x ∷ xs) (y ∷ ys) long px py is =
        let cut = same_parts (piece x) (flat_map piece xs) (piece y) (flat_map piece ys) (each x ∙ sym (each y)) is in
        let first : x ≡ y = tells x y (All-head P x xs px) (All-head P y ys py) cut.0 in
        let rest : xs ≡ ys = same_pieces P tells xs ys (omega arith) (All-tail P x xs px) (All-tail P y ys py) cut.1 in
        cc

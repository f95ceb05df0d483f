-- Lists of bytes, and their parts.
use Rattle.std.proofs.Common.{◌≡◌, ℕ, List, [], ◌∷◌, ◌++◌, ◌<◌, suc, zero, length, take, drop, refl, ap, arith}
use Rattle.hex.specs.Hex.{IsBytes}

pub bytes_cons : (byte : ℕ) (bytes : List ℕ) → byte < 256 → IsBytes bytes → IsBytes (byte ∷ bytes)
bytes_cons byte bytes small fit zero = small
bytes_cons byte bytes small fit (suc i) = fit i

pub bytes_none : IsBytes []
bytes_none i = omega arith

pub bytes_append : (a b : List ℕ) → IsBytes a → IsBytes b → IsBytes (a ++ b)
bytes_append [] b fit other = other
bytes_append (x ∷ a) b fit other = bytes_cons x (a ++ b) (fit 0) (bytes_append a b (λ i. fit (suc i)) other)

pub bytes_take : (n : ℕ) (a : List ℕ) → IsBytes a → IsBytes (take n a)
bytes_take zero a fit = bytes_none
bytes_take (suc n) [] fit = bytes_none
bytes_take (suc n) (x ∷ a) fit = bytes_cons x (take n a) (fit 0) (bytes_take n a (λ i. fit (suc i)))

pub bytes_drop : (n : ℕ) (a : List ℕ) → IsBytes a → IsBytes (drop n a)
bytes_drop zero a fit = fit
bytes_drop (suc n) [] fit = bytes_none
bytes_drop (suc n) (x ∷ a) fit = bytes_drop n a (λ i. fit (suc i))

-- so many zeros
abbrev pub zeros : ℕ → List ℕ
zeros zero = []
zeros (suc n) = 0 ∷ zeros n

pub length_zeros : (n : ℕ) → length (zeros n) ≡ n
length_zeros zero = refl
length_zeros (suc n) = ap suc (length_zeros n)

pub bytes_zeros : (n : ℕ) → IsBytes (zeros n)
bytes_zeros zero = bytes_none
bytes_zeros (suc n) = bytes_cons 0 (zeros n) (omega arith) (bytes_zeros n)

pub heads : {A : Type 0} (a b : A) (x y : List A) → a ∷ x ≡ b ∷ y → a ≡ b
heads a b x y e = cc

pub tails : {A : Type 0} (a b : A) (x y : List A) → a ∷ x ≡ b ∷ y → x ≡ y
tails a b x y e = cc

-- what follows the same front is the same
pub same_behind : (front x y : List ℕ) → front ++ x ≡ front ++ y → x ≡ y
same_behind [] x y e = e
same_behind (c ∷ front) x y e = same_behind front x y (tails c c (front ++ x) (front ++ y) e)

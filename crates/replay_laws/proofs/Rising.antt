-- What a turn of the board adds comes in the order of its numbers, at each place.
use Rattle.std.proofs.Common.{◌≡◌, ◌∙◌, sym, ap, subst, refl, ℕ, ◌<◌, ◌≤◌, ◌⊎◌, inl, inr, List, [], ◌∷◌, ◌++◌, length, filter, append_assoc, length-append, arith}
use Rattle.relay_outside.specs.declared.settings.Config.{Config}
use Rattle.histories.specs.Words.{In, here, there, Before, begins, goes_on}
use Rattle.histories.proofs.Lists.{in_append, in_left, in_right, keeps}
use Rattle.relay_core.specs.Entries.{Entry, is_at}
use Rattle.relay_core.specs.Legal.{Orderly}
use Rattle.relay_core.specs.Turns.{Numbered, IsAbove, IsTurn, Rising}
use Rattle.relay_core.proofs.Histories.{is_there}
use Rattle.relay_core.proofs.Turns.{filter_append, turn_elsewhere}
use Rattle.relay_core.proofs.Gains.{rising_append}

some_in : {A : Type 0} {x : A} (xs : List A) → In x xs → 1 ≤ length xs
some_in [] i = elim i [ ]
some_in (y ∷ ys) i = omega arith

-- two entries of one place and number don't stand apart
never_twice : (first more : List Entry) (x y : Entry) → Numbered (first ++ more) → In x first → In y more → y.place ≡ x.place → y.number ≡ x.number → ⊥
never_twice first more x y numbered i j p q =
    let one = numbered x (in_left first more i) in
    let both = ap length (filter_append (is_at x.place x.number) first more) ∙ length-append (filter (is_at x.place x.number) first) (filter (is_at x.place x.number) more) in
    let a = some_in (filter (is_at x.place x.number) first) (keeps (is_at x.place x.number) first i (is_there x.place x.number x refl refl)) in
    let b = some_in (filter (is_at x.place x.number) more) (keeps (is_at x.place x.number) more j (is_there x.place x.number y p q)) in
    omega (arith, one, both, a, b)

-- where one of two stands that come in this order
data Parted {A : Type 0} (x y : A) (first more : List A) : Type 0 where
  within : In x first → Parted x y first more
  behind : In y more → In x more → Parted x y first more

before_second : {A : Type 0} {x y : A} (xs : List A) → Before x y xs → In x xs × In y xs
before_second [] b = elim b [ ]
before_second (z ∷ zs) (begins q i) = (here q, there i)
before_second (z ∷ zs) (goes_on b) = let r = before_second zs b in (there r.0, there r.1)

parted_there : {A : Type 0} {x y : A} (z : A) (first more : List A) → Parted x y first more → Parted x y (z ∷ first) more
parted_there z first more (within i) = within (there i)
parted_there z first more (behind j i) = behind j i

parted : {A : Type 0} {x y : A} (first more : List A) → Before x y (first ++ more) → Parted x y first more
parted [] more b = let r = before_second more b in behind r.1 r.0
parted (z ∷ first) more (begins q i) = within (here q)
parted (z ∷ first) more (goes_on b) = parted_there z first more (parted first more b)

order : (m n : ℕ) → (m < n) ⊎ ((m ≡ n) ⊎ (n < m))
order m n = grind arith

module _ (l all : List Entry) (above : (e : Entry) → In e all → IsAbove l e.place e.number) (once : Numbered all)
    (in_order : (e f : Entry) → In e all → In f all → e.place ≡ f.place → e.number < f.number → Before e f all) where
  late : (done : List Entry) (e : Entry) (rest : List Entry) → all ≡ done ++ e ∷ rest → (f : Entry) → In f done → f.place ≡ e.place
      → (f.number < e.number) ⊎ ((f.number ≡ e.number) ⊎ (e.number < f.number)) → f.number < e.number
  late done e rest is f i p (inl low) = low
  late done e rest is f i p (inr (inl same)) =
      absurd (never_twice done (e ∷ rest) f e (subst Numbered is once) i (here refl) (sym p) (sym same))
  late done e rest is f i p (inr (inr low)) =
      let j : In e all = subst (λ (es : List Entry). In e es) (sym is) (in_right done (e ∷ rest) (here refl)) in
      let k : In f all = subst (λ (es : List Entry). In f es) (sym is) (in_left done (e ∷ rest) i) in
      let b : Before e f (done ++ e ∷ rest) = subst (Before e f) is (in_order e f j k (sym p) low) in
      elim (parted done (e ∷ rest) b) [
        | within at ↦ absurd (never_twice done (e ∷ rest) e e (subst Numbered is once) at (here refl) refl refl)
        | behind at there_too ↦ absurd (never_twice done (e ∷ rest) f f (subst Numbered is once) i at refl refl)
      ]

  next_above : (done : List Entry) (e : Entry) (rest : List Entry) → all ≡ done ++ e ∷ rest → IsAbove (l ++ done) e.place e.number
  next_above done e rest is f i p = by_case (in_append l done i)
    where
      by_case : In f l ⊎ In f done → f.number < e.number
      by_case (inl j) = above e (subst (λ (es : List Entry). In e es) (sym is) (in_right done (e ∷ rest) (here refl))) f j p
      by_case (inr j) = late done e rest is f j p (order f.number e.number)

  rising_part : (done ns : List Entry) → all ≡ done ++ ns → Rising (l ++ done) ns
  rising_part done [] is = tt
  rising_part done (e ∷ rest) is = (
    next_above done e rest is,
    subst (λ (k : List Entry). Rising k rest) (sym (append_assoc l done (e ∷ [])))
        (rising_part (done ++ e ∷ []) rest (is ∙ sym (append_assoc done (e ∷ []) rest))),
  )

pub nothing_behind : (l : List Entry) → l ++ [] ≡ l
nothing_behind [] = refl
nothing_behind (e ∷ l) = ap (λ (es : List Entry). e ∷ es) (nothing_behind l)

-- the nested entries of a turn
pub nested_rising : (config : Config) (l ns : List Entry) (b : Entry) → IsTurn config l ns b → Rising l ns
nested_rising config l ns b t =
    subst (λ (k : List Entry). Rising k ns) (nothing_behind l) (rising_part l ns t.above t.once t.in_order [] ns refl)

-- and its own
pub last_rising : (config : Config) (l ns : List Entry) (b : Entry) → Orderly config l → IsTurn config l ns b → IsAbove (l ++ ns) b.place b.number
last_rising config l ns b o t f i p = by_case (in_append l ns i)
  where
    by_case : In f l ⊎ In f ns → f.number < b.number
    by_case (inl j) = t.at_front f j (p ∙ t.at_board)
    by_case (inr j) = absurd ((turn_elsewhere config l ns b o t f j).1 (p ∙ t.at_board))

pub turn_rising : (config : Config) (l ns : List Entry) (b : Entry) → Orderly config l → IsTurn config l ns b → Rising l (ns ++ b ∷ [])
turn_rising config l ns b o t = rising_append l ns (b ∷ []) (nested_rising config l ns b t) (last_rising config l ns b o t, tt)

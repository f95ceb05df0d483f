-- What happened at a place, and what it leaves.
use Rattle.std.specs.Prelude.{◌≡◌, ℕ, ◌+◌, Bool, cond, max, eqb, ltb, ◌&&◌, List, [], ◌∷◌, length, Some, slice_get}
use Rattle.turn_table.specs.declared.machine.Entry.{Entry}
use Rattle.turn_table.specs.declared.view.Phase.{Phase}
use Rattle.turn_table.specs.declared.view.Phase.TheVariants.{Nothing}

-- x is an element of the list
pub data IsMemberOf {A : Type 0} (x : A) : List A → Type 0 where
  here : {y : A} {ys : List A} → x ≡ y → IsMemberOf x (y ∷ ys)
  there : {y : A} {ys : List A} → IsMemberOf x ys → IsMemberOf x (y ∷ ys)

-- f of each, added up
abbrev pub total : {V : Type 0} → (V → ℕ) → List V → ℕ
total f [] = 0
total f (v ∷ vs) = f v + total f vs

abbrev pub one_if : Bool → ℕ
one_if b = cond b 1 0

-- 1 for each number below n, and 0 from n on
abbrev pub below : ℕ → ℕ → ℕ
below i n = one_if (ltb i n)

-- the greatest number noted of k
abbrev pub seen_at : List (ℕ × ℕ) → ℕ → ℕ
seen_at [] k = 0
seen_at (n ∷ ns) k = cond (eqb n.0 k) (max n.1 (seen_at ns k)) (seen_at ns k)

-- the newest phase noted of k
abbrev pub phase_at : {S : Type 0} → List (ℕ × Phase S) → ℕ → Phase S
phase_at [] k = Nothing
phase_at (t ∷ ts) k = cond (eqb t.0 k) t.1 (phase_at ts k)

module _ {E O : Type 0} where
  -- the entry stands for the event with this number at this place
  abbrev pub is_entry_at : ℕ → ℕ → Entry E O → Bool
  is_entry_at k i e = eqb e.place k && eqb e.number i

  -- how often the place and the number stand in the list
  abbrev pub times : ℕ → ℕ → List (Entry E O) → ℕ
  times k i es = total (λ e. one_if (is_entry_at k i e)) es

  -- the entries are of the place k, and each has its position as its number
  abbrev pub Named : ℕ → List (Entry E O) → Type 0
  Named k h = (i : ℕ) (e : Entry E O) → slice_get h i ≡ Some e → (e.place ≡ k) × (e.number ≡ i)

-- h is the history of the place k, and it stands in the list: each entry of the place is in h at its number, each of h is in the list, and each number below the length stands once
pub record IsHistory {E O : Type 0} (es : List (Entry E O)) (k : ℕ) (h : List (Entry E O)) : Type 0 where
  pub named : Named k h
  pub own : (e : Entry E O) → IsMemberOf e es → e.place ≡ k → slice_get h e.number ≡ Some e
  pub all : (i : ℕ) (e : Entry E O) → slice_get h i ≡ Some e → IsMemberOf e es
  pub once : (i : ℕ) → times k i es ≡ below i (length h)

module _ {S E O : Type 0} (relates : S → E → O → S → Type 0) where
  -- from a, the entries in their order leave b
  abbrev pub Leaves : S → List (Entry E O) → S → Type 0
  Leaves a [] b = a ≡ b
  Leaves a (e ∷ es) b = (m : S) × relates a e.event e.outcome m × Leaves m es b

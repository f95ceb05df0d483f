-- What a hand knows after each step of a call, and after the whole call.
use Rattle.std.proofs.Common.{◌≡◌, ◌≢◌, ◌⊎◌, ℕ, ◌+◌, ◌*◌, ◌^◌, ◌<◌, ◌≤◌, Bool, true, false, eqb, List, [], ◌∷◌, ◌++◌, Option, Some, None, sym, ap, ◌∙◌, subst, inl, inr, ⊎_elim, arith, eq-eqb, ne_eqb}
use Rattle.std.specs.Bool.{MatchBool}
use mathlib.Core.Option.{none}
use mathlib.Core.Path.{Path}
use mathlib.Core.Logic.{dite}
use native.Mathlib.Decide.{ℕ_discrete}
use Rattle.atomic_table.specs.Table.{step, rest}
use Rattle.turn_table.specs.declared.view.View.{View}
use Rattle.turn_table.specs.declared.view.Phase.{Phase}
use Rattle.turn_table.specs.declared.view.Phase.TheVariants.{Nothing, Marked, Out, Held, Counted}
use Rattle.turn_table.specs.Histories.{IsMemberOf, here, there, seen_at, phase_at}
use Rattle.turn_table.specs.Steps.{Sat, noted, tried, phased, gained, entry, with_read_count, emptied_phase, reached_phase, phase_number, WasTaken, GivenView, marked, looked, count_read, put_back, emptied, reached, finished, freed}
use Rattle.turn_table.proofs.Lists.{seen_here, seen_else, phase_here, phase_else, nothing_or}
use Rattle.turn_table.proofs.Keeps.{IsAt}

same_or : (j k : ℕ) → (j ≡ k) ⊎ (j ≢ k)
same_or j k = dite (ℕ_discrete j k) (λ e. inl e) (λ ne. inr ne)

-- a place that the hand may take has no turn of the hand's
pub no_turn : {S : Type 0} (ts : List (ℕ × Phase S)) (k : ℕ) → ((j : ℕ) → phase_at ts j ≢ Nothing → j < k) → phase_at ts k ≡ Nothing
no_turn ts k may = ⊎_elim (λ e. e) (λ ne. absurd (let h = may k ne in omega arith)) (nothing_or (phase_at ts k))

-- what was found in the slot
pub got_is : {S : Type 0} (spot : ℕ) (x r : S) (cs : List (ℕ × S)) → (spot, x) ∷ [] ≡ (spot, r) ∷ cs → x ≡ r
got_is {S} spot x r cs e = let p : ◌≡◌ {A = ℕ × S} (spot, x) (spot, r) = cc in ap (λ z. z.1) p

pub held_out : {S : Type 0} (spot : ℕ) (x : S) (cs : List (ℕ × S)) → cs ≡ (spot, x) ∷ [] → (y : S) × (cs ≡ (spot, y) ∷ rest cs)
held_out spot x cs e = (x, e ∙ ap (λ l. (spot, x) ∷ rest l) (sym e))

pub sees : (ns : List (ℕ × ℕ)) (k n : ℕ) → seen_at ns k ≤ n → (seen_at ((k, n) ∷ ns) k ≡ n) × ((j : ℕ) → j ≢ k → seen_at ((k, n) ∷ ns) j ≡ seen_at ns j)
sees ns k n low = (let h = seen_here ns k n in omega arith, λ j ne. seen_else ns k n j ne)

either_way : {P Q : Type 0} (b : Bool) → MatchBool b P Q → (b ≡ true → P) × (b ≡ false → Q)
either_way true h = ((λ _. h), λ e. absurd cc)
either_way false h = ((λ e. absurd cc), λ _. h)

module _ {S E O : Type 0} (relates : S → E → O → S → Type 0) (reserved : E → Type 0) where
  pub after_mark : (k spot r : ℕ) (v : View S E O) → IsAt v k spot → (m m' : Sat S E O) → Path (Sat S E O) m (v, []) → marked relates reserved (step 0 (4 * spot) 0 1 none) m r m'
      → (r ≡ 0 → (x : S) × Path (Sat S E O) m' (phased k (Marked x) (tried k 0 v), (spot, Some x) ∷ [])) × (r ≢ 0 → (r ≡ 1) × Path (Sat S E O) m' (tried k 1 v, []) × WasTaken relates reserved k v)
  after_mark k spot r v lies m m' e t = let h = either_way (eqb r 0) (subst (λ z. marked relates reserved (step 0 (4 * spot) 0 1 none) z r m') e t k (lies.0, ap (λ i. 4 * i) lies.1)) in
      ((λ q. let w = h.0 (eq-eqb r 0 q) in (w.0, w.1 ∙ ap (λ i. (phased k (Marked w.0) (tried k 0 v), (i, Some w.0) ∷ [])) (sym lies.1))), λ q. h.1 (ne_eqb r 0 q))

  given_before : (k n : ℕ) (x : S) (v : View S E O) → GivenView relates reserved k (phased k (Marked x) (tried k 0 v)) n x → GivenView relates reserved k v n x
  given_before k n x v g = record { history = g.history; long = g.long; start = g.start; starts = g.starts; leaves = g.leaves; named = g.named; own = g.own; above = g.above; main = g.main; whole = g.whole }

  -- the seat has the mark, and has read the count
  pub after_count : (k spot n : ℕ) (x : S) (v : View S E O) → IsAt v k spot → (m m' : Sat S E O) → Path (Sat S E O) m (phased k (Marked x) (tried k 0 v), (spot, Some x) ∷ []) → count_read relates reserved (step 0 (4 * spot + 1) 0 0 none) m n m'
      → Path (Sat S E O) m' (phased k (Out n x) (noted k n (phased k (Marked x) (tried k 0 v))), (spot, Some x) ∷ []) × (seen_at v.seen k ≤ n) × (n ≤ 2 ^ 56) × GivenView relates reserved k v n x
  after_count k spot n x v lies m m' e t =
      let h = subst (λ z. count_read relates reserved (step 0 (4 * spot + 1) 0 0 none) z n m') e t k (lies.0, ap (λ i. 4 * i + 1) lies.1) in
      let p = phase_here v.turns k (Marked x) in
      (h.0 ∙ ap (λ q. (phased k (with_read_count n q) (noted k n (phased k (Marked x) (tried k 0 v))), (spot, Some x) ∷ [])) p, h.1, h.2, given_before k n x v (h.3 x p))

module _ {S E O : Type 0} where
  pub after_look : (k spot n : ℕ) (v : View S E O) → IsAt v k spot → (m m' : Sat S E O) → Path (Sat S E O) m (v, []) → looked (step 0 (4 * spot + 1) 0 0 none) m n m' → Path (Sat S E O) m' (noted k n v, []) × (seen_at v.seen k ≤ n) × (n ≤ 2 ^ 56)
  after_look k spot n v lies m m' e t = subst (λ z. looked (step 0 (4 * spot + 1) 0 0 none) z n m') e t k (lies.0, ap (λ i. 4 * i + 1) lies.1)

  pub after_return : (k spot : ℕ) (v : View S E O) → IsAt v k spot → (c : List (ℕ × Option S)) (m m' : Sat S E O) → Path (Sat S E O) m (v, c) → put_back (step 0 (4 * spot) 0 0 none) m 0 m' → Path (Sat S E O) m' (phased k Nothing v, rest c)
  after_return k spot v lies c m m' e t = subst (λ z. put_back (step 0 (4 * spot) 0 0 none) z 0 m') e t k (lies.0, ap (λ i. 4 * i) lies.1)

  pub after_empty : (k spot n : ℕ) (x : S) (v : View S E O) → IsAt v k spot → (c : List (ℕ × Option S)) (r : ℕ) (m m' : Sat S E O) → Path (Sat S E O) m (phased k (Out n x) v, c) → emptied (step 0 (4 * spot) 0 0 none) m r m' → Path (Sat S E O) m' (phased k (Held n x) (phased k (Out n x) v), rest c)
  after_empty k spot n x v lies c r m m' e t = subst (λ z. emptied (step 0 (4 * spot) 0 0 none) z r m') e t k (lies.0, ap (λ i. 4 * i) lies.1) ∙ ap (λ q. (phased k (emptied_phase q) (phased k (Out n x) v), rest c)) (phase_here v.turns k (Out n x))

  pub after_reach : (k spot n : ℕ) (x : S) (v : View S E O) → IsAt v k spot → (r : ℕ) (m m' : Sat S E O) → Path (Sat S E O) m (v, []) → phase_at v.turns k ≡ Held n x → reached (step 0 (4 * spot) 0 0 none) m r m'
      → Path (Sat S E O) m' (phased k (Out n x) v, (spot, None) ∷ []) × (n < 2 ^ 56)
  after_reach k spot n x v lies r m m' e p t = let h = subst (λ z. reached (step 0 (4 * spot) 0 0 none) z r m') e t k (lies.0, ap (λ i. 4 * i) lies.1) in
      (h.0 ∙ (ap (λ i. (phased k (reached_phase (phase_at v.turns k)) v, (i, None) ∷ [])) (sym lies.1) ∙ ap (λ q. (phased k (reached_phase q) v, (spot, None) ∷ [])) p), h.1 n x p)

  -- the slot that is out with the seat has z in it
  pub swapped : (spot : ℕ) (x y z : Option S) (v : View S E O) (m : Sat S E O) → Path (Sat S E O) m (v, (spot, x) ∷ []) → z ≡ y → Path (Sat S E O) (m.0, (spot, z) ∷ rest m.1) (v, (spot, y) ∷ [])
  swapped spot x y z v m e is = ap (λ u. (m.0, (spot, u) ∷ rest m.1)) is ∙ ap (λ n. (n.0, (spot, y) ∷ rest n.1)) e

  pub after_finish : (k spot n l : ℕ) (x y : S) (event : E) (outcome : O) (v : View S E O) → IsAt v k spot → (m m' : Sat S E O) → Path (Sat S E O) m (phased k (Out n x) v, (spot, Some y) ∷ []) → finished event outcome (step 0 (4 * spot + 1) l 0 none) m l m'
      → Path (Sat S E O) m' (phased k (Counted y) (noted k l (gained (entry k n event outcome) (phased k (Out n x) v))), []) × (seen_at v.seen k ≤ n)
  after_finish k spot n l x y event outcome v lies m m' e t =
      let h = subst (λ z. finished event outcome (step 0 (4 * spot + 1) l 0 none) z l m') e t k (lies.0, ap (λ i. 4 * i + 1) lies.1) in
      let p : phase_number (phase_at ((k, Out n x) ∷ v.turns) k) ≡ n = ap phase_number (phase_here v.turns k (Out n x)) in
      (h.0 ∙ ap (λ q. (phased k (Counted y) (noted k l (gained (entry k q event outcome) (phased k (Out n x) v))), [])) p, let s = h.1 in omega arith)

  pub after_free : (k spot : ℕ) (v : View S E O) → IsAt v k spot → (m m' : Sat S E O) → Path (Sat S E O) m (v, []) → freed (step 0 (4 * spot) 0 0 none) m 0 m' → Path (Sat S E O) m' (phased k Nothing v, [])
  after_free k spot v lies m m' e t = subst (λ z. freed (step 0 (4 * spot) 0 0 none) z 0 m') e t k (lies.0, ap (λ i. 4 * i) lies.1)

-- the two turns and what was seen, after the whole of a call
module _ {S E O : Type 0} where
  abbrev pub taken_view : ℕ → ℕ → S → View S E O → View S E O
  taken_view k n x v = phased k (Held n x) (phased k (Out n x) (noted k n (phased k (Marked x) (tried k 0 v))))

  abbrev pub returned_view : ℕ → ℕ → S → View S E O → View S E O
  returned_view k n x v = phased k Nothing (phased k (Out n x) (noted k n (phased k (Marked x) (tried k 0 v))))

  abbrev pub put_view : ℕ → ℕ → S → S → E → O → View S E O → View S E O
  put_view k n x y event outcome v = phased k Nothing (phased k (Counted y) (noted k (n + 1) (gained (entry k n event outcome) (phased k (Out n x) v))))

  abbrev pub SameKnown : View S E O → View S E O → Type 0
  SameKnown v w = (w.starts ≡ v.starts) × (w.parts ≡ v.parts) × (w.main ≡ v.main)

  abbrev pub Saw : ℕ → ℕ → View S E O → View S E O → Type 0
  Saw k n v w = (seen_at w.seen k ≡ n) × ((j : ℕ) → j ≢ k → seen_at w.seen j ≡ seen_at v.seen j)

  abbrev pub OtherTurns : ℕ → View S E O → View S E O → Type 0
  OtherTurns k v w = (j : ℕ) → j ≢ k → phase_at w.turns j ≡ phase_at v.turns j

  pub taken_turns : (k n : ℕ) (x : S) (v : View S E O) → (phase_at (taken_view k n x v).turns k ≡ Held n x) × OtherTurns k v (taken_view k n x v)
  taken_turns k n x v = let a = (k, Marked x) ∷ v.turns in let b = (k, Out n x) ∷ a in
      (phase_here b k (Held n x), λ j ne. phase_else b k (Held n x) j ne ∙ (phase_else a k (Out n x) j ne ∙ phase_else v.turns k (Marked x) j ne))

  pub returned_turns : (k n : ℕ) (x : S) (v : View S E O) → phase_at v.turns k ≡ Nothing → (j : ℕ) → phase_at (returned_view k n x v).turns j ≡ phase_at v.turns j
  returned_turns k n x v none_yet j = let a = (k, Marked x) ∷ v.turns in let b = (k, Out n x) ∷ a in
      ⊎_elim (λ e. ap (phase_at ((k, Nothing) ∷ b)) e ∙ (phase_here b k Nothing ∙ (sym none_yet ∙ ap (phase_at v.turns) (sym e))))
      (λ ne. phase_else b k Nothing j ne ∙ (phase_else a k (Out n x) j ne ∙ phase_else v.turns k (Marked x) j ne)) (same_or j k)

  pub put_turns : (k n : ℕ) (x y : S) (event : E) (outcome : O) (v : View S E O) → (phase_at (put_view k n x y event outcome v).turns k ≡ Nothing) × OtherTurns k v (put_view k n x y event outcome v)
  put_turns k n x y event outcome v = let a = (k, Out n x) ∷ v.turns in let b = (k, Counted y) ∷ a in
      (phase_here b k Nothing, λ j ne. phase_else b k Nothing j ne ∙ (phase_else a k (Counted y) j ne ∙ phase_else v.turns k (Out n x) j ne))

abbrev pub Trials : ℕ → List (ℕ × ℕ) → List (ℕ × ℕ) → Type 0
Trials k rs rs' = (ts : List (ℕ × ℕ)) × (rs' ≡ ts ++ rs) × ((t : ℕ × ℕ) → IsMemberOf t ts → t.0 ≡ k)

-- a hand that tried the mark of the place k alone tries it once more
pub tried_again : (k : ℕ) (rs rs' rs'' : List (ℕ × ℕ)) → Trials k rs rs' → (n : ℕ) → rs'' ≡ (k, n) ∷ rs' → Trials k rs rs''
tried_again k rs rs' rs'' t n e = ((k, n) ∷ t.0, e ∙ ap (λ l. (k, n) ∷ l) t.1, λ u h. by t.2 u h)
  where
    by : ((u : ℕ × ℕ) → IsMemberOf u t.0 → u.0 ≡ k) → (u : ℕ × ℕ) → IsMemberOf u ((k, n) ∷ t.0) → u.0 ≡ k
    by old u (here p) = ap (λ (z : ℕ × ℕ). z.0) p
    by old u (there h) = old u h

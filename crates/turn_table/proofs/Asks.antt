-- What a step asks of a seat that is known by an equation, and what a hand owes after a call.
use Rattle.std.proofs.Common.{◌≡◌, ℕ, suc, ◌+◌, ◌*◌, ◌^◌, ◌<◌, true, eqb, List, [], ◌∷◌, length, Option, Some, None, sym, ap, ◌∙◌, subst, arith}
use mathlib.Core.Option.{none}
use mathlib.Core.Path.{Path}
use prog.Atomic.{either}
use Rattle.atomic_table.specs.Table.{step, Allows}
use Rattle.atomic_table.specs.Seated.{TableId}
use Rattle.turn_table.specs.declared.view.View.{View}
use Rattle.turn_table.specs.declared.view.Phase.TheVariants.{Nothing, Marked, Out, Held, Counted}
use Rattle.turn_table.specs.Histories.{phase_at}
use Rattle.turn_table.specs.Layout.{column_rows, spot_of}
use Rattle.turn_table.specs.Invariant.{Kept}
use Rattle.turn_table.specs.Steps.{Sat, marked, looked, count_read, put_back, emptied, reached, finished, freed}
use Rattle.turn_table.proofs.Keeps.{IsAt, marks, looks, counts, returns, empties, reaches, frees}
use Rattle.turn_table.proofs.Ends.{ends}

module _ {S E O : Type 0} (relates : S → E → O → S → Type 0) (reserved : E → Type 0) (starts : List S) (slots id k spot : ℕ) (me : Sat S E O) (v : View S E O) where
  pub marks_at : Path (Sat S E O) me (v, []) → IsAt v k spot → 0 < v.parts → phase_at v.turns k ≡ Nothing → Allows (Kept relates reserved starts) slots id me (4 * spot) (λ n. either (eqb n 0) 1 n) (marked relates reserved (step slots (4 * spot) 0 1 none) me)
  marks_at e lies live none_yet = subst (λ m. Allows (Kept relates reserved starts) slots id m (4 * spot) (λ n. either (eqb n 0) 1 n) (marked relates reserved (step slots (4 * spot) 0 1 none) m)) (sym e) (marks relates reserved starts slots id k spot v lies live none_yet)

  pub looks_at : Path (Sat S E O) me (v, []) → IsAt v k spot → 0 < v.parts → Allows (Kept relates reserved starts) slots id me (4 * spot + 1) (λ n. n) (looked (step slots (4 * spot + 1) 0 0 none) me)
  looks_at e lies live = subst (λ m. Allows (Kept relates reserved starts) slots id m (4 * spot + 1) (λ n. n) (looked (step slots (4 * spot + 1) 0 0 none) m)) (sym e) (looks relates reserved starts slots id k spot v lies live)

  pub counts_at : (c : List (ℕ × Option S)) → Path (Sat S E O) me (v, c) → IsAt v k spot → 0 < v.parts → (x : S) → phase_at v.turns k ≡ Marked x → Allows (Kept relates reserved starts) slots id me (4 * spot + 1) (λ n. n) (count_read relates reserved (step slots (4 * spot + 1) 0 0 none) me)
  counts_at c e lies live x phase = subst (λ m. Allows (Kept relates reserved starts) slots id m (4 * spot + 1) (λ n. n) (count_read relates reserved (step slots (4 * spot + 1) 0 0 none) m)) (sym e) (counts relates reserved starts slots id k spot v c lies live x phase)

  pub returns_at : (n : ℕ) (x : S) → Path (Sat S E O) me (v, (spot, Some x) ∷ []) → IsAt v k spot → 0 < v.parts → phase_at v.turns k ≡ Out n x → Allows (Kept relates reserved starts) slots id me (4 * spot) (λ _. 0) (λ _. put_back (step slots (4 * spot) 0 0 none) me 0)
  returns_at n x e lies live phase = subst (λ m. Allows (Kept relates reserved starts) slots id m (4 * spot) (λ _. 0) (λ _. put_back (step slots (4 * spot) 0 0 none) m 0)) (sym e) (returns relates reserved starts slots id k spot v lies live n x phase)

  pub empties_at : (n : ℕ) (x : S) → Path (Sat S E O) me (v, (spot, None) ∷ []) → IsAt v k spot → 0 < v.parts → phase_at v.turns k ≡ Out n x → n < 2 ^ 56 → Allows (Kept relates reserved starts) slots id me (4 * spot) (λ n. n) (emptied (step slots (4 * spot) 0 0 none) me)
  empties_at n x e lies live phase low = subst (λ m. Allows (Kept relates reserved starts) slots id m (4 * spot) (λ n. n) (emptied (step slots (4 * spot) 0 0 none) m)) (sym e) (empties relates reserved starts slots id k spot v lies live n x phase low)

  pub reaches_at : (n : ℕ) (x : S) → Path (Sat S E O) me (v, []) → IsAt v k spot → 0 < v.parts → phase_at v.turns k ≡ Held n x → Allows (Kept relates reserved starts) slots id me (4 * spot) (λ n. n) (reached (step slots (4 * spot) 0 0 none) me)
  reaches_at n x e lies live phase = subst (λ m. Allows (Kept relates reserved starts) slots id m (4 * spot) (λ n. n) (reached (step slots (4 * spot) 0 0 none) m)) (sym e) (reaches relates reserved starts slots id k spot v lies live n x phase)

  pub ends_at : (n l : ℕ) → l ≡ suc n → (x y : S) → Path (Sat S E O) me (v, (spot, Some y) ∷ []) → IsAt v k spot → 0 < v.parts → phase_at v.turns k ≡ Out n x → n < 2 ^ 56
      → (event : E) (outcome : O) → relates x event outcome y → (reserved event → v.main ≡ true)
      → Allows (Kept relates reserved starts) slots id me (4 * spot + 1) (λ _. l) (λ _. finished event outcome (step slots (4 * spot + 1) l 0 none) me l)
  ends_at n l next x y e lies live phase low event outcome related right = subst (λ m. Allows (Kept relates reserved starts) slots id m (4 * spot + 1) (λ _. l) (λ _. finished event outcome (step slots (4 * spot + 1) l 0 none) m l)) (sym e)
      (ends relates reserved starts slots id k spot v lies live n l next x y phase low event outcome related right)

  pub frees_at : (y : S) → Path (Sat S E O) me (v, []) → IsAt v k spot → 0 < v.parts → phase_at v.turns k ≡ Counted y → Allows (Kept relates reserved starts) slots id me (4 * spot) (λ _. 0) (λ _. freed (step slots (4 * spot) 0 0 none) me 0)
  frees_at y e lies live phase = subst (λ m. Allows (Kept relates reserved starts) slots id m (4 * spot) (λ _. 0) (λ _. freed (step slots (4 * spot) 0 0 none) m 0)) (sym e) (frees relates reserved starts slots id k spot v lies live y phase)

-- where the table, which has this many rows, and the hand have the place k
pub lies_at : {S E O : Type 0} (v : View S E O) (k rows spot slots slots' : ℕ) → k < length v.starts → slots ≡ 960 * column_rows (length v.starts) → slots ≡ slots' → slots' ≡ 960 * rows → spot ≡ spot_of rows k → IsAt v k spot
lies_at v k rows spot slots slots' inside long same deep is = (inside, is ∙ ap (λ n. spot_of n k) (let e : rows ≡ column_rows (length v.starts) = omega arith in e))

-- the hand's own facts, after a call that left it with the view w
pub hand_again : {S E O : Type 0} (me : Sat S E O) (v w : View S E O) (z z' : TableId) → Path (Sat S E O) me (w, []) → z' ≡ z → w.parts ≡ v.parts → w.starts ≡ v.starts → 0 < v.parts → z.slots ≡ 960 * column_rows (length v.starts)
    → (me.1 ≡ []) × (0 < me.0.parts) × (z'.slots ≡ 960 * column_rows (length me.0.starts))
hand_again {S = S} me v w z z' e same parts starts live long =
    (ap (λ m. m.1) e, let p : me.0.parts ≡ w.parts = ap (λ m. m.0.parts) e in omega arith, ap (λ (t : TableId). t.slots) same ∙ (long ∙ ap (λ (l : List S). 960 * column_rows (length l)) (sym (ap (λ m. m.0.starts) e ∙ starts))))

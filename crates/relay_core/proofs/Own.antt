-- What the main hand knows of a place by its own list: all steps of the place but takes and relays are in it.
use Rattle.std.proofs.Common.{◌≡◌, refl, sym, ◌∙◌, ap, subst, ℕ, zero, suc, ◌<◌, ◌≤◌, ◌⊎◌, inl, inr, Bool, true, false, cond, List, [], ◌∷◌, ◌++◌, Option, Some, None, filter, length, arith, slice_get, take, get_or}
use Rattle.std.proofs.Math.Seq.{take-suc}
use Rattle.std.proofs.lemmas.Option.{slice_get_cases}
use Rattle.turn_table.specs.declared.machine.Entry as table
use Rattle.turn_table.specs.Histories.{Named}
use Rattle.turn_table.specs.Histories as table_lists
use Rattle.histories.specs.Words.{In, here, there}
use Rattle.histories.proofs.Lists.{keeps}
use Rattle.relay_core.specs.Entries.{Entry, is_at, history}
use Rattle.relay_core.specs.Records.{Made, entry_of, list_of}
use Rattle.relay_core.proofs.Histories.{same_at, is_there, Step, nothing, single, step}
use Rattle.relay_core.proofs.Turns.{filter_append}
use Rattle.relay_core.proofs.Stays.{onto}

filter_one : (p : Entry → Bool) (e : Entry) (t : Bool) → p e ≡ t → filter p (e ∷ []) ≡ cond t (e ∷ []) []
filter_one p e t q = ap (λ (b : Bool). cond b (e ∷ []) []) q

same_some : {A : Type 0} {o : Option A} {x y : A} → o ≡ Some x → o ≡ Some y → x ≡ y
same_some p q = let r = sym p ∙ q in cc

module _ {T : Type 0} where
  pub rows_in : {row : (table.Entry Made T)} (rows : List (table.Entry Made T)) → table_lists.IsMemberOf row rows → In (entry_of row) (list_of rows)
  rows_in [] i = elim i [ ]
  rows_in (r ∷ rows) (table_lists.here q) = here (ap (λ (x : (table.Entry Made T)). entry_of x) q)
  rows_in (r ∷ rows) (table_lists.there i) = there (rows_in rows i)

  -- the row that an entry of the list is
  pub record IsRow (e : Entry) (rows : List (table.Entry Made T)) : Type 0 where
    pub row : (table.Entry Made T)
    pub is_in : table_lists.IsMemberOf row rows
    pub is : entry_of row ≡ e

  pub in_rows : {e : Entry} (rows : List (table.Entry Made T)) → In e (list_of rows) → IsRow e rows
  in_rows [] i = elim i [ ]
  in_rows (r ∷ rows) (here q) = record { row = r; is_in = table_lists.here refl; is = sym q }
  in_rows (r ∷ rows) (there i) =
      let found = in_rows rows i in
      record { row = found.row; is_in = table_lists.there found.is_in; is = found.is }

  pub onto_last : (rows : List (table.Entry Made T)) (row : (table.Entry Made T)) (h : List Entry) → onto (rows ++ row ∷ []) h ≡ entry_of row ∷ onto rows h
  onto_last [] row h = refl
  onto_last (r ∷ rows) row h = onto_last rows row (entry_of r ∷ h)

  -- What the list has of a place's history.
  pub record IsOwn (p : Entry → Bool) (k : ℕ) (rows past : List (table.Entry Made T)) : Type 0 where
    pub numbered : (e : Entry) → In e (list_of rows) → length (filter (is_at e.place e.number) (list_of rows)) ≡ 1
    pub named : Named k past
    pub own : (e : (table.Entry Made T)) → table_lists.IsMemberOf e rows → e.place ≡ k → slice_get past e.number ≡ Some e
    pub all : (i : ℕ) (e : (table.Entry Made T)) → slice_get past i ≡ Some e → p (entry_of e) ≡ true → table_lists.IsMemberOf e rows

  at_true : (p : Entry → Bool) (k i : ℕ) (rows past : List (table.Entry Made T)) (r : (table.Entry Made T)) → IsOwn p k rows past → slice_get past i ≡ Some r → p (entry_of r) ≡ true
      → Step (list_of rows) k i → filter p (filter (is_at k i) (list_of rows)) ≡ entry_of r ∷ []
  at_true p k i rows past r o q t (nothing none) =
      let at = o.named i r q in
      absurd (elim (subst (λ (xs : List Entry). In (entry_of r) xs) none
      (keeps (is_at k i) (list_of rows) (rows_in rows (o.all i r q t)) (is_there k i (entry_of r) at.0 at.1))) [ ])
  at_true p k i rows past r o q t (single e is_in place number one) =
      let at = o.named i r q in
      let same : e ≡ entry_of r = same_at (list_of rows) o.numbered e (entry_of r) is_in (rows_in rows (o.all i r q t)) (place ∙ sym at.0) (number ∙ sym at.1) in
      ap (λ (xs : List Entry). filter p xs) (one ∙ ap (λ (x : Entry). x ∷ []) same) ∙ filter_one p (entry_of r) true t

  at_false : (p : Entry → Bool) (k i : ℕ) (rows past : List (table.Entry Made T)) (r : (table.Entry Made T)) → IsOwn p k rows past → slice_get past i ≡ Some r → p (entry_of r) ≡ false
      → Step (list_of rows) k i → filter p (filter (is_at k i) (list_of rows)) ≡ []
  at_false p k i rows past r o q t (nothing none) = ap (λ (xs : List Entry). filter p xs) none
  at_false p k i rows past r o q t (single e is_in place number one) =
      let found = in_rows rows is_in in
      let at_k : found.row.place ≡ k = ap (λ (x : Entry). x.place) found.is ∙ place in
      let at_i : found.row.number ≡ i = ap (λ (x : Entry). x.number) found.is ∙ number in
      let there_is : slice_get past i ≡ Some found.row = subst (λ (n : ℕ). slice_get past n ≡ Some found.row) at_i (o.own found.row found.is_in at_k) in
      let same : found.row ≡ r = same_some there_is q in
      let is_r : e ≡ entry_of r = sym found.is ∙ ap (λ (x : (table.Entry Made T)). entry_of x) same in
      ap (λ (xs : List Entry). filter p xs) (one ∙ ap (λ (x : Entry). x ∷ []) is_r) ∙ filter_one p (entry_of r) false t

  at_number : (p : Entry → Bool) (k i : ℕ) (rows past : List (table.Entry Made T)) (r : (table.Entry Made T)) → IsOwn p k rows past → slice_get past i ≡ Some r
      → (t : Bool) → p (entry_of r) ≡ t → filter p (filter (is_at k i) (list_of rows)) ≡ filter p (entry_of r ∷ [])
  at_number p k i rows past r o q true t =
      at_true p k i rows past r o q t (step (list_of rows) o.numbered k i) ∙ sym (filter_one p (entry_of r) true t)
  at_number p k i rows past r o q false t =
      at_false p k i rows past r o q t (step (list_of rows) o.numbered k i) ∙ sym (filter_one p (entry_of r) false t)

  own_next : (p : Entry → Bool) (k : ℕ) (rows past : List (table.Entry Made T)) → IsOwn p k rows past → (i : ℕ) → suc i ≤ length past
      → (((x : (table.Entry Made T)) × (i < length past) × (slice_get past i ≡ Some x) × (get_or past i x ≡ x)) ⊎ ((length past ≤ i) × (slice_get past i ≡ None)))
      → filter p (onto (take i past) []) ≡ filter p (history (list_of rows) k i)
      → filter p (onto (take (suc i) past) []) ≡ filter p (history (list_of rows) k (suc i))
  own_next p k rows past o i within (inr past_end) rest = absurd (let a = past_end.0 in omega (arith, a, within))
  own_next p k rows past o i within (inl found) rest =
      let r = found.0 in
      let taken : take (suc i) past ≡ take i past ++ (r ∷ []) = take-suc past i r found.1 ∙ ap (λ (x : (table.Entry Made T)). take i past ++ (x ∷ [])) found.3 in
      let left : onto (take (suc i) past) [] ≡ (entry_of r ∷ []) ++ onto (take i past) []
      = ap (λ (xs : List (table.Entry Made T)). onto xs []) taken ∙ onto_last (take i past) r [] in
      ap (λ (xs : List Entry). filter p xs) left
      ∙ filter_append p (entry_of r ∷ []) (onto (take i past) [])
      ∙ ap (λ (xs : List Entry). filter p (entry_of r ∷ []) ++ xs) rest
      ∙ ap (λ (xs : List Entry). xs ++ filter p (history (list_of rows) k i)) (sym (at_number p k i rows past r o found.2 (p (entry_of r)) refl))
      ∙ sym (filter_append p (filter (is_at k i) (list_of rows)) (history (list_of rows) k i))

  -- of the steps that pass, the list has the place's history
  pub own_history : (p : Entry → Bool) (k : ℕ) (rows past : List (table.Entry Made T)) → IsOwn p k rows past
      → (i : ℕ) → i ≤ length past → filter p (onto (take i past) []) ≡ filter p (history (list_of rows) k i)
  own_history p k rows past o zero within = refl
  own_history p k rows past o (suc i) within = own_next p k rows past o i within (slice_get_cases past i).1
      (own_history p k rows past o i (omega (arith, within)))

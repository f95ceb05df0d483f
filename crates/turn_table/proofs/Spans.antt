-- A table begins, hands are cut and joined, and a table ends.
use Rattle.std.proofs.Common.{◌≡◌, ◌≢◌, ℕ, zero, suc, ◌+◌, ◌*◌, ◌<◌, ◌≤◌, false, List, [], ◌∷◌, ◌++◌, map, length, set, get_or, Option, Some, None, slice_get, sym, refl, ap, ◌∙◌, subst, inr, ⊎_elim, arith, lt_of_not-le, length-set, eq-zero-or-pos}
use Rattle.std.proofs.lemmas.Option.{slice_get_within}
use Rattle.std.proofs.lemmas.List.{set-get_or}
use mathlib.Core.Option.{some, none, some-injective, some-ne-none}
use mathlib.Core.Path.{Path}
use mathlib.Core.Logic.{dite}
use native.Mathlib.Decide.{ℕ_discrete, dec_le}
use lib.ListN.{get_elem?, length-map}
use Rattle.atomic_table.specs.Table.{State, step, keeps, Allows, opening, Splits, Joins}
use Rattle.atomic_table.proofs.Lists.{at_set, set_here, set_else, at_longer}
use Rattle.turn_table.specs.declared.machine.Entry.{Entry}
use Rattle.turn_table.specs.declared.view.View.{View}
use Rattle.turn_table.specs.declared.view.Phase.TheVariants.{Nothing}
use Rattle.turn_table.specs.Histories.{one_if, phase_at, is_entry_at, times, Leaves, IsHistory}
use Rattle.turn_table.specs.Layout.{column_rows, spot_of}
use Rattle.turn_table.specs.Invariant.{StateStands, SeatOk, Kept, first_view, spent_view}
use Rattle.turn_table.specs.Steps.{Sat, cut_left, cut_right, glued, surveyed, WasTaken}
use Rattle.turn_table.proofs.Lists.{total_set, total_append, total_alone, in_split, get_there, seen_append, below_out, within, at_end}
use Rattle.turn_table.proofs.Spots.{rows_hold}
use Rattle.turn_table.proofs.Keeps.{not_held, others_spent, all_own}
use Rattle.turn_table.proofs.Moved.{reviewed}

-- the slots of a new table are home
home_there : {A : Type 0} (xs : List A) (i : ℕ) (x : A) → get_elem? xs i ≡ some x → get_elem? (map some xs) i ≡ some (some x)
home_there [] i x e = absurd (some-ne-none x (sym e))
home_there (y ∷ ys) zero x e = ap some e
home_there (y ∷ ys) (suc i) x e = home_there ys i x e

aside_in : {S : Type 0} (xs : List S) (k : ℕ) (a : S) → slice_get xs k ≡ Some a → get_or (map (λ (x : S). Some x) xs) k None ≡ Some a
aside_in [] k a e = absurd (let n : None ≡ Some a = e in cc)
aside_in (x ∷ xs) zero a e = e
aside_in (x ∷ xs) (suc k) a e = aside_in xs k a e

aside_out : {S : Type 0} (xs : List S) (k : ℕ) → length xs ≤ k → get_or (map (λ (x : S). Some x) xs) k None ≡ None
aside_out [] k h = refl
aside_out (x ∷ xs) zero h = absurd (omega arith)
aside_out (x ∷ xs) (suc k) h = aside_out xs k (omega arith)

module _ {S E O : Type 0} (relates : S → E → O → S → Type 0) (reserved : E → Type 0) where
  pub opens : (starts : List S) (ws : List ℕ) (xs : List (Option S)) → length ws ≡ 3840 * column_rows (length starts) → ((i : ℕ) → get_or ws i 0 ≡ 0) → length xs ≡ 960 * column_rows (length starts)
      → ((k : ℕ) → k < 960 * column_rows (length starts) → get_elem? xs (spot_of (column_rows (length starts)) k) ≡ some (get_or (map (λ (x : S). Some x) starts) k None))
      → Kept relates reserved starts (opening ws xs (first_view {E = E} {O = O} starts))
  opens starts ws xs wide clear deep laid = record {
    log = λ k. [];
    cells = λ k. (0, Nothing);
    wide = let l = long in omega arith;
    long = long ∙ deep;
    place = λ k a start. record {
      mark = clear (4 * spot_of (column_rows (length starts)) k);
      count = clear (4 * spot_of (column_rows (length starts)) k + 1);
      low = omega arith;
      named = λ i e there. absurd (let n : None ≡ Some e = there in cc);
      free = λ _. refl;
      held = λ h. absurd (omega arith);
      stands = (
        a,
        home_there xs (spot_of (column_rows (length starts)) k) (Some a)
            (laid k (let w = slice_get_within starts k a start in let h = rows_hold (length starts) in omega arith) ∙ ap some (aside_in starts k a start)),
        refl,
      );
    };
    spare = λ k past low. home_there xs (spot_of (column_rows (length starts)) k) None (laid k (let l = long in omega arith) ∙ ap some (aside_out starts k past));
    beyond = λ k h. refl;
    seat = first;
    owned = λ k h. absurd (omega arith);
    whole = refl;
    one = refl;
    once = λ k i. let b = below_out i 0 (omega arith) in omega arith;
  }
    where
      long : length (map some xs) ≡ length xs
      long = length-map xs (λ (y : Option S). some y)

      first : (j : ℕ) (u : View S E O) → get_elem? (first_view starts ∷ []) j ≡ some u → SeatOk reserved starts (λ k. []) (λ k. (0, Nothing)) j u
      first zero u at = subst (λ (z : View S E O). SeatOk reserved starts (λ k. []) (λ k. (0, Nothing)) 0 z) (some-injective (first_view starts) u at) record {
        spent = λ e. absurd (omega arith);
        same = λ _. refl;
        seen = λ k. omega arith;
        tied = λ e h. elim h [ ];
        plain = λ side e h. elim h [ ];
        turns = λ k. inr ((λ e. omega arith), refl);
      }
      first (suc j) u at = absurd (some-ne-none u (sym at))

module _ {S E O : Type 0} (relates : S → E → O → S → Type 0) (reserved : E → Type 0) (starts : List S) where
  abbrev St : Type 0
  St = State (Option S) (View S E O)

  abbrev Rule : St → Type 0
  Rule = Kept relates reserved starts

  -- a seat that has a place knows it
  pub held_all : (s : St) (r : Rule s) (k : ℕ) → 0 < (r.cells k).0 → (r.cells k).1 ≢ Nothing
  held_all s r k some_one = dite (dec_le (length starts) k)
      (λ past. absurd (let z = r.beyond k past in omega arith))
      (λ low. let b = get_there starts k (lt_of_not-le low) in (r.place k b.0 b.1).held some_one)

  not_his : (s : St) (r : Rule s) (id : ℕ) (v : View S E O) → get_elem? s.views id ≡ some v → (k : ℕ) → phase_at v.turns k ≡ Nothing → (r.cells k).0 ≢ suc id
  not_his s r id v at k e = not_held (r.cells k) id (phase_at v.turns k) ((r.seat id v at).turns k) e (held_all s r k)

  pub splits : (id : ℕ) (v : View S E O) → 1 < v.parts → Splits Rule id v (cut_left v) (cut_right v)
  splits id v more s r at = record {
    log = r.log;
    cells = r.cells;
    wide = r.wide;
    long = r.long;
    place = r.place;
    spare = r.spare;
    beyond = r.beyond;
    seat = seat;
    owned = λ k p. let o = r.owned k p in dite (ℕ_discrete o.0 id)
        (λ e. (id, left, o.2 ∙ ap suc e, at_longer (set s.views id left) (right ∷ []) id left (set_here s.views id left (within s.views id v at))))
        (λ ne. (o.0, o.1, o.2, at_longer (set s.views id left) (right ∷ []) o.0 o.1 (set_else s.views id o.0 left ne ∙ o.3)));
    whole = let t = total_append (λ (u : View S E O). u.parts) (set s.views id left) (right ∷ []) in let t' = total_set (λ (u : View S E O). u.parts) s.views id v left at in let h = r.whole in omega arith;
    one = let t = total_append (λ (u : View S E O). one_if u.main) (set s.views id left) (right ∷ []) in let t' = total_set (λ (u : View S E O). one_if u.main) s.views id v left at in let h = r.one in omega arith;
    once = λ k i. let t = total_append (λ (u : View S E O). times k i u.entries) (set s.views id left) (right ∷ []) in let t' = total_set (λ (u : View S E O). times k i u.entries) s.views id v left at in let h = r.once k i in omega arith;
  }
    where
      left : View S E O
      left = cut_left v

      right : View S E O
      right = cut_right v

      mine : SeatOk reserved starts r.log r.cells id v
      mine = r.seat id v at

      mine' : SeatOk reserved starts r.log r.cells id left
      mine' = record { spent = λ z. absurd (omega arith); same = λ _. mine.same (omega arith); seen = mine.seen; tied = mine.tied; plain = mine.plain; turns = mine.turns }

      new : SeatOk reserved starts r.log r.cells (length (set s.views id left)) right
      new = record {
        spent = λ z. absurd (omega arith);
        same = λ _. mine.same (omega arith);
        seen = mine.seen;
        tied = λ e h. elim h [ ];
        plain = λ side e h. elim h [ ];
        turns = λ k. inr ((λ e. let o = r.owned k (omega arith) in let w = within s.views o.0 o.1 o.3 in let l = length-set s.views id left in let q = o.2 in omega arith), refl);
      }

      seat : (j : ℕ) (u : View S E O) → get_elem? (set s.views id left ++ right ∷ []) j ≡ some u → SeatOk reserved starts r.log r.cells j u
      seat j u at' = ⊎_elim
          (λ old. ⊎_elim
          (λ (t : (j ≡ id) × (left ≡ u)). subst (λ (z : ℕ × View S E O). SeatOk reserved starts r.log r.cells z.0 z.1) (λ i. (sym t.0 i, t.1 i)) mine')
          (λ (t : (j ≢ id) × (get_elem? s.views j ≡ some u)). r.seat j u t.1)
          (at_set s.views id j left u old))
          (λ (t : (j ≡ length (set s.views id left)) × (right ≡ u)). subst (λ (z : ℕ × View S E O). SeatOk reserved starts r.log r.cells z.0 z.1) (λ i. (sym t.0 i, t.1 i)) new)
          (at_end (set s.views id left) right u j at')

  pub joins : (id other : ℕ) (v w : View S E O) → 0 < v.parts → w.main ≡ false → ((k : ℕ) → phase_at w.turns k ≡ Nothing) → Joins Rule id v other w (glued v w) spent_view
  joins id other v w live side idle s r at apart at' = record {
    log = r.log;
    cells = r.cells;
    wide = r.wide;
    long = r.long;
    place = r.place;
    spare = r.spare;
    beyond = r.beyond;
    seat = seat;
    owned = λ k p. let o = r.owned k p in dite (ℕ_discrete o.0 id)
        (λ e. (id, both, o.2 ∙ ap suc e, set_else first other id spent_view (λ q. apart (sym q)) ∙ set_here s.views id both (within s.views id v at)))
        (λ ne. (o.0, o.1, o.2, set_else first other o.0 spent_view (λ q. not_his s r other w there k (idle k) (o.2 ∙ ap suc q)) ∙ (set_else s.views id o.0 both ne ∙ o.3)));
    whole = let t = total_set (λ (u : View S E O). u.parts) s.views id v both at in let t' = total_set (λ (u : View S E O). u.parts) first other w spent_view at' in let h = r.whole in omega arith;
    one = let t = total_set (λ (u : View S E O). one_if u.main) s.views id v both at in let t' = total_set (λ (u : View S E O). one_if u.main) first other w spent_view at' in let h = r.one in let q : one_if w.main ≡ 0 = ap one_if side in omega arith;
    once = λ k i. let t = total_set (λ (u : View S E O). times k i u.entries) s.views id v both at in let t' = total_set (λ (u : View S E O). times k i u.entries) first other w spent_view at' in
        let a = total_append (λ (e : Entry E O). one_if (is_entry_at k i e)) v.entries w.entries in let h = r.once k i in omega arith;
  }
    where
      both : View S E O
      both = glued v w

      first : List (View S E O)
      first = set s.views id both

      there : get_elem? s.views other ≡ some w
      there = sym (set_else s.views id other both apart) ∙ at'

      mine : SeatOk reserved starts r.log r.cells id v
      mine = r.seat id v at

      his : SeatOk reserved starts r.log r.cells other w
      his = r.seat other w there

      mine' : SeatOk reserved starts r.log r.cells id both
      mine' = record {
        spent = λ z. absurd (omega arith);
        same = λ _. mine.same live;
        seen = λ k. let a = mine.seen k in let b = his.seen k in let c = seen_append v.seen w.seen k in omega arith;
        tied = λ e h. ⊎_elim (mine.tied e) (his.tied e) (in_split v.entries h);
        plain = λ q e h. ⊎_elim (mine.plain q e) (his.plain side e) (in_split v.entries h);
        turns = mine.turns;
      }

      gone : SeatOk reserved starts r.log r.cells other spent_view
      gone = record {
        spent = λ _. refl;
        same = λ z. absurd (omega arith);
        seen = λ k. omega arith;
        tied = λ e h. elim h [ ];
        plain = λ q e h. elim h [ ];
        turns = λ k. inr (not_his s r other w there k (idle k), refl);
      }

      seat : (j : ℕ) (u : View S E O) → get_elem? (set first other spent_view) j ≡ some u → SeatOk reserved starts r.log r.cells j u
      seat j u q = ⊎_elim
          (λ (t : (j ≡ other) × (spent_view ≡ u)). subst (λ (z : ℕ × View S E O). SeatOk reserved starts r.log r.cells z.0 z.1) (λ i. (sym t.0 i, t.1 i)) gone)
          (λ (t : (j ≢ other) × (get_elem? first j ≡ some u)). ⊎_elim
          (λ (t' : (j ≡ id) × (both ≡ u)). subst (λ (z : ℕ × View S E O). SeatOk reserved starts r.log r.cells z.0 z.1) (λ i. (sym t'.0 i, t'.1 i)) mine')
          (λ (t' : (j ≢ id) × (get_elem? s.views j ≡ some u)). r.seat j u t'.1)
          (at_set s.views id j both u t.1))
          (at_set first other j spent_view u q)

  -- and no other seat has a turn
  pub alone : (k : ℕ) (v : View S E O) → v.parts ≡ 1024 → v.starts ≡ starts → WasTaken relates reserved k v → ⊥
  alone k v all same t =
      let r = subst (λ z. Kept relates reserved z t.state) same t.kept in
      t.has (ap (λ (u : View S E O). phase_at u.turns k) (others_spent relates reserved starts t.state r t.seat v t.mine all t.other t.view t.apart t.theirs))

  nobody : (s : St) (r : Rule s) (id : ℕ) (v : View S E O) → get_elem? s.views id ≡ some v → v.parts ≡ 1024 → ((k : ℕ) → phase_at v.turns k ≡ Nothing) → (k : ℕ) → (r.cells k).0 ≡ 0
  nobody s r id v at all idle k = ⊎_elim (λ z. z) (λ p. let o = r.owned k p in absurd (dite (ℕ_discrete o.0 id)
      (λ e. not_his s r id v at k (idle k) (o.2 ∙ ap suc e))
      (λ ne. not_his s r o.0 o.1 o.3 k (ap (λ (u : View S E O). phase_at u.turns k) (others_spent relates reserved starts s r id v at all o.0 o.1 ne o.3)) o.2)))
      (eq-zero-or-pos (r.cells k).0)

  -- the history of the place k stands in the list of the hand with all parts
  known : (s : St) (r : Rule s) (id : ℕ) (v : View S E O) → get_elem? s.views id ≡ some v → v.parts ≡ 1024 → (k : ℕ) (a : S) → slice_get starts k ≡ Some a → IsHistory v.entries k (r.log k)
  known s r id v at all k a start = record {
    named = (r.place k a start).named;
    own = λ e i p. subst (λ j. slice_get (r.log j) e.number ≡ Some e) p ((r.seat id v at).tied e i).1;
    all = λ i e there. all_own relates reserved starts s r id v at all k i e there;
    once = λ i. sym (total_alone (λ (u : View S E O). times k i u.entries) s.views id v at (λ j u ne at'. ap (λ (z : View S E O). times k i z.entries) (others_spent relates reserved starts s r id v at all j u ne at'))) ∙ r.once k i;
  }

  -- the load by the hand with all parts
  pub surveys : (slots id word : ℕ) (v : View S E O) → 0 < v.parts → Allows Rule slots id (v, []) word (λ n. n) (surveyed (step slots word 0 0 none) (v, []))
  surveys slots id word v live s r deep at small = (
    v,
    keeps,
    tt,
    subst (λ ws. Rule record { words = ws; homes = s.homes; views = set s.views id v }) (sym (set-get_or s.words word 0))
        (reviewed relates reserved starts s r id v at live v.seen v.tries (r.seat id v at).seen),
    (
      refl,
      λ all. (let same = (r.seat id v at).same live in record {
        range = λ e i. subst (λ (l : List S). e.place < length l) (sym same) ((r.seat id v at).tied e i).0;
        histories = λ k a start. (r.log k, known s r id v at all k a (subst (λ (l : List S). slice_get l k ≡ Some a) same start));
      }),
    ),
  )

  pub surveys_at : (slots id word : ℕ) (me : Sat S E O) (v : View S E O) → Path (Sat S E O) me (v, []) → 0 < v.parts → Allows Rule slots id me word (λ n. n) (surveyed (step slots word 0 0 none) me)
  surveys_at slots id word me v e live =
      subst (λ m. Allows Rule slots id m word (λ n. n) (surveyed (step slots word 0 0 none) m)) (sym e) (surveys slots id word v live)

  -- the place k at the end: its history stands in the last hand's list, and its state is home
  pub closes : (s : St) (r : Rule s) (id : ℕ) (v : View S E O) → get_elem? s.views id ≡ some v → v.parts ≡ 1024 → ((k : ℕ) → phase_at v.turns k ≡ Nothing) → (k : ℕ) (a : S) → slice_get starts k ≡ Some a
      → (x : S) × (get_elem? s.homes (spot_of (column_rows (length starts)) k) ≡ some (some (Some x))) × Leaves relates a (r.log k) x × IsHistory v.entries k (r.log k)
  closes s r id v at all idle k a start =
      let ok = r.place k a start in
      let h = subst (StateStands relates s.homes (spot_of (column_rows (length starts)) k) (r.log k) a) (ok.free (nobody s r id v at all idle k)) ok.stands in (
        h.0,
        h.1,
        h.2,
        known s r id v at all k a start,
      )

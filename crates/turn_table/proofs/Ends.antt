-- The step that makes an event keeps the rule.
use Rattle.std.proofs.Common.{◌≡◌, ◌≢◌, ℕ, suc, ◌+◌, ◌*◌, ◌^◌, ◌<◌, ◌≤◌, true, false, List, [], ◌∷◌, ◌++◌, length, set, Option, Some, slice_get, sym, refl, ap, ◌∙◌, subst, inl, inr, ⊎_elim, arith, le_refl, lt_of_not-le, length-set, length-append, get_or-set_other, get_or-set_same}
use Rattle.std.proofs.lemmas.Option.{slice_get_within}
use mathlib.Core.Option.{some, none}
use mathlib.Core.Logic.{dite}
use mathlib.Core.Path.{Path}
use native.Mathlib.Decide.{ℕ_discrete, dec_le}
use lib.ListN.{get_elem?}
use Rattle.atomic_table.specs.Table.{State, step, gives, Allows}
use Rattle.atomic_table.proofs.Lists.{set_here, set_else}
use Rattle.turn_table.specs.declared.machine.Entry.{Entry}
use Rattle.turn_table.specs.declared.view.View.{View}
use Rattle.turn_table.specs.declared.view.Phase.{Phase}
use Rattle.turn_table.specs.declared.view.Phase.TheVariants.{Out, Counted}
use Rattle.turn_table.specs.Histories.{one_if, below, seen_at, phase_at, is_entry_at, times, Named, Leaves}
use Rattle.turn_table.specs.Layout.{column_rows, spot_of}
use Rattle.turn_table.specs.Invariant.{Matches, StateStands, PlaceOk, SeatOk, Kept}
use Rattle.turn_table.specs.Steps.{Sat, HasCount, noted, phased, gained, entry, phase_number, finished}
use Rattle.turn_table.proofs.Lists.{total_append, in_split, in_one, get_longer, get_last, get_snoc, put, put_here, put_else, put_all, seen_here, seen_else, phase_here, phase_else, at_here, at_place, at_number, below_in, below_out}
use Rattle.turn_table.proofs.Moved.{Grows, moved}
use Rattle.turn_table.proofs.Keeps.{IsAt, mine_is, begun, there_ok, far_count, count_of}

module _ {S E O : Type 0} (relates : S → E → O → S → Type 0) where
  pub leaves_snoc : (h : List (Entry E O)) (e : Entry E O) (a x y : S) → Leaves relates a h x → relates x e.event e.outcome y → Leaves relates a (h ++ e ∷ []) y
  leaves_snoc [] e a x y l step = (y, subst (λ z. relates z e.event e.outcome y) (sym l) step, refl)
  leaves_snoc (f ∷ fs) e a x y l step = (l.0, l.1, leaves_snoc fs e l.0 x y l.2 step)

-- one more entry, and one more number below the length
more_below : {E O : Type 0} (e : Entry E O) (k n i : ℕ) → e.place ≡ k → e.number ≡ n → one_if (is_entry_at k i e) + below i n ≡ below i (suc n)
more_below e k n i p q = dite (ℕ_discrete n i)
    (λ (s : n ≡ i). let a = at_here k i e p (q ∙ s) in let b = below_out i n (omega arith) in let c = below_in i (suc n) (omega arith) in omega arith)
    (λ (ne : n ≢ i). let a = at_number k i e p (λ r. ne (sym q ∙ r)) in by a (λ low. (below_in i n low, below_in i (suc n) (omega arith))) (λ high. (below_out i n high, below_out i (suc n) (omega arith))))
  where
    by : one_if (is_entry_at k i e) ≡ 0 → (i < n → (below i n ≡ 1) × (below i (suc n) ≡ 1)) → (n ≤ i → (below i n ≡ 0) × (below i (suc n) ≡ 0)) → one_if (is_entry_at k i e) + below i n ≡ below i (suc n)
    by a low high = dite (dec_le n i) (λ (g : n ≤ i). let h = high g in let h0 = h.0 in let h1 = h.1 in omega arith) (λ (g : ¬ (n ≤ i)). let h = low (lt_of_not-le g) in let h0 = h.0 in let h1 = h.1 in omega arith)

module _ {S E O : Type 0} (relates : S → E → O → S → Type 0) (reserved : E → Type 0) (starts : List S) where
  abbrev St : Type 0
  St = State (Option S) (View S E O)

  abbrev Rule : St → Type 0
  Rule = Kept relates reserved starts

  module _ (id k spot : ℕ) (v : View S E O) (lies : IsAt v k spot) (live : 0 < v.parts) (n m : ℕ) (next : m ≡ suc n) (x y : S) (phase : phase_at v.turns k ≡ Out n x) (low : n < 2 ^ 56)
      (event : E) (outcome : O) (related : relates x event outcome y) (right : reserved event → v.main ≡ true)
      (s : St) (r : Rule s) (at : get_elem? s.views id ≡ some v) (a : S) (start : slice_get starts k ≡ Some a) (is : spot ≡ spot_of (column_rows (length starts)) k) (long : spot < length s.homes) where
    abbrev e : Entry E O
    e = entry k n event outcome

    abbrev log' : List (Entry E O)
    log' = r.log k ++ e ∷ []

    abbrev cell' : ℕ × Phase S
    cell' = (suc id, Counted y)

    abbrev w : View S E O
    w = phased k (Counted y) (noted k m (gained e v))

    ok : PlaceOk relates s.words s.homes (r.log k) (r.cells k) k spot a
    ok = there_ok relates reserved starts s r k spot a start is

    mine : ((r.cells k).0 ≡ suc id) × ((r.cells k).1 ≡ Out n x)
    mine = mine_is (r.cells k) id (phase_at v.turns k) (Out n x) ((r.seat id v at).turns k) phase (λ e. absurd cc)

    out : StateStands relates s.homes spot (r.log k) a (Out n x)
    out = subst (StateStands relates s.homes spot (r.log k) a) mine.1 ok.stands

    longer : length log' ≡ suc n
    longer = let l = length-append (r.log k) (e ∷ []) in let c = out.1 in omega arith

    grows : Grows (r.log k) log'
    grows = (let l = longer in let c = out.1 in omega arith, λ i z there. get_longer (r.log k) (e ∷ []) i z there)

    grown : (j : ℕ) → Grows (r.log j) (put r.log k log' j)
    grown j = put_all (λ j l. Grows (r.log j) l) r.log k log' j grows (λ _. (le_refl _, λ i z there. there))

    new_there : slice_get (put r.log k log' k) n ≡ Some e
    new_there = subst (λ l. slice_get l n ≡ Some e) (sym (put_here r.log k log')) (ap (slice_get log') out.1 ∙ get_last (r.log k) e)

    new_mine : SeatOk reserved starts (put r.log k log') (put r.cells k cell') id w
    new_mine = let was = r.seat id v at in record {
      spent = λ z. absurd (omega arith);
      same = was.same;
      seen = λ j. dite (ℕ_discrete j k)
          (λ (q : j ≡ k). subst (λ i. seen_at ((k, m) ∷ v.seen) i ≤ length (put r.log k log' i)) (sym q)
          (let p = seen_here v.seen k m in let h = was.seen k in let l = longer in let c = out.1 in let t : length (put r.log k log' k) ≡ length log' = ap length (put_here r.log k log') in omega arith))
          (λ (ne : j ≢ k). let p = seen_else v.seen k m j ne in let h = was.seen j in let t : length (put r.log k log' j) ≡ length (r.log j) = ap length (put_else r.log k log' j ne) in omega arith);
      tied = λ f h. ⊎_elim (λ old. let t = was.tied f old in (t.0, (grown f.place).1 f.number f t.1))
          (λ new. let same : e ≡ f = sym (in_one new) in subst (λ (z : Entry E O). (z.place < length starts) × (slice_get (put r.log k log' z.place) z.number ≡ Some z)) same (slice_get_within starts k a start, new_there))
          (in_split v.entries h);
      plain = λ side f h is. ⊎_elim (λ old. was.plain side f old is)
          (λ new. let same : f ≡ e = in_one new in let p = right (subst (λ (z : Entry E O). reserved z.event) same is) in let t : true ≡ false = sym p ∙ side in cc)
          (in_split v.entries h);
      turns = λ j. put_all (λ j c. Matches c id (phase_at w.turns j)) r.cells k cell' j (inl (refl, sym (phase_here v.turns k (Counted y))))
          (λ ne. subst (Matches (r.cells j) id) (sym (phase_else v.turns k (Counted y) j ne)) (was.turns j));
    }

    once : (j i : ℕ) → times j i w.entries + below i (length (r.log j)) ≡ times j i v.entries + below i (length (put r.log k log' j))
    once j i = let t = total_append (λ (f : Entry E O). one_if (is_entry_at j i f)) v.entries (e ∷ []) in dite (ℕ_discrete j k)
        (λ (q : j ≡ k). let l : length (put r.log k log' j) ≡ suc n = ap (λ z. length (put r.log k log' z)) q ∙ (ap length (put_here r.log k log') ∙ longer) in
        let c : length (r.log j) ≡ n = ap (λ z. length (r.log z)) q ∙ sym out.1 in
        let b = more_below e j n i (sym q) refl in
        let b' : below i (length (r.log j)) ≡ below i n = ap (below i) c in let b'' : below i (length (put r.log k log' j)) ≡ below i (suc n) = ap (below i) l in omega arith)
        (λ (ne : j ≢ k). let z = at_place j i e (λ q. ne (sym q)) in let l : below i (length (put r.log k log' j)) ≡ below i (length (r.log j)) = ap (λ z. below i (length z)) (put_else r.log k log' j ne) in omega arith)

    named : Named k log'
    named i f there = ⊎_elim (λ old. ok.named i f old) (λ (new : (i ≡ length (r.log k)) × (e ≡ f)). (sym (ap (λ (z : Entry E O). z.place) new.1), sym (ap (λ (z : Entry E O). z.number) new.1) ∙ (out.1 ∙ sym new.0))) (get_snoc (r.log k) e i f there)

    kept : Rule record { words = set s.words (4 * spot + 1) m; homes = set s.homes spot (some (Some y)); views = set s.views id w }
    kept = let wide = r.wide in
        moved relates reserved starts s r k a start spot is id v w at log' cell' (set s.words (4 * spot + 1) m) (set s.homes spot (some (Some y))) (length-set s.words (4 * spot + 1) m) (length-set s.homes spot (some (Some y)))
        (λ j ne. let f = far_count s.words spot m j ne in (f.0, f.1, set_else s.homes spot j (some (Some y)) ne))
        record {
          mark = get_or-set_other s.words (4 * spot + 1) (4 * spot) m 0 (λ q. omega arith) ∙ (let q = ok.mark in let z = mine.0 in omega arith);
          count = get_or-set_same s.words (4 * spot + 1) m 0 (omega arith) ∙ (next ∙ sym longer);
          low = let l = longer in omega arith;
          named = named;
          free = λ z. absurd (omega arith);
          held = λ _ z. absurd cc;
          stands = (set_here s.homes spot (some (Some y)) long, leaves_snoc relates (r.log k) e a x y out.2 related);
        }
        record {
          was = inr mine.0;
          is = inr refl;
          grows = grows;
          mine = new_mine;
          parts = refl;
          main = refl;
          once = once;
        }

    told : (j : ℕ) → HasCount v j (4 * spot + 1) → Path (Sat S E O) (w, []) (phased j (Counted y) (noted j m (gained (entry j (phase_number (phase_at v.turns j)) event outcome) v)), []) × (seen_at v.seen j ≤ phase_number (phase_at v.turns j))
    told j q = let n' : n ≡ phase_number (phase_at v.turns k) = sym (ap phase_number phase) in
        subst (λ i. Path (Sat S E O) (w, []) (phased i (Counted y) (noted i m (gained (entry i (phase_number (phase_at v.turns i)) event outcome) v)), []) × (seen_at v.seen i ≤ phase_number (phase_at v.turns i))) (count_of v k j spot lies q).0
        (ap (λ z. (phased k (Counted y) (noted k m (gained (entry k z event outcome) v)), [])) n', let h = (r.seat id v at).seen k in let c = out.1 in omega arith)

  -- kind 7
  pub ends : (slots id k spot : ℕ) (v : View S E O) → IsAt v k spot → 0 < v.parts → (n m : ℕ) → m ≡ suc n → (x y : S) → phase_at v.turns k ≡ Out n x → n < 2 ^ 56
      → (event : E) (outcome : O) → relates x event outcome y → (reserved event → v.main ≡ true)
      → Allows Rule slots id (v, (spot, Some y) ∷ []) (4 * spot + 1) (λ _. m) (λ _. finished event outcome (step slots (4 * spot + 1) m 0 none) (v, (spot, Some y) ∷ []) m)
  ends slots id k spot v lies live n m next x y phase low event outcome related right s r deep at small =
      let b = begun relates reserved starts s r id k spot v at live lies in (
        phased k (Counted y) (noted k m (gained (entry k n event outcome) v)),
        gives,
        tt,
        kept id k spot v lies live n m next x y phase low event outcome related right s r at b.0 b.1 b.2 b.3,
        told id k spot v lies live n m next x y phase low event outcome related right s r at b.0 b.1 b.2 b.3,
      )

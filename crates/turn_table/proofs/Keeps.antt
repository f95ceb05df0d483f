-- Each kind of step keeps the rule.
use Rattle.std.proofs.Common.{◌≡◌, ◌≢◌, ℕ, suc, ◌+◌, ◌*◌, ◌^◌, ◌<◌, ◌≤◌, Bool, true, false, eqb, List, [], ◌∷◌, length, set, get_or, Option, Some, None, slice_get, sym, refl, ap, ◌∙◌, subst, inl, inr, ⊎_elim, arith, length-set, get_or-set_other, get_or-set_same, eq-eqb, ne_eqb}
use Rattle.std.specs.Bool.{MatchBool}
use Rattle.std.proofs.lemmas.Option.{slice_get_within}
use Rattle.std.proofs.lemmas.List.{set-get_or}
use mathlib.Core.Option.{some, none, some-injective}
use mathlib.Core.Logic.{dite}
use mathlib.Core.Path.{Path}
use native.Mathlib.Decide.{ℕ_discrete}
use lib.ListN.{get_elem?}
use prog.Atomic.{either}
use Rattle.atomic_table.specs.Table.{State, step, Act, keeps, takes, gives, stepped, carried_after, Valid, Allows}
use Rattle.atomic_table.proofs.Lists.{set_here, set_else}
use Rattle.turn_table.specs.declared.machine.Entry.{Entry}
use Rattle.turn_table.specs.declared.view.View.{View}
use Rattle.turn_table.specs.declared.view.Phase.{Phase}
use Rattle.turn_table.specs.declared.view.Phase.TheVariants.{Nothing, Marked, Out, Held, Counted}
use Rattle.turn_table.specs.Histories.{IsMemberOf, one_if, seen_at, phase_at, times, Leaves}
use Rattle.turn_table.specs.Layout.{column_rows, spot_of}
use Rattle.turn_table.specs.Invariant.{Matches, StateStands, PlaceOk, Kept, spent_view}
use Rattle.turn_table.specs.Steps.{Sat, spot_in, IsMark, HasCount, noted, tried, phased, with_read_count, emptied_phase, reached_phase, phase_number, WasTaken, GivenView, marked, looked, count_read, put_back, emptied, reached, freed}
use Rattle.turn_table.proofs.Lists.{total_two, total_some, get_there, seen_here, seen_else, phase_here, phase_else, times_in, below_in}
use Rattle.turn_table.proofs.Spots.{rows_hold, spot_low, one_spot}
use Rattle.turn_table.proofs.Moved.{Homes, rephased, reviewed}

-- the cell of a turn that the seat has
pub mine_is : {S : Type 0} (cell : ℕ × Phase S) (id : ℕ) (p q : Phase S) → Matches cell id p → p ≡ q → q ≢ Nothing → (cell.0 ≡ suc id) × (cell.1 ≡ q)
mine_is cell id p q (inl m) e ne = (m.0, m.1 ∙ e)
mine_is cell id p q (inr m) e ne = absurd (ne (sym e ∙ m.1))

-- a place that the seat says nothing of, where no seat has it
pub not_held : {S : Type 0} (cell : ℕ × Phase S) (id : ℕ) (p : Phase S) → Matches cell id p → p ≡ Nothing → (0 < cell.0 → cell.1 ≢ Nothing) → cell.0 ≢ suc id
not_held cell id p (inl m) e held is = held (omega arith) (m.1 ∙ e)
not_held cell id p (inr m) e held is = m.0 is

-- the place k of the table lies at this spot
abbrev pub IsAt : {S E O : Type 0} → View S E O → ℕ → ℕ → Type 0
IsAt v k spot = (k < length v.starts) × (spot ≡ spot_in v k)

double : (k j : ℕ) → 4 * k ≡ 4 * j → k ≡ j
double k j e = omega arith

double_more : (k j : ℕ) → 4 * k + 1 ≡ 4 * j + 1 → k ≡ j
double_more k j e = omega arith

-- the one place whose mark, or whose count, the word is
same_place : {S E O : Type 0} (v : View S E O) (k j spot : ℕ) → IsAt v k spot → IsAt v j spot → k ≡ j
same_place v k j spot at at' = let h = rows_hold (length v.starts) in let low = at.0 in let low' = at'.0 in
    one_spot (column_rows (length v.starts)) k j (omega arith) (omega arith) (sym at.1 ∙ at'.1)

mark_of : {S E O : Type 0} (v : View S E O) (k j spot : ℕ) → IsAt v k spot → IsMark v j (4 * spot) → (k ≡ j) × (spot ≡ spot_in v j)
mark_of v k j spot at is = let q = double spot (spot_in v j) is.1 in (same_place v k j spot at (is.0, q), q)

pub count_of : {S E O : Type 0} (v : View S E O) (k j spot : ℕ) → IsAt v k spot → HasCount v j (4 * spot + 1) → (k ≡ j) × (spot ≡ spot_in v j)
count_of v k j spot at is = let q = double_more spot (spot_in v j) is.1 in (same_place v k j spot at (is.0, q), q)

-- the other spots' words after a write of one of this spot's
far_mark : (ws : List ℕ) (k n : ℕ) → (j : ℕ) → j ≢ k → (get_or (set ws (4 * k) n) (4 * j) 0 ≡ get_or ws (4 * j) 0) × (get_or (set ws (4 * k) n) (4 * j + 1) 0 ≡ get_or ws (4 * j + 1) 0)
far_mark ws k n j ne = (get_or-set_other ws (4 * k) (4 * j) n 0 (λ e. ne (omega arith)), get_or-set_other ws (4 * k) (4 * j + 1) n 0 (λ e. omega arith))

pub far_count : (ws : List ℕ) (k n : ℕ) → (j : ℕ) → j ≢ k → (get_or (set ws (4 * k + 1) n) (4 * j) 0 ≡ get_or ws (4 * j) 0) × (get_or (set ws (4 * k + 1) n) (4 * j + 1) 0 ≡ get_or ws (4 * j + 1) 0)
far_count ws k n j ne = (get_or-set_other ws (4 * k + 1) (4 * j) n 0 (λ e. omega arith), get_or-set_other ws (4 * k + 1) (4 * j + 1) n 0 (λ e. ne (omega arith)))

module _ {S E O : Type 0} (relates : S → E → O → S → Type 0) (reserved : E → Type 0) (starts : List S) where
  abbrev St : Type 0
  St = State (Option S) (View S E O)

  abbrev Rule : St → Type 0
  Rule = Kept relates reserved starts

  abbrev rows : ℕ
  rows = column_rows (length starts)

  -- the place, with its start state, and its spot in the table
  pub begun : (s : St) (r : Rule s) (id k spot : ℕ) (v : View S E O) → get_elem? s.views id ≡ some v → 0 < v.parts → IsAt v k spot → (a : S) × (slice_get starts k ≡ Some a) × (spot ≡ spot_of rows k) × (spot < length s.homes)
  begun s r id k spot v at live lies =
      let same = (r.seat id v at).same live in
      let inside : k < length starts = subst (λ (l : List S). k < length l) same lies.0 in
      let is : spot ≡ spot_of rows k = lies.1 ∙ ap (λ (l : List S). spot_of (column_rows (length l)) k) same in
      let h = rows_hold (length starts) in
      let low : spot_of rows k < length s.homes = subst (λ n. spot_of rows k < n) (sym r.long) (spot_low rows k (omega arith)) in
      let b = get_there starts k inside in (b.0, b.1, is, subst (λ i. i < length s.homes) (sym is) low)

  pub there_ok : (s : St) (r : Rule s) (k spot : ℕ) (a : S) → slice_get starts k ≡ Some a → spot ≡ spot_of rows k → PlaceOk relates s.words s.homes (r.log k) (r.cells k) k spot a
  there_ok s r k spot a start is = subst (λ i. PlaceOk relates s.words s.homes (r.log k) (r.cells k) k i a) (sym is) (r.place k a start)

  -- what the seat noted is no more than the counts, also after a look at the place k
  noted_low : (s : St) (r : Rule s) (id : ℕ) (v : View S E O) → get_elem? s.views id ≡ some v → (k n : ℕ) → n ≡ length (r.log k) → (j : ℕ) → seen_at ((k, n) ∷ v.seen) j ≤ length (r.log j)
  noted_low s r id v at k n e j = let h = (r.seat id v at).seen j in dite (ℕ_discrete j k)
      (λ (q : j ≡ k). let p = seen_here v.seen k n in subst (λ i. seen_at ((k, n) ∷ v.seen) i ≤ length (r.log i)) (sym q)
      (let h' = (r.seat id v at).seen k in omega arith))
      (λ (ne : j ≢ k). let p = seen_else v.seen k n j ne in omega arith)

  -- kind 3, won or not
  module _ (id k spot : ℕ) (v : View S E O) (lies : IsAt v k spot) (live : 0 < v.parts) (none_yet : phase_at v.turns k ≡ Nothing)
      (s : St) (r : Rule s) (at : get_elem? s.views id ≡ some v) (a : S) (start : slice_get starts k ≡ Some a) (is : spot ≡ spot_of rows k) (long : spot < length s.homes) where
    abbrev Found : Bool → Type 0
    Found b = (w : View S E O) × (act : Act (Option S)) × Valid s.homes [] act × Rule (stepped s (4 * spot) (either b 1 (get_or s.words (4 * spot) 0)) id [] w act)
        × ((j : ℕ) → IsMark v j (4 * spot) → MatchBool b ((x : S) × Path (Sat S E O) (w, carried_after [] act) (phased j (Marked x) (tried j 0 v), (spot_in v j, Some x) ∷ [])) ((get_or s.words (4 * spot) 0 ≡ 1) × Path (Sat S E O) (w, carried_after [] act) (tried j 1 v, []) × WasTaken relates reserved j v))

    ok : PlaceOk relates s.words s.homes (r.log k) (r.cells k) k spot a
    ok = there_ok s r k spot a start is

    won : get_or s.words (4 * spot) 0 ≡ 0 → Found true
    won zero_there =
        let empty : (r.cells k).0 ≡ 0 = let m = ok.mark in omega arith in
        let h = subst (StateStands relates s.homes spot (r.log k) a) (ok.free empty) ok.stands in
        let x : S = h.0 in
        let wide = r.wide in (
          phased k (Marked x) (tried k 0 v),
          takes spot (Some x),
          h.1,
          rephased relates reserved starts s r k a start spot is id v at live v.seen ((k, 0) ∷ v.tries) ((k, Marked x) ∷ v.turns) (suc id, Marked x) (set s.words (4 * spot) 1) (set s.homes spot none) (length-set s.words (4 * spot) 1) (length-set s.homes spot none)
              (λ j ne. let f = far_mark s.words spot 1 j ne in (f.0, f.1, set_else s.homes spot j none ne))
              record {
                mark = get_or-set_same s.words (4 * spot) 1 0 (omega arith) ∙ (omega arith);
                count = get_or-set_other s.words (4 * spot) (4 * spot + 1) 1 0 (λ e. omega arith) ∙ ok.count;
                low = ok.low;
                named = ok.named;
                free = λ e. absurd (omega arith);
                held = λ _ e. absurd cc;
                stands = (set_here s.homes spot none long, h.2);
              }
              (inl empty) (inr refl) (r.seat id v at).seen (inl (refl, sym (phase_here v.turns k (Marked x)))) (λ j ne. phase_else v.turns k (Marked x) j ne),
          λ j e. let q = mark_of v k j spot lies e in (x, λ i. (phased (q.0 i) (Marked x) (tried (q.0 i) 0 v), (q.1 i, Some x) ∷ [])),
        )

    lost : get_or s.words (4 * spot) 0 ≢ 0 → Found false
    lost there =
        let m = ok.mark in let some_one : 0 < (r.cells k).0 = omega arith in
        let o = r.owned k some_one in
        let theirs = r.seat o.0 o.1 o.3 in
        let their_phase : (r.cells k).1 ≡ phase_at o.1.turns k = ⊎_elim (λ t. t.1) (λ t. absurd (t.0 o.2)) (theirs.turns k) in
        let one : get_or s.words (4 * spot) 0 ≡ 1 = omega arith in (
          tried k 1 v,
          keeps,
          tt,
          subst (λ ws. Rule record { words = ws; homes = s.homes; views = set s.views id (tried k 1 v) }) (sym (set-get_or s.words (4 * spot) 0))
              (reviewed relates reserved starts s r id v at live v.seen ((k, 1) ∷ v.tries) (r.seat id v at).seen),
          λ j e. (
            one,
            ap (λ i. (tried i 1 v, [])) (mark_of v k j spot lies e).0,
            subst (λ i. WasTaken relates reserved i v) (mark_of v k j spot lies e).0 record {
              state = s;
              kept = subst (λ z. Kept relates reserved z s) (sym ((r.seat id v at).same live)) r;
              mark = ap (λ i. get_or s.words (4 * i) 0) (sym lies.1) ∙ one;
              seat = id;
              mine = at;
              other = o.0;
              view = o.1;
              theirs = o.3;
              apart = λ p. not_held (r.cells k) id (phase_at v.turns k) ((r.seat id v at).turns k) none_yet ok.held (o.2 ∙ ap suc p);
              has = λ p. ok.held some_one (their_phase ∙ p);
            },
          ),
        )

    found : Found (eqb (get_or s.words (4 * spot) 0) 0)
    found = dite (ℕ_discrete (get_or s.words (4 * spot) 0) 0)
        (λ e. subst Found (sym (eq-eqb (get_or s.words (4 * spot) 0) 0 e)) (won e))
        (λ ne. subst Found (sym (ne_eqb (get_or s.words (4 * spot) 0) 0 ne)) (lost ne))

  pub marks : (slots id k spot : ℕ) (v : View S E O) → IsAt v k spot → 0 < v.parts → phase_at v.turns k ≡ Nothing
      → Allows Rule slots id (v, []) (4 * spot) (λ n. either (eqb n 0) 1 n) (marked relates reserved (step slots (4 * spot) 0 1 none) (v, []))
  marks slots id k spot v lies live none_yet s r deep at small = let b = begun s r id k spot v at live lies in found id k spot v lies live none_yet s r at b.0 b.1 b.2 b.3

  -- kind 4, by a hand that lost
  pub looks : (slots id k spot : ℕ) (v : View S E O) → IsAt v k spot → 0 < v.parts
      → Allows Rule slots id (v, []) (4 * spot + 1) (λ n. n) (looked (step slots (4 * spot + 1) 0 0 none) (v, []))
  looks slots id k spot v lies live s r deep at small =
      let b = begun s r id k spot v at live lies in
      let ok = there_ok s r k spot b.0 b.1 b.2 in
      let n : ℕ = get_or s.words (4 * spot + 1) 0 in
      let count : n ≡ length (r.log k) = ok.count in
      let low = ok.low in
      let seen = (r.seat id v at).seen k in (
        noted k n v,
        keeps,
        tt,
        subst (λ ws. Rule record { words = ws; homes = s.homes; views = set s.views id (noted k n v) }) (sym (set-get_or s.words (4 * spot + 1) 0))
            (reviewed relates reserved starts s r id v at live ((k, n) ∷ v.seen) v.tries (noted_low s r id v at k n count)),
        λ j e. subst (λ i. Path (Sat S E O) (noted k n v, []) (noted i n v, []) × (seen_at v.seen i ≤ n) × (n ≤ 2 ^ 56)) (count_of v k j spot lies e).0 (refl, omega arith, omega arith),
      )

  one_main : (s : St) (r : Rule s) (i j : ℕ) (v w : View S E O) → get_elem? s.views i ≡ some v → get_elem? s.views j ≡ some w → v.main ≡ true → w.main ≡ true → v ≡ w
  one_main s r i j v w at at' main main' = dite (ℕ_discrete i j)
      (λ e. some-injective v w (sym at ∙ (ap (get_elem? s.views) e ∙ at')))
      (λ ne. absurd (
      let t = total_two (λ (u : View S E O). one_if u.main) s.views i j v w ne at at' in
      let p : one_if v.main ≡ 1 = ap one_if main in
      let q : one_if w.main ≡ 1 = ap one_if main' in
      let h = r.one in omega arith))

  -- each entry of a history stands in the list of some seat
  pub in_some : (s : St) (r : Rule s) (k i : ℕ) (e : Entry E O) → slice_get (r.log k) i ≡ Some e → (j : ℕ) × (u : View S E O) × (get_elem? s.views j ≡ some u) × IsMemberOf e u.entries
  in_some s r k i e there =
      let low = slice_get_within (r.log k) i e there in
      let one = r.once k i in let b = below_in i (length (r.log k)) low in
      let o = total_some (λ (u : View S E O). times k i u.entries) s.views (omega arith) in
      let f = times_in k i o.1.entries o.3 in
      let tied = ((r.seat o.0 o.1 o.2).tied f.0 f.1).1 in
      let same : Some f.0 ≡ Some e = sym (subst (λ (z : ℕ × ℕ). slice_get (r.log z.0) z.1 ≡ Some f.0) (λ c. (f.2 c, f.3 c)) tied) ∙ there in
      let here : f.0 ≡ e = cc in
      (o.0, o.1, o.2, subst (λ z. IsMemberOf z o.1.entries) here f.1)

  -- the reserved entries are the main seat's
  reserved_own : (s : St) (r : Rule s) (id : ℕ) (v : View S E O) → get_elem? s.views id ≡ some v → v.main ≡ true → (k i : ℕ) (e : Entry E O) → slice_get (r.log k) i ≡ Some e → reserved e.event → IsMemberOf e v.entries
  reserved_own s r id v at main k i e there is = let o = in_some s r k i e there in by o.0 o.1 o.2 o.3 o.1.main refl
    where
      by : (j : ℕ) (u : View S E O) → get_elem? s.views j ≡ some u → IsMemberOf e u.entries → (b : Bool) → u.main ≡ b → IsMemberOf e v.entries
      by j u at' h true main' = subst (λ (z : View S E O). IsMemberOf e z.entries) (one_main s r j id u v at' at main' main) h
      by j u at' h false side = absurd ((r.seat j u at').plain side e h is)

  -- where one seat has all parts, the others are spent
  pub others_spent : (s : St) (r : Rule s) (id : ℕ) (v : View S E O) → get_elem? s.views id ≡ some v → v.parts ≡ 1024 → (j : ℕ) (u : View S E O) → j ≢ id → get_elem? s.views j ≡ some u → u ≡ spent_view
  others_spent s r id v at all j u ne at' = (r.seat j u at').spent
      (let t = total_two (λ (u : View S E O). u.parts) s.views j id u v ne at' at in let h = r.whole in omega arith)

  -- and all entries are its own
  pub all_own : (s : St) (r : Rule s) (id : ℕ) (v : View S E O) → get_elem? s.views id ≡ some v → v.parts ≡ 1024 → (k i : ℕ) (e : Entry E O) → slice_get (r.log k) i ≡ Some e → IsMemberOf e v.entries
  all_own s r id v at all k i e there = let o = in_some s r k i e there in dite (ℕ_discrete o.0 id)
      (λ q. subst (λ (z : View S E O). IsMemberOf e z.entries) (some-injective o.1 v (sym o.2 ∙ (ap (get_elem? s.views) q ∙ at))) o.3)
      (λ ne. elim (subst (λ (z : View S E O). IsMemberOf e z.entries) (others_spent s r id v at all o.0 o.1 ne o.2) o.3) [ ])

  given : (s : St) (r : Rule s) (id : ℕ) (v : View S E O) → get_elem? s.views id ≡ some v → 0 < v.parts → (k spot : ℕ) (a : S) → slice_get starts k ≡ Some a → PlaceOk relates s.words s.homes (r.log k) (r.cells k) k spot a
      → (n : ℕ) → n ≡ length (r.log k) → (x : S) → Leaves relates a (r.log k) x → GivenView relates reserved k v n x
  given s r id v at live k spot a start ok n count x leaves =
      let own : (e : Entry E O) → IsMemberOf e v.entries → e.place ≡ k → slice_get (r.log k) e.number ≡ Some e = λ e h p. subst (λ j. slice_get (r.log j) e.number ≡ Some e) p ((r.seat id v at).tied e h).1 in record {
        history = r.log k;
        long = sym count;
        start = a;
        starts = ap (λ l. slice_get l k) ((r.seat id v at).same live) ∙ start;
        leaves = leaves;
        named = ok.named;
        own = own;
        above = λ e h p. let w = slice_get_within (r.log k) e.number e (own e h p) in omega arith;
        main = λ main i e there is. reserved_own s r id v at main k i e there is;
        whole = λ all i e there. all_own s r id v at all k i e there;
      }

  -- kind 4, by the hand that has the mark
  pub counts : (slots id k spot : ℕ) (v : View S E O) (c : List (ℕ × Option S)) → IsAt v k spot → 0 < v.parts → (x : S) → phase_at v.turns k ≡ Marked x
      → Allows Rule slots id (v, c) (4 * spot + 1) (λ n. n) (count_read relates reserved (step slots (4 * spot + 1) 0 0 none) (v, c))
  counts slots id k spot v c lies live x phase s r deep at small =
      let b = begun s r id k spot v at live lies in
      let ok = there_ok s r k spot b.0 b.1 b.2 in
      let n : ℕ = get_or s.words (4 * spot + 1) 0 in
      let count : n ≡ length (r.log k) = ok.count in
      let low = ok.low in
      let seen = (r.seat id v at).seen k in
      let m = mine_is (r.cells k) id (phase_at v.turns k) (Marked x) ((r.seat id v at).turns k) phase (λ e. absurd cc) in
      let h = subst (StateStands relates s.homes spot (r.log k) b.0) m.1 ok.stands in
      let w : View S E O = phased k (Out n x) (noted k n v) in
      let now : phased k (with_read_count n (phase_at v.turns k)) (noted k n v) ≡ w = ap (λ p. phased k (with_read_count n p) (noted k n v)) phase in (
        w,
        keeps,
        tt,
        subst (λ ws. Rule record { words = ws; homes = s.homes; views = set s.views id w }) (sym (set-get_or s.words (4 * spot + 1) 0))
            (rephased relates reserved starts s r k b.0 b.1 spot b.2 id v at live ((k, n) ∷ v.seen) v.tries ((k, Out n x) ∷ v.turns) (suc id, Out n x) s.words s.homes refl refl (λ j ne. (refl, refl, refl))
            record {
              mark = let q = ok.mark in let z = m.0 in omega arith;
              count = count;
              low = low;
              named = ok.named;
              free = λ e. absurd (omega arith);
              held = λ _ e. absurd cc;
              stands = (h.0, count, h.1);
            }
            (inr m.0) (inr refl) (noted_low s r id v at k n count) (inl (refl, sym (phase_here v.turns k (Out n x)))) (λ j ne. phase_else v.turns k (Out n x) j ne)),
        λ j e. subst (λ i. Path (Sat S E O) (w, c) (phased i (with_read_count n (phase_at v.turns i)) (noted i n v), c) × (seen_at v.seen i ≤ n) × (n ≤ 2 ^ 56) × ((y : S) → phase_at v.turns i ≡ Marked y → GivenView relates reserved i v n y)) (count_of v k j spot lies e).0 (
          ap (λ u. (u, c)) (sym now),
          omega arith,
          omega arith,
          λ y q. let same : Marked x ≡ Marked y = sym phase ∙ q in let x≡y : x ≡ y = cc in subst (GivenView relates reserved k v n) x≡y (given s r id v at live k spot b.0 b.1 ok n count x h.1),
        ),
      )

  -- a step by the hand that has the place, which moves the slot and the phase alone
  turned_to : (slots id k spot : ℕ) (v : View S E O) → IsAt v k spot → 0 < v.parts → (p q : Phase S) → p ≢ Nothing → q ≢ Nothing → phase_at v.turns k ≡ p
      → (s : St) (r : Rule s) → length s.homes ≡ slots → get_elem? s.views id ≡ some v → (homes' : Homes S) → length homes' ≡ length s.homes
      → ((i : ℕ) → i ≢ spot → get_elem? homes' i ≡ get_elem? s.homes i)
      → ((a : S) → StateStands relates s.homes spot (r.log k) a p → StateStands relates homes' spot (r.log k) a q)
      → Rule record { words = s.words; homes = homes'; views = set s.views id (phased k q v) }
  turned_to slots id k spot v lies live p q some_p some_q phase s r deep at homes' as_deep same stands =
      let b = begun s r id k spot v at live lies in
      let ok = there_ok s r k spot b.0 b.1 b.2 in
      let m = mine_is (r.cells k) id (phase_at v.turns k) p ((r.seat id v at).turns k) phase some_p in
      rephased relates reserved starts s r k b.0 b.1 spot b.2 id v at live v.seen v.tries ((k, q) ∷ v.turns) (suc id, q) s.words homes' refl as_deep (λ j ne. (refl, refl, same j ne))
      record {
        mark = let e = ok.mark in let z = m.0 in omega arith;
        count = ok.count;
        low = ok.low;
        named = ok.named;
        free = λ e. absurd (omega arith);
        held = λ _. some_q;
        stands = stands b.0 (subst (StateStands relates s.homes spot (r.log k) b.0) m.1 ok.stands);
      }
      (inr m.0) (inr refl) (r.seat id v at).seen (inl (refl, sym (phase_here v.turns k q))) (λ j ne. phase_else v.turns k q j ne)

  -- kind 6, after which the slot is home and empty
  pub empties : (slots id k spot : ℕ) (v : View S E O) → IsAt v k spot → 0 < v.parts → (n : ℕ) (x : S) → phase_at v.turns k ≡ Out n x → n < 2 ^ 56
      → Allows Rule slots id (v, (spot, None) ∷ []) (4 * spot) (λ n. n) (emptied (step slots (4 * spot) 0 0 none) (v, (spot, None) ∷ []))
  empties slots id k spot v lies live n x phase low s r deep at small =
      let w : View S E O = phased k (Held n x) v in (
        w,
        gives,
        tt,
        subst (λ ws. Rule record { words = ws; homes = set s.homes spot (some None); views = set s.views id w }) (sym (set-get_or s.words (4 * spot) 0))
            (turned_to slots id k spot v lies live (Out n x) (Held n x) (λ e. absurd cc) (λ e. absurd cc) phase s r deep at (set s.homes spot (some None)) (length-set s.homes spot (some None))
            (λ j ne. set_else s.homes spot j (some None) ne) (λ a h. (set_here s.homes spot (some None) (begun s r id k spot v at live lies).3, h.1, low, h.2))),
        λ j e. subst (λ i. Path (Sat S E O) (w, []) (phased i (emptied_phase (phase_at v.turns i)) v, [])) (mark_of v k j spot lies e).0 (ap (λ p. (phased k (emptied_phase p) v, [])) (sym phase)),
      )

  -- the empty slot is fetched
  pub reaches : (slots id k spot : ℕ) (v : View S E O) → IsAt v k spot → 0 < v.parts → (n : ℕ) (x : S) → phase_at v.turns k ≡ Held n x
      → Allows Rule slots id (v, []) (4 * spot) (λ n. n) (reached (step slots (4 * spot) 0 0 none) (v, []))
  reaches slots id k spot v lies live n x phase s r deep at small =
      let w : View S E O = phased k (Out n x) v in
      let b = begun s r id k spot v at live lies in
      let ok = there_ok s r k spot b.0 b.1 b.2 in
      let m = mine_is (r.cells k) id (phase_at v.turns k) (Held n x) ((r.seat id v at).turns k) phase (λ e. absurd cc) in
      let h = subst (StateStands relates s.homes spot (r.log k) b.0) m.1 ok.stands in (
        w,
        takes spot None,
        h.0,
        subst (λ ws. Rule record { words = ws; homes = set s.homes spot none; views = set s.views id w }) (sym (set-get_or s.words (4 * spot) 0))
            (turned_to slots id k spot v lies live (Held n x) (Out n x) (λ e. absurd cc) (λ e. absurd cc) phase s r deep at (set s.homes spot none) (length-set s.homes spot none)
            (λ j ne. set_else s.homes spot j none ne) (λ a h'. (set_here s.homes spot none b.3, h'.1, h'.3))),
        λ j e. let lies' = mark_of v k j spot lies e in
            subst (λ (z : ℕ × ℕ). Path (Sat S E O) (w, (spot, None) ∷ []) (phased z.0 (reached_phase (phase_at v.turns z.0)) v, (z.1, None) ∷ []) × ((n' : ℕ) (y : S) → phase_at v.turns z.0 ≡ Held n' y → n' < 2 ^ 56)) (λ i. (lies'.0 i, lies'.1 i))
            (ap (λ p. (phased k (reached_phase p) v, (spot, None) ∷ [])) (sym phase), λ n' y q. let same : Held n x ≡ Held n' y = sym phase ∙ q in let e' : n ≡ n' = ap phase_number same in let l = h.2 in omega arith),
      )

  -- kind 8: the mark is free, and the state is home, or goes home unchanged
  released : (slots id k spot : ℕ) (v : View S E O) → IsAt v k spot → 0 < v.parts → (p : Phase S) → p ≢ Nothing → phase_at v.turns k ≡ p
      → (s : St) (r : Rule s) → length s.homes ≡ slots → get_elem? s.views id ≡ some v → (homes' : Homes S) → length homes' ≡ length s.homes
      → ((i : ℕ) → i ≢ spot → get_elem? homes' i ≡ get_elem? s.homes i)
      → ((a : S) → StateStands relates s.homes spot (r.log k) a p → StateStands relates homes' spot (r.log k) a Nothing)
      → Rule record { words = set s.words (4 * spot) 0; homes = homes'; views = set s.views id (phased k Nothing v) }
  released slots id k spot v lies live p some_p phase s r deep at homes' as_deep same stands =
      let b = begun s r id k spot v at live lies in
      let ok = there_ok s r k spot b.0 b.1 b.2 in
      let wide = r.wide in
      let m = mine_is (r.cells k) id (phase_at v.turns k) p ((r.seat id v at).turns k) phase some_p in
      rephased relates reserved starts s r k b.0 b.1 spot b.2 id v at live v.seen v.tries ((k, Nothing) ∷ v.turns) (0, Nothing) (set s.words (4 * spot) 0) homes' (length-set s.words (4 * spot) 0) as_deep
      (λ j ne. let f = far_mark s.words spot 0 j ne in (f.0, f.1, same j ne))
      record {
        mark = get_or-set_same s.words (4 * spot) 0 0 (let low = b.3 in omega arith) ∙ (omega arith);
        count = get_or-set_other s.words (4 * spot) (4 * spot + 1) 0 0 (λ e. omega arith) ∙ ok.count;
        low = ok.low;
        named = ok.named;
        free = λ _. refl;
        held = λ e. absurd (omega arith);
        stands = stands b.0 (subst (StateStands relates s.homes spot (r.log k) b.0) m.1 ok.stands);
      }
      (inr m.0) (inl refl) (r.seat id v at).seen (inr ((λ e. omega arith), phase_here v.turns k Nothing)) (λ j ne. phase_else v.turns k Nothing j ne)

  pub frees : (slots id k spot : ℕ) (v : View S E O) → IsAt v k spot → 0 < v.parts → (y : S) → phase_at v.turns k ≡ Counted y
      → Allows Rule slots id (v, []) (4 * spot) (λ _. 0) (λ _. freed (step slots (4 * spot) 0 0 none) (v, []) 0)
  frees slots id k spot v lies live y phase s r deep at small = (
    phased k Nothing v,
    keeps,
    tt,
    released slots id k spot v lies live (Counted y) (λ e. absurd cc) phase s r deep at s.homes refl (λ j ne. refl) (λ a h. (y, h.0, h.1)),
    λ j e. ap (λ i. (phased i Nothing v, [])) (mark_of v k j spot lies e).0,
  )

  pub returns : (slots id k spot : ℕ) (v : View S E O) → IsAt v k spot → 0 < v.parts → (n : ℕ) (x : S) → phase_at v.turns k ≡ Out n x
      → Allows Rule slots id (v, (spot, Some x) ∷ []) (4 * spot) (λ _. 0) (λ _. put_back (step slots (4 * spot) 0 0 none) (v, (spot, Some x) ∷ []) 0)
  returns slots id k spot v lies live n x phase s r deep at small = (
    phased k Nothing v,
    gives,
    tt,
    released slots id k spot v lies live (Out n x) (λ e. absurd cc) phase s r deep at (set s.homes spot (some (Some x))) (length-set s.homes spot (some (Some x))) (λ j ne. set_else s.homes spot j (some (Some x)) ne)
        (λ a h. (x, set_here s.homes spot (some (Some x)) (begun s r id k spot v at live lies).3, h.2)),
    λ j e. ap (λ i. (phased i Nothing v, [])) (mark_of v k j spot lies e).0,
  )

-- A step of one seat on one place keeps the rule.
use Rattle.std.proofs.Common.{◌≡◌, ◌≢◌, ◌⊎◌, ℕ, suc, ◌+◌, ◌*◌, ◌<◌, ◌≤◌, List, length, set, get_or, Option, Some, None, slice_get, sym, refl, ap, ◌∙◌, subst, inl, inr, ⊎_elim, arith, le_trans, le_refl}
use Rattle.std.proofs.lemmas.Option.{slice_get_within}
use mathlib.Core.Option.{some, none}
use mathlib.Core.Option as maybe
use mathlib.Core.Logic.{dite}
use native.Mathlib.Decide.{ℕ_discrete}
use lib.ListN.{get_elem?}
use Rattle.atomic_table.specs.Table.{State}
use Rattle.atomic_table.proofs.Lists.{at_set, set_here, set_else}
use Rattle.turn_table.specs.declared.machine.Entry.{Entry}
use Rattle.turn_table.specs.declared.view.View.{View}
use Rattle.turn_table.specs.declared.view.Phase.{Phase}
use Rattle.turn_table.specs.declared.view.Phase.TheVariants.{Nothing, Marked, Out, Held, Counted}
use Rattle.turn_table.specs.Histories.{one_if, below, seen_at, phase_at, times}
use Rattle.turn_table.specs.Layout.{column_rows, spot_of}
use Rattle.turn_table.specs.Invariant.{Matches, StateStands, PlaceOk, SeatOk, Kept}
use Rattle.turn_table.proofs.Lists.{total_set, put, put_here, put_else, put_all, within}
use Rattle.turn_table.proofs.Spots.{rows_hold, one_spot}

abbrev pub Homes : Type 0 → Type 0
Homes S = List (maybe.Option (Option S))

-- the new list begins with the old one, as far as a reader sees
abbrev pub Grows : {A : Type 0} → List A → List A → Type 0
Grows {A = A} xs ys = (length xs ≤ length ys) × ((i : ℕ) (x : A) → slice_get xs i ≡ Some x → slice_get ys i ≡ Some x)

-- other spots' words and slots are as they were
abbrev pub Apart : {S : Type 0} → ℕ → List ℕ → List ℕ → Homes S → Homes S → Type 0
Apart spot words words' homes homes' = (i : ℕ) → i ≢ spot → (get_or words' (4 * i) 0 ≡ get_or words (4 * i) 0) × (get_or words' (4 * i + 1) 0 ≡ get_or words (4 * i + 1) 0) × (get_elem? homes' i ≡ get_elem? homes i)

pub not_mine : (c id other : ℕ) → other ≢ id → (c ≡ 0) ⊎ (c ≡ suc id) → c ≢ suc other
not_mine c id other ne (inl z) e = absurd (omega arith)
not_mine c id other ne (inr z) e = ne (omega arith)

module _ {S E O : Type 0} (relates : S → E → O → S → Type 0) where
  pub stands_there : (homes homes' : Homes S) (spot : ℕ) (log : List (Entry E O)) (a : S) → get_elem? homes' spot ≡ get_elem? homes spot → (p : Phase S) → StateStands relates homes spot log a p → StateStands relates homes' spot log a p
  stands_there homes homes' spot log a e Nothing h = (h.0, e ∙ h.1, h.2)
  stands_there homes homes' spot log a e (Marked x) h = (e ∙ h.0, h.1)
  stands_there homes homes' spot log a e (Out n x) h = (e ∙ h.0, h.1, h.2)
  stands_there homes homes' spot log a e (Held n x) h = (e ∙ h.0, h.1, h.2, h.3)
  stands_there homes homes' spot log a e (Counted x) h = (e ∙ h.0, h.1)

  -- a place that the step does not touch
  pub stays : (words words' : List ℕ) (homes homes' : Homes S) (log : List (Entry E O)) (cell : ℕ × Phase S) (k spot : ℕ) (a : S)
      → (get_or words' (4 * spot) 0 ≡ get_or words (4 * spot) 0) × (get_or words' (4 * spot + 1) 0 ≡ get_or words (4 * spot + 1) 0) × (get_elem? homes' spot ≡ get_elem? homes spot)
      → PlaceOk relates words homes log cell k spot a → PlaceOk relates words' homes' log cell k spot a
  stays words words' homes homes' log cell k spot a same ok = record {
    mark = same.0 ∙ ok.mark;
    count = same.1 ∙ ok.count;
    low = ok.low;
    named = ok.named;
    free = ok.free;
    held = ok.held;
    stands = stands_there homes homes' spot log a same.2 cell.1 ok.stands;
  }

module _ {S E O : Type 0} (relates : S → E → O → S → Type 0) (reserved : E → Type 0) (starts : List S) where
  abbrev St : Type 0
  St = State (Option S) (View S E O)

  abbrev rows : ℕ
  rows = column_rows (length starts)

  -- the rest of what `moved` needs of a step on the place k by the seat id, from the view v to w
  pub record Moves (s : St) (r : Kept relates reserved starts s) (k id : ℕ) (v w : View S E O) (log' : List (Entry E O)) (cell' : ℕ × Phase S) : Type 0 where
    pub was : ((r.cells k).0 ≡ 0) ⊎ ((r.cells k).0 ≡ suc id)
    pub is : (cell'.0 ≡ 0) ⊎ (cell'.0 ≡ suc id)
    pub grows : Grows (r.log k) log'
    pub mine : SeatOk reserved starts (put r.log k log') (put r.cells k cell') id w
    pub parts : w.parts ≡ v.parts
    pub main : w.main ≡ v.main
    pub once : (j i : ℕ) → times j i w.entries + below i (length (r.log j)) ≡ times j i v.entries + below i (length (put r.log k log' j))

  module _ (s : St) (r : Kept relates reserved starts s) (k : ℕ) (log' : List (Entry E O)) (cell' : ℕ × Phase S) where
    grown : Grows (r.log k) log' → (j : ℕ) → Grows (r.log j) (put r.log k log' j)
    grown g j = put_all (λ j l. Grows (r.log j) l) r.log k log' j g (λ _. (le_refl _, λ i x e. e))

    -- another seat
    others : (id other : ℕ) (u : View S E O) → other ≢ id → Grows (r.log k) log' → ((r.cells k).0 ≡ 0) ⊎ ((r.cells k).0 ≡ suc id) → (cell'.0 ≡ 0) ⊎ (cell'.0 ≡ suc id)
        → SeatOk reserved starts r.log r.cells other u → SeatOk reserved starts (put r.log k log') (put r.cells k cell') other u
    others id other u ne g was is ok = record {
      spent = ok.spent;
      same = ok.same;
      seen = λ j. le_trans (ok.seen j) (grown g j).0;
      tied = λ e h. let t = ok.tied e h in (t.0, (grown g e.place).1 e.number e t.1);
      plain = ok.plain;
      turns = λ j. put_all (λ j c. Matches c other (phase_at u.turns j)) r.cells k cell' j
          (inr (not_mine cell'.0 id other ne is, ⊎_elim (λ m. absurd (not_mine (r.cells k).0 id other ne was m.0)) (λ m. m.1) (ok.turns k))) (λ _. ok.turns j);
    }

    there : (words' : List ℕ) (homes' : Homes S) (a : S) → slice_get starts k ≡ Some a → (spot : ℕ) → spot ≡ spot_of rows k → Apart spot s.words words' s.homes homes'
        → PlaceOk relates words' homes' log' cell' k spot a → (j : ℕ) (b : S) → slice_get starts j ≡ Some b → PlaceOk relates words' homes' (put r.log k log' j) (put r.cells k cell' j) j (spot_of rows j) b
    there words' homes' a start spot is same ok j b start' = dite (ℕ_discrete j k)
        (λ e. let p : Some a ≡ Some b = sym start ∙ (ap (slice_get starts) (sym e) ∙ start') in let q : a ≡ b = cc in
        subst (λ (z : List (Entry E O) × (ℕ × Phase S) × ℕ × ℕ × S). PlaceOk relates words' homes' z.0 z.1 z.2 z.3 z.4)
        (λ i. ((sym (put_here r.log k log') ∙ ap (put r.log k log') (sym e)) i, (sym (put_here r.cells k cell') ∙ ap (put r.cells k cell') (sym e)) i, sym e i, (is ∙ ap (spot_of rows) (sym e)) i, q i)) ok)
        (λ ne. subst (λ (z : List (Entry E O) × (ℕ × Phase S)). PlaceOk relates words' homes' z.0 z.1 j (spot_of rows j) b)
        (λ i. (sym (put_else r.log k log' j ne) i, sym (put_else r.cells k cell' j ne) i))
        (stays relates s.words words' s.homes homes' (r.log j) (r.cells j) j (spot_of rows j) b (same (spot_of rows j) (λ e. ne (one_spot rows j k (inside_of j b start') (inside_of k a start) (e ∙ is)))) (r.place j b start')))
      where
        inside_of : (j : ℕ) (b : S) → slice_get starts j ≡ Some b → j < 960 * rows
        inside_of j b at = let w = slice_get_within starts j b at in let h = rows_hold (length starts) in omega arith

    -- no step touches a spare slot
    vacant : (words' : List ℕ) (homes' : Homes S) → length homes' ≡ length s.homes → k < length starts → (spot : ℕ) → spot ≡ spot_of rows k → Apart spot s.words words' s.homes homes'
        → (j : ℕ) → length starts ≤ j → j < length homes' → get_elem? homes' (spot_of rows j) ≡ some (some None)
    vacant words' homes' as_deep inside spot is same j past low =
        let l = r.long in let h = rows_hold (length starts) in
        (same (spot_of rows j) (λ e. let q = one_spot rows j k (omega arith) (omega arith) (e ∙ is) in omega arith)).2 ∙ r.spare j past (omega arith)

    holder : (id : ℕ) (v w : View S E O) → get_elem? s.views id ≡ some v → (cell'.0 ≡ 0) ⊎ (cell'.0 ≡ suc id) → (j : ℕ) → 0 < (put r.cells k cell' j).0
        → (i : ℕ) × (u : View S E O) × ((put r.cells k cell' j).0 ≡ suc i) × (get_elem? (set s.views id w) i ≡ some u)
    holder id v w at is j = put_all (λ j c. 0 < c.0 → (i : ℕ) × (u : View S E O) × (c.0 ≡ suc i) × (get_elem? (set s.views id w) i ≡ some u)) r.cells k cell' j
        (λ p. ⊎_elim (λ z. absurd (omega arith)) (λ e. (id, w, e, set_here s.views id w (within s.views id v at))) is)
        (λ _ p. let o = r.owned j p in dite (ℕ_discrete o.0 id)
        (λ e. (id, w, o.2 ∙ ap suc e, set_here s.views id w (within s.views id v at)))
        (λ ne. (o.0, o.1, o.2, set_else s.views id o.0 w ne ∙ o.3)))

  pub moved : (s : St) (r : Kept relates reserved starts s) (k : ℕ) (a : S) → slice_get starts k ≡ Some a → (spot : ℕ) → spot ≡ spot_of rows k → (id : ℕ) (v w : View S E O) → get_elem? s.views id ≡ some v
      → (log' : List (Entry E O)) (cell' : ℕ × Phase S) (words' : List ℕ) (homes' : Homes S)
      → length words' ≡ length s.words → length homes' ≡ length s.homes
      → Apart spot s.words words' s.homes homes'
      → PlaceOk relates words' homes' log' cell' k spot a → Moves s r k id v w log' cell'
      → Kept relates reserved starts (record { words = words'; homes = homes'; views = set s.views id w })
  moved s r k a start spot is id v w at log' cell' words' homes' as_wide as_deep same ok m = record {
    log = put r.log k log';
    cells = put r.cells k cell';
    wide = as_wide ∙ (r.wide ∙ ap (λ n. 4 * n) (sym as_deep));
    long = as_deep ∙ r.long;
    place = there s r k log' cell' words' homes' a start spot is same ok;
    spare = vacant s r k log' cell' words' homes' as_deep (slice_get_within starts k a start) spot is same;
    seat = λ j u at'. ⊎_elim
        (λ (t : (j ≡ id) × (w ≡ u)). subst (λ (z : ℕ × View S E O). SeatOk reserved starts (put r.log k log') (put r.cells k cell') z.0 z.1) (λ i. (sym t.0 i, t.1 i)) m.mine)
        (λ (t : (j ≢ id) × (get_elem? s.views j ≡ some u)). others s r k log' cell' id j u t.0 m.grows m.was m.is (r.seat j u t.1))
        (at_set s.views id j w u at');
    beyond = λ j. let low = slice_get_within starts k a start in
        put_all (λ i c. length starts ≤ i → c.0 ≡ 0) r.cells k cell' j (λ h. absurd (omega arith)) (λ _ h. r.beyond j h);
    owned = holder s r k log' cell' id v w at m.is;
    whole = let t = total_set (λ (u : View S E O). u.parts) s.views id v w at in let e = m.parts in let h = r.whole in omega arith;
    one = let t = total_set (λ (u : View S E O). one_if u.main) s.views id v w at in let e : one_if w.main ≡ one_if v.main = ap one_if m.main in let h = r.one in omega arith;
    once = λ j i. let t = total_set (λ (u : View S E O). times j i u.entries) s.views id v w at in let e = m.once j i in let h = r.once j i in omega arith;
  }

  put_same : {A : Type 0} (f : ℕ → A) (k j : ℕ) → put f k (f k) j ≡ f j
  put_same f k j = put_all (λ j a. a ≡ f j) f k (f k) j refl (λ _. refl)

  -- a step of the place that adds no entry: the seat notes what it saw and tried, and the phase
  pub rephased : (s : St) (r : Kept relates reserved starts s) (k : ℕ) (a : S) → slice_get starts k ≡ Some a → (spot : ℕ) → spot ≡ spot_of rows k → (id : ℕ) (v : View S E O) → get_elem? s.views id ≡ some v → 0 < v.parts
      → (ns rs : List (ℕ × ℕ)) (ts : List (ℕ × Phase S)) (cell' : ℕ × Phase S) (words' : List ℕ) (homes' : Homes S)
      → length words' ≡ length s.words → length homes' ≡ length s.homes
      → Apart spot s.words words' s.homes homes'
      → PlaceOk relates words' homes' (r.log k) cell' k spot a
      → ((r.cells k).0 ≡ 0) ⊎ ((r.cells k).0 ≡ suc id) → (cell'.0 ≡ 0) ⊎ (cell'.0 ≡ suc id)
      → ((j : ℕ) → seen_at ns j ≤ length (r.log j)) → Matches cell' id (phase_at ts k) → ((j : ℕ) → j ≢ k → phase_at ts j ≡ phase_at v.turns j)
      → Kept relates reserved starts (record { words = words'; homes = homes'; views = set s.views id (record v { seen = ns; tries = rs; turns = ts }) })
  rephased s r k a start spot lies id v at live ns rs ts cell' words' homes' as_wide as_deep same ok was is seen now else =
      let mine = r.seat id v at in
      moved s r k a start spot lies id v (record v { seen = ns; tries = rs; turns = ts }) at (r.log k) cell' words' homes' as_wide as_deep same ok record {
        was = was;
        is = is;
        grows = (le_refl _, λ i x e. e);
        mine = record {
          spent = λ z. absurd (omega arith);
          same = mine.same;
          seen = λ j. subst (λ l. seen_at ns j ≤ length l) (sym (put_same r.log k j)) (seen j);
          tied = λ e h. let t = mine.tied e h in (t.0, subst (λ l. slice_get l e.number ≡ Some e) (sym (put_same r.log k e.place)) t.1);
          plain = mine.plain;
          turns = λ j. put_all (λ j c. Matches c id (phase_at ts j)) r.cells k cell' j now (λ ne. subst (Matches (r.cells j) id) (sym (else j ne)) (mine.turns j));
        };
        parts = refl;
        main = refl;
        once = λ j i. ap (λ l. times j i v.entries + below i (length l)) (sym (put_same r.log k j));
      }

  -- a seat notes what it saw and tried, and nothing else changes
  pub reviewed : (s : St) (r : Kept relates reserved starts s) (id : ℕ) (v : View S E O) → get_elem? s.views id ≡ some v → 0 < v.parts
      → (ns rs : List (ℕ × ℕ)) → ((j : ℕ) → seen_at ns j ≤ length (r.log j))
      → Kept relates reserved starts (record { words = s.words; homes = s.homes; views = set s.views id (record v { seen = ns; tries = rs }) })
  reviewed s r id v at live ns rs seen =
      let mine = r.seat id v at in
      let w : View S E O = record v { seen = ns; tries = rs } in record {
        log = r.log;
        cells = r.cells;
        wide = r.wide;
        long = r.long;
        place = r.place;
        spare = r.spare;
        beyond = r.beyond;
        seat = λ j u at'. ⊎_elim
            (λ (t : (j ≡ id) × (w ≡ u)). subst (λ (z : ℕ × View S E O). SeatOk reserved starts r.log r.cells z.0 z.1) (λ i. (sym t.0 i, t.1 i))
            record { spent = λ z. absurd (omega arith); same = mine.same; seen = seen; tied = mine.tied; plain = mine.plain; turns = mine.turns })
            (λ (t : (j ≢ id) × (get_elem? s.views j ≡ some u)). r.seat j u t.1)
            (at_set s.views id j w u at');
        owned = λ j p. let o = r.owned j p in dite (ℕ_discrete o.0 id)
            (λ e. (id, w, o.2 ∙ ap suc e, set_here s.views id w (within s.views id v at)))
            (λ ne. (o.0, o.1, o.2, set_else s.views id o.0 w ne ∙ o.3));
        whole = let t = total_set (λ (u : View S E O). u.parts) s.views id v w at in let h = r.whole in omega arith;
        one = let t = total_set (λ (u : View S E O). one_if u.main) s.views id v w at in let h = r.one in omega arith;
        once = λ j i. let t = total_set (λ (u : View S E O). times j i u.entries) s.views id v w at in let h = r.once j i in omega arith;
      }

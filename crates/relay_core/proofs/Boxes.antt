-- The holder of a box, by the entries of its place.
use Rattle.std.proofs.Common.{◌≡◌, ◌∙◌, sym, ap, subst, refl, ℕ, zero, suc, ◌+◌, ◌<◌, ◌≤◌, ◌⊎◌, inl, inr, List, [], ◌∷◌, ◌++◌, Bool, true, false, cond, Option, Some, None, map, length, filter, ◌==◌, arith}
use Rattle.std.specs.List.{filter_map, cons_option}
use Rattle.histories.specs.Words.{In, here, there, greatest}
use Rattle.histories.proofs.Lists.{keeps, maps, equal}
use Rattle.port_pool.specs.declared.holder.Holder.{Holder}
use Rattle.port_pool.specs.Boxes.{BoxEvent, Open, Take, Close, holder}
use Rattle.relay_core.specs.Entries.{Entry, is_at, history, front, box_event}
use Rattle.relay_core.proofs.Histories.{Step, nothing, single, step, same_at, is_there}
use Rattle.relay_core.proofs.Boards.{lt_or_eq}

-- Fronts.

pub at_most_greatest : {n : ℕ} (ns : List ℕ) → In n ns → n ≤ greatest ns
at_most_greatest [] i = elim i [ ]
at_most_greatest (m ∷ ns) (here q) = let k = q in omega (arith, k)
at_most_greatest {n} (m ∷ ns) (there i) = let k : n ≤ greatest ns = at_most_greatest ns i in omega (arith, k)

-- each entry of a place is below its front
pub below_front : (l : List Entry) (e : Entry) (place : ℕ) → In e l → e.place ≡ place → e.number < front l place
below_front l e place i p =
    let k : e.number + 1 ≤ front l place =
    at_most_greatest (map (λ (f : Entry). f.number + 1) (filter (λ (f : Entry). f.place == place) l))
    (maps (λ (f : Entry). f.number + 1) (filter (λ (f : Entry). f.place == place) l)
    (keeps (λ (f : Entry). f.place == place) l i (equal e.place place p))) in
    omega (arith, k)

-- The last opening.

-- an event after which the leg still holds the box
abbrev pub Leaves : Holder → Option BoxEvent → Type 0
Leaves leg None = Unit {0}
Leaves leg (Some (Open other)) = other ≡ leg
Leaves leg (Some (Take half taken)) = Unit {0}
Leaves leg (Some Close) = ⊥

-- of the entries of a place below a number that pass, one opens the box for the leg, and none later shuts it or opens it for another
pub record Opened (l : List Entry) (place : ℕ) (p : Entry → Bool) (n : ℕ) (leg : Holder) : Type 0 where
  pub entry : Entry
  pub is_in : In entry l
  pub at : entry.place ≡ place
  pub below : entry.number < n
  pub passes : p entry ≡ true
  pub opens : box_event entry ≡ Some (Open leg)
  pub stays : (g : Entry) → In g l → g.place ≡ place → entry.number < g.number → g.number < n → p g ≡ true → Leaves leg (box_event g)

opened_more : (l : List Entry) (place : ℕ) (p : Entry → Bool) (n : ℕ) (leg : Holder) → Opened l place p n leg
    → ((g : Entry) → In g l → g.place ≡ place → g.number ≡ n → p g ≡ true → Leaves leg (box_event g))
    → Opened l place p (suc n) leg
opened_more l place p n leg o at_n = record {
  entry = o.entry;
  is_in = o.is_in;
  at = o.at;
  below = let q = o.below in omega (arith, q);
  passes = o.passes;
  opens = o.opens;
  stays = λ g i q later before t. one_more g i q later t (lt_or_eq g.number n before);
}
  where
    one_more : (g : Entry) → In g l → g.place ≡ place → o.entry.number < g.number → p g ≡ true
        → (g.number < n) ⊎ (g.number ≡ n) → Leaves leg (box_event g)
    one_more g i q later t (inl b) = o.stays g i q later b t
    one_more g i q later t (inr m) = at_n g i q m t

-- the events of the entries that pass
abbrev pub box_events : List Entry → ℕ → (Entry → Bool) → ℕ → List BoxEvent
box_events l place p n = filter_map box_event (filter p (history l place n))

opened_event : (l : List Entry) → ((e : Entry) → In e l → length (filter (is_at e.place e.number) l) ≡ 1)
    → (place : ℕ) (p : Entry → Bool) (n : ℕ) (leg : Holder) (e : Entry) → In e l → e.place ≡ place → e.number ≡ n → p e ≡ true
    → (holder (box_events l place p n) ≡ Some leg → Opened l place p n leg)
    → (v : Option BoxEvent) → box_event e ≡ v → holder (cons_option v (box_events l place p n)) ≡ Some leg → Opened l place p (suc n) leg
opened_event l numbered place p n leg e i q m t rest None v h =
    opened_more l place p n leg (rest h)
    (λ g j gp gm gt. subst (λ x. Leaves leg (box_event x)) (same_at l numbered e g i j (q ∙ sym gp) (m ∙ sym gm)) (subst (Leaves leg) (sym v) tt))
opened_event l numbered place p n leg e i q m t rest (Some (Take half taken)) v h =
    opened_more l place p n leg (rest h)
    (λ g j gp gm gt. subst (λ x. Leaves leg (box_event x)) (same_at l numbered e g i j (q ∙ sym gp) (m ∙ sym gm)) (subst (Leaves leg) (sym v) tt))
opened_event l numbered place p n leg e i q m t rest (Some Close) v h = absurd (let k = h in cc)
opened_event l numbered place p n leg e i q m t rest (Some (Open other)) v h =
    let is : other ≡ leg = (let k = h in cc) in
    record {
      entry = e;
      is_in = i;
      at = q;
      below = let k = m in omega (arith, k);
      passes = t;
      opens = v ∙ ap (λ x. Some (Open x)) is;
      stays = λ g j gp later before gt. absurd (let k = m in omega (arith, k, later, before));
    }

opened_pass : (l : List Entry) → ((e : Entry) → In e l → length (filter (is_at e.place e.number) l) ≡ 1)
    → (place : ℕ) (p : Entry → Bool) (n : ℕ) (leg : Holder) (e : Entry) → In e l → e.place ≡ place → e.number ≡ n
    → (holder (box_events l place p n) ≡ Some leg → Opened l place p n leg)
    → (t : Bool) → p e ≡ t → holder (filter_map box_event (cond t (e ∷ filter p (history l place n)) (filter p (history l place n)))) ≡ Some leg
    → Opened l place p (suc n) leg
opened_pass l numbered place p n leg e i q m rest true t h = opened_event l numbered place p n leg e i q m t rest (box_event e) refl h
opened_pass l numbered place p n leg e i q m rest false t h =
    opened_more l place p n leg (rest h)
    (λ g j gp gm gt. absurd (let one = ap p (same_at l numbered e g i j (q ∙ sym gp) (m ∙ sym gm)) in cc))

opened_step : (l : List Entry) → ((e : Entry) → In e l → length (filter (is_at e.place e.number) l) ≡ 1)
    → (place : ℕ) (p : Entry → Bool) (n : ℕ) (leg : Holder)
    → (holder (box_events l place p n) ≡ Some leg → Opened l place p n leg)
    → Step l place n → holder (box_events l place p (suc n)) ≡ Some leg → Opened l place p (suc n) leg
opened_step l numbered place p n leg rest (nothing q) h =
    opened_more l place p n leg
    (rest (subst (λ xs. holder (filter_map box_event (filter p (xs ++ history l place n))) ≡ Some leg) q h))
    (λ g j gp gm gt. absurd (let k = subst (λ xs. In g xs) q (keeps (is_at place n) l j (there_at g gp gm)) in elim k [ ]))
  where
    there_at : (g : Entry) → g.place ≡ place → g.number ≡ n → is_at place n g ≡ true
    there_at g gp gm = is_there place n g gp gm
opened_step l numbered place p n leg rest (single e i ep em q) h =
    opened_pass l numbered place p n leg e i ep em rest (p e) refl
    (subst (λ xs. holder (filter_map box_event (filter p (xs ++ history l place n))) ≡ Some leg) q h)

-- the holder of a box is the leg of its last opening
pub holder_opened : (l : List Entry) → ((e : Entry) → In e l → length (filter (is_at e.place e.number) l) ≡ 1)
    → (place : ℕ) (p : Entry → Bool) (n : ℕ) (leg : Holder) → holder (box_events l place p n) ≡ Some leg → Opened l place p n leg
holder_opened l numbered place p zero leg h = absurd (let k = h in cc)
holder_opened l numbered place p (suc n) leg h =
    opened_step l numbered place p n leg (holder_opened l numbered place p n leg) (step l numbered place n) h

-- The other way round.

opened_before : (l : List Entry) (place : ℕ) (p : Entry → Bool) (n : ℕ) (leg : Holder) → (o : Opened l place p (suc n) leg)
    → o.entry.number < n → Opened l place p n leg
opened_before l place p n leg o k = record {
  entry = o.entry;
  is_in = o.is_in;
  at = o.at;
  below = k;
  passes = o.passes;
  opens = o.opens;
  stays = λ g i q later before t. o.stays g i q later (let b = before in omega (arith, b)) t;
}

holder_leaves : (leg : Holder) (h : List BoxEvent) → holder h ≡ Some leg → (v : Option BoxEvent) → Leaves leg v → holder (cons_option v h) ≡ Some leg
holder_leaves leg h q None k = q
holder_leaves leg h q (Some (Take half taken)) k = q
holder_leaves leg h q (Some (Open other)) k = ap Some k
holder_leaves leg h q (Some Close) k = absurd k

holder_passes : (l : List Entry) (place : ℕ) (p : Entry → Bool) (n : ℕ) (leg : Holder) (e : Entry)
    → (p e ≡ true → Leaves leg (box_event e)) → holder (box_events l place p n) ≡ Some leg
    → (t : Bool) → p e ≡ t → holder (filter_map box_event (cond t (e ∷ filter p (history l place n)) (filter p (history l place n)))) ≡ Some leg
holder_passes l place p n leg e stays h true t = holder_leaves leg (box_events l place p n) h (box_event e) (stays t)
holder_passes l place p n leg e stays h false t = h

holder_here : (l : List Entry) (place : ℕ) (p : Entry → Bool) (n : ℕ) (leg : Holder) (e : Entry) → box_event e ≡ Some (Open leg) → p e ≡ true
    → (t : Bool) → p e ≡ t → holder (filter_map box_event (cond t (e ∷ filter p (history l place n)) (filter p (history l place n)))) ≡ Some leg
holder_here l place p n leg e opens passes true t =
    subst (λ v. holder (cons_option v (box_events l place p n)) ≡ Some leg) (sym opens) refl
holder_here l place p n leg e opens passes false t = absurd (let k = passes in cc)

holder_case : (l : List Entry) → ((e : Entry) → In e l → length (filter (is_at e.place e.number) l) ≡ 1)
    → (place : ℕ) (p : Entry → Bool) (n : ℕ) (leg : Holder) (o : Opened l place p (suc n) leg)
    → (o.entry.number < n → holder (box_events l place p n) ≡ Some leg)
    → (o.entry.number < n) ⊎ (o.entry.number ≡ n) → Step l place n → holder (box_events l place p (suc n)) ≡ Some leg
holder_case l numbered place p n leg o rest (inl k) (nothing q) =
    subst (λ xs. holder (filter_map box_event (filter p (xs ++ history l place n))) ≡ Some leg) (sym q) (rest k)
holder_case l numbered place p n leg o rest (inl k) (single e i ep em q) =
    subst (λ xs. holder (filter_map box_event (filter p (xs ++ history l place n))) ≡ Some leg) (sym q)
    (holder_passes l place p n leg e (o.stays e i ep (let w = em in omega (arith, w, k)) (let w = em in omega (arith, w))) (rest k) (p e) refl)
holder_case l numbered place p n leg o rest (inr k) (nothing q) =
    absurd (let w = subst (λ xs. In o.entry xs) q (keeps (is_at place n) l o.is_in (is_there place n o.entry o.at k)) in elim w [ ])
holder_case l numbered place p n leg o rest (inr k) (single e i ep em q) =
    let one = same_at l numbered o.entry e o.is_in i (o.at ∙ sym ep) (k ∙ sym em) in
    subst (λ xs. holder (filter_map box_event (filter p (xs ++ history l place n))) ≡ Some leg) (sym q)
    (holder_here l place p n leg e (sym (ap box_event one) ∙ o.opens) (sym (ap p one) ∙ o.passes) (p e) refl)

pub opened_holder : (l : List Entry) → ((e : Entry) → In e l → length (filter (is_at e.place e.number) l) ≡ 1)
    → (place : ℕ) (p : Entry → Bool) (n : ℕ) (leg : Holder) → Opened l place p n leg → holder (box_events l place p n) ≡ Some leg
opened_holder l numbered place p zero leg o = absurd (let k = o.below in omega (arith, k))
opened_holder l numbered place p (suc n) leg o =
    holder_case l numbered place p n leg o (λ k. opened_holder l numbered place p n leg (opened_before l place p n leg o k))
    (lt_or_eq o.entry.number n o.below) (step l numbered place n)

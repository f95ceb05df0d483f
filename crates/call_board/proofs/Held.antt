-- Who holds a pair: a leg holds the pair that its offer leased, until an entry closes it.
use Rattle.std.proofs.Common.{◌≡◌, ◌∙◌, sym, ap, subst, ℕ, ◌⊎◌, inl, inr, List, [], ◌∷◌, map, filter, Bool, true, false, cond, not, ◌&&◌, ◌==◌, refl}
use Rattle.relay_outside.specs.declared.settings.Config.{Config}
use Rattle.histories.specs.Words.{In, here, there, has}
use Rattle.histories.proofs.Lists.{in_left, in_right, in_append, filtered, keeps, mapped, spread, has_it, equal, equal_if}
use Rattle.port_pool.specs.declared.holder.Holder.{Holder}
use Rattle.port_pool.specs.Signals.{is_rejected}
use Rattle.offer_answer.specs.Rounds.{NewLeg}
use Rattle.call_board.specs.Acts as act
use Rattle.call_board.specs.Acts.{Call, Offer, Act, BoardEntry, act}
use Rattle.call_board.specs.Calls.{live, ended_by}
use Rattle.call_board.specs.Pairs.{held, legs_of_act, closes_leg, closes_leg_act, closed_of, closed, calls_in, signalled_by, leased_new_legs, next_generation}
use Rattle.call_board.specs.Fits.{FitsBoard, IsFitting}
use Rattle.call_board.proofs.Moments.{Later, now, after}
use Rattle.call_board.proofs.Once.{is_false, not_false}
use Rattle.call_board.proofs.Tells.{offer_told}
use Rattle.call_board.proofs.Calls.{stays_live, offered_live}

abbrev filter_open : BoardEntry → List Holder → List Holder
filter_open e legs = filter (λ leg. not (closes_leg e leg)) legs

split_case : (h : List BoardEntry) (e : BoardEntry) (a : Holder) → In a (filter_open e (held h)) ⊎ In a (legs_of_act (act e))
    → (In a (held h) × (closes_leg e a ≡ false)) ⊎ In a (legs_of_act (act e))
split_case h e a (inl i) = let f = filtered (λ leg. not (closes_leg e leg)) (held h) i in inl (f.0, is_false (closes_leg e a) f.1)
split_case h e a (inr i) = inr i

-- a leg that is held was held and not closed, or was leased by the entry
pub held_split : (h : List BoardEntry) (e : BoardEntry) (a : Holder) → In a (held (e ∷ h)) → (In a (held h) × (closes_leg e a ≡ false)) ⊎ In a (legs_of_act (act e))
held_split h e a i = split_case h e a (in_append (filter_open e (held h)) (legs_of_act (act e)) i)

pub held_stays : (h : List BoardEntry) (e : BoardEntry) (a : Holder) → In a (held h) → closes_leg e a ≡ false → In a (held (e ∷ h))
held_stays h e a i open_ = in_left (filter_open e (held h)) (legs_of_act (act e)) (keeps (λ leg. not (closes_leg e leg)) (held h) i (not_false (closes_leg e a) open_))

pub held_new : (h : List BoardEntry) (e : BoardEntry) (o : Offer) (a : Holder) → act e ≡ act.Offered o → In a o.legs → In a (held (e ∷ h))
held_new h e o a is i = in_right (filter_open e (held h)) (legs_of_act (act e)) (subst (λ (x : Act). In a (legs_of_act x)) (sym is) i)

-- the leg was leased at that moment, and no entry closed it since
pub data HeldSince (e : BoardEntry) (s : List BoardEntry) (a : Holder) : List BoardEntry → Type 0 where
  leased : {h : List BoardEntry} → e ∷ s ≡ h → HeldSince e s a h
  unclosed : {f : BoardEntry} {h : List BoardEntry} → HeldSince e s a h → closes_leg f a ≡ false → HeldSince e s a (f ∷ h)

-- the moment at which an offer leased the leg
pub record IsLeased (h : List BoardEntry) (a : Holder) : Type 0 where
  pub entry : BoardEntry
  pub before : List BoardEntry
  pub since : HeldSince entry before a h
  pub late : Later (entry ∷ before) h
  pub offer : Offer
  pub acts : act entry ≡ act.Offered offer
  pub has_leg : In a offer.legs

leased_by : (h : List BoardEntry) (e : BoardEntry) (a : Holder) (x : Act) → act e ≡ x → In a (legs_of_act x) → IsLeased (e ∷ h) a
leased_by h e a (act.Offered o) is i =
    record { entry = e; before = h; since = leased refl; late = now refl; offer = o; acts = is; has_leg = i }
leased_by h e a act.Repeated is i = elim i [ ]
leased_by h e a act.OutOfMemory is i = elim i [ ]
leased_by h e a (act.Failed code) is i = elim i [ ]
leased_by h e a (act.Undone code leases draws) is i = elim i [ ]
leased_by h e a (act.Answered x) is i = elim i [ ]
leased_by h e a (act.Deleted of) is i = elim i [ ]
leased_by h e a (act.Queried of) is i = elim i [ ]
leased_by h e a act.Told is i = elim i [ ]
leased_by h e a (act.Delayed of s) is i = elim i [ ]

leased_case : (h : List BoardEntry) (e : BoardEntry) (a : Holder) → (In a (held h) → IsLeased h a)
    → (In a (held h) × (closes_leg e a ≡ false)) ⊎ In a (legs_of_act (act e)) → IsLeased (e ∷ h) a
leased_case h e a rest (inl i) = let r = rest i.0 in
    record { entry = r.entry; before = r.before; since = unclosed r.since i.1; late = after r.late; offer = r.offer; acts = r.acts; has_leg = r.has_leg }
leased_case h e a rest (inr i) = leased_by h e a (act e) refl i

pub held_leased : (h : List BoardEntry) (a : Holder) → In a (held h) → IsLeased h a
held_leased [] a i = elim i [ ]
held_leased (e ∷ h) a i = leased_case h e a (held_leased h a) (held_split h e a i)

pub since_held : (s : List BoardEntry) (e : BoardEntry) (o : Offer) (a : Holder) (h : List BoardEntry) → HeldSince e s a h → act e ≡ act.Offered o → In a o.legs → In a (held h)
since_held s e o a h (leased is) acts i = subst (λ x. In a (held x)) is (held_new s e o a acts i)
since_held s e o a (f ∷ h) (unclosed since open_) acts i = held_stays h f a (since_held s e o a h since acts i) open_

-- a leg that was leased at a moment is held, or an entry since has closed it
pub record IsClosed (e : BoardEntry) (s h : List BoardEntry) (a : Holder) : Type 0 where
  pub entry : BoardEntry
  pub before : List BoardEntry
  pub late : Later (entry ∷ before) h
  pub since : HeldSince e s a before
  pub closes : closes_leg entry a ≡ true

closed_next : (s h : List BoardEntry) (e f : BoardEntry) (a : Holder) → HeldSince e s a h → (b : Bool) → closes_leg f a ≡ b → HeldSince e s a (f ∷ h) ⊎ IsClosed e s (f ∷ h) a
closed_next s h e f a since true is = inr (record { entry = f; before = h; late = now refl; since = since; closes = is })
closed_next s h e f a since false is = inl (unclosed since is)

since_next : (s h : List BoardEntry) (e f : BoardEntry) (a : Holder) → HeldSince e s a h ⊎ IsClosed e s h a → HeldSince e s a (f ∷ h) ⊎ IsClosed e s (f ∷ h) a
since_next s h e f a (inl since) = closed_next s h e f a since (closes_leg f a) refl
since_next s h e f a (inr c) = inr (record { entry = c.entry; before = c.before; late = after c.late; since = c.since; closes = c.closes })

pub since_or_closed : (s : List BoardEntry) (e : BoardEntry) (a : Holder) (h : List BoardEntry) → Later (e ∷ s) h → HeldSince e s a h ⊎ IsClosed e s h a
since_or_closed s e a h (now is) = inl (leased is)
since_or_closed s e a (f ∷ h) (after late) = since_next s h e f a (since_or_closed s e a h late)

held_case : (s h : List BoardEntry) (e : BoardEntry) (o : Offer) (a : Holder) → act e ≡ act.Offered o → In a o.legs → HeldSince e s a h ⊎ IsClosed e s h a → In a (held h) ⊎ IsClosed e s h a
held_case s h e o a is i (inl since) = inl (since_held s e o a h since is i)
held_case s h e o a is i (inr c) = inr c

pub held_or_closed : (s h : List BoardEntry) (e : BoardEntry) (o : Offer) (a : Holder) → Later (e ∷ s) h → act e ≡ act.Offered o → In a o.legs → In a (held h) ⊎ IsClosed e s h a
held_or_closed s h e o a late is i = held_case s h e o a is i (since_or_closed s e a h late)

-- What an entry closes.

pub both_left : (a b : Bool) → a && b ≡ true → a ≡ true
both_left true b h = refl
both_left false b h = absurd (let e = h in cc)

pub both_right : (a b : Bool) → a && b ≡ true → b ≡ true
both_right true b h = h
both_right false b h = absurd (let e = h in cc)

both_true : (a b : Bool) → a ≡ true → b ≡ true → a && b ≡ true
both_true a b p q = rw (p, q) refl

-- an entry closes just the held legs that it says, each among those of one of its calls
pub closed_of_held : (h : List BoardEntry) (e : BoardEntry) (c : Call) (a : Holder) → In a (closed_of h e c) → In a (held h) × (a.call ≡ c.number) × (closes_leg e a ≡ true)
closed_of_held h e c a i =
    let f = filtered (λ (leg : Holder). (leg.call == c.number) && closes_leg e leg) (held h) i in
    (f.0, equal_if a.call c.number (both_left (a.call == c.number) (closes_leg e a) f.1), both_right (a.call == c.number) (closes_leg e a) f.1)

pub closed_held : (h : List BoardEntry) (e : BoardEntry) (a : Holder) → In a (closed h e) → In a (held h) × (closes_leg e a ≡ true)
closed_held h e a i =
    let m = spread (closed_of h e) (calls_in e) i in
    let c = closed_of_held h e m.from a m.has_it in (c.0, c.2)

pub record IsClosedAt (h : List BoardEntry) (e : BoardEntry) (a : Holder) : Type 0 where
  pub of : Call
  pub is_in : In of (calls_in e)
  pub its_leg : a.call ≡ of.number
  pub closes : In a (closed_of h e of)

closed_in : (h : List BoardEntry) (e : BoardEntry) (a : Holder) (c : Call) → In a (held h) → closes_leg e a ≡ true → a.call ≡ c.number → In c (calls_in e) → IsClosedAt h e a
closed_in h e a c i closes its is_in = record {
  of = c;
  is_in = is_in;
  its_leg = its;
  closes = keeps (λ (leg : Holder). (leg.call == c.number) && closes_leg e leg) (held h) i (both_true (a.call == c.number) (closes_leg e a) (equal a.call c.number its) closes);
}

signalled_at : (h : List BoardEntry) (e : BoardEntry) (a : Holder) (x : Act) → act e ≡ x → In a (held h) → closes_leg e a ≡ true → closes_leg_act x a ≡ true → IsClosedAt h e a
signalled_at h e a (act.Offered o) is i closes by_act =
    closed_in h e a o.of i closes (sym (equal_if o.of.number a.call (both_left (o.of.number == a.call) (has o.dropped a.section) by_act)))
    (in_left (signalled_by (act e)) (ended_by e) (subst (λ (x : Act). In o.of (signalled_by x)) (sym is) (here refl)))
signalled_at h e a (act.Answered x) is i closes by_act =
    closed_in h e a x.of i closes (sym (equal_if x.of.number a.call (both_left (x.of.number == a.call) (is_rejected x.signal a.section) by_act)))
    (in_left (signalled_by (act e)) (ended_by e) (subst (λ (y : Act). In x.of (signalled_by y)) (sym is) (here refl)))
signalled_at h e a act.Repeated is i closes by_act = absurd (let q = by_act in cc)
signalled_at h e a act.OutOfMemory is i closes by_act = absurd (let q = by_act in cc)
signalled_at h e a (act.Failed code) is i closes by_act = absurd (let q = by_act in cc)
signalled_at h e a (act.Undone code leases draws) is i closes by_act = absurd (let q = by_act in cc)
signalled_at h e a (act.Deleted of) is i closes by_act = absurd (let q = by_act in cc)
signalled_at h e a (act.Queried of) is i closes by_act = absurd (let q = by_act in cc)
signalled_at h e a act.Told is i closes by_act = absurd (let q = by_act in cc)
signalled_at h e a (act.Delayed of s) is i closes by_act = absurd (let q = by_act in cc)

closes_case : (h : List BoardEntry) (e : BoardEntry) (a : Holder) → In a (held h) → closes_leg e a ≡ true → (b : Bool) → has (map (λ (c : Call). c.number) (ended_by e)) a.call ≡ b
    → cond b true (closes_leg_act (act e) a) ≡ true → IsClosedAt h e a
closes_case h e a i closes true ends by = let m = mapped (λ (c : Call). c.number) (ended_by e) (has_it a.call (map (λ (c : Call). c.number) (ended_by e)) ends) in
    closed_in h e a m.from i closes (sym m.makes) (in_right (signalled_by (act e)) (ended_by e) m.is_in)
closes_case h e a i closes false ends by = signalled_at h e a (act e) refl i closes by

pub closes_held : (h : List BoardEntry) (e : BoardEntry) (a : Holder) → In a (held h) → closes_leg e a ≡ true → IsClosedAt h e a
closes_held h e a i closes = closes_case h e a i closes (has (map (λ (c : Call). c.number) (ended_by e)) a.call) refl closes

-- New legs.

pub record IsNewLeg (h : List BoardEntry) (c : Call) (pairs : List ℕ) (a : Holder) : Type 0 where
  pub call_is : a.call ≡ c.number
  pub cell_is : a.cell ≡ c.cell
  pub pair_in : In a.pair pairs
  pub generation_is : a.generation ≡ next_generation h a.pair

pub new_leg_is : (h : List BoardEntry) (c : Call) (pairs : List ℕ) (legs : List NewLeg) (a : Holder) → In a (leased_new_legs h c pairs legs) → IsNewLeg h c pairs a
new_leg_is h c [] legs a i = elim i [ ]
new_leg_is h c (p ∷ pairs) [] a i = elim i [ ]
new_leg_is h c (p ∷ pairs) (leg ∷ legs) a (here e) =
    let pair : a.pair ≡ p = ap (λ (x : Holder). x.pair) e in record {
      call_is = ap (λ (x : Holder). x.call) e;
      cell_is = ap (λ (x : Holder). x.cell) e;
      pair_in = here pair;
      generation_is = ap (λ (x : Holder). x.generation) e ∙ ap (next_generation h) (sym pair);
    }
new_leg_is h c (p ∷ pairs) (leg ∷ legs) a (there i) = let r = new_leg_is h c pairs legs a i in
    record { call_is = r.call_is; cell_is = r.cell_is; pair_in = there r.pair_in; generation_is = r.generation_is }

-- the call of a new leg is its offer's, and so is its cell
pub new_leg : (config : Config) (h : List BoardEntry) (e : BoardEntry) (o : Offer) (a : Holder) → FitsBoard config h e → act e ≡ act.Offered o → In a o.legs → (a.call ≡ o.of.number) × (a.cell ≡ o.of.cell)
new_leg config h e o a fits is i =
    let shown = offer_told config h e o fits is in
    let n = new_leg_is h o.of _ shown.demand.pairs a (subst (λ xs. In a xs) shown.legs_are i) in (n.call_is, n.cell_is)

-- the call of a held leg is live, and the leg's cell is its call's
pub record IsOfLive (h : List BoardEntry) (a : Holder) : Type 0 where
  pub of : Call
  pub is_live : In of (live h)
  pub call_is : a.call ≡ of.number
  pub cell_is : a.cell ≡ of.cell

ends_case : (e : BoardEntry) (a : Holder) (b : Bool) → has (map (λ (c : Call). c.number) (ended_by e)) a.call ≡ b → cond b true (closes_leg_act (act e) a) ≡ false
    → has (map (λ (c : Call). c.number) (ended_by e)) a.call ≡ false
ends_case e a true is open_ = absurd (let q = open_ in cc)
ends_case e a false is open_ = is

pub open_not_ended : (e : BoardEntry) (a : Holder) → closes_leg e a ≡ false → has (map (λ (c : Call). c.number) (ended_by e)) a.call ≡ false
open_not_ended e a open_ = ends_case e a (has (map (λ (c : Call). c.number) (ended_by e)) a.call) refl open_

new_live : (config : Config) (h : List BoardEntry) (e : BoardEntry) (a : Holder) (x : Act) → IsFitting config h → FitsBoard config h e → act e ≡ x → In a (legs_of_act x) → IsOfLive (e ∷ h) a
new_live config h e a (act.Offered o) old fits is i = let n = new_leg config h e o a fits is i in
    record { of = o.of; is_live = offered_live config h e o old fits is; call_is = n.0; cell_is = n.1 }
new_live config h e a act.Repeated old fits is i = elim i [ ]
new_live config h e a act.OutOfMemory old fits is i = elim i [ ]
new_live config h e a (act.Failed code) old fits is i = elim i [ ]
new_live config h e a (act.Undone code leases draws) old fits is i = elim i [ ]
new_live config h e a (act.Answered x) old fits is i = elim i [ ]
new_live config h e a (act.Deleted of) old fits is i = elim i [ ]
new_live config h e a (act.Queried of) old fits is i = elim i [ ]
new_live config h e a act.Told old fits is i = elim i [ ]
new_live config h e a (act.Delayed of s) old fits is i = elim i [ ]

live_case : (config : Config) (h : List BoardEntry) (e : BoardEntry) (a : Holder) → IsFitting config h → FitsBoard config h e → (In a (held h) → IsOfLive h a)
    → (In a (held h) × (closes_leg e a ≡ false)) ⊎ In a (legs_of_act (act e)) → IsOfLive (e ∷ h) a
live_case config h e a old fits rest (inl i) = let r = rest i.0 in record {
  of = r.of;
  is_live = stays_live h e r.of r.is_live (ap (has (map (λ (c : Call). c.number) (ended_by e))) (sym r.call_is) ∙ open_not_ended e a i.1);
  call_is = r.call_is;
  cell_is = r.cell_is;
}
live_case config h e a old fits rest (inr i) = new_live config h e a (act e) old fits refl i

pub held_live : (config : Config) (h : List BoardEntry) (a : Holder) → IsFitting config h → In a (held h) → IsOfLive h a
held_live config [] a fits i = elim i [ ]
held_live config (e ∷ h) a fits i = live_case config h e a fits.1 fits.0 (held_live config h a fits.1) (held_split h e a i)

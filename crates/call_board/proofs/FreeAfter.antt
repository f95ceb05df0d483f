-- Which pairs are free after an entry, in their order: those that it did not lease, then those that it gave back.
use Rattle.std.proofs.Common.{◌≡◌, ◌∙◌, refl, sym, ap, subst, ℕ, zero, suc, ◌⊎◌, inl, inr, List, [], ◌∷◌, ◌++◌, map, filter, take, length, Bool, true, false, not, arith, append_assoc}
use Rattle.std.specs.Prelude.{◌&&◌, ◌||◌}
use Rattle.std.specs.List.{flat_map}
use Rattle.std.proofs.lemmas.List.{map-append}
use Rattle.std.proofs.lemmas.List.Elements.{filter-append}
use Rattle.relay_outside.specs.declared.settings.Config.{Config}
use Rattle.histories.specs.Words.{In, here, there, has, last_once, numbers}
use Rattle.histories.proofs.Lists.{in_left, in_right, in_append, maps, mapped, spread, spreads, it_has, has_it}
use Rattle.port_pool.specs.Ports.{pair_count}
use Rattle.port_pool.specs.declared.holder.Holder.{Holder}
use Rattle.offer_answer.specs.Rounds.{NewLeg}
use Rattle.call_board.specs.Acts as act
use Rattle.call_board.specs.Acts.{Call, Lease, Offer, Act, BoardEvent, Turn, Tick, Stop, BoardEntry, act}
use Rattle.call_board.specs.Calls.{live, ended_by_act}
use Rattle.call_board.specs.Pairs.{held, legs_of_act, closes_leg, closed, closed_of, calls_in, signalled_by, all_leased, leased_by_act, returned, undone_pairs, free, free_in, fronts, next_lease, leased_new_legs}
use Rattle.call_board.specs.Fits.{FitsBoard, FitsAt, IsFitting}
use Rattle.call_board.proofs.Once.{Once, once_append, once_filtered, once_numbers}
use Rattle.call_board.proofs.Sieves.{filter_both, filter_alike, filter_whole, has_append, is_out, last_append, last_same}
use Rattle.call_board.proofs.Told.{Tells}
use Rattle.call_board.proofs.Tells.{tells}
use Rattle.call_board.proofs.Calls.{begun_numbers}
use Rattle.call_board.proofs.Held.{held_split, held_stays, closed_held, closed_of_held, closes_held}
use Rattle.call_board.proofs.Free.{fronts_once, families_apart, new_legs_once, free_not_held, legs_leased, undone_leased, leased_free, held_once, held_apart}

abbrev pair_of : Holder → ℕ
pair_of leg = leg.pair

abbrev number_of : Call → ℕ
number_of c = c.number

-- Each call that an entry closes legs of stands once.

pub live_once : (config : Config) (h : List BoardEntry) → IsFitting config h → Once (map (λ (c : Call). c.number) (live h))
live_once config h fits = once_filtered number_of _ _ (subst Once (sym (begun_numbers config h fits)) (once_numbers 0 _))

one_once : (c : Call) → Once (map number_of (c ∷ []))
one_once c = (λ i. elim i [ ], tt)

act_once : (a : Act) → Once (map number_of (signalled_by a ++ ended_by_act a))
act_once (act.Offered o) = one_once o.of
act_once (act.Answered a) = one_once a.of
act_once (act.Deleted of) = one_once of
act_once act.Repeated = tt
act_once act.OutOfMemory = tt
act_once (act.Failed code) = tt
act_once (act.Undone code leases draws) = tt
act_once (act.Queried of) = tt
act_once act.Told = tt
act_once (act.Delayed of s) = tt

event_once : (config : Config) (h : List BoardEntry) (now : ℕ) (event : BoardEvent) → IsFitting config h → FitsAt config h now event →
    Once (map number_of (calls_in (record { moment = now; event = event })))
event_once config h now (Turn c) old fits = act_once c.act
event_once config h now (Tick calls) old fits =
    subst (λ (those : List Call). Once (map number_of those)) (sym fits.0) (once_filtered number_of _ (live h) (live_once config h old))
event_once config h now (Stop calls) old fits = subst (λ (those : List Call). Once (map number_of those)) (sym fits) (live_once config h old)

pub calls_once : (config : Config) (h : List BoardEntry) (e : BoardEntry) → IsFitting config h → FitsBoard config h e → Once (map (λ (c : Call). c.number) (calls_in e))
calls_once config h e old fits = event_once config h e.moment e.event old fits

-- What an entry gives back stands once.

-- the pairs that an entry gives back
abbrev pub given_by : List BoardEntry → BoardEntry → List ℕ
given_by h e = map pair_of (closed h e) ++ undone_pairs (act e)

pub closed_apart : (config : Config) (h : List BoardEntry) (e : BoardEntry) (of : Call) (calls : List Call) (p : ℕ) → IsFitting config h → (In of.number (map number_of calls) → ⊥) →
    In p (map pair_of (closed_of h e of)) → In p (map pair_of (flat_map (closed_of h e) calls)) → ⊥
closed_apart config h e of calls p old new i j =
    let a = mapped pair_of (closed_of h e of) i in
    let b = mapped pair_of (flat_map (closed_of h e) calls) j in
    let s = spread (closed_of h e) calls b.is_in in
    let x = closed_of_held h e of a.from a.is_in in
    let y = closed_of_held h e s.from b.from s.has_it in
    let same : a.from ≡ b.from = held_apart config h a.from b.from old x.0 y.0 (a.makes ∙ sym b.makes) in
    let number : s.from.number ≡ of.number = sym y.1 ∙ ap (λ (leg : Holder). leg.call) (sym same) ∙ x.1 in
    new (subst (λ n. In n (map number_of calls)) number (maps number_of calls s.is_in))

closed_calls : (config : Config) (h : List BoardEntry) (e : BoardEntry) (calls : List Call) → IsFitting config h → Once (map number_of calls) →
    Once (map pair_of (flat_map (closed_of h e) calls))
closed_calls config h e [] old once = tt
closed_calls config h e (of ∷ calls) old once =
    subst Once (sym (map-append pair_of (closed_of h e of) (flat_map (closed_of h e) calls)))
    (once_append (map pair_of (closed_of h e of)) (map pair_of (flat_map (closed_of h e) calls))
    (once_filtered pair_of (λ (leg : Holder). _) (held h) (held_once config h old))
    (closed_calls config h e calls old once.1)
    (λ p i j. closed_apart config h e of calls p old once.0 i j))

pub closed_once : (config : Config) (h : List BoardEntry) (e : BoardEntry) → IsFitting config h → FitsBoard config h e → Once (map (λ (leg : Holder). leg.pair) (closed h e))
closed_once config h e old fits = closed_calls config h e (calls_in e) old (calls_once config h e old fits)

-- What an entry leases.

pairs_of_new : (h : List BoardEntry) (c : Call) (pairs : List ℕ) (legs : List NewLeg) → length pairs ≡ length legs → map pair_of (leased_new_legs h c pairs legs) ≡ pairs
pairs_of_new h c [] legs same = refl
pairs_of_new h c (p ∷ pairs) [] same = absurd (let e = same in omega (arith, e))
pairs_of_new h c (p ∷ pairs) (leg ∷ legs) same = ap (λ ps. p ∷ ps) (pairs_of_new h c pairs legs (let e = same in omega (arith, e)))

pub pairs_leased : (h : List BoardEntry) (pairs : List ℕ) → map (λ (lease : Lease). lease.pair) (map (next_lease h) pairs) ≡ pairs
pairs_leased h [] = refl
pairs_leased h (p ∷ pairs) = ap (λ ps. p ∷ ps) (pairs_leased h pairs)

-- What an entry gives back is held no longer, and was held before or leased by the entry.

undone_once : (a : Act) → Once (leased_by_act a) → Once (undone_pairs a)
undone_once (act.Undone code leases draws) once = once
undone_once act.Repeated once = tt
undone_once act.OutOfMemory once = tt
undone_once (act.Failed code) once = tt
undone_once (act.Offered o) once = tt
undone_once (act.Answered a) once = tt
undone_once (act.Deleted of) once = tt
undone_once (act.Queried of) once = tt
undone_once act.Told once = tt
undone_once (act.Delayed of s) once = tt

pub taken_in : (p k : ℕ) (xs : List ℕ) → In p (take k xs) → In p xs
taken_in p zero [] i = elim i [ ]
taken_in p zero (x ∷ xs) i = elim i [ ]
taken_in p (suc k) [] i = elim i [ ]
taken_in p (suc k) (x ∷ xs) (here e) = here e
taken_in p (suc k) (x ∷ xs) (there i) = there (taken_in p k xs i)

pub once_taken : (k : ℕ) (xs : List ℕ) → Once xs → Once (take k xs)
once_taken zero [] once = tt
once_taken zero (x ∷ xs) once = tt
once_taken (suc k) [] once = tt
once_taken (suc k) (x ∷ xs) once = (λ i. once.0 (taken_in x k xs i), once_taken k xs once.1)

leases_once_by : (config : Config) (h : List BoardEntry) (e : BoardEntry) (a : Act) → FitsBoard config h e → act e ≡ a → Tells config h e a → Once (leased_by_act a)
leases_once_by config h e (act.Offered o) fits is shown = new_legs_once config h e o fits is
leases_once_by config h e (act.Undone code leases draws) fits is shown =
    subst Once (sym (ap (map (λ (lease : Lease). lease.pair)) shown.leases_are ∙ pairs_leased h (fronts (free_in config h) shown.demand.pairs)))
    (fronts_once (free_in config h) shown.demand.pairs (families_apart config h))
leases_once_by config h e act.Repeated fits is shown = tt
leases_once_by config h e act.OutOfMemory fits is shown = tt
leases_once_by config h e (act.Failed code) fits is shown = tt
leases_once_by config h e (act.Answered a) fits is shown = tt
leases_once_by config h e (act.Deleted of) fits is shown = tt
leases_once_by config h e (act.Queried of) fits is shown = tt
leases_once_by config h e act.Told fits is shown = tt
leases_once_by config h e (act.Delayed of s) fits is shown = tt

-- an entry leases each pair once
pub leases_once : (config : Config) (h : List BoardEntry) (e : BoardEntry) → FitsBoard config h e → Once (leased_by_act (act e))
leases_once config h e fits = leases_once_by config h e (act e) fits refl (tells config h e fits)

closed_and_undone : (config : Config) (h : List BoardEntry) (e : BoardEntry) (p : ℕ) → FitsBoard config h e → In p (map pair_of (closed h e)) → In p (undone_pairs (act e)) → ⊥
closed_and_undone config h e p fits i j =
    let a = mapped pair_of (closed h e) i in
    free_not_held config h p a.from (leased_free config h e p fits (undone_leased p (act e) j)) (closed_held h e a.from a.is_in).0 a.makes

pub given_once : (config : Config) (h : List BoardEntry) (e : BoardEntry) → IsFitting config h → FitsBoard config h e → Once (given_by h e)
given_once config h e old fits =
    once_append (map pair_of (closed h e)) (undone_pairs (act e)) (closed_once config h e old fits) (undone_once (act e) (leases_once config h e fits))
    (λ p i j. closed_and_undone config h e p fits i j)

not_both : (a : Holder) (p : ℕ) (x : Act) → In a (legs_of_act x) → In p (undone_pairs x) → ⊥
not_both a p (act.Offered o) i j = elim j [ ]
not_both a p (act.Undone code leases draws) i j = elim i [ ]
not_both a p act.Repeated i j = elim i [ ]
not_both a p act.OutOfMemory i j = elim i [ ]
not_both a p (act.Failed code) i j = elim i [ ]
not_both a p (act.Answered x) i j = elim i [ ]
not_both a p (act.Deleted of) i j = elim i [ ]
not_both a p (act.Queried of) i j = elim i [ ]
not_both a p act.Told i j = elim i [ ]
not_both a p (act.Delayed of s) i j = elim i [ ]

open_and_closed : (config : Config) (h : List BoardEntry) (e : BoardEntry) (a b : Holder) → IsFitting config h → FitsBoard config h e → In a (held h) → closes_leg e a ≡ true → a.pair ≡ b.pair →
    (In b (held h) × (closes_leg e b ≡ false)) ⊎ In b (legs_of_act (act e)) → ⊥
open_and_closed config h e a b old fits i closes same (inl j) =
    let one : a ≡ b = held_apart config h a b old i j.0 same in
    let wrong : true ≡ false = sym closes ∙ ap (closes_leg e) one ∙ j.1 in cc
open_and_closed config h e a b old fits i closes same (inr j) =
    free_not_held config h b.pair a (leased_free config h e b.pair fits (legs_leased b (act e) j)) i same

undone_and_held : (config : Config) (h : List BoardEntry) (e : BoardEntry) (p : ℕ) (b : Holder) → FitsBoard config h e → In p (undone_pairs (act e)) → b.pair ≡ p →
    (In b (held h) × (closes_leg e b ≡ false)) ⊎ In b (legs_of_act (act e)) → ⊥
undone_and_held config h e p b fits i same (inl j) = free_not_held config h p b (leased_free config h e p fits (undone_leased p (act e) i)) j.0 same
undone_and_held config h e p b fits i same (inr j) = not_both b p (act e) j i

given_case : (config : Config) (h : List BoardEntry) (e : BoardEntry) (p : ℕ) (b : Holder) → IsFitting config h → FitsBoard config h e → In b (held (e ∷ h)) → b.pair ≡ p →
    In p (map pair_of (closed h e)) ⊎ In p (undone_pairs (act e)) → ⊥
given_case config h e p b old fits j same (inl i) =
    let a = mapped pair_of (closed h e) i in
    let was = closed_held h e a.from a.is_in in
    open_and_closed config h e a.from b old fits was.0 was.1 (a.makes ∙ sym same) (held_split h e b j)
given_case config h e p b old fits j same (inr i) = undone_and_held config h e p b fits i same (held_split h e b j)

-- a pair that was given back has no holder
pub given_not_held : (config : Config) (h : List BoardEntry) (e : BoardEntry) (p : ℕ) → IsFitting config h → FitsBoard config h e → In p (given_by h e) →
    In p (map (λ (leg : Holder). leg.pair) (held (e ∷ h))) → ⊥
given_not_held config h e p old fits i j =
    let b = mapped pair_of (held (e ∷ h)) j in
    given_case config h e p b.from old fits b.is_in b.makes (in_append (map pair_of (closed h e)) (undone_pairs (act e)) i)

lease_splits : (p : ℕ) (x : Act) → In p (leased_by_act x) → In p (map pair_of (legs_of_act x)) ⊎ In p (undone_pairs x)
lease_splits p (act.Offered o) i = inl i
lease_splits p (act.Undone code leases draws) i = inr i
lease_splits p act.Repeated i = elim i [ ]
lease_splits p act.OutOfMemory i = elim i [ ]
lease_splits p (act.Failed code) i = elim i [ ]
lease_splits p (act.Answered x) i = elim i [ ]
lease_splits p (act.Deleted of) i = elim i [ ]
lease_splits p (act.Queried of) i = elim i [ ]
lease_splits p act.Told i = elim i [ ]
lease_splits p (act.Delayed of s) i = elim i [ ]

abbrev held_pairs : List BoardEntry → List ℕ
held_pairs h = map pair_of (held h)

now_held : (h : List BoardEntry) (e : BoardEntry) (p : ℕ) → In p (map pair_of (legs_of_act (act e))) ⊎ In p (undone_pairs (act e)) → In p (held_pairs (e ∷ h) ++ given_by h e)
now_held h e p (inl i) =
    let m = mapped pair_of (legs_of_act (act e)) i in
    in_left (held_pairs (e ∷ h)) (given_by h e)
    (subst (λ q. In q (held_pairs (e ∷ h))) m.makes
    (maps pair_of (held (e ∷ h)) (in_right (filter (λ leg. not (closes_leg e leg)) (held h)) (legs_of_act (act e)) m.is_in)))
now_held h e p (inr i) = in_right (held_pairs (e ∷ h)) (given_by h e) (in_right (map pair_of (closed h e)) (undone_pairs (act e)) i)

still_held : (h : List BoardEntry) (e : BoardEntry) (a : Holder) → In a (held h) → (b : Bool) → closes_leg e a ≡ b → In a.pair (held_pairs (e ∷ h) ++ given_by h e)
still_held h e a i true closes =
    let at = closes_held h e a i closes in
    in_right (held_pairs (e ∷ h)) (given_by h e)
    (in_left (map pair_of (closed h e)) (undone_pairs (act e)) (maps pair_of (closed h e) (spreads (closed_of h e) (calls_in e) at.is_in at.closes)))
still_held h e a i false open_ = in_left (held_pairs (e ∷ h)) (given_by h e) (maps pair_of (held (e ∷ h)) (held_stays h e a i open_))

then_case : (h : List BoardEntry) (e : BoardEntry) (p : ℕ) → In p (leased_by_act (act e)) ⊎ In p (held_pairs h) → In p (held_pairs (e ∷ h) ++ given_by h e)
then_case h e p (inl i) = now_held h e p (lease_splits p (act e) i)
then_case h e p (inr i) =
    let m = mapped pair_of (held h) i in
    subst (λ q. In q (held_pairs (e ∷ h) ++ given_by h e)) m.makes (still_held h e m.from m.is_in (closes_leg e m.from) refl)

was_held : (h : List BoardEntry) (e : BoardEntry) (a : Holder) → (In a (held h) × (closes_leg e a ≡ false)) ⊎ In a (legs_of_act (act e)) → In a.pair (leased_by_act (act e) ++ held_pairs h)
was_held h e a (inl i) = in_right (leased_by_act (act e)) (held_pairs h) (maps pair_of (held h) i.0)
was_held h e a (inr i) = in_left (leased_by_act (act e)) (held_pairs h) (legs_leased a (act e) i)

was_given : (h : List BoardEntry) (e : BoardEntry) (p : ℕ) → In p (map pair_of (closed h e)) ⊎ In p (undone_pairs (act e)) → In p (leased_by_act (act e) ++ held_pairs h)
was_given h e p (inl i) =
    let m = mapped pair_of (closed h e) i in
    in_right (leased_by_act (act e)) (held_pairs h)
    (subst (λ q. In q (held_pairs h)) m.makes (maps pair_of (held h) (closed_held h e m.from m.is_in).0))
was_given h e p (inr i) = in_left (leased_by_act (act e)) (held_pairs h) (undone_leased p (act e) i)

first_case : (h : List BoardEntry) (e : BoardEntry) (p : ℕ) → In p (held_pairs (e ∷ h)) ⊎ In p (given_by h e) → In p (leased_by_act (act e) ++ held_pairs h)
first_case h e p (inl i) =
    let m = mapped pair_of (held (e ∷ h)) i in
    subst (λ q. In q (leased_by_act (act e) ++ held_pairs h)) m.makes (was_held h e m.from (held_split h e m.from m.is_in))
first_case h e p (inr i) = was_given h e p (in_append (map pair_of (closed h e)) (undone_pairs (act e)) i)

same_case : (xs ys : List ℕ) (p : ℕ) → (In p xs → In p ys) → (In p ys → In p xs) → (b : Bool) → has xs p ≡ b → has xs p ≡ has ys p
same_case xs ys p f g true is = is ∙ sym (it_has p ys (f (has_it p xs is)))
same_case xs ys p f g false is = is ∙ sym (is_out p ys (λ i. let h : has xs p ≡ true = it_has p xs (g i) in let wrong : true ≡ false = sym h ∙ is in cc))

-- a pair is held now or was given back just where it was held before or was leased
held_or_given : (h : List BoardEntry) (e : BoardEntry) (p : ℕ) → (has (held_pairs (e ∷ h)) p || has (given_by h e) p) ≡ (has (leased_by_act (act e)) p || has (held_pairs h) p)
held_or_given h e p =
    sym (has_append (held_pairs (e ∷ h)) (given_by h e) p)
    ∙ same_case (held_pairs (e ∷ h) ++ given_by h e) (leased_by_act (act e) ++ held_pairs h) p
    (λ i. first_case h e p (in_append (held_pairs (e ∷ h)) (given_by h e) i)) (λ i. then_case h e p (in_append (leased_by_act (act e)) (held_pairs h) i))
    (has (held_pairs (e ∷ h) ++ given_by h e) p) refl
    ∙ has_append (leased_by_act (act e)) (held_pairs h) p

-- The free pairs.

neither : (a b : Bool) → not (a || b) ≡ (not b && not a)
neither true true = refl
neither true false = refl
neither false true = refl
neither false false = refl

abbrev not_leased : BoardEntry → ℕ → Bool
not_leased e p = not (has (leased_by_act (act e)) p)

never_after : (config : Config) (h : List BoardEntry) (e : BoardEntry) →
    filter (λ p. not (has (all_leased (e ∷ h)) p)) (numbers 0 (pair_count config)) ≡ filter (not_leased e) (filter (λ p. not (has (all_leased h) p)) (numbers 0 (pair_count config)))
never_after config h e =
    filter_alike (λ p. not (has (all_leased (e ∷ h)) p)) (λ p. not (has (all_leased h) p) && not_leased e p) (numbers 0 (pair_count config))
    (λ p i. ap not (has_append (leased_by_act (act e)) (all_leased h) p) ∙ neither (has (leased_by_act (act e)) p) (has (all_leased h) p))
    ∙ sym (filter_both (not_leased e) (λ p. not (has (all_leased h) p)) (numbers 0 (pair_count config)))

abbrev back : List BoardEntry → List ℕ
back h = filter (λ p. not (has (held_pairs h) p)) (last_once (returned h))

returned_is : (h : List BoardEntry) (e : BoardEntry) → returned (e ∷ h) ≡ returned h ++ given_by h e
returned_is h e = append_assoc (returned h) (map pair_of (closed h e)) (undone_pairs (act e))

back_after : (config : Config) (h : List BoardEntry) (e : BoardEntry) → IsFitting config h → FitsBoard config h e → back (e ∷ h) ≡ filter (not_leased e) (back h) ++ given_by h e
back_after config h e old fits =
    let open_ = λ (p : ℕ). not (has (held_pairs (e ∷ h)) p) in
    let out = λ (p : ℕ). not (has (given_by h e) p) in
    let before = last_once (returned h) in
    ap (λ (ps : List ℕ). filter open_ (last_once ps)) (returned_is h e)
    ∙ ap (filter open_) (last_append (returned h) (given_by h e))
    ∙ ap (λ (ps : List ℕ). filter open_ (filter out before ++ ps)) (last_same (given_by h e) (given_once config h e old fits))
    ∙ filter-append open_ (filter out before) (given_by h e)
    ∙ ap (λ (ps : List ℕ). filter open_ (filter out before) ++ ps)
    (filter_whole open_ (given_by h e) (λ p i. ap not (is_out p (held_pairs (e ∷ h)) (given_not_held config h e p old fits i))))
    ∙ ap (λ (ps : List ℕ). ps ++ given_by h e)
    (filter_both open_ out before
    ∙ filter_alike (λ p. out p && open_ p) (λ p. not (has (held_pairs h) p) && not_leased e p) before
    (λ p i. sym (neither (has (held_pairs (e ∷ h)) p) (has (given_by h e) p)) ∙ ap not (held_or_given h e p) ∙ neither (has (leased_by_act (act e)) p) (has (held_pairs h) p))
    ∙ sym (filter_both (not_leased e) (λ p. not (has (held_pairs h) p)) before))

-- the free pairs after an entry: those that it did not lease, then those that it gave back
pub free_without : (config : Config) (h : List BoardEntry) (e : BoardEntry) → IsFitting config h → FitsBoard config h e →
    free config (e ∷ h) ≡ filter (λ p. not (has (leased_by_act (act e)) p)) (free config h) ++ given_by h e
free_without config h e old fits =
    let never = filter (λ p. not (has (all_leased h) p)) (numbers 0 (pair_count config)) in
    ap (λ (ps : List ℕ). ps ++ back (e ∷ h)) (never_after config h e)
    ∙ ap (λ (ps : List ℕ). filter (not_leased e) never ++ ps) (back_after config h e old fits)
    ∙ sym (append_assoc (filter (not_leased e) never) (filter (not_leased e) (back h)) (given_by h e))
    ∙ ap (λ (ps : List ℕ). ps ++ given_by h e) (sym (filter-append (not_leased e) never (back h)))

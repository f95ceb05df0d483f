-- A pair of the range that is not held is free.
use Rattle.std.proofs.Common.{◌≡◌, sym, ap, subst, ℕ, ◌<◌, ◌⊎◌, inl, inr, List, [], ◌∷◌, ◌++◌, map, filter, Bool, true, false, cond, not, refl, arith}
use Rattle.relay_outside.specs.declared.settings.Config.{Config}
use Rattle.histories.specs.Words.{In, here, there, has, last_once, numbers}
use Rattle.histories.proofs.Lists.{in_left, in_right, in_append, keeps, maps, mapped, spreads, has_it}
use Rattle.port_pool.specs.Ports.{pair_count}
use Rattle.port_pool.specs.declared.holder.Holder.{Holder}
use Rattle.call_board.specs.Acts as act
use Rattle.call_board.specs.Acts.{Offer, Act, BoardEntry, act}
use Rattle.call_board.specs.Pairs.{held, legs_of_act, closes_leg, closed_of, closed, calls_in, all_leased, leased_by_act, returned, undone_pairs, free}
use Rattle.call_board.specs.Fits.{IsFitting}
use Rattle.call_board.proofs.Once.{numbers_in}
use Rattle.call_board.proofs.Held.{held_stays, closes_held}
use Rattle.call_board.proofs.Free.{free_below, free_not_held}

abbrev pair_of : Holder → ℕ
pair_of leg = leg.pair

-- a pair that was leased is held, or was returned
abbrev HeldOrReturned : List BoardEntry → ℕ → Type 0
HeldOrReturned h p = In p (map pair_of (held h)) ⊎ In p (returned h)

returned_stays : (h : List BoardEntry) (e : BoardEntry) (p : ℕ) → In p (returned h) → In p (returned (e ∷ h))
returned_stays h e p i = in_left (returned h ++ map pair_of (closed h e)) (undone_pairs (act e)) (in_left (returned h) (map pair_of (closed h e)) i)

closed_returned : (h : List BoardEntry) (e : BoardEntry) (a : Holder) → In a (held h) → closes_leg e a ≡ true → In a.pair (returned (e ∷ h))
closed_returned h e a i closes =
    let at = closes_held h e a i closes in
    in_left (returned h ++ map pair_of (closed h e)) (undone_pairs (act e))
    (in_right (returned h) (map pair_of (closed h e)) (maps pair_of (closed h e) (spreads (closed_of h e) (calls_in e) at.is_in at.closes)))

leg_next : (h : List BoardEntry) (e : BoardEntry) (a : Holder) → In a (held h) → (b : Bool) → closes_leg e a ≡ b → HeldOrReturned (e ∷ h) a.pair
leg_next h e a i true is = inr (closed_returned h e a i is)
leg_next h e a i false is = inl (maps pair_of (held (e ∷ h)) (held_stays h e a i is))

pair_next : (h : List BoardEntry) (e : BoardEntry) (p : ℕ) → HeldOrReturned h p → HeldOrReturned (e ∷ h) p
pair_next h e p (inl i) = let m = mapped pair_of (held h) i in subst (HeldOrReturned (e ∷ h)) m.makes (leg_next h e m.from m.is_in (closes_leg e m.from) refl)
pair_next h e p (inr i) = inr (returned_stays h e p i)

lease_now : (h : List BoardEntry) (e : BoardEntry) (p : ℕ) (x : Act) → act e ≡ x → In p (leased_by_act x) → In p (map pair_of (legs_of_act (act e))) ⊎ In p (undone_pairs (act e))
lease_now h e p (act.Offered o) is i = inl (subst (λ (y : Act). In p (map pair_of (legs_of_act y))) (sym is) i)
lease_now h e p (act.Undone code leases draws) is i = inr (subst (λ (y : Act). In p (undone_pairs y)) (sym is) i)
lease_now h e p act.Repeated is i = elim i [ ]
lease_now h e p act.OutOfMemory is i = elim i [ ]
lease_now h e p (act.Failed code) is i = elim i [ ]
lease_now h e p (act.Answered x) is i = elim i [ ]
lease_now h e p (act.Deleted of) is i = elim i [ ]
lease_now h e p (act.Queried of) is i = elim i [ ]
lease_now h e p act.Told is i = elim i [ ]
lease_now h e p (act.Delayed of s) is i = elim i [ ]

leg_now : (h : List BoardEntry) (e : BoardEntry) (p : ℕ) → In p (map pair_of (legs_of_act (act e))) ⊎ In p (undone_pairs (act e)) → HeldOrReturned (e ∷ h) p
leg_now h e p (inl i) =
    let m = mapped pair_of (legs_of_act (act e)) i in
    inl (subst (λ q. In q (map pair_of (held (e ∷ h)))) m.makes
    (maps pair_of (held (e ∷ h)) (in_right (filter (λ leg. not (closes_leg e leg)) (held h)) (legs_of_act (act e)) m.is_in)))
leg_now h e p (inr i) = inr (in_right (returned h ++ map pair_of (closed h e)) (undone_pairs (act e)) i)

leased_case : (h : List BoardEntry) (e : BoardEntry) (p : ℕ) → (In p (all_leased h) → HeldOrReturned h p) → In p (leased_by_act (act e)) ⊎ In p (all_leased h) → HeldOrReturned (e ∷ h) p
leased_case h e p rest (inl i) = leg_now h e p (lease_now h e p (act e) refl i)
leased_case h e p rest (inr i) = pair_next h e p (rest i)

pub leased_held_or_returned : (h : List BoardEntry) (p : ℕ) → In p (all_leased h) → In p (map (λ (a : Holder). a.pair) (held h)) ⊎ In p (returned h)
leased_held_or_returned [] p i = elim i [ ]
leased_held_or_returned (e ∷ h) p i = leased_case h e p (leased_held_or_returned h p) (in_append (leased_by_act (act e)) (all_leased h) i)

last_keeps : (n x : ℕ) (xs : List ℕ) → (In n xs → In n (last_once xs)) → In n (x ∷ xs) → (b : Bool) → has xs x ≡ b → In n (cond b (last_once xs) (x ∷ last_once xs))
last_keeps n x xs rest (here e) true is = rest (subst (λ m. In m xs) (sym e) (has_it x xs is))
last_keeps n x xs rest (there i) true is = rest i
last_keeps n x xs rest (here e) false is = here e
last_keeps n x xs rest (there i) false is = there (rest i)

pub in_last : (n : ℕ) (xs : List ℕ) → In n xs → In n (last_once xs)
in_last n [] i = elim i [ ]
in_last n (x ∷ xs) i = last_keeps n x xs (in_last n xs) i (has xs x) refl

out_case : (n : ℕ) (xs : List ℕ) → (In n xs → ⊥) → (b : Bool) → has xs n ≡ b → not b ≡ true
out_case n xs out true is = absurd (out (has_it n xs is))
out_case n xs out false is = refl

abbrev never_leased : Config → List BoardEntry → List ℕ
never_leased config h = filter (λ p. not (has (all_leased h) p)) (numbers 0 (pair_count config))

abbrev given_back : List BoardEntry → List ℕ
given_back h = filter (λ p. not (has (map pair_of (held h)) p)) (last_once (returned h))

returned_free : (config : Config) (h : List BoardEntry) (p : ℕ) → (In p (map pair_of (held h)) → ⊥) → HeldOrReturned h p → In p (free config h)
returned_free config h p out (inl i) = absurd (out i)
returned_free config h p out (inr i) =
    in_right (never_leased config h) (given_back h)
    (keeps (λ q. not (has (map pair_of (held h)) q)) (last_once (returned h)) (in_last p (returned h) i) (out_case p (map pair_of (held h)) out (has (map pair_of (held h)) p) refl))

unheld_case : (config : Config) (h : List BoardEntry) (p : ℕ) → p < pair_count config → (In p (map pair_of (held h)) → ⊥) → (b : Bool) → has (all_leased h) p ≡ b → In p (free config h)
unheld_case config h p below out true is = returned_free config h p out (leased_held_or_returned h p (has_it p (all_leased h) is))
unheld_case config h p below out false is =
    in_left (never_leased config h) (given_back h)
    (keeps (λ q. not (has (all_leased h) q)) (numbers 0 (pair_count config)) (numbers_in p 0 (pair_count config) (omega arith) (omega arith)) (ap not is))

-- a pair of the range that no leg holds is free
pub unheld_free : (config : Config) (h : List BoardEntry) (p : ℕ) → p < pair_count config → (In p (map (λ (a : Holder). a.pair) (held h)) → ⊥) → In p (free config h)
unheld_free config h p below out = unheld_case config h p below out (has (all_leased h) p) refl

-- where the same legs hold pairs, the same pairs are free
pub same_held_free : (config : Config) (g h : List BoardEntry) (p : ℕ) → IsFitting config g → held g ≡ held h → In p (free config g) → In p (free config h)
same_held_free config g h p fits same i =
    unheld_free config h p (free_below config g p fits i)
    (λ j. let m = mapped pair_of (held g) (subst (λ legs. In p (map pair_of legs)) (sym same) j) in free_not_held config g p m.from i m.is_in m.makes)

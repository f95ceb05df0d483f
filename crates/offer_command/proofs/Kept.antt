-- The pairs that are held when an offer has come: those that were held and the new ones, without those of the dropped legs.
use Rattle.std.proofs.Common.{◌≡◌, ◌∙◌, refl, sym, ap, subst, ℕ, ◌⊎◌, inl, inr, ◌++◌, Bool, true, false, cond, not, ◌==◌, List, [], ◌∷◌}
use Rattle.std.specs.Prelude.{◌&&◌, ◌||◌}
use Rattle.relay_outside.specs.declared.settings.Config.{Config}
use Rattle.histories.specs.Words.{In, here, there, has}
use Rattle.histories.proofs.Lists.{in_append, in_left, in_right, mapped, maps, has_it, it_has}
use Rattle.port_pool.specs.declared.holder.Holder.{Holder}
use Rattle.call_board.specs.Acts as act
use Rattle.call_board.specs.Acts.{Act, Call, Offer, BoardEntry}
use Rattle.call_board.specs.Pairs.{held, closes_leg, closed_of, calls_in, signalled_by, legs_of_act}
use Rattle.call_board.specs.Fits.{IsFitting, FitsBoard}
use Rattle.call_board.proofs.Free.{free_not_held, held_apart, new_leg_free}
use Rattle.call_board.proofs.Held.{held_split, held_stays, held_new, closed_of_held, closes_held}
use Rattle.media_ports.specs.OpenPorts.{HasBoth}
use Rattle.board_turns.specs.Closings.{pairs_left}
use Rattle.board_turns.specs.CallEnds.{leg_pairs}
use Rattle.board_turns.proofs.Lefts.{has_left}
use Rattle.offer_command.specs.Offers.{dropped_legs}
use Rattle.offer_command.proofs.Dropped.{closed_dropped, ends_none}

either_case : (a e b : Bool) → cond e true (a || b) ≡ (cond e true a || b)
either_case a true b = refl
either_case a false b = refl

has_either : (xs ys : List ℕ) (q : ℕ) → has (xs ++ ys) q ≡ (has xs q || has ys q)
has_either [] ys q = refl
has_either (x ∷ xs) ys q = ap (λ (b : Bool). cond (x == q) true b) (has_either xs ys q) ∙ either_case (has xs q) (x == q) (has ys q)

-- the new pairs and those that were held
pub both_held : (pairs more : List ℕ) → HasBoth pairs more (more ++ pairs)
both_held pairs more q = has_either more pairs q

bool_same : (a b : Bool) → (a ≡ true → b ≡ true) → (b ≡ true → a ≡ true) → a ≡ b
bool_same true b to back = sym (to refl)
bool_same false true to back = absurd (let e = back refl in cc)
bool_same false false to back = refl

split_and : (a b : Bool) → (not a && b) ≡ true → (a ≡ false) × (b ≡ true)
split_and true b e = absurd (let f = e in cc)
split_and false b e = (refl, e)

make_and : (a b : Bool) → (a ≡ true → ⊥) → b ≡ true → (not a && b) ≡ true
make_and true b out is = absurd (out refl)
make_and false b out is = is

module _ (config : Config) (h : List BoardEntry) (e : BoardEntry) (o : Offer) (good : IsFitting config h) (fits : FitsBoard config h e) (acts : act.act e ≡ act.Offered o) where
  -- a dropped leg was held, and the entry closes it
  dropped_closed : (a : Holder) → In a (dropped_legs h o) → In a (held h) × (a.call ≡ o.of.number) × (closes_leg e a ≡ true)
  dropped_closed a i = closed_of_held h e o.of a (subst (λ (ls : List Holder). In a ls) (sym (closed_dropped h e o acts)) i)

  only_call : (c : Call) → In c (calls_in e) → c ≡ o.of
  only_call c i = one (subst (λ (cs : List Call). In c cs) calls i)
    where
      calls : calls_in e ≡ o.of ∷ []
      calls = ap (λ (cs : List Call). signalled_by (act.act e) ++ cs) (ends_none e o acts) ∙ ap (λ (a : Act). signalled_by a ++ []) acts

      one : In c (o.of ∷ []) → c ≡ o.of
      one (here q) = q
      one (there j) = elim j [ ]

  closed_is_dropped : (a : Holder) → In a (held h) → closes_leg e a ≡ true → In a (dropped_legs h o)
  closed_is_dropped a i closes =
      let c = closes_held h e a i closes in
      subst (λ (ls : List Holder). In a ls) (closed_dropped h e o acts) (subst (λ (d : Call). In a (closed_of h e d)) (only_call c.of c.is_in) c.closes)

  new_pair : (q : ℕ) → has (leg_pairs o.legs) q ≡ true → has (leg_pairs (held (e ∷ h))) q ≡ true
  new_pair q is =
      let m = mapped (λ (a : Holder). a.pair) o.legs (has_it q (leg_pairs o.legs) is) in
      it_has q (leg_pairs (held (e ∷ h)))
      (subst (λ (p : ℕ). In p (leg_pairs (held (e ∷ h)))) m.makes (maps (λ (a : Holder). a.pair) (held (e ∷ h)) (held_new h e o m.from acts m.is_in)))

  old_case : (q : ℕ) → has (leg_pairs (dropped_legs h o)) q ≡ false → (a : Holder) → In a (held h) → a.pair ≡ q → (b : Bool) → closes_leg e a ≡ b → has (leg_pairs (held (e ∷ h))) q ≡ true
  old_case q out a i is true closes =
      let among : has (leg_pairs (dropped_legs h o)) q ≡ true =
      it_has q (leg_pairs (dropped_legs h o)) (subst (λ (p : ℕ). In p (leg_pairs (dropped_legs h o))) is (maps (λ (x : Holder). x.pair) (dropped_legs h o) (closed_is_dropped a i closes))) in
      absurd (let f = sym among ∙ out in cc)
  old_case q out a i is false closes =
      it_has q (leg_pairs (held (e ∷ h)))
      (subst (λ (p : ℕ). In p (leg_pairs (held (e ∷ h)))) is (maps (λ (x : Holder). x.pair) (held (e ∷ h)) (held_stays h e a i closes)))

  to_held : (q : ℕ) → has (leg_pairs (dropped_legs h o)) q ≡ false → In q (leg_pairs o.legs) ⊎ In q (leg_pairs (held h)) → has (leg_pairs (held (e ∷ h))) q ≡ true
  to_held q out (inl i) = new_pair q (it_has q (leg_pairs o.legs) i)
  to_held q out (inr i) =
      let m = mapped (λ (a : Holder). a.pair) (held h) i in old_case q out m.from m.is_in m.makes (closes_leg e m.from) refl

  -- a held pair is that of no dropped leg
  stays_undropped : (q : ℕ) (a : Holder) → a.pair ≡ q → (In a (held h) × (closes_leg e a ≡ false)) ⊎ In a (legs_of_act (act.act e)) → has (leg_pairs (dropped_legs h o)) q ≡ true → ⊥
  stays_undropped q a is (inl stays) among =
      let m = mapped (λ (x : Holder). x.pair) (dropped_legs h o) (has_it q (leg_pairs (dropped_legs h o)) among) in
      let d = dropped_closed m.from m.is_in in
      let same : m.from ≡ a = held_apart config h m.from a good d.0 stays.0 (m.makes ∙ sym is) in
      let f = sym (ap (closes_leg e) same ∙ stays.1) ∙ d.2 in cc
  stays_undropped q a is (inr new) among =
      let m = mapped (λ (x : Holder). x.pair) (dropped_legs h o) (has_it q (leg_pairs (dropped_legs h o)) among) in
      let d = dropped_closed m.from m.is_in in
      let free = new_leg_free config h e o a fits acts (subst (λ (x : Act). In a (legs_of_act x)) acts new) in
      free_not_held config h a.pair m.from free d.0 (m.makes ∙ sym is)

  in_case : (q : ℕ) (a : Holder) → a.pair ≡ q → (In a (held h) × (closes_leg e a ≡ false)) ⊎ In a (legs_of_act (act.act e)) → has (leg_pairs o.legs ++ leg_pairs (held h)) q ≡ true
  in_case q a is (inl stays) =
      it_has q (leg_pairs o.legs ++ leg_pairs (held h)) (in_right (leg_pairs o.legs) (leg_pairs (held h)) (subst (λ (p : ℕ). In p (leg_pairs (held h))) is (maps (λ (x : Holder). x.pair) (held h) stays.0)))
  in_case q a is (inr new) =
      it_has q (leg_pairs o.legs ++ leg_pairs (held h)) (in_left (leg_pairs o.legs) (leg_pairs (held h))
      (subst (λ (p : ℕ). In p (leg_pairs o.legs)) is (maps (λ (x : Holder). x.pair) o.legs (subst (λ (x : Act). In a (legs_of_act x)) acts new))))

  from_held : (q : ℕ) → has (leg_pairs (held (e ∷ h))) q ≡ true → (not (has (leg_pairs (dropped_legs h o)) q) && has (leg_pairs o.legs ++ leg_pairs (held h)) q) ≡ true
  from_held q is =
      let m = mapped (λ (x : Holder). x.pair) (held (e ∷ h)) (has_it q (leg_pairs (held (e ∷ h))) is) in
      let s = held_split h e m.from m.is_in in
      make_and (has (leg_pairs (dropped_legs h o)) q) (has (leg_pairs o.legs ++ leg_pairs (held h)) q) (stays_undropped q m.from m.makes s) (in_case q m.from m.makes s)

  -- what is held then
  pub held_after : (q : ℕ) → has (pairs_left (leg_pairs (dropped_legs h o)) (leg_pairs o.legs ++ leg_pairs (held h))) q ≡ has (leg_pairs (held (e ∷ h))) q
  held_after q =
      has_left (leg_pairs (dropped_legs h o)) (leg_pairs o.legs ++ leg_pairs (held h)) q
      ∙ bool_same (not (has (leg_pairs (dropped_legs h o)) q) && has (leg_pairs o.legs ++ leg_pairs (held h)) q) (has (leg_pairs (held (e ∷ h))) q)
      (λ is. let s = split_and (has (leg_pairs (dropped_legs h o)) q) (has (leg_pairs o.legs ++ leg_pairs (held h)) q) is in
      to_held q s.0 (in_append (leg_pairs o.legs) (leg_pairs (held h)) (has_it q (leg_pairs o.legs ++ leg_pairs (held h)) s.1)))
      (from_held q)

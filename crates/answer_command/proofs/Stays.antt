-- Which pairs are left when legs were closed: those of the legs that stay.
use Rattle.std.proofs.Common.{◌≡◌, ◌∙◌, refl, sym, ap, subst, ℕ, Bool, true, false, not, cond, ◌==◌, List, [], ◌∷◌, filter}
use Rattle.std.specs.Prelude.{◌&&◌}
use Rattle.histories.specs.Words.{In, here, there, has}
use Rattle.histories.proofs.Lists.{equal_if, has_it}
use Rattle.port_pool.specs.declared.holder.Holder.{Holder}
use Rattle.call_board.specs.Pairs.{Once}
use Rattle.board_turns.specs.Closings.{pairs_left}
use Rattle.board_turns.specs.CallEnds.{leg_pairs}
use Rattle.board_turns.proofs.Lefts.{has_left}

is_false : (b : Bool) → (b ≡ true → ⊥) → b ≡ false
is_false true never = absurd (never refl)
is_false false never = refl

within_case : (p : Holder → Bool) (leg : Holder) (legs : List Holder) (q : ℕ) → (In q (leg_pairs (filter p legs)) → In q (leg_pairs legs))
    → (t : Bool) → In q (leg_pairs (cond t (leg ∷ filter p legs) (filter p legs))) → In q (leg_pairs (leg ∷ legs))
within_case p leg legs q rest true (here e) = here e
within_case p leg legs q rest true (there i) = there (rest i)
within_case p leg legs q rest false i = there (rest i)

within : (p : Holder → Bool) (legs : List Holder) (q : ℕ) → In q (leg_pairs (filter p legs)) → In q (leg_pairs legs)
within p [] q i = i
within p (leg ∷ legs) q i = within_case p leg legs q (within p legs q) (p leg) i

-- a pair that no leg has is the pair of none of some
not_among : (p : Holder → Bool) (legs : List Holder) (q : ℕ) → (In q (leg_pairs legs) → ⊥) → has (leg_pairs (filter p legs)) q ≡ false
not_among p legs q never =
    is_false (has (leg_pairs (filter p legs)) q) (λ t. never (within p legs q (has_it q (leg_pairs (filter p legs)) t)))

-- one leg more, which is closed or not, and whose pair is this one or not
stay_case : (p : Holder → Bool) (leg : Holder) (legs : List Holder) (q : ℕ) → (In leg.pair (leg_pairs legs) → ⊥)
    → has (leg_pairs (filter (λ a. not (p a)) legs)) q ≡ (not (has (leg_pairs (filter p legs)) q) && has (leg_pairs legs) q)
    → (closes same : Bool) → (leg.pair == q) ≡ same
    → has (leg_pairs (cond (not closes) (leg ∷ filter (λ a. not (p a)) legs) (filter (λ a. not (p a)) legs))) q
    ≡ (not (has (leg_pairs (cond closes (leg ∷ filter p legs) (filter p legs))) q) && cond same true (has (leg_pairs legs) q))
stay_case p leg legs q alone rest true true s =
    let gone = subst (λ (n : ℕ). In n (leg_pairs legs) → ⊥) (equal_if leg.pair q s) alone in
    not_among (λ a. not (p a)) legs q gone
    ∙ sym (ap (λ (b : Bool). not (cond b true (has (leg_pairs (filter p legs)) q)) && true) s)
stay_case p leg legs q alone rest true false s =
    rest ∙ sym (ap (λ (b : Bool). not (cond b true (has (leg_pairs (filter p legs)) q)) && has (leg_pairs legs) q) s)
stay_case p leg legs q alone rest false true s =
    let gone = subst (λ (n : ℕ). In n (leg_pairs legs) → ⊥) (equal_if leg.pair q s) alone in
    ap (λ (b : Bool). cond b true (has (leg_pairs (filter (λ a. not (p a)) legs)) q)) s
    ∙ sym (ap (λ (b : Bool). not b && true) (not_among p legs q gone))
stay_case p leg legs q alone rest false false s =
    ap (λ (b : Bool). cond b true (has (leg_pairs (filter (λ a. not (p a)) legs)) q)) s ∙ rest

stay_has : (p : Holder → Bool) (legs : List Holder) (q : ℕ) → Once (leg_pairs legs)
    → has (leg_pairs (filter (λ a. not (p a)) legs)) q ≡ (not (has (leg_pairs (filter p legs)) q) && has (leg_pairs legs) q)
stay_has p [] q once = refl
stay_has p (leg ∷ legs) q once = stay_case p leg legs q once.0 (stay_has p legs q once.1) (p leg) (leg.pair == q) refl

-- the pairs that are left are those of the legs that stay
pub stay_left : (p : Holder → Bool) (legs : List Holder) (q : ℕ) → Once (leg_pairs legs)
    → has (pairs_left (leg_pairs (filter p legs)) (leg_pairs legs)) q ≡ has (leg_pairs (filter (λ a. not (p a)) legs)) q
stay_left p legs q once = has_left (leg_pairs (filter p legs)) (leg_pairs legs) q ∙ sym (stay_has p legs q once)

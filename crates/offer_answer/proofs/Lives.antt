-- The life of a section: what stands in it was drawn since the section got the pairs that it has.
use Rattle.std.proofs.Common.{◌≡◌, ℕ, Bool, true, false, List, [], ◌∷◌, ◌++◌, inl, inr, refl, sym, subst}
use Rattle.histories.specs.Words.{In}
use Rattle.port_pool.specs.declared.holder.Holder.{Holder}
use Rattle.port_pool.specs.Signals.{NewKey}
use Rattle.offer_answer.specs.Rounds.{Round, Offered, Answered, OfferAsk, drawn_for}
use Rattle.offer_answer.specs.Sections.{leases, takes_pairs_away, section_life, has_pairs}
use Rattle.offer_answer.specs.Laws.{IsDrawnInLife}
use Rattle.offer_answer.proofs.Members.{in-append, in-right, in-left}

-- a life goes on by one round
pub data LifeOf (round : Round) (rounds : List Round) (section : ℕ) : Type 0 where
  begins : leases round section ≡ true → section_life (round ∷ rounds) section ≡ round ∷ [] → LifeOf round rounds section
  goes_on : leases round section ≡ false → has_pairs rounds section ≡ true → section_life (round ∷ rounds) section ≡ round ∷ section_life rounds section → LifeOf round rounds section
  is_over : section_life (round ∷ rounds) section ≡ [] → LifeOf round rounds section

pub life-step : (round : Round) (rounds : List Round) (section : ℕ) → LifeOf round rounds section
life-step round rounds section = go (leases round section) (section_life rounds section) refl refl
  where
    on : (former : Round) (before : List Round) (b : Bool) → leases round section ≡ false → section_life rounds section ≡ former ∷ before →
        takes_pairs_away round (former ∷ before) section ≡ b → LifeOf round rounds section
    on former before true l e t = is_over (rw (l, e, t) refl)
    on former before false l e t = goes_on l (rw e refl) (rw (l, e, t) refl)

    go : (b : Bool) (before : List Round) → leases round section ≡ b → section_life rounds section ≡ before → LifeOf round rounds section
    go true before l e = begins l (rw l refl)
    go false [] l e = is_over (rw (l, e) refl)
    go false (former ∷ before) l e = on former before (takes_pairs_away round (former ∷ before) section) l e refl

-- the last round drew it
by_last : (ask : OfferAsk) (legs : List Holder) (keys : List NewKey) (rounds : List Round) (section : ℕ) (key : NewKey) →
    In key keys → has_pairs (Offered ask legs keys ∷ rounds) section ≡ true → IsDrawnInLife (Offered ask legs keys ∷ rounds) section key
by_last ask legs keys rounds section key i has =
    record { later = []; ask = ask; legs = legs; keys = keys; earlier = rounds; rounds_are = refl; drawn = i; kept = has }

-- an earlier one did, and the section kept its pairs in the last one
by_earlier : (round : Round) (rounds : List Round) (section : ℕ) (key : NewKey) →
    IsDrawnInLife rounds section key → leases round section ≡ false → has_pairs (round ∷ rounds) section ≡ true → IsDrawnInLife (round ∷ rounds) section key
by_earlier round rounds section key d l has = record {
  later = round ∷ d.later;
  ask = d.ask;
  legs = d.legs;
  keys = d.keys;
  earlier = d.earlier;
  rounds_are = rw d.rounds_are refl;
  drawn = d.drawn;
  kept = (subst (λ rs. has_pairs (round ∷ rs) section ≡ true) d.rounds_are has, l, d.kept);
}

drawn-step : (round : Round) (rounds : List Round) (section : ℕ) (key : NewKey) → LifeOf round rounds section →
    (In key (drawn_for (section_life rounds section)) → IsDrawnInLife rounds section key) →
    In key (drawn_for (section_life (round ∷ rounds) section)) → IsDrawnInLife (round ∷ rounds) section key
drawn-step (Answered ask) rounds section key (begins l e) more i = cc
drawn-step (Answered ask) rounds section key (goes_on l had e) more i =
    by_earlier (Answered ask) rounds section key (more (subst (λ rs. In key (drawn_for rs)) e i)) l (rw e refl)
drawn-step (Answered ask) rounds section key (is_over e) more i = elim (subst (λ rs. In key (drawn_for rs)) e i) [ ]
drawn-step (Offered ask legs keys) rounds section key (begins l e) more i =
    elim (in-append keys [] (subst (λ rs. In key (drawn_for rs)) e i)) [
      | inl j ↦ by_last ask legs keys rounds section key j (rw e refl)
      | inr j ↦ elim j [ ]
    ]
drawn-step (Offered ask legs keys) rounds section key (goes_on l had e) more i =
    elim (in-append keys (drawn_for (section_life rounds section)) (subst (λ rs. In key (drawn_for rs)) e i)) [
      | inl j ↦ by_last ask legs keys rounds section key j (rw e refl)
      | inr j ↦ by_earlier (Offered ask legs keys) rounds section key (more j) l (rw e refl)
    ]
drawn-step (Offered ask legs keys) rounds section key (is_over e) more i = elim (subst (λ rs. In key (drawn_for rs)) e i) [ ]

-- what offers of a section's life drew was drawn since it got the pairs that it has
pub drawn_in-life : (rounds : List Round) (section : ℕ) (key : NewKey) → In key (drawn_for (section_life rounds section)) → IsDrawnInLife rounds section key
drawn_in-life [] section key i = elim i [ ]
drawn_in-life (round ∷ rounds) section key i = drawn-step round rounds section key (life-step round rounds section) (drawn_in-life rounds section key) i

drawn-later : (key : NewKey) (later : List Round) (ask : OfferAsk) (legs : List Holder) (keys : List NewKey) (earlier : List Round) →
    In key keys → In key (drawn_for (later ++ Offered ask legs keys ∷ earlier))
drawn-later key [] ask legs keys earlier i = in-left (drawn_for earlier) i
drawn-later key (Offered a l k ∷ later) ask legs keys earlier i = in-right k (drawn-later key later ask legs keys earlier i)
drawn-later key (Answered a ∷ later) ask legs keys earlier i = drawn-later key later ask legs keys earlier i

-- so it is among all that offers of the call drew
pub drawn_for-call : (rounds : List Round) (section : ℕ) (key : NewKey) → IsDrawnInLife rounds section key → In key (drawn_for rounds)
drawn_for-call rounds section key d =
    subst (λ rs. In key (drawn_for rs)) (sym d.rounds_are) (drawn-later key d.later d.ask d.legs d.keys d.earlier d.drawn)

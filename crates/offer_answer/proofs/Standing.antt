-- What a plan drops or rejects is what loses its pairs.
use Rattle.std.proofs.Common.{◌≡◌, ℕ, zero, suc, ◌+◌, ◌<◌, ◌≤◌, Bool, true, false, not, ◌&&◌, ◌==◌, List, [], ◌∷◌, Option, Some, None, refl, sym, ap, ◌∙◌, subst, length, filter, cond, slice_get, option_map, if◌then◌else◌, not-suc-le-zero, zero-le, lt_irrefl, arith}
use Rattle.std.proofs.lemmas.List.{length-map}
use Rattle.std.proofs.lemmas.Option.{slice_get-map}
use Rattle.histories.specs.Words.{numbers, has}
use Rattle.port_pool.specs.declared.signal.SectionSignal.{SectionSignal}
use Rattle.port_pool.specs.declared.signal.SectionSignal.TheVariants.{Commit, Reject}
use Rattle.port_pool.specs.declared.holder.Holder.{Holder}
use Rattle.port_pool.specs.declared.holder.Side.TheVariants.{A, B}
use Rattle.port_pool.specs.Signals.{NewKey, rejects, is_rejected}
use Rattle.offer_answer.specs.Rounds.{Round, Offered, Answered, OfferAsk, AnswerAsk}
use Rattle.offer_answer.specs.Sides.{MadeOffer, is_begun, last_offer, offered_sdp, has_answer}
use Rattle.offer_answer.specs.Sections.{most_sections, section_count, all_sections, is_active_in, leases, section_life, has_pairs}
use Rattle.offer_answer.specs.Demands.{is_dropped}
use Rattle.offer_answer.specs.Signals.{is_rejected_by, side_signal, section_signal, answer_signal}
use Rattle.offer_answer.specs.Plan.{signal, demand}
use Rattle.offer_answer.specs.Laws.{RejectsWhatGoes, DropsWhatGoes}
use Rattle.offer_answer.proofs.Lives.{LifeOf, begins, goes_on, is_over, life-step}

-- a life has the last offer of all rounds
pub offered_in-life : (rounds : List Round) (section : ℕ) → has_pairs rounds section ≡ true → offered_sdp (section_life rounds section) ≡ offered_sdp rounds
offered_in-life [] section has = cc
offered_in-life (Offered ask legs keys ∷ rounds) section has = go (life-step (Offered ask legs keys) rounds section) has
  where
    go : LifeOf (Offered ask legs keys) rounds section → has_pairs (Offered ask legs keys ∷ rounds) section ≡ true →
        offered_sdp (section_life (Offered ask legs keys ∷ rounds) section) ≡ ask.sdp
    go (begins l e) h = rw e refl
    go (goes_on l had e) h = rw e refl
    go (is_over e) h = let h' : false ≡ true = subst (λ rs. is_begun rs ≡ true) e h in cc
offered_in-life (Answered ask ∷ rounds) section has = go (life-step (Answered ask) rounds section) (offered_in-life rounds section) has
  where
    go : LifeOf (Answered ask) rounds section → (has_pairs rounds section ≡ true → offered_sdp (section_life rounds section) ≡ offered_sdp rounds) →
        has_pairs (Answered ask ∷ rounds) section ≡ true → offered_sdp (section_life (Answered ask ∷ rounds) section) ≡ offered_sdp rounds
    go (begins l e) more h = cc
    go (goes_on l had e) more h = rw e (more had)
    go (is_over e) more h = let h' : false ≡ true = subst (λ rs. is_begun rs ≡ true) e h in cc

-- a section is rejected exactly where it has no pairs after the answer
pub rejected-goes : (rounds : List Round) (ask : AnswerAsk) (section : ℕ) → is_rejected_by rounds ask section ≡ not (has_pairs (Answered ask ∷ rounds) section)
rejected-goes rounds ask section = go (section_life rounds section) refl
  where
    on : (x y h : Bool) → h ≡ false → not (x && y && h) ≡ true
    on true true h e = rw e refl
    on true false h e = refl
    on false y h e = refl

    alive : (x y : Bool) (former : Round) (before : List Round) → section_life rounds section ≡ former ∷ before →
        is_active_in (offered_sdp rounds) section ≡ x → is_active_in ask.sdp section ≡ y →
        not (x && y && true) ≡ not (has_pairs (Answered ask ∷ rounds) section)
    alive x y former before e p q =
        let same : offered_sdp (former ∷ before) ≡ offered_sdp rounds = subst (λ rs. offered_sdp rs ≡ offered_sdp rounds) e (offered_in-life rounds section (rw e refl)) in
        rw (e, same, p, q) (cases x y)
      where
        cases : (x y : Bool) → not (x && y && true) ≡ not (is_begun (if not (x && y) then [] else Answered ask ∷ former ∷ before))
        cases true true = refl
        cases true false = refl
        cases false y = refl

    go : (now : List Round) → section_life rounds section ≡ now → is_rejected_by rounds ask section ≡ not (has_pairs (Answered ask ∷ rounds) section)
    go [] e =
        on (is_active_in (offered_sdp rounds) section) (is_active_in ask.sdp section) (has_pairs rounds section) (rw e refl)
        ∙ rw e refl
    go (former ∷ before) e =
        ap (λ h. not (is_active_in (offered_sdp rounds) section && is_active_in ask.sdp section && h)) (rw e refl)
        ∙ alive (is_active_in (offered_sdp rounds) section) (is_active_in ask.sdp section) former before e refl refl

-- the number at a place of numbers that run from k
pub number-within : (k n i : ℕ) → i < n → slice_get (numbers k n) i ≡ Some (k + i)
number-within k zero i l = absurd (not-suc-le-zero l)
number-within k (suc n) zero l = ap Some (omega arith)
number-within k (suc n) (suc i) l =
    let below : i < n = omega (arith, l) in
    number-within (suc k) n i below ∙ ap Some (omega arith)

rejects-section : (rounds : List Round) (offer : MadeOffer) (ask : AnswerAsk) (section : ℕ) →
    rejects (section_signal rounds offer ask section) ≡ is_rejected_by rounds ask section
rejects-section rounds offer ask section = go (is_rejected_by rounds ask section)
  where
    go : (b : Bool) → rejects (if b then Reject else Commit (side_signal rounds offer ask section A) (side_signal rounds offer ask section B)) ≡ b
    go true = refl
    go false = refl

answer_rejects : (rounds : List Round) (offer : MadeOffer) (ask : AnswerAsk) (section : ℕ) → section < section_count ask.sdp →
    is_rejected (answer_signal rounds offer ask) section ≡ is_rejected_by rounds ask section
answer_rejects rounds offer ask section below =
    let at : slice_get (answer_signal rounds offer ask) section ≡ Some (section_signal rounds offer ask section) =
    slice_get-map (section_signal rounds offer ask) (all_sections ask.sdp) section
    ∙ ap (option_map (section_signal rounds offer ask)) (number-within 0 (section_count ask.sdp) section below ∙ ap Some (omega arith)) in
    ap (λ (o : Option SectionSignal). elim o [ None ↦ false | Some s ↦ rejects s ]) at ∙ rejects-section rounds offer ask section

numbers-length : (k n : ℕ) → length (numbers k n) ≡ n
numbers-length k zero = refl
numbers-length k (suc n) = ap suc (numbers-length (suc k) n)

pub rejects_what_goes : RejectsWhatGoes
unfolding signal
rejects_what_goes rounds ask section below = go (last_offer rounds) below
  where
    go : (offer : Option MadeOffer) → section < length {A = SectionSignal} (elim offer [ None ↦ [] | Some made ↦ answer_signal rounds made ask ]) →
        is_rejected (elim offer [ None ↦ [] | Some made ↦ answer_signal rounds made ask ]) section ≡ not (has_pairs (Answered ask ∷ rounds) section)
    go None l = absurd (not-suc-le-zero l)
    go (Some offer) l =
        let count : length (answer_signal rounds offer ask) ≡ section_count ask.sdp =
        length-map (all_sections ask.sdp) (section_signal rounds offer ask) ∙ numbers-length 0 (section_count ask.sdp) in
        answer_rejects rounds offer ask section (subst (λ n. section < n) count l) ∙ rejected-goes rounds ask section

and-false : (x y : Bool) → y ≡ false → (x && y) ≡ false
and-false true y e = e
and-false false y e = refl

-- whether a number stands in a list that was filtered
pub has-filter : (test : ℕ → Bool) (xs : List ℕ) (x : ℕ) → has (filter test xs) x ≡ (has xs x && test x)
has-filter test [] x = refl
has-filter test (y ∷ ys) x = go (y == x) (test y) refl refl (has-filter test ys x)
  where
    here_it_is : (y == x) ≡ true → y ≡ x
    here_it_is e = grind (arith, e)

    go : (s t : Bool) → (y == x) ≡ s → test y ≡ t → has (filter test ys) x ≡ (has ys x && test x) →
        has (cond t (y ∷ filter test ys) (filter test ys)) x ≡ ((if s then true else has ys x) && test x)
    go true true e p more = rw e (sym p ∙ ap test (here_it_is e))
    go false true e p more = rw e more
    go true false e p more =
        let not_x : test x ≡ false = sym (ap test (here_it_is e)) ∙ p in
        more ∙ and-false (has ys x) (test x) not_x ∙ sym not_x
    go false false e p more = more

has-numbers : (k n i : ℕ) → k ≤ i → i < k + n → has (numbers k n) i ≡ true
has-numbers k zero i low high = absurd (lt_irrefl i (omega (arith, low, high)))
has-numbers k (suc n) i low high = go (k == i) refl (λ above. has-numbers (suc k) n i above (omega (arith, high)))
  where
    go : (b : Bool) → (k == i) ≡ b → (suc k ≤ i → has (numbers (suc k) n) i ≡ true) → (if b then true else has (numbers (suc k) n) i) ≡ true
    go true e more = refl
    go false e more = more (grind (arith, e, low))

dropped-goes : (rounds : List Round) (ask : OfferAsk) (legs : List Holder) (keys : List NewKey) (section : ℕ) →
    leases (Offered ask legs keys) section ≡ false →
    is_dropped rounds ask section ≡ (has_pairs rounds section && not (has_pairs (Offered ask legs keys ∷ rounds) section))
dropped-goes rounds ask legs keys section none = go (section_life rounds section) refl
  where
    cases : (committed active : Bool) (former : Round) (before : List Round) →
        (true && (not committed && not active)) ≡ (true && not (is_begun (if not active && not committed then [] else Offered ask legs keys ∷ former ∷ before)))
    cases true true former before = refl
    cases true false former before = refl
    cases false true former before = refl
    cases false false former before = refl

    go : (now : List Round) → section_life rounds section ≡ now →
        is_dropped rounds ask section ≡ (has_pairs rounds section && not (has_pairs (Offered ask legs keys ∷ rounds) section))
    go [] e = rw e refl
    go (former ∷ before) e = rw (e, none) (cases (has_answer (former ∷ before)) (is_active_in ask.sdp section) former before)

pub drops_what_goes : DropsWhatGoes
unfolding demand
drops_what_goes rounds ask legs keys section below none =
    let there_it_is : has (numbers 0 most_sections) section ≡ true = has-numbers 0 most_sections section zero-le (omega (arith, below)) in
    has-filter (is_dropped rounds ask) (numbers 0 most_sections) section
    ∙ ap (λ h. h && is_dropped rounds ask section) there_it_is
    ∙ dropped-goes rounds ask legs keys section none

-- What one more round does to each question that a dialog keeps.
use Rattle.std.proofs.Common.{◌≡◌, ℕ, Bool, true, false, not, ◌&&◌, ◌||◌, ◌==◌, List, [], ◌∷◌, ◌++◌, Option, Some, None, refl, sym, ap, ◌∙◌, subst, if◌then◌else◌, option_map, find, filter, append-nil}
use Rattle.std.proofs.lemmas.List.Elements.{filter-append}
use Rattle.std.specs.List.{list_any}
use Rattle.histories.specs.Words.{or_else}
use Rattle.sdes_lines.specs.declared.crypto_line.Suite.{Suite}
use Rattle.port_pool.specs.declared.holder.Side.{Side}
use Rattle.port_pool.specs.declared.holder.Holder.{Holder}
use Rattle.port_pool.specs.Signals.{NewKey, side_eq, suite_eq}
use Rattle.offer_answer.specs.Rounds.{Round, Offered, Answered, OfferAsk, AnswerAsk, drawn_for}
use Rattle.offer_answer.specs.Sides.{MadeOffer, is_begun, has_answer, last_answer}
use Rattle.offer_answer.specs.Sections.{is_active_in, leases, lives_on, section_life, has_pairs, is_committed, leased_for, leg_of}
use Rattle.offer_answer.specs.Profiles.{profile_offered, profile_in_force}
use Rattle.offer_answer.specs.Keys.{is_for, leg_keys, key_among, leg_key, committed_key, key_in_force}
use Rattle.offer_answer.specs.Signals.{is_rejected_by}
use Rattle.offer_answer.specs.Families.{new_family, leasing_offer, leg_family}
use Rattle.offer_answer.proofs.Lives.{LifeOf, begins, goes_on, is_over, life-step}
use Rattle.offer_answer.proofs.Standing.{rejected-goes}

-- An offer.

-- a section has pairs after an offer that leases them for it, and where it had some that the offer leaves
pub pairs-offered : (ask : OfferAsk) (legs : List Holder) (keys : List NewKey) (rounds : List Round) (section : ℕ) →
    has_pairs (Offered ask legs keys ∷ rounds) section
    ≡ (leases (Offered ask legs keys) section || (has_pairs rounds section && not (not (is_active_in ask.sdp section) && not (is_committed rounds section))))
pairs-offered ask legs keys rounds section = go (leases (Offered ask legs keys) section) (section_life rounds section) refl refl
  where
    on : (former : Round) (before : List Round) (away : Bool) → (not (is_active_in ask.sdp section) && not (has_answer (former ∷ before))) ≡ away →
        is_begun (if away then [] else Offered ask legs keys ∷ former ∷ before) ≡ (true && not away)
    on former before true e = refl
    on former before false e = refl

    go : (b : Bool) (before : List Round) → leases (Offered ask legs keys) section ≡ b → section_life rounds section ≡ before →
        is_begun (if leases (Offered ask legs keys) section then Offered ask legs keys ∷ [] else lives_on (Offered ask legs keys) (section_life rounds section) section)
        ≡ (leases (Offered ask legs keys) section || (is_begun (section_life rounds section) && not (not (is_active_in ask.sdp section) && not (has_answer (section_life rounds section)))))
    go true before l e = rw l refl
    go false [] l e = rw (l, e) refl
    go false (former ∷ before) l e = rw (l, e) (on former before (not (is_active_in ask.sdp section) && not (has_answer (former ∷ before))) refl)

-- it is committed where it was, unless the offer leases new pairs for it
pub committed-offered : (ask : OfferAsk) (legs : List Holder) (keys : List NewKey) (rounds : List Round) (section : ℕ) →
    is_committed (Offered ask legs keys ∷ rounds) section ≡ (not (leases (Offered ask legs keys) section) && is_committed rounds section)
committed-offered ask legs keys rounds section = go (leases (Offered ask legs keys) section) (section_life rounds section) refl refl
  where
    on : (former : Round) (before : List Round) (active answered : Bool) → has_answer (former ∷ before) ≡ answered →
        has_answer (if not active && not answered then [] else Offered ask legs keys ∷ former ∷ before) ≡ answered
    on former before true answered e = e
    on former before false true e = e
    on former before false false e = refl

    go : (b : Bool) (before : List Round) → leases (Offered ask legs keys) section ≡ b → section_life rounds section ≡ before →
        has_answer (if leases (Offered ask legs keys) section then Offered ask legs keys ∷ [] else lives_on (Offered ask legs keys) (section_life rounds section) section)
        ≡ (not (leases (Offered ask legs keys) section) && has_answer (section_life rounds section))
    go true before l e = rw l refl
    go false [] l e = rw (l, e) refl
    go false (former ∷ before) l e = rw (l, e) (on former before (is_active_in ask.sdp section) (has_answer (former ∷ before)) refl)

-- An answer.

-- a section has pairs after an answer that doesn't reject it
pub pairs-answered : (ask : AnswerAsk) (rounds : List Round) (section : ℕ) → has_pairs (Answered ask ∷ rounds) section ≡ not (is_rejected_by rounds ask section)
pairs-answered ask rounds section = go (has_pairs (Answered ask ∷ rounds) section) ∙ ap not (sym (rejected-goes rounds ask section))
  where
    go : (b : Bool) → b ≡ not (not b)
    go true = refl
    go false = refl

-- and is committed then
pub committed-answered : (ask : AnswerAsk) (rounds : List Round) (section : ℕ) → is_committed (Answered ask ∷ rounds) section ≡ has_pairs (Answered ask ∷ rounds) section
committed-answered ask rounds section = go (life-step (Answered ask) rounds section)
  where
    go : LifeOf (Answered ask) rounds section → has_answer (section_life (Answered ask ∷ rounds) section) ≡ is_begun (section_life (Answered ask ∷ rounds) section)
    go (begins l e) = cc
    go (goes_on l had e) = rw e refl
    go (is_over e) = rw e refl

-- The legs and keys of a section, while it goes on.

-- none is found where there is none for the section
pub not-among : (section : ℕ) (side : Side) (legs more : List Holder) → list_any (λ leg. leg.section == section) legs ≡ false →
    find (λ leg. leg.section == section && side_eq leg.side side) (legs ++ more) ≡ find (λ leg. leg.section == section && side_eq leg.side side) more
not-among section side [] more e = refl
not-among section side (leg ∷ legs) more e = go (leg.section == section) refl e (not-among section side legs more)
  where
    go : (b : Bool) → (leg.section == section) ≡ b → (b || list_any (λ leg. leg.section == section) legs) ≡ false →
        (list_any (λ leg. leg.section == section) legs ≡ false →
        find (λ leg. leg.section == section && side_eq leg.side side) (legs ++ more) ≡ find (λ leg. leg.section == section && side_eq leg.side side) more) →
        find (λ leg. leg.section == section && side_eq leg.side side) ((leg ∷ legs) ++ more) ≡ find (λ leg. leg.section == section && side_eq leg.side side) more
    go true f e rest = cc e
    go false f e rest = rw f (rest e)

-- an offer gives a section the leg that it leased, and else leaves the one that it had while the section has pairs
pub leg-offered : (ask : OfferAsk) (legs : List Holder) (keys : List NewKey) (rounds : List Round) (section : ℕ) (side : Side) →
    leg_of (Offered ask legs keys ∷ rounds) section side
    ≡ (if leases (Offered ask legs keys) section then find (λ leg. leg.section == section && side_eq leg.side side) legs
    else if has_pairs (Offered ask legs keys ∷ rounds) section then leg_of rounds section side else None)
leg-offered ask legs keys rounds section side = go (life-step (Offered ask legs keys) rounds section) refl
  where
    is_leg : Holder → Bool
    is_leg leg = leg.section == section && side_eq leg.side side

    over : (b : Bool) → leases (Offered ask legs keys) section ≡ b → section_life (Offered ask legs keys ∷ rounds) section ≡ [] → leases (Offered ask legs keys) section ≡ false
    over true l e = let begun : Offered ask legs keys ∷ [] ≡ [] = subst (λ (b : Bool). (if b then Offered ask legs keys ∷ [] else lives_on (Offered ask legs keys) (section_life rounds section) section) ≡ []) l e in cc begun
    over false l e = l

    go : LifeOf (Offered ask legs keys) rounds section → leases (Offered ask legs keys) section ≡ leases (Offered ask legs keys) section →
        find (λ leg. leg.section == section && side_eq leg.side side) (leased_for (section_life (Offered ask legs keys ∷ rounds) section))
        ≡ (if leases (Offered ask legs keys) section then find (λ leg. leg.section == section && side_eq leg.side side) legs
        else if is_begun (section_life (Offered ask legs keys ∷ rounds) section) then leg_of rounds section side else None)
    go (begins l e) r = rw (e, l) (ap (find (λ leg. leg.section == section && side_eq leg.side side)) (append-nil legs))
    go (goes_on l had e) r = rw (e, l) (not-among section side legs (leased_for (section_life rounds section)) l)
    go (is_over e) r = let l = over (leases (Offered ask legs keys) section) refl e in rw (e, l) refl

-- an answer leaves it while the section has pairs
pub leg-answered : (ask : AnswerAsk) (rounds : List Round) (section : ℕ) (side : Side) →
    leg_of (Answered ask ∷ rounds) section side ≡ (if has_pairs (Answered ask ∷ rounds) section then leg_of rounds section side else None)
leg-answered ask rounds section side = go (life-step (Answered ask) rounds section)
  where
    go : LifeOf (Answered ask) rounds section →
        find (λ leg. leg.section == section && side_eq leg.side side) (leased_for (section_life (Answered ask ∷ rounds) section))
        ≡ (if is_begun (section_life (Answered ask ∷ rounds) section) then leg_of rounds section side else None)
    go (begins l e) = cc
    go (goes_on l had e) = rw e refl
    go (is_over e) = rw e refl

-- the first of two lists that has one
pub find-append : (p : NewKey → Bool) (xs ys : List NewKey) → find p (xs ++ ys) ≡ or_else (find p xs) (find p ys)
find-append p [] ys = refl
find-append p (x ∷ xs) ys = go (p x) refl (find-append p xs ys)
  where
    go : (b : Bool) → p x ≡ b → find p (xs ++ ys) ≡ or_else (find p xs) (find p ys) → find p ((x ∷ xs) ++ ys) ≡ or_else (find p (x ∷ xs)) (find p ys)
    go true e more = rw e refl
    go false e more = rw e more

-- the key that an offer drew for a leg, or else the one that it had while the section has pairs
pub key-offered : (ask : OfferAsk) (legs : List Holder) (keys : List NewKey) (rounds : List Round) (section : ℕ) (side : Side) (suite : Suite) →
    leg_key (Offered ask legs keys ∷ rounds) section side suite
    ≡ (if has_pairs (Offered ask legs keys ∷ rounds) section
    then or_else (key_among (filter (is_for section side) keys) suite) (if leases (Offered ask legs keys) section then None else leg_key rounds section side suite)
    else None)
key-offered ask legs keys rounds section side suite = go (life-step (Offered ask legs keys) rounds section)
  where
    or-none : (o : Option NewKey) → o ≡ or_else o None
    or-none None = refl
    or-none (Some key) = refl

    go : LifeOf (Offered ask legs keys) rounds section →
        key_among (filter (is_for section side) (drawn_for (section_life (Offered ask legs keys ∷ rounds) section))) suite
        ≡ (if is_begun (section_life (Offered ask legs keys ∷ rounds) section)
        then or_else (key_among (filter (is_for section side) keys) suite) (if leases (Offered ask legs keys) section then None else leg_key rounds section side suite)
        else None)
    go (begins l e) =
        rw (e, l) (ap (λ ks. key_among (filter (is_for section side) ks) suite) (append-nil keys) ∙ or-none (key_among (filter (is_for section side) keys) suite))
    go (goes_on l had e) =
        rw (e, l) (ap (λ ks. key_among ks suite) (filter-append (is_for section side) keys (drawn_for (section_life rounds section)))
        ∙ find-append (λ key. suite_eq key.suite suite) (filter (is_for section side) keys) (leg_keys rounds section side))
    go (is_over e) = rw e refl

-- an answer leaves it while the section has pairs
pub key-answered : (ask : AnswerAsk) (rounds : List Round) (section : ℕ) (side : Side) (suite : Suite) →
    leg_key (Answered ask ∷ rounds) section side suite ≡ (if has_pairs (Answered ask ∷ rounds) section then leg_key rounds section side suite else None)
key-answered ask rounds section side suite = go (life-step (Answered ask) rounds section)
  where
    go : LifeOf (Answered ask) rounds section →
        key_among (filter (is_for section side) (drawn_for (section_life (Answered ask ∷ rounds) section))) suite
        ≡ (if is_begun (section_life (Answered ask ∷ rounds) section) then leg_key rounds section side suite else None)
    go (begins l e) = cc
    go (goes_on l had e) = rw e refl
    go (is_over e) = rw e refl

-- an offer leaves the key in force while the section is committed
pub in_force-offered : (ask : OfferAsk) (legs : List Holder) (keys : List NewKey) (rounds : List Round) (section : ℕ) (side : Side) →
    key_in_force (Offered ask legs keys ∷ rounds) section side
    ≡ (if not (leases (Offered ask legs keys) section) then key_in_force rounds section side else None)
in_force-offered ask legs keys rounds section side =
    ap (λ (b : Bool). if b then last else None) (committed-offered ask legs keys rounds section)
    ∙ go (leases (Offered ask legs keys) section) (is_committed rounds section)
  where
    last : Option NewKey
    last = elim (last_answer rounds) [ None ↦ None | Some answer ↦ committed_key answer.before answer.ask section side ]

    go : (l c : Bool) → (if not l && c then last else None) ≡ (if not l then (if c then last else None) else None)
    go true c = refl
    go false c = refl

-- an answer puts in force the key that it commits
pub in_force-answered : (ask : AnswerAsk) (rounds : List Round) (section : ℕ) (side : Side) →
    key_in_force (Answered ask ∷ rounds) section side ≡ (if has_pairs (Answered ask ∷ rounds) section then committed_key rounds ask section side else None)
in_force-answered ask rounds section side =
    ap (λ (b : Bool). if b then committed_key rounds ask section side else None) (committed-answered ask rounds section)

-- an offer leaves the profile in force while the section is committed
pub profile-offered : (ask : OfferAsk) (legs : List Holder) (keys : List NewKey) (rounds : List Round) (section : ℕ) (side : Side) →
    profile_in_force (Offered ask legs keys ∷ rounds) section side
    ≡ (if not (leases (Offered ask legs keys) section) && is_committed rounds section then profile_in_force rounds section side else None)
profile-offered ask legs keys rounds section side =
    ap (λ (b : Bool). if b then profile_in_force rounds section side else None) (committed-offered ask legs keys rounds section)

-- an answer puts in force the profile that was offered
pub profile-answered : (ask : AnswerAsk) (rounds : List Round) (section : ℕ) (side : Side) →
    profile_in_force (Answered ask ∷ rounds) section side ≡ (if has_pairs (Answered ask ∷ rounds) section then profile_offered rounds section side else None)
profile-answered ask rounds section side =
    ap (λ (b : Bool). if b then profile_offered rounds section side else None) (committed-answered ask rounds section)

-- an offer gives the legs that it leases pairs for their families, and others keep theirs while the section has pairs
pub family-offered : (ask : OfferAsk) (legs : List Holder) (keys : List NewKey) (rounds : List Round) (section : ℕ) (side : Side) →
    leg_family (Offered ask legs keys ∷ rounds) section side
    ≡ (if leases (Offered ask legs keys) section then Some (new_family rounds ask section side)
    else if has_pairs (Offered ask legs keys ∷ rounds) section then leg_family rounds section side else None)
family-offered ask legs keys rounds section side = go (life-step (Offered ask legs keys) rounds section)
  where
    over : (b : Bool) → leases (Offered ask legs keys) section ≡ b → section_life (Offered ask legs keys ∷ rounds) section ≡ [] → leases (Offered ask legs keys) section ≡ false
    over true l e = let begun : Offered ask legs keys ∷ [] ≡ [] = subst (λ (b : Bool). (if b then Offered ask legs keys ∷ [] else lives_on (Offered ask legs keys) (section_life rounds section) section) ≡ []) l e in cc begun
    over false l e = l

    by : (l has : Bool) → leases (Offered ask legs keys) section ≡ l → has_pairs (Offered ask legs keys ∷ rounds) section ≡ has →
        (if has then option_map (λ (made : MadeOffer). new_family made.before made.ask section side)
        (if l then Some (record { ask = ask; keys = keys; before = rounds }) else leasing_offer rounds section) else None)
        ≡ (if l then Some (new_family rounds ask section side) else if has then leg_family rounds section side else None) →
        leg_family (Offered ask legs keys ∷ rounds) section side
        ≡ (if leases (Offered ask legs keys) section then Some (new_family rounds ask section side)
        else if has_pairs (Offered ask legs keys ∷ rounds) section then leg_family rounds section side else None)
    by l has p r same =
        ap (λ (b : Bool). if b then option_map (λ (made : MadeOffer). new_family made.before made.ask section side) (leasing_offer (Offered ask legs keys ∷ rounds) section) else None) r
        ∙ ap (λ (b : Bool). if has then option_map (λ (made : MadeOffer). new_family made.before made.ask section side)
        (if b then Some (record { ask = ask; keys = keys; before = rounds }) else leasing_offer rounds section) else None) p
        ∙ same
        ∙ sym (ap (λ (b : Bool). if b then Some (new_family rounds ask section side) else if has_pairs (Offered ask legs keys ∷ rounds) section then leg_family rounds section side else None) p
        ∙ ap (λ (b : Bool). if l then Some (new_family rounds ask section side) else if b then leg_family rounds section side else None) r)

    go : LifeOf (Offered ask legs keys) rounds section →
        leg_family (Offered ask legs keys ∷ rounds) section side
        ≡ (if leases (Offered ask legs keys) section then Some (new_family rounds ask section side)
        else if has_pairs (Offered ask legs keys ∷ rounds) section then leg_family rounds section side else None)
    go (begins l e) = by true true l (ap is_begun e) refl
    go (goes_on l had e) =
        by false true l (ap is_begun e)
        (sym (ap (λ (b : Bool). if b then option_map (λ (made : MadeOffer). new_family made.before made.ask section side) (leasing_offer rounds section) else None) had))
    go (is_over e) = by false false (over (leases (Offered ask legs keys) section) refl e) (ap is_begun e) refl

-- an answer leaves them while the section has pairs
pub family-answered : (ask : AnswerAsk) (rounds : List Round) (section : ℕ) (side : Side) →
    leg_family (Answered ask ∷ rounds) section side ≡ (if has_pairs (Answered ask ∷ rounds) section then leg_family rounds section side else None)
family-answered ask rounds section side = go (life-step (Answered ask) rounds section)
  where
    go : LifeOf (Answered ask) rounds section →
        leg_family (Answered ask ∷ rounds) section side ≡ (if has_pairs (Answered ask ∷ rounds) section then leg_family rounds section side else None)
    go (begins l e) = cc
    go (goes_on l had e) =
        ap (λ (b : Bool). if has_pairs (Answered ask ∷ rounds) section
        then (if b then option_map (λ (made : MadeOffer). new_family made.before made.ask section side) (leasing_offer rounds section) else None) else None) (sym had)
    go (is_over e) =
        ap (λ (b : Bool). if b then option_map (λ (made : MadeOffer). new_family made.before made.ask section side) (leasing_offer rounds section) else None) (ap is_begun e)
        ∙ sym (ap (λ (b : Bool). if b then leg_family rounds section side else None) (ap is_begun e))

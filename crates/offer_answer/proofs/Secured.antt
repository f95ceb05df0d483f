-- A leg is committed with keys exactly where its profile is SRTP.
use Rattle.std.proofs.Common.{◌≡◌, ℕ, zero, suc, ◌+◌, ◌<◌, ◌≤◌, Bool, true, false, not, ◌&&◌, ◌||◌, ◌==◌, List, [], ◌∷◌, ◌++◌, Option, Some, None, inl, inr, refl, sym, ap, ◌∙◌, subst, map, filter, flat_map, is_none, slice_get, unwrap_or, option_map, if◌then◌else◌, true≢false, lt_irrefl, zero-le, arith}
use Rattle.std.specs.List.{list_any}
use Rattle.std.proofs.lemmas.Option.{slice_get_within}
use Rattle.histories.specs.Words.{In, here, there, numbers}
use Rattle.sdes_lines.specs.declared.crypto_line.Suite.{Suite}
use Rattle.sdes_lines.specs.declared.crypto_line.Suite.TheVariants.{Tag80, Tag32}
use Rattle.sdes_lines.specs.declared.crypto_line.CryptoLine.{CryptoLine}
use Rattle.sdp_edit.specs.ChosenLines.{IsOffered}
use Rattle.sdp_text.specs.declared.section.Section.{Section}
use Rattle.std.proofs.Common.{nat_lt}
use Rattle.ng_reply.specs.declared.code.ErrorCode.TheVariants.{E8, E10, E12, E20}
use Rattle.port_pool.specs.declared.holder.Side.{Side}
use Rattle.port_pool.specs.declared.holder.Side.TheVariants.{A, B}
use Rattle.port_pool.specs.declared.holder.Holder.{Holder}
use Rattle.port_pool.specs.Signals.{NewKey, side_eq, suite_eq, other_side}
use Rattle.offer_answer.specs.Rounds.{Round, Offered, OfferAsk, NewLeg, KeyPlace, drawn_for}
use Rattle.offer_answer.specs.Sides.{offerer}
use Rattle.offer_answer.specs.Sections.{no_section, committed_count, sections_of, section_count, section_in, all_sections, active_sections, is_active, is_active_in, leases, section_life, has_pairs}
use Rattle.offer_answer.specs.Profiles.{is_srtp, written_profile}
use Rattle.offer_answer.specs.Keys.{chosen_in, is_for, leg_keys, key_among, leg_key, key_in_force, key_place_of, missing_keys, offerers_suites, others_suites, section_keys, line_with, lines_of_keys, no_lines, offered_lines}
use Rattle.offer_answer.specs.Demands.{legs_for, new_active_sections, new_legs}
use Rattle.offer_answer.specs.Faults.{is_strangers, lacks_line, misfits_offerer}
use Rattle.offer_answer.specs.Plan.{offer_fault, demand}
use Rattle.offer_answer.specs.Laws.{leg_place, new_leg_place, key_place, IsOfferRound}
use Rattle.offer_answer.proofs.Members.{found, kept, in-append, in-left, in-right}
use Rattle.offer_answer.proofs.Numbers.{in-map, in-flat_map}
use Rattle.offer_answer.proofs.Demanded.{in-legs_for}
use Rattle.offer_answer.proofs.Keyed.{HasKey, in-kept, among-has, found-has, has_key-new, has_key-old, in_force-drawn}

-- A section that is active is one of the description's.

in-numbers-from : (k n i : ℕ) → k ≤ i → i < k + n → In i (numbers k n)
in-numbers-from k zero i low high = absurd (lt_irrefl i (omega (arith, low, high)))
in-numbers-from k (suc n) i low high = go (k == i) refl (λ above. in-numbers-from (suc k) n i above (omega (arith, high)))
  where
    go : (b : Bool) → (k == i) ≡ b → (suc k ≤ i → In i (numbers (suc k) n)) → In i (k ∷ numbers (suc k) n)
    go true e more = here (grind (arith, e))
    go false e more = there (more (grind (arith, e, low)))

pub active-within : (sdp : List ℕ) (section : ℕ) → is_active_in sdp section ≡ true → section < section_count sdp
active-within sdp section e = go (slice_get (sections_of sdp) section) refl
  where
    go : (at : Option Section) → slice_get (sections_of sdp) section ≡ at → section < section_count sdp
    go None a = absurd (true≢false (sym e ∙ ap (λ (o : Option Section). is_active (unwrap_or o no_section)) a))
    go (Some s) a = slice_get_within (sections_of sdp) section s a

pub in-all : (sdp : List ℕ) (section : ℕ) → section < section_count sdp → In section (all_sections sdp)
in-all sdp section below = in-numbers-from 0 (section_count sdp) section zero-le (omega (arith, below))

pub in-active : (sdp : List ℕ) (section : ℕ) → is_active_in sdp section ≡ true → In section (active_sections sdp)
in-active sdp section e = in-kept (is_active_in sdp) (all_sections sdp) section (in-all sdp section (active-within sdp section e)) e

-- where none passes, this one doesn't
pub none-passes : {X : Type 0} (test : X → Bool) (xs : List X) (x : X) → list_any test xs ≡ false → In x xs → test x ≡ false
none-passes test [] x e i = elim i [ ]
none-passes {X} test (y ∷ ys) x e i = go (test y) refl e i (none-passes test ys x)
  where
    go : (b : Bool) → test y ≡ b → (b || list_any test ys) ≡ false → In x (y ∷ ys) → (list_any test ys ≡ false → In x ys → test x ≡ false) → test x ≡ false
    go true t f j more = cc
    go false t f (here same) more = ap test same ∙ t
    go false t f (there j) more = more f j

pub some-passes : {X : Type 0} (test : X → Bool) (xs : List X) → list_any test xs ≡ true → (x : X) × In x xs × (test x ≡ true)
some-passes test [] e = cc
some-passes {X} test (y ∷ ys) e = go (test y) refl e (some-passes test ys)
  where
    go : (b : Bool) → test y ≡ b → (b || list_any test ys) ≡ true → (list_any test ys ≡ true → (x : X) × In x ys × (test x ≡ true)) → (x : X) × In x (y ∷ ys) × (test x ≡ true)
    go true t f more = (y, here refl, t)
    go false t f more = let m = more f in (m.0, there m.1, m.2)

pub in-mapped : {X Y : Type 0} (f : X → Y) (xs : List X) (x : X) → In x xs → In (f x) (map f xs)
in-mapped f [] x i = elim i [ ]
in-mapped f (y ∷ ys) x (here e) = here (ap f e)
in-mapped f (y ∷ ys) x (there i) = there (in-mapped f ys x i)

pub in-flat : {X Y : Type 0} (f : X → List Y) (xs : List X) (x : X) (y : Y) → In x xs → In y (f x) → In y (flat_map f xs)
in-flat f [] x y i j = elim i [ ]
in-flat f (z ∷ zs) x y (here e) j = in-left (flat_map f zs) (subst (λ w. In y (f w)) e j)
in-flat f (z ∷ zs) x y (there i) j = in-right (f z) (in-flat f zs x y i j)

-- The offer.

no_line-lacks : (rounds : List Round) (ask : OfferAsk) → offer_fault rounds ask ≡ None → list_any (lacks_line ask) (active_sections ask.sdp) ≡ false
unfolding offer_fault
no_line-lacks rounds ask e =
    go (is_strangers rounds ask) (nat_lt (section_count ask.sdp) (committed_count rounds)) (list_any (misfits_offerer rounds ask) (active_sections ask.sdp))
    (list_any (lacks_line ask) (active_sections ask.sdp)) e
  where
    go : (x y m z : Bool) → (if x then Some E10 else if y then Some E12 else if m then Some E20 else if z then Some E8 else None) ≡ None → z ≡ false
    go true y m z e = cc
    go false true m z e = cc
    go false false true z e = cc
    go false false false true e = cc
    go false false false false e = refl

pub is_there : {X : Type 0} (o : Option X) → is_none o ≡ false → (x : X) × (o ≡ Some x)
is_there None e = cc
is_there (Some x) e = (x, refl)

-- an active section with SRTP has a chosen line
pub has-line : (rounds : List Round) (ask : OfferAsk) (section : ℕ) → offer_fault rounds ask ≡ None → is_active_in ask.sdp section ≡ true →
    is_srtp (section_in ask.sdp section).proto ≡ true → (line : CryptoLine) × (chosen_in ask.chosen section ≡ Some line)
has-line rounds ask section e active secure =
    let lacks = none-passes (lacks_line ask) (active_sections ask.sdp) section (no_line-lacks rounds ask e) (in-active ask.sdp section active) in
    is_there (chosen_in ask.chosen section) (sym (ap (λ b. b && is_none (chosen_in ask.chosen section)) secure) ∙ lacks)

-- the section of a leg that was leased for a new leg
pub section-of : (leg : Holder) (new : NewLeg) (source section : ℕ) → new.section ≡ source → leg_place leg ≡ new_leg_place new →
    (leg.section == section) ≡ true → source ≡ section
section-of leg new source section e f g =
    let equal : leg.section ≡ section = grind (arith, g) in
    sym e ∙ sym (ap (λ (p : ℕ × Side). p.0) f) ∙ equal

-- it leases no pair for a section that has its pairs
not-leased : (rounds : List Round) (ask : OfferAsk) (legs : List Holder) (keys : List NewKey) (section : ℕ) → IsOfferRound rounds ask legs keys →
    has_pairs rounds section ≡ true → leases (Offered ask legs keys) section ≡ false
unfolding demand
not-leased rounds ask legs keys section r has = go (leases (Offered ask legs keys) section) refl
  where
    leased : (leg : Holder) → In leg legs → (leg.section == section) ≡ true → ⊥
    leased leg i e =
        let new = in-map new_leg_place (new_legs rounds ask) (leg_place leg) (subst (λ places. In (leg_place leg) places) r.leased (in-mapped leg_place legs leg i)) in
        let from = in-flat_map (legs_for rounds ask) (new_active_sections rounds ask) new.0 new.1 in
        let same : from.source ≡ section = section-of leg new.0 from.source section (in-legs_for rounds ask from.source new.0 from.gives) new.2 e in
        let without = kept (λ n. not (has_pairs rounds n)) (active_sections ask.sdp) from.source from.is_in in
        true≢false (sym without.passes ∙ ap (λ n. not (has_pairs rounds n)) same ∙ ap not has)

    go : (b : Bool) → leases (Offered ask legs keys) section ≡ b → b ≡ false
    go false e = refl
    go true e = let p = some-passes (λ (leg : Holder). leg.section == section) legs e in absurd (leased p.0 p.1 p.2)

has_key-pairs : (rounds : List Round) (section : ℕ) (side : Side) (suite : Suite) → HasKey rounds section side suite → has_pairs rounds section ≡ true
has_key-pairs rounds section side suite h = go (section_life rounds section) refl
  where
    go : (now : List Round) → section_life rounds section ≡ now → has_pairs rounds section ≡ true
    go [] e = elim (subst (λ rs. In h.key (drawn_for rs)) e h.drawn) [ ]
    go (former ∷ before) e = rw e refl

-- what a leg had it has after the offer
has_key-kept : (rounds : List Round) (ask : OfferAsk) (legs : List Holder) (keys : List NewKey) (section : ℕ) (side : Side) (suite : Suite) →
    IsOfferRound rounds ask legs keys → has_pairs (Offered ask legs keys ∷ rounds) section ≡ true →
    HasKey rounds section side suite → HasKey (Offered ask legs keys ∷ rounds) section side suite
has_key-kept rounds ask legs keys section side suite r has h =
    has_key-old ask legs keys rounds section side suite has (not-leased rounds ask legs keys section r (has_key-pairs rounds section side suite h)) h

is_for-place : (section : ℕ) (side : Side) (suite : Suite) (key : NewKey) → key_place key ≡ key_place_of section side suite → is_for section side key ≡ true
is_for-place section side suite key e =
    rw (ap (λ (p : KeyPlace). p.section) e, ap (λ (p : KeyPlace). p.side) e) (both side)
  where
    both : (s : Side) → ((section == section) && side_eq s s) ≡ true
    both A = grind arith
    both B = grind arith

-- what it demands for an active section it draws
has_key-demanded : (rounds : List Round) (ask : OfferAsk) (legs : List Holder) (keys : List NewKey) (section : ℕ) (side : Side) (suite : Suite) →
    IsOfferRound rounds ask legs keys → has_pairs (Offered ask legs keys ∷ rounds) section ≡ true → is_active_in ask.sdp section ≡ true →
    In (key_place_of section side suite) (section_keys rounds ask section) → HasKey (Offered ask legs keys ∷ rounds) section side suite
unfolding demand
has_key-demanded rounds ask legs keys section side suite r has active i =
    let demanded = in-flat (section_keys rounds ask) (active_sections ask.sdp) section (key_place_of section side suite) (in-active ask.sdp section active) i in
    let drawn = in-map key_place keys (key_place_of section side suite) (subst (λ places. In (key_place_of section side suite) places) (sym r.drawn) demanded) in
    subst (λ s. HasKey (Offered ask legs keys ∷ rounds) section side s) (ap (λ (p : KeyPlace). p.suite) (sym drawn.2))
    (has_key-new ask legs keys rounds section side drawn.0 has drawn.1 (is_for-place section side suite drawn.0 (sym drawn.2)))

-- the offerer has a key for its chosen line
pub own-key : (rounds : List Round) (ask : OfferAsk) (legs : List Holder) (keys : List NewKey) (section : ℕ) (line : CryptoLine) →
    IsOfferRound rounds ask legs keys → has_pairs (Offered ask legs keys ∷ rounds) section ≡ true → is_active_in ask.sdp section ≡ true →
    is_srtp (section_in ask.sdp section).proto ≡ true → chosen_in ask.chosen section ≡ Some line →
    HasKey (Offered ask legs keys ∷ rounds) section (offerer rounds ask) line.suite
own-key rounds ask legs keys section line r has active secure chosen =
    go (leg_key rounds section (offerer rounds ask) line.suite) refl
  where
    suites : offerers_suites ask section ≡ line.suite ∷ []
    suites = rw (secure, chosen) refl

    missing : leg_key rounds section (offerer rounds ask) line.suite ≡ None → In (key_place_of section (offerer rounds ask) line.suite) (section_keys rounds ask section)
    missing none =
        in-left (missing_keys rounds section (other_side (offerer rounds ask)) (others_suites rounds ask section))
        (in-mapped (key_place_of section (offerer rounds ask)) (filter (λ suite. is_none (leg_key rounds section (offerer rounds ask) suite)) (offerers_suites ask section)) line.suite
        (in-kept (λ suite. is_none (leg_key rounds section (offerer rounds ask) suite)) (offerers_suites ask section) line.suite
        (subst (λ ss. In line.suite ss) (sym suites) (here refl)) (ap is_none none)))

    go : (k : Option NewKey) → leg_key rounds section (offerer rounds ask) line.suite ≡ k → HasKey (Offered ask legs keys ∷ rounds) section (offerer rounds ask) line.suite
    go (Some key) e =
        has_key-kept rounds ask legs keys section (offerer rounds ask) line.suite r has (found-has rounds section (offerer rounds ask) line.suite key e)
    go None e = has_key-demanded rounds ask legs keys section (offerer rounds ask) line.suite r has active (missing e)

-- the other side has a key for each line that it is offered
pub others-key : (rounds : List Round) (ask : OfferAsk) (legs : List Holder) (keys : List NewKey) (section : ℕ) (line : CryptoLine) →
    IsOfferRound rounds ask legs keys → has_pairs (Offered ask legs keys ∷ rounds) section ≡ true →
    IsOffered (offered_lines rounds ask keys section) line →
    HasKey (Offered ask legs keys ∷ rounds) section (other_side (offerer rounds ask)) line.suite
others-key rounds ask legs keys section line r has offered =
    go (is_active_in ask.sdp section && is_srtp (written_profile rounds ask section)) (key_in_force rounds section side) refl offered
  where
    side : Side
    side = other_side (offerer rounds ask)

    all_keys : List NewKey
    all_keys = filter (is_for section side) keys ++ leg_keys rounds section side

    of_key : (key : NewKey) → In key all_keys → HasKey (Offered ask legs keys ∷ rounds) section side key.suite
    of_key key i =
        elim (in-append (filter (is_for section side) keys) (leg_keys rounds section side) i) [
          | inl j ↦ let k = kept (is_for section side) keys key j in has_key-new ask legs keys rounds section side key has k.is_in k.passes
          | inr j ↦ has_key-kept rounds ask legs keys section side key.suite r has (among-has rounds section side key j)
        ]

    of_found : (suite : Suite) (key : NewKey) → key_among all_keys suite ≡ Some key → line.suite ≡ key.suite → HasKey (Offered ask legs keys ∷ rounds) section side line.suite
    of_found suite key e s =
        subst (λ t. HasKey (Offered ask legs keys ∷ rounds) section side t) (sym s)
        (of_key key (found (λ (k : NewKey). suite_eq k.suite suite) all_keys key e).is_in)

    of_two : (x y : Option NewKey) → key_among all_keys Tag80 ≡ x → key_among all_keys Tag32 ≡ y →
        IsOffered (option_map (line_with 1) x ∷ option_map (line_with 2) y ∷ []) line → HasKey (Offered ask legs keys ∷ rounds) section side line.suite
    of_two (Some k) y e f (inl o) = of_found Tag80 k e o.1
    of_two (Some k) (Some l) e f (inr (inl o)) = of_found Tag32 l f o.1
    of_two (Some k) (Some l) e f (inr (inr o)) = absurd o
    of_two (Some k) None e f (inr o) = absurd o
    of_two None (Some l) e f (inl o) = of_found Tag32 l f o.1
    of_two None (Some l) e f (inr o) = absurd o
    of_two None None e f o = absurd o

    go : (b : Bool) (force : Option NewKey) → key_in_force rounds section side ≡ force →
        IsOffered (if b then lines_of_keys force all_keys else no_lines) line → HasKey (Offered ask legs keys ∷ rounds) section side line.suite
    go false force e o = absurd o
    go true (Some key) e (inl o) =
        subst (λ t. HasKey (Offered ask legs keys ∷ rounds) section side t) (sym o.1)
        (has_key-kept rounds ask legs keys section side key.suite r has (in_force-drawn rounds section side key e))
    go true (Some key) e (inr o) = absurd o
    go true None e o = of_two (key_among all_keys Tag80) (key_among all_keys Tag32) refl refl o

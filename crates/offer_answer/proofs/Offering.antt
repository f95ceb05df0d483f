-- The crypto lines that are chosen in an offer's description, section by section.
use Rattle.std.proofs.Common.{◌≡◌, nat_lt, append-nil, ◌==◌, ℕ, zero, suc, ◌+◌, ◌-◌, ◌<◌, ◌≤◌, inl, inr, Bool, true, false, not, ◌&&◌, ◌||◌, List, [], ◌∷◌, ◌++◌, length, Option, Some, None, is_none, refl, sym, ap, ◌∙◌, subst, if◌then◌else◌, filter, flat_map, map, unwrap_or, option_map, slice_get, slice_index_or, arith}
use Rattle.std.specs.List.{list_any}
use Rattle.std.proofs.lemmas.Option.{slice_get_cases}
use Rattle.std.proofs.lemmas.List.{append_assoc, map-append}
use Rattle.histories.specs.Words.{numbers, has}
use Rattle.offer_answer.proofs.Standing.{has-filter}
use Rattle.relay_outside.specs.declared.address.Family.{Family}
use Rattle.relay_outside.specs.declared.settings.Config.{Config}
use Rattle.sdes_lines.specs.declared.crypto_line.CryptoLine.{CryptoLine}
use Rattle.sdp_text.specs.Descriptions.{sections_in}
use Rattle.sdp_text.specs.declared.section.Section.{Section}
use Rattle.sdp_edit.specs.ChosenLines.{section_lines, IsFirstOf, IsAny}
use Rattle.port_pool.specs.declared.holder.Side.{Side}
use Rattle.port_pool.specs.Signals.{other_side}
use Rattle.offer_answer.specs.Rounds.{Round, OfferAsk, NewLeg, KeyPlace}
use Rattle.offer_answer.specs.Sections.{section_count, section_in, no_section, is_active, is_active_in, active_sections, committed_count, has_pairs, is_committed}
use Rattle.offer_answer.specs.Profiles.{is_srtp, profile_in_force}
use Rattle.offer_answer.specs.Keys.{chosen_in, suite_of, key_place_of, leg_key, missing_keys, offerers_suites, others_suites, section_keys}
use Rattle.offer_answer.specs.Demands.{is_dropped, dropped_sections, legs_for, new_legs, new_keys}
use Rattle.offer_answer.specs.Families.{family_by, leg_family, misfits}
use Rattle.offer_answer.specs.Faults.{lacks_line, misfits_offerer, is_strangers}
use Rattle.offer_answer.specs.Plan.{OfferRead, offer_fault}
use Rattle.ng_command.specs.declared.command.Options.{Options}
use Rattle.ng_reply.specs.declared.code.ErrorCode.{ErrorCode}
use Rattle.ng_reply.specs.declared.code.ErrorCode.TheVariants.{E8, E10, E12, E20}
use Rattle.offer_answer.specs.Offers.{ReadsOffer, OfferedFor, written_over, missing, offerers_keys, others_keys, keys_asked, leg_asked, legs_asked, key_asked}
use Rattle.offer_answer.specs.Dialogs.{key_for, leg_at, drawn_for_leg}
use Rattle.offer_answer.specs.Sides.{offerer}
use Rattle.offer_answer.specs.declared.leg.Leg.{Leg}
use Rattle.offer_answer.specs.declared.leg.DrawnKey.{DrawnKey}
use Rattle.sdp_text.specs.declared.proto.Proto.{Proto}
use Rattle.sdes_lines.specs.declared.crypto_line.Suite.{Suite}
use Rattle.sdes_lines.specs.declared.crypto_line.Suite.TheVariants.{Tag80, Tag32}
use Rattle.offer_answer.specs.declared.offered_section.OfferedSection.{OfferedSection}

pub count-heard : (lines : List (List ℕ)) (ask : OfferAsk) → ReadsOffer lines ask → section_count ask.sdp ≡ length (sections_in lines)
count-heard lines ask h = ap (λ ls. length (sections_in ls)) h.lines_are

pub section-heard : (lines : List (List ℕ)) (ask : OfferAsk) (section : ℕ) (s : Section) → ReadsOffer lines ask → slice_get (sections_in lines) section ≡ Some s →
    s ≡ section_in ask.sdp section
section-heard lines ask section s h e =
    sym (subst (λ (ls : List (List ℕ)). unwrap_or (slice_get (sections_in ls) section) no_section ≡ s) (sym h.lines_are) (ap (λ o. unwrap_or o no_section) e))

-- past the end nothing is read
pub past-end : {X : Type 0} (xs : List X) (i : ℕ) → length xs ≤ i → slice_get xs i ≡ None
past-end xs i l = elim (slice_get_cases xs i).1 [
  | inl here ↦ absurd (omega (arith, here.1, l))
  | inr past ↦ past.1
]

pub no-section-heard : (lines : List (List ℕ)) (ask : OfferAsk) (section : ℕ) → ReadsOffer lines ask → length (sections_in lines) ≤ section →
    no_section ≡ section_in ask.sdp section
no-section-heard lines ask section h l =
    sym (subst (λ (ls : List (List ℕ)). unwrap_or (slice_get (sections_in ls) section) no_section ≡ no_section) (sym h.lines_are)
    (ap (λ o. unwrap_or o no_section) (past-end (sections_in lines) section l)))

pub line-heard : (lines : List (List ℕ)) (ask : OfferAsk) (section : ℕ) → ReadsOffer lines ask → section < length (sections_in lines) →
    IsFirstOf IsAny (section_lines section lines) (chosen_in ask.chosen section)
unfolding OfferRead
line-heard lines ask section h l =
    subst (λ (ls : List (List ℕ)). IsFirstOf IsAny (section_lines section ls) (chosen_in ask.chosen section)) h.lines_are
    (h.heard.first section (omega (arith, l, count-heard lines ask h)))

pub no-line-heard : (lines : List (List ℕ)) (ask : OfferAsk) (section : ℕ) → ReadsOffer lines ask → length (sections_in lines) ≤ section →
    None ≡ chosen_in ask.chosen section
unfolding OfferRead
no-line-heard lines ask section h l =
    let past = past-end ask.chosen section (omega (arith, l, count-heard lines ask h, h.heard.count)) in
    sym (ap (λ (o : Option (Option CryptoLine)). elim o [ None ↦ None | Some line ↦ line ]) past)

-- Questions to a section.

pub new-is : (config : Config) (rounds : List Round) (ask : OfferAsk) (section : ℕ) (o : OfferedSection) → OfferedFor config rounds ask section o →
    (is_active o.section && not o.kept.has_pairs) ≡ (is_active_in ask.sdp section && not (has_pairs rounds section))
new-is config rounds ask section o f =
    ap (λ s. is_active s && not o.kept.has_pairs) f.section_is ∙ ap (λ b. is_active_in ask.sdp section && not b) f.kept_is.pairs_are

pub lacks-is : (config : Config) (rounds : List Round) (ask : OfferAsk) (section : ℕ) (o : OfferedSection) → OfferedFor config rounds ask section o →
    (is_active o.section && (is_srtp o.section.proto && is_none o.line)) ≡ (is_active_in ask.sdp section && lacks_line ask section)
lacks-is config rounds ask section o f =
    ap (λ (s : Section). is_active s && (is_srtp s.proto && is_none o.line)) f.section_is
    ∙ ap (λ l. is_active_in ask.sdp section && (is_srtp (section_in ask.sdp section).proto && is_none l)) f.line_is

pub dropped-is : (config : Config) (rounds : List Round) (ask : OfferAsk) (section : ℕ) (o : OfferedSection) → OfferedFor config rounds ask section o →
    (o.kept.has_pairs && not o.kept.is_committed && not (is_active o.section)) ≡ is_dropped rounds ask section
dropped-is config rounds ask section o f =
    ap (λ b. b && not o.kept.is_committed && not (is_active o.section)) f.kept_is.pairs_are
    ∙ ap (λ b. has_pairs rounds section && not b && not (is_active o.section)) f.kept_is.committed_is
    ∙ ap (λ s. has_pairs rounds section && not (is_committed rounds section) && not (is_active s)) f.section_is

pub misfits-is : (config : Config) (rounds : List Round) (ask : OfferAsk) (section : ℕ) (o : OfferedSection) (options : Options) (side : Side) →
    OfferedFor config rounds ask section o → options ≡ ask.options → side ≡ offerer rounds ask →
    (is_active o.section && misfits (leg_at o.kept side).family options o.section) ≡ (is_active_in ask.sdp section && misfits_offerer rounds ask section)
misfits-is config rounds ask section o options side f e s =
    ap (λ (x : Option Family). is_active o.section && misfits x options o.section) (f.kept_is.legs_are side).family_is
    ∙ ap (λ (x : Side). is_active o.section && misfits (leg_family rounds section x) options o.section) s
    ∙ ap (λ (x : Options). is_active o.section && misfits (leg_family rounds section (offerer rounds ask)) x o.section) e
    ∙ ap (λ (x : Section). is_active x && misfits (leg_family rounds section (offerer rounds ask)) ask.options x) f.section_is

-- Lists over the sections from one on.

pub numbers-next : (i n : ℕ) → i < n → numbers i (n - i) ≡ i ∷ numbers (i + 1) (n - (i + 1))
numbers-next i n l =
    let e : n - i ≡ suc (n - (i + 1)) = omega (arith, l) in
    let s : suc i ≡ i + 1 = omega arith in
    ap (numbers i) e ∙ ap (λ k. i ∷ numbers k (n - (i + 1))) s

pub numbers-end : (i n : ℕ) → n ≤ i → numbers i (n - i) ≡ []
numbers-end i n l =
    let e : n - i ≡ 0 = omega (arith, l) in
    ap (numbers i) e

pub any-next : (p q : ℕ → Bool) (i n : ℕ) → i < n →
    list_any p (filter q (numbers i (n - i))) ≡ ((q i && p i) || list_any p (filter q (numbers (i + 1) (n - (i + 1)))))
any-next p q i n l = ap (λ ns. list_any p (filter q ns)) (numbers-next i n l) ∙ go (q i) refl
  where
    rest : List ℕ
    rest = numbers (i + 1) (n - (i + 1))

    go : (b : Bool) → q i ≡ b → list_any p (filter q (i ∷ rest)) ≡ ((b && p i) || list_any p (filter q rest))
    go true e = rw e refl
    go false e = rw e refl

pub flat-next : {A : Type 0} (F : ℕ → List A) (q : ℕ → Bool) (i n : ℕ) → i < n →
    flat_map F (filter q (numbers i (n - i))) ≡ (if q i then F i else []) ++ flat_map F (filter q (numbers (i + 1) (n - (i + 1))))
flat-next F q i n l = ap (λ ns. flat_map F (filter q ns)) (numbers-next i n l) ∙ go (q i) refl
  where
    rest : List ℕ
    rest = numbers (i + 1) (n - (i + 1))

    go : (b : Bool) → q i ≡ b → flat_map F (filter q (i ∷ rest)) ≡ (if b then F i else []) ++ flat_map F (filter q rest)
    go true e = rw e refl
    go false e = rw e refl

-- what is left of the legs and the keys of an offer, from a section on
abbrev pub legs_left : List Round → OfferAsk → ℕ → ℕ → List NewLeg
legs_left rounds ask i n =
    flat_map (legs_for rounds ask) (filter (λ section. is_active_in ask.sdp section && not (has_pairs rounds section)) (numbers i (n - i)))

abbrev pub keys_left : List Round → OfferAsk → ℕ → ℕ → List KeyPlace
keys_left rounds ask i n = flat_map (section_keys rounds ask) (filter (is_active_in ask.sdp) (numbers i (n - i)))

pub filter-twice : (p q : ℕ → Bool) (ns : List ℕ) → filter p (filter q ns) ≡ filter (λ n. q n && p n) ns
filter-twice p q [] = refl
filter-twice p q (n ∷ ns) = go (q n) (p n) refl refl (filter-twice p q ns)
  where
    go : (a b : Bool) → q n ≡ a → p n ≡ b → filter p (filter q ns) ≡ filter (λ n. q n && p n) ns → filter p (filter q (n ∷ ns)) ≡ filter (λ n. q n && p n) (n ∷ ns)
    go true true e f more = rw (e, f) (ap (λ xs. n ∷ xs) more)
    go true false e f more = rw (e, f) more
    go false b e f more = rw e more

-- What a loop over the sections has gathered, with what is left to gather, is the whole.

pub legs-gathered : (rounds : List Round) (ask : OfferAsk) (i n : ℕ) (here old new : List (ℕ × Side × Family)) → i < n →
    map leg_asked here ≡ (if is_active_in ask.sdp i && not (has_pairs rounds i) then legs_for rounds ask i else []) → new ≡ old ++ here →
    map leg_asked new ++ legs_left rounds ask (i + 1) n ≡ map leg_asked old ++ legs_left rounds ask i n
legs-gathered rounds ask i n here old new l h e =
    ap (λ xs. map leg_asked xs ++ legs_left rounds ask (i + 1) n) e
    ∙ ap (λ xs. xs ++ legs_left rounds ask (i + 1) n) (map-append leg_asked old here)
    ∙ append_assoc (map leg_asked old) (map leg_asked here) (legs_left rounds ask (i + 1) n)
    ∙ ap (λ xs. map leg_asked old ++ (xs ++ legs_left rounds ask (i + 1) n)) h
    ∙ ap (λ xs. map leg_asked old ++ xs) (sym (flat-next (legs_for rounds ask) (λ section. is_active_in ask.sdp section && not (has_pairs rounds section)) i n l))

-- the legs that a section demands
pub legs-are : (config : Config) (rounds : List Round) (ask : OfferAsk) (section : ℕ) (o : OfferedSection) (options : Options) (side : Side) →
    OfferedFor config rounds ask section o → options ≡ ask.options → side ≡ offerer rounds ask →
    map leg_asked (legs_asked o options section side) ≡ (if is_active_in ask.sdp section && not (has_pairs rounds section) then legs_for rounds ask section else [])
legs-are config rounds ask section o options side f e s =
    ap (λ x. map leg_asked (legs_asked o x section side)) e
    ∙ ap (λ x. map leg_asked (legs_asked o ask.options section x)) s
    ∙ go (is_active o.section && not o.kept.has_pairs)
    ∙ ap (λ (x : Section). if is_active o.section && not o.kept.has_pairs then both x else []) f.section_is
    ∙ ap (λ (b : Bool). if b then legs_for rounds ask section else []) (new-is config rounds ask section o f)
  where
    both : Section → List NewLeg
    both x =
        record { section = section; side = other_side (offerer rounds ask); family = family_by ask.options x (offerer rounds ask) (other_side (offerer rounds ask)) }
        ∷ record { section = section; side = offerer rounds ask; family = family_by ask.options x (offerer rounds ask) (offerer rounds ask) } ∷ []

    go : (b : Bool) →
        map leg_asked (if b then (section, other_side (offerer rounds ask), family_by ask.options o.section (offerer rounds ask) (other_side (offerer rounds ask)))
        ∷ (section, offerer rounds ask, family_by ask.options o.section (offerer rounds ask) (offerer rounds ask)) ∷ [] else []) ≡ (if b then both o.section else [])
    go true = refl
    go false = refl

pub keys-gathered : (rounds : List Round) (ask : OfferAsk) (i n : ℕ) (here : List (ℕ × Side × Suite)) (old new : List (ℕ × Side × Suite)) → i < n →
    map key_asked here ≡ (if is_active_in ask.sdp i then section_keys rounds ask i else []) → new ≡ old ++ here →
    map key_asked new ++ keys_left rounds ask (i + 1) n ≡ map key_asked old ++ keys_left rounds ask i n
keys-gathered rounds ask i n here old new l h e =
    ap (λ xs. map key_asked xs ++ keys_left rounds ask (i + 1) n) e
    ∙ ap (λ xs. xs ++ keys_left rounds ask (i + 1) n) (map-append key_asked old here)
    ∙ append_assoc (map key_asked old) (map key_asked here) (keys_left rounds ask (i + 1) n)
    ∙ ap (λ xs. map key_asked old ++ (xs ++ keys_left rounds ask (i + 1) n)) h
    ∙ ap (λ xs. map key_asked old ++ xs) (sym (flat-next (section_keys rounds ask) (is_active_in ask.sdp) i n l))

-- The keys that a section demands.

missing-is : (leg : Leg) (rounds : List Round) (section : ℕ) (side : Side) (suites : List Suite) →
    ((suite : Suite) → option_map (drawn_for_leg section side) (key_for leg suite) ≡ leg_key rounds section side suite) →
    map key_asked (missing leg section side suites) ≡ missing_keys rounds section side suites
missing-is leg rounds section side [] keys = refl
missing-is leg rounds section side (suite ∷ suites) keys = go (key_for leg suite) refl (keys suite) (missing-is leg rounds section side suites keys)
  where
    go : (k : Option DrawnKey) → key_for leg suite ≡ k → option_map (drawn_for_leg section side) (key_for leg suite) ≡ leg_key rounds section side suite →
        map key_asked (missing leg section side suites) ≡ missing_keys rounds section side suites →
        map key_asked (missing leg section side (suite ∷ suites)) ≡ missing_keys rounds section side (suite ∷ suites)
    go None e f more =
        let g : leg_key rounds section side suite ≡ None = sym f ∙ ap (option_map (drawn_for_leg section side)) e in
        rw (e, g) (ap (λ xs. key_place_of section side suite ∷ xs) more)
    go (Some k) e f more =
        let g : leg_key rounds section side suite ≡ Some (drawn_for_leg section side k) = sym f ∙ ap (option_map (drawn_for_leg section side)) e in
        rw (e, g) more

none-alike : (section : ℕ) (side : Side) (k : Option DrawnKey) → is_none k ≡ is_none (option_map (drawn_for_leg section side) k)
none-alike section side None = refl
none-alike section side (Some k) = refl

offerers-are : (config : Config) (rounds : List Round) (ask : OfferAsk) (section : ℕ) (o : OfferedSection) (side : Side) → OfferedFor config rounds ask section o →
    map key_asked (offerers_keys o section side) ≡ missing_keys rounds section side (offerers_suites ask section)
offerers-are config rounds ask section o side f =
    missing-is (leg_at o.kept side) rounds section side (if is_srtp o.section.proto then suite_of o.line else []) (f.kept_is.legs_are side).keys_are
    ∙ ap (λ (s : Section). missing_keys rounds section side (if is_srtp s.proto then suite_of o.line else [])) f.section_is
    ∙ ap (λ l. missing_keys rounds section side (if is_srtp (section_in ask.sdp section).proto then suite_of l else [])) f.line_is

suites : Option Proto → Option Proto → Proto → Bool → List Suite
suites transport in_force own none = if is_srtp (written_over transport in_force own) && none then Tag80 ∷ Tag32 ∷ [] else []

others-are : (config : Config) (rounds : List Round) (ask : OfferAsk) (section : ℕ) (o : OfferedSection) → OfferedFor config rounds ask section o →
    map key_asked (others_keys o ask.options.transport section (other_side (offerer rounds ask)))
    ≡ missing_keys rounds section (other_side (offerer rounds ask)) (others_suites rounds ask section)
unfolding suites
others-are config rounds ask section o f =
    let side = other_side (offerer rounds ask) in
    let leg = leg_at o.kept side in
    let kept = f.kept_is.legs_are side in
    let transport = ask.options.transport in
    missing-is leg rounds section side (suites transport leg.in_force o.section.proto (is_none leg.key_in_force)) kept.keys_are
    ∙ ap (λ p. missing_keys rounds section side (suites transport p o.section.proto (is_none leg.key_in_force))) kept.in_force_is
    ∙ ap (λ (s : Section). missing_keys rounds section side (suites transport (profile_in_force rounds section side) s.proto (is_none leg.key_in_force))) f.section_is
    ∙ ap (λ b. missing_keys rounds section side (suites transport (profile_in_force rounds section side) (section_in ask.sdp section).proto b))
    (none-alike section side leg.key_in_force ∙ ap is_none kept.key_in_force_is)

pub keys-are : (config : Config) (rounds : List Round) (ask : OfferAsk) (section : ℕ) (o : OfferedSection) (transport : Option Proto) (side : Side) →
    OfferedFor config rounds ask section o → transport ≡ ask.options.transport → side ≡ offerer rounds ask →
    map key_asked (keys_asked o transport section side) ≡ (if is_active_in ask.sdp section then section_keys rounds ask section else [])
keys-are config rounds ask section o transport side f t s =
    ap (λ x. map key_asked (keys_asked o x section side)) t
    ∙ ap (λ x. map key_asked (keys_asked o ask.options.transport section x)) s
    ∙ go (is_active o.section) refl (ap is_active f.section_is)
  where
    from : Side
    from = offerer rounds ask

    go : (b : Bool) → is_active o.section ≡ b → is_active o.section ≡ is_active_in ask.sdp section →
        map key_asked (keys_asked o ask.options.transport section from) ≡ (if is_active_in ask.sdp section then section_keys rounds ask section else [])
    go true e g =
        let h : is_active_in ask.sdp section ≡ true = sym g ∙ e in
        rw (e, h) (map-append key_asked (offerers_keys o section from) (others_keys o ask.options.transport section (other_side from))
        ∙ ap (λ xs. xs ++ map key_asked (others_keys o ask.options.transport section (other_side from))) (offerers-are config rounds ask section o from f)
        ∙ ap (λ xs. missing_keys rounds section from (offerers_suites ask section) ++ xs) (others-are config rounds ask section o f))
    go false e g =
        let h : is_active_in ask.sdp section ≡ false = sym g ∙ e in
        rw (e, h) refl

pub legs-begin : (rounds : List Round) (ask : OfferAsk) → legs_left rounds ask 0 (section_count ask.sdp) ≡ new_legs rounds ask
legs-begin rounds ask =
    let whole : section_count ask.sdp - 0 ≡ section_count ask.sdp = omega arith in
    ap (λ n. flat_map (legs_for rounds ask) (filter (λ section. is_active_in ask.sdp section && not (has_pairs rounds section)) (numbers 0 n))) whole
    ∙ ap (flat_map (legs_for rounds ask)) (sym (filter-twice (λ section. not (has_pairs rounds section)) (is_active_in ask.sdp) (numbers 0 (section_count ask.sdp))))

pub keys-begin : (rounds : List Round) (ask : OfferAsk) → keys_left rounds ask 0 (section_count ask.sdp) ≡ new_keys rounds ask
keys-begin rounds ask =
    let whole : section_count ask.sdp - 0 ≡ section_count ask.sdp = omega arith in
    ap (λ n. flat_map (section_keys rounds ask) (filter (is_active_in ask.sdp) (numbers 0 n))) whole

pub legs-end : (rounds : List Round) (ask : OfferAsk) (i n : ℕ) (xs : List NewLeg) → n ≤ i → xs ++ legs_left rounds ask i n ≡ xs
legs-end rounds ask i n xs l =
    ap (λ ns. xs ++ flat_map (legs_for rounds ask) (filter (λ section. is_active_in ask.sdp section && not (has_pairs rounds section)) ns)) (numbers-end i n l)
    ∙ append-nil xs

pub keys-end : (rounds : List Round) (ask : OfferAsk) (i n : ℕ) (xs : List KeyPlace) → n ≤ i → xs ++ keys_left rounds ask i n ≡ xs
keys-end rounds ask i n xs l =
    ap (λ ns. xs ++ flat_map (section_keys rounds ask) (filter (is_active_in ask.sdp) ns)) (numbers-end i n l) ∙ append-nil xs

has-none : (k n i : ℕ) → k + n ≤ i → has (numbers k n) i ≡ false
has-none k zero i l = refl
has-none k (suc n) i l = go (k == i) refl (has-none (suc k) n i (omega (arith, l)))
  where
    here_it_is : (k == i) ≡ true → k ≡ i
    here_it_is e = grind (arith, e)

    go : (b : Bool) → (k == i) ≡ b → has (numbers (suc k) n) i ≡ false → has (k ∷ numbers (suc k) n) i ≡ false
    go true e more = absurd (omega (arith, l, here_it_is e))
    go false e more = rw e more

-- the results for the eight sections, in order, tell which are dropped
pub eight-dropped : (rounds : List Round) (ask : OfferAsk) (section : ℕ) {a b c d e f g h : Bool} →
    a ≡ is_dropped rounds ask 0 → b ≡ is_dropped rounds ask 1 → c ≡ is_dropped rounds ask 2 → d ≡ is_dropped rounds ask 3 →
    e ≡ is_dropped rounds ask 4 → f ≡ is_dropped rounds ask 5 → g ≡ is_dropped rounds ask 6 → h ≡ is_dropped rounds ask 7 →
    slice_index_or (a ∷ b ∷ c ∷ d ∷ e ∷ f ∷ g ∷ h ∷ []) section false ≡ has (dropped_sections rounds ask) section
eight-dropped rounds ask section {a} {b} {c} {d} {e} {f} {g} {h} p0 p1 p2 p3 p4 p5 p6 p7 = go section ∙ sym (has-filter (is_dropped rounds ask) (numbers 0 8) section)
  where
    go : (section : ℕ) → slice_index_or (a ∷ b ∷ c ∷ d ∷ e ∷ f ∷ g ∷ h ∷ []) section false ≡ (has (numbers 0 8) section && is_dropped rounds ask section)
    go zero = p0
    go (suc zero) = p1
    go (suc (suc zero)) = p2
    go (suc (suc (suc zero))) = p3
    go (suc (suc (suc (suc zero)))) = p4
    go (suc (suc (suc (suc (suc zero))))) = p5
    go (suc (suc (suc (suc (suc (suc zero)))))) = p6
    go (suc (suc (suc (suc (suc (suc (suc zero))))))) = p7
    go (suc (suc (suc (suc (suc (suc (suc (suc n)))))))) =
        sym (ap (λ b. b && is_dropped rounds ask (suc (suc (suc (suc (suc (suc (suc (suc n)))))))))
        (has-none 0 8 (suc (suc (suc (suc (suc (suc (suc (suc n)))))))) (omega arith)))

-- The first fault.

abbrev faulty : Bool → Bool → Bool → Bool → Option ErrorCode
faulty strangers few misfit lacks = if strangers then Some E10 else if few then Some E12 else if misfit then Some E20 else if lacks then Some E8 else None

pub fault-strangers : (rounds : List Round) (ask : OfferAsk) → is_strangers rounds ask ≡ true → offer_fault rounds ask ≡ Some E10
unfolding offer_fault
fault-strangers rounds ask e =
    ap (λ (b : Bool). faulty b (nat_lt (section_count ask.sdp) (committed_count rounds)) (list_any (misfits_offerer rounds ask) (active_sections ask.sdp))
    (list_any (lacks_line ask) (active_sections ask.sdp))) e

fault-behind : (rounds : List Round) (ask : OfferAsk) (few misfit lacks : Bool) → is_strangers rounds ask ≡ false →
    nat_lt (section_count ask.sdp) (committed_count rounds) ≡ few → list_any (misfits_offerer rounds ask) (active_sections ask.sdp) ≡ misfit →
    list_any (lacks_line ask) (active_sections ask.sdp) ≡ lacks → offer_fault rounds ask ≡ (if few then Some E12 else if misfit then Some E20 else if lacks then Some E8 else None)
unfolding offer_fault
fault-behind rounds ask few misfit lacks e f m g =
    ap (λ (b : Bool). faulty b (nat_lt (section_count ask.sdp) (committed_count rounds)) (list_any (misfits_offerer rounds ask) (active_sections ask.sdp))
    (list_any (lacks_line ask) (active_sections ask.sdp))) e
    ∙ ap (λ (b : Bool). faulty false b (list_any (misfits_offerer rounds ask) (active_sections ask.sdp)) (list_any (lacks_line ask) (active_sections ask.sdp))) f
    ∙ ap (λ (b : Bool). faulty false few b (list_any (lacks_line ask) (active_sections ask.sdp))) m
    ∙ ap (λ (b : Bool). faulty false few misfit b) g

pub fault-few : (rounds : List Round) (ask : OfferAsk) → is_strangers rounds ask ≡ false → section_count ask.sdp < committed_count rounds →
    offer_fault rounds ask ≡ Some E12
fault-few rounds ask e l =
    let few : nat_lt (section_count ask.sdp) (committed_count rounds) ≡ true = grind (arith, l) in
    fault-behind rounds ask true (list_any (misfits_offerer rounds ask) (active_sections ask.sdp)) (list_any (lacks_line ask) (active_sections ask.sdp)) e few refl refl

pub fault-misfits : (rounds : List Round) (ask : OfferAsk) → is_strangers rounds ask ≡ false → committed_count rounds ≤ section_count ask.sdp →
    list_any (misfits_offerer rounds ask) (active_sections ask.sdp) ≡ true → offer_fault rounds ask ≡ Some E20
fault-misfits rounds ask e l m =
    let enough : nat_lt (section_count ask.sdp) (committed_count rounds) ≡ false = grind (arith, l) in
    fault-behind rounds ask false true (list_any (lacks_line ask) (active_sections ask.sdp)) e enough m refl

pub fault-lines : (rounds : List Round) (ask : OfferAsk) (lacks : Bool) → is_strangers rounds ask ≡ false → committed_count rounds ≤ section_count ask.sdp →
    list_any (misfits_offerer rounds ask) (active_sections ask.sdp) ≡ false →
    list_any (lacks_line ask) (active_sections ask.sdp) ≡ lacks → offer_fault rounds ask ≡ (if lacks then Some E8 else None)
fault-lines rounds ask lacks e l m g =
    let enough : nat_lt (section_count ask.sdp) (committed_count rounds) ≡ false = grind (arith, l) in
    fault-behind rounds ask false false lacks e enough m g

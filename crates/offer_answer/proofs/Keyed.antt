-- The keys that legs have after an offer.
use Rattle.std.proofs.Common.{◌≡◌, ℕ, Bool, true, false, List, [], ◌∷◌, Option, Some, None, refl, sym, ap, ◌∙◌, subst, filter, find, cond, if◌then◌else◌, true≢false}
use Rattle.histories.specs.Words.{In, here, there}
use Rattle.sdes_lines.specs.declared.crypto_line.Suite.{Suite}
use Rattle.sdes_lines.specs.declared.crypto_line.Suite.TheVariants.{Tag80, Tag32}
use Rattle.sdes_lines.specs.declared.crypto_line.CryptoLine.{CryptoLine}
use Rattle.port_pool.specs.declared.holder.Side.{Side}
use Rattle.port_pool.specs.declared.holder.Holder.{Holder}
use Rattle.port_pool.specs.Signals.{NewKey, suite_eq}
use Rattle.offer_answer.specs.Rounds.{Round, Offered, Answered, OfferAsk, AnswerAsk, drawn_for}
use Rattle.offer_answer.specs.Sides.{GivenAnswer, is_begun, last_answer, has_answer}
use Rattle.offer_answer.specs.Sections.{leases, section_life, has_pairs, is_committed}
use Rattle.offer_answer.specs.Keys.{is_for, leg_keys, leg_key, committed_line, committed_key, key_in_force}
use Rattle.offer_answer.proofs.Members.{found, kept, in-left, in-right}
use Rattle.offer_answer.proofs.Lives.{LifeOf, begins, goes_on, is_over, life-step}

-- what is in a list and passes is kept by a filter
pub in-kept : {X : Type 0} (test : X → Bool) (xs : List X) (x : X) → In x xs → test x ≡ true → In x (filter test xs)
in-kept test [] x i p = elim i [ ]
in-kept {X} test (y ∷ ys) x (here same) p = rw (sym (ap test same) ∙ p) (here same)
in-kept {X} test (y ∷ ys) x (there i) p = go (test y) (in-kept test ys x i p)
  where
    go : (b : Bool) → In x (filter test ys) → In x (cond b (y ∷ filter test ys) (filter test ys))
    go true j = there j
    go false j = j

-- where one passes, one is found
pub is_found : {X : Type 0} (test : X → Bool) (xs : List X) (x : X) → In x xs → test x ≡ true → (y : X) × (find test xs ≡ Some y)
is_found test [] x i p = elim i [ ]
is_found test (y ∷ ys) x (here same) p = (y, rw (sym (ap test same) ∙ p) refl)
is_found {X} test (y ∷ ys) x (there i) p = go (test y) (is_found test ys x i p)
  where
    go : (b : Bool) → (z : X) × (find test ys ≡ Some z) → (z : X) × (cond b (Some y) (find test ys) ≡ Some z)
    go true f = (y, refl)
    go false f = f

-- a leg has a key for a suite
pub record HasKey (rounds : List Round) (section : ℕ) (side : Side) (suite : Suite) : Type 0 where
  pub key : NewKey
  pub drawn : In key (drawn_for (section_life rounds section))
  pub is_legs : is_for section side key ≡ true
  pub of_suite : key.suite ≡ suite

suite-same : (s : Suite) → suite_eq s s ≡ true
suite-same Tag80 = refl
suite-same Tag32 = refl

pub has_key-found : (rounds : List Round) (section : ℕ) (side : Side) (suite : Suite) → HasKey rounds section side suite →
    (k : NewKey) × (leg_key rounds section side suite ≡ Some k)
has_key-found rounds section side suite h =
    is_found (λ (k : NewKey). suite_eq k.suite suite) (leg_keys rounds section side) h.key
    (in-kept (is_for section side) (drawn_for (section_life rounds section)) h.key h.drawn h.is_legs)
    (rw h.of_suite (suite-same suite))

suite-eq : (s t : Suite) → suite_eq s t ≡ true → s ≡ t
suite-eq Tag80 Tag80 e = refl
suite-eq Tag32 Tag32 e = refl
suite-eq Tag80 Tag32 e = cc
suite-eq Tag32 Tag80 e = cc

pub among-has : (rounds : List Round) (section : ℕ) (side : Side) (key : NewKey) → In key (leg_keys rounds section side) → HasKey rounds section side key.suite
among-has rounds section side key i =
    let k = kept (is_for section side) (drawn_for (section_life rounds section)) key i in
    record { key = key; drawn = k.is_in; is_legs = k.passes; of_suite = refl }

pub found-has : (rounds : List Round) (section : ℕ) (side : Side) (suite : Suite) (key : NewKey) → leg_key rounds section side suite ≡ Some key → HasKey rounds section side suite
found-has rounds section side suite key e =
    let f = found (λ (k : NewKey). suite_eq k.suite suite) (leg_keys rounds section side) key e in
    let k = kept (is_for section side) (drawn_for (section_life rounds section)) key f.is_in in
    record { key = key; drawn = k.is_in; is_legs = k.passes; of_suite = suite-eq key.suite suite f.passes }

no_life : (rounds : List Round) (section : ℕ) → section_life rounds section ≡ [] → has_pairs rounds section ≡ true → false ≡ true
no_life rounds section e h = subst (λ rs. is_begun rs ≡ true) e h

-- an answer that leaves the section its pairs leaves its keys
pub drawn-answered : (ask : AnswerAsk) (rounds : List Round) (section : ℕ) → has_pairs (Answered ask ∷ rounds) section ≡ true →
    (has_pairs rounds section ≡ true) × (drawn_for (section_life (Answered ask ∷ rounds) section) ≡ drawn_for (section_life rounds section))
drawn-answered ask rounds section h = go (life-step (Answered ask) rounds section)
  where
    go : LifeOf (Answered ask) rounds section → (has_pairs rounds section ≡ true) × (drawn_for (section_life (Answered ask ∷ rounds) section) ≡ drawn_for (section_life rounds section))
    go (begins l e) = cc
    go (goes_on l had e) = (had, ap drawn_for e)
    go (is_over e) = absurd (true≢false (sym (no_life (Answered ask ∷ rounds) section e h)))

pub has_key-answered : (ask : AnswerAsk) (rounds : List Round) (section : ℕ) (side : Side) (suite : Suite) → has_pairs (Answered ask ∷ rounds) section ≡ true →
    HasKey rounds section side suite → HasKey (Answered ask ∷ rounds) section side suite
has_key-answered ask rounds section side suite h k =
    record { key = k.key; drawn = subst (λ ks. In k.key ks) (sym (drawn-answered ask rounds section h).1) k.drawn; is_legs = k.is_legs; of_suite = k.of_suite }

-- a key that this offer drew for a leg that has its pairs
pub has_key-new : (ask : OfferAsk) (legs : List Holder) (keys : List NewKey) (rounds : List Round) (section : ℕ) (side : Side) (key : NewKey) →
    has_pairs (Offered ask legs keys ∷ rounds) section ≡ true → In key keys → is_for section side key ≡ true →
    HasKey (Offered ask legs keys ∷ rounds) section side key.suite
has_key-new ask legs keys rounds section side key h i f = go (life-step (Offered ask legs keys) rounds section)
  where
    with_life : (later : List Round) → section_life (Offered ask legs keys ∷ rounds) section ≡ Offered ask legs keys ∷ later →
        HasKey (Offered ask legs keys ∷ rounds) section side key.suite
    with_life later e = record { key = key; drawn = subst (λ rs. In key (drawn_for rs)) (sym e) (in-left (drawn_for later) i); is_legs = f; of_suite = refl }

    go : LifeOf (Offered ask legs keys) rounds section → HasKey (Offered ask legs keys ∷ rounds) section side key.suite
    go (begins l e) = with_life [] e
    go (goes_on l had e) = with_life (section_life rounds section) e
    go (is_over e) = absurd (true≢false (sym (no_life (Offered ask legs keys ∷ rounds) section e h)))

-- a key that the leg had before an offer that leased no pair for it
pub has_key-old : (ask : OfferAsk) (legs : List Holder) (keys : List NewKey) (rounds : List Round) (section : ℕ) (side : Side) (suite : Suite) →
    has_pairs (Offered ask legs keys ∷ rounds) section ≡ true → leases (Offered ask legs keys) section ≡ false →
    HasKey rounds section side suite → HasKey (Offered ask legs keys ∷ rounds) section side suite
has_key-old ask legs keys rounds section side suite h none k = go (life-step (Offered ask legs keys) rounds section)
  where
    go : LifeOf (Offered ask legs keys) rounds section → HasKey (Offered ask legs keys ∷ rounds) section side suite
    go (begins l e) = absurd (true≢false (sym l ∙ none))
    go (goes_on l had e) = record {
      key = k.key;
      drawn = subst (λ rs. In k.key (drawn_for rs)) (sym e) (in-right keys k.drawn);
      is_legs = k.is_legs;
      of_suite = k.of_suite;
    }
    go (is_over e) = absurd (true≢false (sym (no_life (Offered ask legs keys ∷ rounds) section e h)))

-- what a committed section had drawn before its last answer it still has
committed-drawn : (rounds : List Round) (section : ℕ) (answer : GivenAnswer) (key : NewKey) → is_committed rounds section ≡ true → last_answer rounds ≡ Some answer →
    In key (drawn_for (section_life answer.before section)) → In key (drawn_for (section_life rounds section))
committed-drawn [] section answer key c a i = cc
committed-drawn (Answered ask ∷ rounds) section answer key c a i = go (life-step (Answered ask) rounds section)
  where
    before : answer.before ≡ rounds
    before = cc

    go : LifeOf (Answered ask) rounds section → In key (drawn_for (section_life (Answered ask ∷ rounds) section))
    go (begins l e) = cc
    go (goes_on l had e) = subst (λ rs. In key (drawn_for rs)) (sym e) (subst (λ rs. In key (drawn_for (section_life rs section))) before i)
    go (is_over e) = absurd (true≢false (sym (subst (λ rs. has_answer rs ≡ true) e c)))
committed-drawn (Offered ask legs keys ∷ rounds) section answer key c a i =
    go (life-step (Offered ask legs keys) rounds section) (λ d. committed-drawn rounds section answer key d a i)
  where
    go : LifeOf (Offered ask legs keys) rounds section → (is_committed rounds section ≡ true → In key (drawn_for (section_life rounds section))) →
        In key (drawn_for (section_life (Offered ask legs keys ∷ rounds) section))
    go (begins l e) more = absurd (true≢false (sym (subst (λ rs. has_answer rs ≡ true) e c)))
    go (goes_on l had e) more =
        subst (λ rs. In key (drawn_for rs)) (sym e) (in-right keys (more (subst (λ rs. has_answer rs ≡ true) e c)))
    go (is_over e) more = absurd (true≢false (sym (subst (λ rs. has_answer rs ≡ true) e c)))

-- the key in force on a leg is one of its keys
pub in_force-drawn : (rounds : List Round) (section : ℕ) (side : Side) (key : NewKey) → key_in_force rounds section side ≡ Some key → HasKey rounds section side key.suite
in_force-drawn rounds section side key e = go (is_committed rounds section) refl e
  where
    of_line : (answer : GivenAnswer) → is_committed rounds section ≡ true → last_answer rounds ≡ Some answer → (line : CryptoLine) →
        leg_key answer.before section side line.suite ≡ Some key → HasKey rounds section side key.suite
    of_line answer c a line k =
        let h = found (λ (x : NewKey). suite_eq x.suite line.suite) (leg_keys answer.before section side) key k in
        let b = kept (is_for section side) (drawn_for (section_life answer.before section)) key h.is_in in
        record { key = key; drawn = committed-drawn rounds section answer key c a b.is_in; is_legs = b.passes; of_suite = refl }

    of_key : (answer : GivenAnswer) → is_committed rounds section ≡ true → last_answer rounds ≡ Some answer → (line : Option CryptoLine) →
        elim line [ None ↦ None | Some l ↦ leg_key answer.before section side l.suite ] ≡ Some key → HasKey rounds section side key.suite
    of_key answer c a None k = cc
    of_key answer c a (Some line) k = of_line answer c a line k

    of_answer : (answer : Option GivenAnswer) → is_committed rounds section ≡ true → last_answer rounds ≡ answer →
        elim answer [ None ↦ None | Some g ↦ committed_key g.before g.ask section side ] ≡ Some key → HasKey rounds section side key.suite
    of_answer None c a k = cc
    of_answer (Some answer) c a k = of_key answer c a (committed_line answer.before answer.ask section side) k

    go : (b : Bool) → is_committed rounds section ≡ b →
        (if b then elim (last_answer rounds) [ None ↦ None | Some g ↦ committed_key g.before g.ask section side ] else None) ≡ Some key →
        HasKey rounds section side key.suite
    go true c k = of_answer (last_answer rounds) c refl k
    go false c k = cc

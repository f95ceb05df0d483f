-- A leg has one key for a suite: an offer demands a key where its leg has none for that suite.
use Rattle.std.proofs.Common.{◌≡◌, ◌∙◌, sym, ap, subst, ℕ, inl, inr, List, [], ◌∷◌, ◌++◌, true, Some, map, filter, is_none, true≢false}
use Rattle.std.specs.Prelude.{◌==◌}
use Rattle.sdes_lines.specs.declared.crypto_line.Suite.{Suite}
use Rattle.histories.specs.Words.{In, here, there}
use Rattle.histories.proofs.Lists.{in_append, filtered, keeps, equal_if, maps}
use Rattle.port_pool.specs.declared.holder.Side.{Side}
use Rattle.port_pool.specs.declared.holder.Holder.{Holder}
use Rattle.port_pool.specs.Signals.{NewKey, side_eq}
use Rattle.offer_answer.specs.Rounds.{Round, Offered, Answered, OfferAsk, AnswerAsk, KeyPlace, drawn_for}
use Rattle.offer_answer.specs.Sections.{section_life}
use Rattle.offer_answer.specs.Keys.{is_for, leg_keys, leg_key}
use Rattle.offer_answer.specs.Laws.{key_place, IsOfferRound, AreRounds}
use Rattle.offer_answer.proofs.Numbers.{Ordered}
use Rattle.offer_answer.proofs.Demanded.{AreKeysApart, new_keys-apart, new_key-is_missing}
use Rattle.offer_answer.proofs.Drawn.{same_side}
use Rattle.offer_answer.proofs.Keyed.{has_key-found, among-has}
use Rattle.offer_answer.proofs.Lives.{LifeOf, begins, goes_on, is_over, life-step}
use Rattle.call_cell.specs.LegKeys.{OnePerSuite}
use Rattle.call_cell.proofs.Splits.{both_left, both_right}

-- two elements of a list whose images are apart, whichever stands first, are one
pub ordered_one : {X Y : Type 0} (R : Y → Y → Type 0) (f : X → Y) {x y : X} (xs : List X) → Ordered R (map f xs) → In x xs → In y xs
    → (R (f x) (f y) → ⊥) → (R (f y) (f x) → ⊥) → x ≡ y
ordered_one R f [] o i j one two = elim i [ ]
ordered_one R f (z ∷ zs) o (here p) (here q) one two = p ∙ sym q
ordered_one {X} {Y} R f {y = y} (z ∷ zs) o (here p) (there j) one two =
    absurd (one (subst (λ (w : X). R (f w) (f y)) (sym p) (o.0 (f y) (maps f zs j))))
ordered_one {X} {Y} R f {x = x} (z ∷ zs) o (there i) (here q) one two =
    absurd (two (subst (λ (w : X). R (f w) (f x)) (sym q) (o.0 (f x) (maps f zs i))))
ordered_one R f (z ∷ zs) o (there i) (there j) one two = ordered_one R f zs o.1 i j one two

-- a key for a leg
record IsForLeg (section : ℕ) (side : Side) (key : NewKey) : Type 0 where
  of_section : key.section ≡ section
  of_side : key.side ≡ side

for_leg : (section : ℕ) (side : Side) (key : NewKey) → is_for section side key ≡ true → IsForLeg section side key
for_leg section side key q = record {
  of_section = equal_if key.section section (both_left (key.section == section) (side_eq key.side side) q);
  of_side = same_side key.side side (both_right (key.section == section) (side_eq key.side side) q);
}

-- the keys of one offer for one leg and one suite are one
one_new : (rounds : List Round) (ask : OfferAsk) (new : List Holder) (keys : List NewKey) → IsOfferRound rounds ask new keys → (a b : NewKey) → In a keys → In b keys
    → a.section ≡ b.section → a.side ≡ b.side → a.suite ≡ b.suite → a ≡ b
one_new rounds ask new keys r a b i j sections sides suites =
    ordered_one AreKeysApart key_place keys (subst (λ (ps : List KeyPlace). Ordered AreKeysApart ps) (sym r.drawn) (new_keys-apart rounds ask)) i j
    (λ apart. apart sections sides suites) (λ apart. apart (sym sections) (sym sides) (sym suites))

-- and the leg had none for that suite
none_old : (rounds : List Round) (ask : OfferAsk) (new : List Holder) (keys : List NewKey) → IsOfferRound rounds ask new keys → (section : ℕ) (side : Side)
    → (a b : NewKey) → In a keys → a.section ≡ section → a.side ≡ side → In b (leg_keys rounds section side) → a.suite ≡ b.suite → ⊥
none_old rounds ask new keys r section side a b i of_section of_side j suites =
    let missing = new_key-is_missing rounds ask (key_place a) (subst (λ (ps : List KeyPlace). In (key_place a) ps) r.drawn (maps key_place keys i)) in
    let found = has_key-found rounds section side b.suite (among-has rounds section side b j) in
    let same : leg_key rounds a.section a.side a.suite ≡ Some found.0 =
    ap (λ (n : ℕ). leg_key rounds n a.side a.suite) of_section ∙ ap (λ (s : Side). leg_key rounds section s a.suite) of_side
    ∙ ap (λ (s : Suite). leg_key rounds section side s) suites ∙ found.1 in
    true≢false (sym missing ∙ ap is_none same)

-- the keys of an offer and those before it
one_of_both : (rounds : List Round) (ask : OfferAsk) (new : List Holder) (keys : List NewKey) → IsOfferRound rounds ask new keys → (section : ℕ) (side : Side)
    → (old : List NewKey) → ((key : NewKey) → In key old → is_for section side key ≡ true → In key (leg_keys rounds section side))
    → OnePerSuite (leg_keys rounds section side) → OnePerSuite (filter (is_for section side) (keys ++ old))
one_of_both rounds ask new keys r section side old are_old one a b i j suites =
    let test = is_for section side in
    let p = filtered test (keys ++ old) i in
    let q = filtered test (keys ++ old) j in
    let x = for_leg section side a p.1 in
    let y = for_leg section side b q.1 in
    elim (in_append keys old p.0) [
      | inl m ↦ elim (in_append keys old q.0) [
        | inl n ↦ ap (λ (k : NewKey). k.number)
            (one_new rounds ask new keys r a b m n (x.of_section ∙ sym y.of_section) (x.of_side ∙ sym y.of_side) suites)
        | inr n ↦ absurd (none_old rounds ask new keys r section side a b m x.of_section x.of_side (are_old b n q.1) suites)
      ]
      | inr m ↦ elim (in_append keys old q.0) [
        | inl n ↦ absurd (none_old rounds ask new keys r section side b a n y.of_section y.of_side (are_old a m p.1) (sym suites))
        | inr n ↦ one a b (are_old a m p.1) (are_old b n q.1) suites
      ]
    ]

-- keys of no leg
one_of_none : (section : ℕ) (side : Side) (rounds : List Round) → rounds ≡ [] → OnePerSuite (filter (is_for section side) (drawn_for rounds))
one_of_none section side rounds q =
    subst (λ (rs : List Round). OnePerSuite (filter (is_for section side) (drawn_for rs))) (sym q) (λ a b i j suites. elim i [ ])

one_offered : (rounds : List Round) (ask : OfferAsk) (new : List Holder) (keys : List NewKey) → IsOfferRound rounds ask new keys → (section : ℕ) (side : Side)
    → OnePerSuite (leg_keys rounds section side) → LifeOf (Offered ask new keys) rounds section
    → OnePerSuite (leg_keys (Offered ask new keys ∷ rounds) section side)
one_offered rounds ask new keys r section side one (begins l e) =
    subst (λ (rs : List Round). OnePerSuite (filter (is_for section side) (drawn_for rs))) (sym e)
    (one_of_both rounds ask new keys r section side [] (λ key i q. elim i [ ]) one)
one_offered rounds ask new keys r section side one (goes_on l had e) =
    subst (λ (rs : List Round). OnePerSuite (filter (is_for section side) (drawn_for rs))) (sym e)
    (one_of_both rounds ask new keys r section side (drawn_for (section_life rounds section))
    (λ key i q. keeps (is_for section side) (drawn_for (section_life rounds section)) i q) one)
one_offered rounds ask new keys r section side one (is_over e) = one_of_none section side (section_life (Offered ask new keys ∷ rounds) section) e

one_answered : (rounds : List Round) (ask : AnswerAsk) (section : ℕ) (side : Side) → OnePerSuite (leg_keys rounds section side)
    → LifeOf (Answered ask) rounds section → OnePerSuite (leg_keys (Answered ask ∷ rounds) section side)
one_answered rounds ask section side one (begins l e) = absurd (let q = l in cc)
one_answered rounds ask section side one (goes_on l had e) =
    subst (λ (rs : List Round). OnePerSuite (filter (is_for section side) (drawn_for rs))) (sym e) one
one_answered rounds ask section side one (is_over e) = one_of_none section side (section_life (Answered ask ∷ rounds) section) e

pub one_suite : (rounds : List Round) → AreRounds rounds → (section : ℕ) (side : Side) → OnePerSuite (leg_keys rounds section side)
one_suite [] rs section side = λ a b i j suites. elim i [ ]
one_suite (Offered ask new keys ∷ rounds) rs section side =
    one_offered rounds ask new keys rs.0 section side (one_suite rounds rs.1 section side) (life-step (Offered ask new keys) rounds section)
one_suite (Answered ask ∷ rounds) rs section side =
    one_answered rounds ask section side (one_suite rounds rs.1 section side) (life-step (Answered ask) rounds section)

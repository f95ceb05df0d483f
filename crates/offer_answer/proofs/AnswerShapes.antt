-- The shape of sections after an answer.
use Rattle.std.proofs.Common.{◌≡◌, ◌&&◌, ℕ, ◌+◌, ◌<◌, ◌≤◌, inl, inr, below_more, Bool, true, false, not, List, [], ◌∷◌, ◌++◌, length, Option, Some, None, refl, sym, ap, ◌∙◌, subst, unwrap_or, option_map, slice_get, slice_index_or, arith}
use Rattle.std.proofs.lemmas.List.{get_or_append_left, get_or_push}
use Rattle.std.proofs.lemmas.Bool.{true≢false}
use Rattle.std.proofs.lemmas.Option.{slice_get_cases}
use Rattle.sdes_lines.specs.declared.crypto_line.Suite.{Suite}
use Rattle.sdes_lines.specs.declared.crypto_line.Suite.TheVariants.{Tag80, Tag32}
use Rattle.sdes_lines.specs.declared.crypto_line.CryptoLine.{CryptoLine}
use Rattle.sdp_text.specs.declared.section.Section.{Section}
use Rattle.sdp_text.specs.Descriptions.{sections_in}
use Rattle.port_pool.specs.declared.holder.Side.{Side}
use Rattle.port_pool.specs.declared.holder.Side.TheVariants.{A, B}
use Rattle.port_pool.specs.declared.signal.LegSignal.{LegSignal}
use Rattle.port_pool.specs.declared.signal.SectionSignal.{SectionSignal}
use Rattle.port_pool.specs.declared.signal.SectionSignal.TheVariants.{Commit, Reject}
use Rattle.port_pool.specs.Signals.{NewKey}
use Rattle.offer_answer.specs.Sections.{no_section, is_active}
use Rattle.offer_answer.specs.Signals.{line_key}
use Rattle.offer_answer.specs.Dialogs.{key_for, leg_at, drawn_for_leg}
use Rattle.offer_answer.specs.LastOffers.{no_made}
use Rattle.offer_answer.specs.Answers.{line_committed, key_for_line}
use Rattle.offer_answer.specs.Shapes.{SectionShape, key_shape, leg_shape, section_shape, shape_in, shape_of, is_active_at}
use Rattle.offer_answer.specs.AnswerShapes.{shape_key, shape_chosen, with_key_in_force, LegShapeCommits, ShapeAnswered, refuses_section, leg_taken, shape_taken, NextShape, SignalsLeg, SignalsSection, SignalShape}
use Rattle.offer_answer.specs.declared.leg.DrawnKey.{DrawnKey}
use Rattle.offer_answer.specs.declared.leg.Leg.{Leg}
use Rattle.offer_answer.specs.declared.leg.DialogSection.{DialogSection}
use Rattle.offer_answer.specs.declared.last_offer.MadeSection.{MadeSection}
use Rattle.offer_answer.specs.declared.last_offer.LastOffer.{LastOffer}
use Rattle.offer_answer.specs.declared.answered_section.AnsweredSection.{AnsweredSection}
use Rattle.offer_answer.specs.declared.dialog.Dialog.{Dialog}
use Rattle.offer_answer.proofs.Offering.{past-end}

abbrev answered_of : Section → Option CryptoLine → MadeSection → DialogSection → AnsweredSection
answered_of section line made kept = record { section = section; line = line; made = made; kept = kept }

pub same-answered : (x y : AnsweredSection) → x.section ≡ y.section → x.line ≡ y.line → x.made ≡ y.made → x.kept ≡ y.kept → x ≡ y
same-answered x y s l m k =
    ap (λ v. answered_of v x.line x.made x.kept) s
    ∙ ap (λ v. answered_of y.section v x.made x.kept) l
    ∙ ap (λ v. answered_of y.section y.line v x.kept) m
    ∙ ap (answered_of y.section y.line y.made) k

number-of : (section : ℕ) (side : Side) (key : Option DrawnKey) →
    option_map (λ (k : NewKey). k.number) (option_map (drawn_for_leg section side) key) ≡ option_map (λ (k : DrawnKey). k.number) key
number-of section side None = refl
number-of section side (Some key) = refl

pub signals-leg : (answered : AnsweredSection) (maker side : Side) (line : Option CryptoLine) (key : Option DrawnKey) (s : LegSignal) →
    s.inbound ≡ option_map line_key line → s.outbound ≡ option_map (λ (k : NewKey). k.number) (option_map (drawn_for_leg 0 A) key) →
    line ≡ line_committed answered maker side → key ≡ key_for_line (leg_at answered.kept side) (line_committed answered maker side) → SignalsLeg answered maker side s
signals-leg answered maker side line key s e f l k = record {
  inbound_is = e ∙ ap (option_map line_key) l;
  outbound_is = f ∙ number-of 0 A key ∙ ap (option_map (λ (x : DrawnKey). x.number)) k;
}

-- one more element at the end
pub one-pushed : {X : Type 0} (P : ℕ → X → Type 0) (n : ℕ) (xs ys : List X) (y : X) → length xs ≡ n → ys ≡ xs ++ y ∷ [] →
    ((k : ℕ) (none : X) → k < n → P k (slice_index_or xs k none)) → P n y → (k : ℕ) (none : X) → k < n + 1 → P k (slice_index_or ys k none)
one-pushed P n xs ys y count e before here k none =
    below_more (λ k. P k (slice_index_or ys k none)) n
    (λ k l. subst (P k) (sym (ap (λ zs. slice_index_or zs k none) e ∙ get_or_append_left xs (y ∷ []) none k (omega (arith, l, count)))) (before k none l))
    (subst (P n) (sym (ap (λ zs. slice_index_or zs n none) e ∙ get_or_push xs y none n count)) here)
    k

-- What the signal says of a leg is what becomes of it.

chosen-is : (leg : Leg) (line : Option CryptoLine) (s : LegSignal) → s.inbound ≡ option_map line_key line →
    shape_chosen s (leg_shape leg) ≡ option_map key_shape (key_for_line leg line)
chosen-is leg line s e = ap (λ (o : Option (List ℕ × Suite)). elim o [ None ↦ None | Some key ↦ shape_key (leg_shape leg) key.1 ]) e ∙ go line
  where
    by-suite : (suite : Suite) → shape_key (leg_shape leg) suite ≡ option_map key_shape (key_for leg suite)
    by-suite Tag80 = refl
    by-suite Tag32 = refl

    go : (line : Option CryptoLine) →
        elim (option_map line_key line) [ None ↦ None | Some key ↦ shape_key (leg_shape leg) key.1 ] ≡ option_map key_shape (key_for_line leg line)
    go None = refl
    go (Some l) = by-suite l.suite

shape-number : (key : Option DrawnKey) → option_map (λ (k : DrawnKey). k.number) key ≡ option_map (λ (k : ℕ × Suite). k.0) (option_map key_shape key)
shape-number None = refl
shape-number (Some key) = refl

leg-commits : (answered : AnsweredSection) (maker side : Side) (s : LegSignal) → SignalsLeg answered maker side s →
    LegShapeCommits s (leg_shape (leg_at answered.kept side)) (leg_taken answered maker side)
leg-commits answered maker side s g =
    let leg = leg_at answered.kept side in
    let line = line_committed answered maker side in
    let chosen = chosen-is leg line s g.inbound_is in
    record {
      new_is = ap (λ k. with_key_in_force k (leg_shape leg)) (sym chosen);
      outbound_is = g.outbound_is ∙ shape-number (key_for_line leg line) ∙ ap (option_map (λ (k : ℕ × Suite). k.0)) (sym chosen);
    }

taken-answers : (answered : AnsweredSection) (maker : Side) (s : SectionSignal) → SignalsSection answered maker s → answered.kept.has_pairs ≡ true →
    ShapeAnswered (Some s) (section_shape answered.kept) (shape_taken answered maker)
taken-answers answered maker Reject g p = absurd g
taken-answers answered maker (Commit a b) g p = record {
  had_pairs = p;
  pairs_are = refl;
  committed_is = refl;
  a_commits = leg-commits answered maker A a g.0;
  b_commits = leg-commits answered maker B b g.1;
}

had-pairs : (offered answered pairs : Bool) → not (offered && answered && pairs) ≡ false → pairs ≡ true
had-pairs true true true e = refl
had-pairs true true false e = sym e
had-pairs true false pairs e = absurd (true≢false e)
had-pairs false answered pairs e = absurd (true≢false e)

section-answers : (dialog : Dialog) (last : LastOffer) (lines : List (List ℕ)) (section : ℕ) (s : SectionSignal) (new : SectionShape) (refused : Bool) →
    refuses_section last lines section (shape_of dialog section) ≡ refused →
    NextShape refused dialog last lines section new → SignalShape refused dialog last lines section s → ShapeAnswered (Some s) (shape_of dialog section) new
section-answers dialog last lines section s new true r next signal =
    subst (λ (x : SectionSignal). ShapeAnswered (Some x) (shape_of dialog section) new) (sym signal) next
section-answers dialog last lines section s new false r next signal =
    let answered = next.0 in
    let now = next.1 in
    let kept = now.kept_is in
    subst (ShapeAnswered (Some s) (shape_of dialog section)) (sym next.2)
    (subst (λ (k : DialogSection). ShapeAnswered (Some s) (section_shape k) (shape_taken answered last.maker)) kept
    (taken-answers answered last.maker s (signal answered now)
    (ap (λ (k : DialogSection). k.has_pairs) kept ∙ had-pairs (is_active (slice_index_or last.sections section no_made).section) (is_active_at lines section) (shape_of dialog section).has_pairs r)))

-- past the description's end all is refused
past-refused : (last : LastOffer) (lines : List (List ℕ)) (section : ℕ) (old : SectionShape) → length (sections_in lines) ≤ section →
    refuses_section last lines section old ≡ true
past-refused last lines section old past =
    ap (λ o. not (is_active (slice_index_or last.sections section no_made).section && is_active (unwrap_or o no_section) && old.has_pairs))
    (past-end (sections_in lines) section past)
    ∙ none (is_active (slice_index_or last.sections section no_made).section)
  where
    none : (b : Bool) → not (b && false && old.has_pairs) ≡ true
    none true = refl
    none false = refl

pub answers : (dialog : Dialog) (last : LastOffer) (lines : List (List ℕ)) (sections : List DialogSection) (signal : List SectionSignal) →
    ((section : ℕ) → section < 8 →
    NextShape (refuses_section last lines section (shape_of dialog section)) dialog last lines section (shape_in sections section)) →
    length signal ≡ length (sections_in lines) →
    ((section : ℕ) (none : SectionSignal) → section < length signal →
    SignalShape (refuses_section last lines section (shape_of dialog section)) dialog last lines section (slice_index_or signal section none)) →
    (section : ℕ) → section < 8 → ShapeAnswered (slice_get signal section) (shape_of dialog section) (shape_in sections section)
answers dialog last lines sections signal next count signals section below = elim (slice_get_cases signal section).1 [
  | inl here ↦
      let s = here.0 in
      let within = here.1 in
      given (slice_get signal section) s here.2 (subst (SignalShape (refuses_section last lines section (shape_of dialog section)) dialog last lines section) here.3 (signals section s within))
  | inr past ↦
      subst (λ (o : Option SectionSignal). ShapeAnswered o (shape_of dialog section) (shape_in sections section)) (sym past.1)
      (subst (λ b. NextShape b dialog last lines section (shape_in sections section))
      (past-refused last lines section (shape_of dialog section) (omega (arith, past.0, count))) (next section below))
]
  where
    given : (o : Option SectionSignal) (s : SectionSignal) → o ≡ Some s → SignalShape (refuses_section last lines section (shape_of dialog section)) dialog last lines section s →
        ShapeAnswered o (shape_of dialog section) (shape_in sections section)
    given o s e signal =
        subst (λ (x : Option SectionSignal). ShapeAnswered x (shape_of dialog section) (shape_in sections section)) (sym e)
        (section-answers dialog last lines section s (shape_in sections section) (refuses_section last lines section (shape_of dialog section)) refl (next section below) signal)

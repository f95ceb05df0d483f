-- A signal names for a leg no key but one that was drawn for that leg in its life.
use Rattle.std.proofs.Common.{◌≡◌, ℕ, zero, suc, ◌+◌, Bool, true, false, List, [], Option, Some, None, refl, sym, subst, ap, ◌∙◌, slice_get, option_map, if◌then◌else◌, arith}
use Rattle.std.proofs.lemmas.Option.{slice_get-map}
use Rattle.histories.specs.Words.{In, numbers}
use Rattle.sdes_lines.specs.declared.crypto_line.Suite.{Suite}
use Rattle.sdes_lines.specs.declared.crypto_line.Suite.TheVariants.{Tag80, Tag32}
use Rattle.sdes_lines.specs.declared.crypto_line.CryptoLine.{CryptoLine}
use Rattle.port_pool.specs.declared.holder.Side.{Side}
use Rattle.port_pool.specs.declared.holder.Side.TheVariants.{A, B}
use Rattle.port_pool.specs.declared.signal.LegSignal.{LegSignal}
use Rattle.port_pool.specs.declared.signal.SectionSignal.{SectionSignal}
use Rattle.port_pool.specs.declared.signal.SectionSignal.TheVariants.{Commit, Reject}
use Rattle.port_pool.specs.Signals.{NewKey, side_eq, suite_eq, side_of, signal_at}
use Rattle.offer_answer.specs.Rounds.{Round, AnswerAsk, drawn_for}
use Rattle.offer_answer.specs.Sides.{MadeOffer, last_offer, maker}
use Rattle.offer_answer.specs.Sections.{section_count, all_sections, section_life}
use Rattle.offer_answer.specs.Keys.{is_for, leg_keys, leg_key, committed_line, committed_key}
use Rattle.offer_answer.specs.Signals.{is_rejected_by, line_key, side_signal, section_signal, answer_signal}
use Rattle.offer_answer.specs.Plan.{signal}
use Rattle.offer_answer.specs.Laws.{IsDrawnInLife, IsKeyOf, NamesDrawnKeys}
use Rattle.offer_answer.proofs.Members.{found, kept}
use Rattle.offer_answer.proofs.Lives.{drawn_in-life, drawn_for-call}

pub same_side : (a b : Side) → side_eq a b ≡ true → a ≡ b
same_side A A e = refl
same_side B B e = refl
same_side A B e = cc
same_side B A e = cc

same_suite : (a b : Suite) → suite_eq a b ≡ true → a ≡ b
same_suite Tag80 Tag80 e = refl
same_suite Tag32 Tag32 e = refl
same_suite Tag80 Tag32 e = cc
same_suite Tag32 Tag80 e = cc

-- a key of a leg: drawn in the leg's life for this section, side and suite
pub record IsLegKey (rounds : List Round) (section : ℕ) (side : Side) (suite : Suite) (key : NewKey) : Type 0 where
  pub for_section : key.section ≡ section
  pub for_side : key.side ≡ side
  pub for_suite : key.suite ≡ suite
  pub is_drawn : IsDrawnInLife rounds section key

pub leg_key-drawn : (rounds : List Round) (section : ℕ) (side : Side) (suite : Suite) (key : NewKey) →
    leg_key rounds section side suite ≡ Some key → IsLegKey rounds section side suite key
leg_key-drawn rounds section side suite key e =
    let f = found (λ (k : NewKey). suite_eq k.suite suite) (leg_keys rounds section side) key e in
    let k = kept (is_for section side) (drawn_for (section_life rounds section)) key f.is_in in
    record {
      for_section = grind (arith, k.passes);
      for_side = same_side key.side side (grind (arith, k.passes));
      for_suite = same_suite key.suite suite f.passes;
      is_drawn = drawn_in-life rounds section key k.is_in;
    }

-- the line and the key by which an answer commits a leg
pub record IsCommittedBy (rounds : List Round) (ask : AnswerAsk) (section : ℕ) (side : Side) (key : NewKey) : Type 0 where
  pub line : CryptoLine
  pub line_is : committed_line rounds ask section side ≡ Some line
  pub is_key : IsLegKey rounds section side line.suite key

pub committed_key-drawn : (rounds : List Round) (ask : AnswerAsk) (section : ℕ) (side : Side) (key : NewKey) →
    committed_key rounds ask section side ≡ Some key → IsCommittedBy rounds ask section side key
committed_key-drawn rounds ask section side key e = go (committed_line rounds ask section side) refl e
  where
    go : (line : Option CryptoLine) → committed_line rounds ask section side ≡ line →
        elim line [ None ↦ None | Some l ↦ leg_key rounds section side l.suite ] ≡ Some key → IsCommittedBy rounds ask section side key
    go None l e = cc
    go (Some line) l e = record { line = line; line_is = l; is_key = leg_key-drawn rounds section side line.suite key e }

-- what a signal says of a leg's key is what the answer commits
pub signal-outbound : (rounds : List Round) (offer : MadeOffer) (ask : AnswerAsk) (section : ℕ) (side : Side) →
    (side_signal rounds offer ask section side).outbound ≡ option_map (λ (k : NewKey). k.number) (committed_key rounds ask section side)
signal-outbound rounds offer ask section side = go (side_eq side (maker offer)) refl
  where
    go : (b : Bool) → side_eq side (maker offer) ≡ b →
        (side_signal rounds offer ask section side).outbound ≡ option_map (λ (k : NewKey). k.number) (committed_key rounds ask section side)
    go true e = rw e refl
    go false e = rw e refl

pub signal-inbound : (rounds : List Round) (offer : MadeOffer) (ask : AnswerAsk) (section : ℕ) (side : Side) →
    (side_signal rounds offer ask section side).inbound ≡ option_map line_key (committed_line rounds ask section side)
signal-inbound rounds offer ask section side = go (side_eq side (maker offer)) refl
  where
    go : (b : Bool) → side_eq side (maker offer) ≡ b → (side_signal rounds offer ask section side).inbound ≡ option_map line_key (committed_line rounds ask section side)
    go true e = rw e refl
    go false e = rw e refl

leg-named : (rounds : List Round) (offer : MadeOffer) (ask : AnswerAsk) (section : ℕ) (side : Side) (s : LegSignal) (number : ℕ) →
    side_signal rounds offer ask section side ≡ s → s.outbound ≡ Some number → IsKeyOf rounds section side s number
leg-named rounds offer ask section side s number e o =
    go (committed_key rounds ask section side) refl (sym (signal-outbound rounds offer ask section side) ∙ ap (λ (t : LegSignal). t.outbound) e ∙ o)
  where
    go : (key : Option NewKey) → committed_key rounds ask section side ≡ key → option_map (λ (k : NewKey). k.number) key ≡ Some number → IsKeyOf rounds section side s number
    go None k n = cc
    go (Some key) k n =
        let by = committed_key-drawn rounds ask section side key k in
        let inbound : s.inbound ≡ Some (line_key by.line) = sym (ap (λ (t : LegSignal). t.inbound) e) ∙ signal-inbound rounds offer ask section side ∙ ap (option_map line_key) by.line_is in
        record {
          key = key;
          number_is = cc;
          for_section = by.is_key.for_section;
          for_side = by.is_key.for_side;
          is_drawn = by.is_key.is_drawn;
          inbound = by.line.key;
          suite_is = inbound ∙ ap (λ suite. Some (by.line.key, suite)) (sym by.is_key.for_suite);
        }

-- the numbers from k on, by their places
number-at : (k n i j : ℕ) → slice_get (numbers k n) i ≡ Some j → j ≡ k + i
number-at k zero i j e = cc
number-at k (suc n) zero j e = let s : j ≡ k = cc in omega (arith, s)
number-at k (suc n) (suc i) j e = let s = number-at (suc k) n i j e in omega (arith, s)

pub section-signal : (rounds : List Round) (offer : MadeOffer) (ask : AnswerAsk) (section : ℕ) (side : Side) (s : LegSignal) →
    side_of side (section_signal rounds offer ask section) ≡ Some s → (is_rejected_by rounds ask section ≡ false) × (side_signal rounds offer ask section side ≡ s)
section-signal rounds offer ask section side s e = go side (is_rejected_by rounds ask section) refl e
  where
    go : (side : Side) (b : Bool) → is_rejected_by rounds ask section ≡ b →
        side_of side (if b then Reject else Commit (side_signal rounds offer ask section A) (side_signal rounds offer ask section B)) ≡ Some s →
        (is_rejected_by rounds ask section ≡ false) × (side_signal rounds offer ask section side ≡ s)
    go A true r e = cc
    go B true r e = cc
    go A false r e = (r, cc)
    go B false r e = (r, cc)

-- what a signal says of a leg is said by the leg's section, which isn't rejected
pub answer-signal : (rounds : List Round) (offer : MadeOffer) (ask : AnswerAsk) (section : ℕ) (side : Side) (s : LegSignal) →
    signal_at (answer_signal rounds offer ask) section side ≡ Some s → (is_rejected_by rounds ask section ≡ false) × (side_signal rounds offer ask section side ≡ s)
answer-signal rounds offer ask section side s e =
    go (slice_get (all_sections ask.sdp) section) refl
    (subst (λ (o : Option SectionSignal). elim o [ None ↦ None | Some t ↦ side_of side t ] ≡ Some s)
    (slice_get-map (section_signal rounds offer ask) (all_sections ask.sdp) section) e)
  where
    go : (at : Option ℕ) → slice_get (all_sections ask.sdp) section ≡ at →
        elim (option_map (section_signal rounds offer ask) at) [ None ↦ None | Some t ↦ side_of side t ] ≡ Some s →
        (is_rejected_by rounds ask section ≡ false) × (side_signal rounds offer ask section side ≡ s)
    go None a e = cc
    go (Some number) a e =
        let same = number-at 0 (section_count ask.sdp) section number a in
        let here : number ≡ section = omega (arith, same) in
        section-signal rounds offer ask section side s (subst (λ n. side_of side (section_signal rounds offer ask n) ≡ Some s) here e)

-- for all rounds whatsoever
pub names_drawn_keys : NamesDrawnKeys
unfolding signal
names_drawn_keys rounds ask section side s number e o = go (last_offer rounds) e
  where
    go : (offer : Option MadeOffer) → signal_at (elim offer [ None ↦ [] | Some made ↦ answer_signal rounds made ask ]) section side ≡ Some s → IsKeyOf rounds section side s number
    go None e = cc
    go (Some offer) e = leg-named rounds offer ask section side s number (answer-signal rounds offer ask section side s e).1 o

-- the same of all that the call drew
pub signal-names-drawn : (rounds : List Round) (ask : AnswerAsk) (section : ℕ) (side : Side) (s : LegSignal) (number : ℕ) →
    signal_at (signal rounds ask) section side ≡ Some s → s.outbound ≡ Some number →
    (key : NewKey) × In key (drawn_for rounds) × (key.number ≡ number) × (key.section ≡ section) × (key.side ≡ side)
signal-names-drawn rounds ask section side s number e o =
    let k = names_drawn_keys rounds ask section side s number e o in
    (k.key, drawn_for-call rounds section k.key k.is_drawn, k.number_is, k.for_section, k.for_side)

-- A leg is committed with keys exactly where its profile is SRTP.
use Rattle.std.proofs.Common.{◌≡◌, ℕ, Bool, true, false, not, ◌&&◌, ◌==◌, List, [], ◌∷◌, Option, Some, None, inl, inr, refl, sym, ap, ◌∙◌, subst, is_none, is_some, option_map, if◌then◌else◌}
use Rattle.std.specs.List.{list_any}
use Rattle.std.specs.Str.{bytes_eq}
use Rattle.sdes_lines.specs.declared.crypto_line.CryptoLine.{CryptoLine}
use Rattle.sdp_text.specs.Lines.{lines_of}
use Rattle.sdp_edit.specs.ChosenLines.{IsOffered, IsFirstOf, section_lines}
use Rattle.ng_reply.specs.declared.code.ErrorCode.TheVariants.{E8, E10, E11, E12, E20}
use Rattle.port_pool.specs.declared.holder.Side.{Side}
use Rattle.port_pool.specs.declared.holder.Side.TheVariants.{A, B}
use Rattle.port_pool.specs.declared.signal.LegSignal.{LegSignal}
use Rattle.port_pool.specs.Signals.{NewKey, side_eq, other_side, signal_at}
use Rattle.offer_answer.specs.Rounds.{Round, Offered, Answered, AnswerAsk}
use Rattle.offer_answer.specs.Sides.{MadeOffer, is_some_sides, last_offer, maker, offered_sdp}
use Rattle.offer_answer.specs.Sections.{section_in, section_count, all_sections, active_sections, is_active_in, has_pairs}
use Rattle.offer_answer.specs.Profiles.{is_srtp, is_srtp_leg, profile_over, profile_offered, profile_in_force, written_profile}
use Rattle.offer_answer.specs.Keys.{chosen_in, leg_key, chosen_by, committed_line, committed_key, no_lines, offered_lines, last_lines}
use Rattle.offer_answer.specs.Signals.{is_rejected_by, line_key, side_signal, answer_signal}
use Rattle.offer_answer.specs.Faults.{may_answer, misfits_answerer, takes_no_line, fault_of_answer_to}
use Rattle.offer_answer.specs.Plan.{AnswerRead, answer_fault, signal}
use Rattle.offer_answer.specs.Laws.{IsAnswerRound, AreRounds, IsSecured, SecuresLegs}
use Rattle.offer_answer.proofs.Drawn.{signal-inbound, signal-outbound, answer-signal, same_side}
use Rattle.offer_answer.proofs.Keyed.{HasKey, has_key-found, drawn-answered, has_key-answered}
use Rattle.offer_answer.proofs.Secured.{none-passes, is_there, in-all, active-within, has-line, own-key, others-key}

-- After an offer, and through the answers to it: the offerer has a key for its chosen line, the other side for each line that it was offered.
record IsKeyed (rounds : List Round) (offer : MadeOffer) (section : ℕ) : Type 0 where
  own : is_srtp (section_in offer.ask.sdp section).proto ≡ true →
      (line : CryptoLine) × (chosen_in offer.ask.chosen section ≡ Some line) × HasKey rounds section (maker offer) line.suite
  others : (line : CryptoLine) → IsOffered (offered_lines offer.before offer.ask offer.keys section) line → HasKey rounds section (other_side (maker offer)) line.suite

keyed : (rounds : List Round) (offer : MadeOffer) (section : ℕ) → AreRounds rounds → last_offer rounds ≡ Some offer →
    has_pairs rounds section ≡ true → is_active_in offer.ask.sdp section ≡ true → IsKeyed rounds offer section
keyed [] offer section rs l has active = cc
keyed (Offered ask legs keys ∷ rounds) offer section rs l has active =
    subst (λ o. IsKeyed (Offered ask legs keys ∷ rounds) o section) same (this (subst (λ (o : MadeOffer). is_active_in o.ask.sdp section ≡ true) (sym same) active))
  where
    made : MadeOffer
    made = record { ask = ask; keys = keys; before = rounds }

    same : made ≡ offer
    same = cc

    this : is_active_in ask.sdp section ≡ true → IsKeyed (Offered ask legs keys ∷ rounds) made section
    this a = record {
      own = λ secure.
          let line = has-line rounds ask section rs.0.no_fault a secure in
          (line.0, line.1, own-key rounds ask legs keys section line.0 rs.0 has a secure line.1);
      others = λ line o. others-key rounds ask legs keys section line rs.0 has o;
    }
keyed (Answered ask ∷ rounds) offer section rs l has active =
    let before = keyed rounds offer section rs.1 l (drawn-answered ask rounds section has).0 active in
    record {
      own = λ secure.
          let own = before.own secure in
          (own.0, own.1, has_key-answered ask rounds section (maker offer) own.0.suite has own.2);
      others = λ line o. has_key-answered ask rounds section (other_side (maker offer)) line.suite has (before.others line o);
    }

-- the profile that the last offer gives a leg
profile-last : (rounds : List Round) (offer : MadeOffer) (section : ℕ) (side : Side) → last_offer rounds ≡ Some offer →
    profile_offered rounds section side
    ≡ Some (if side_eq side (maker offer) then (section_in offer.ask.sdp section).proto else profile_over (profile_in_force offer.before section side) offer.ask section)
profile-last [] offer section side l = cc
profile-last (Offered ask legs keys ∷ rounds) offer section side l =
    let same : record { ask = ask; keys = keys; before = rounds } ≡ offer = cc in
    subst (λ (o : MadeOffer). profile_offered (Offered ask legs keys ∷ rounds) section side
    ≡ Some (if side_eq side (maker o) then (section_in o.ask.sdp section).proto else profile_over (profile_in_force o.before section side) o.ask section)) same refl
profile-last (Answered ask ∷ rounds) offer section side l = profile-last rounds offer section side l

other-of : (side maker : Side) → side_eq side maker ≡ false → side ≡ other_side maker
other-of A A e = cc
other-of B B e = cc
other-of A B e = refl
other-of B A e = refl

-- the first line that is one of P is one of P
first-is : (P : CryptoLine → Type 0) (lines : List (List ℕ)) (line : CryptoLine) → IsFirstOf P lines (Some line) → P line
first-is P [] line e = cc
first-is P (text ∷ more) line (inl f) = f.0.1
first-is P (text ∷ more) line (inr f) = first-is P more line f.1

takes-lines : (rounds : List Round) (offer : MadeOffer) (ask : AnswerAsk) → last_offer rounds ≡ Some offer → answer_fault rounds ask ≡ None →
    list_any (takes_no_line offer ask) (all_sections ask.sdp) ≡ false
unfolding answer_fault
takes-lines rounds offer ask l e =
    go (not (is_some_sides rounds ask.from_tag && may_answer rounds ask)) (not (bytes_eq ask.from_tag offer.ask.from_tag))
    (not (section_count ask.sdp == section_count offer.ask.sdp)) (list_any (misfits_answerer rounds offer ask) (active_sections ask.sdp))
    (list_any (takes_no_line offer ask) (all_sections ask.sdp))
    (sym (ap (λ (o : Option MadeOffer). if not (is_some_sides rounds ask.from_tag && may_answer rounds ask) then Some E10 else elim o [ None ↦ Some E10 | Some made ↦ fault_of_answer_to rounds made ask ]) l) ∙ e)
  where
    go : (x y z m w : Bool) → (if x then Some E10 else if y then Some E11 else if z then Some E12 else if m then Some E20 else if w then Some E8 else None) ≡ None → w ≡ false
    go true y z m w e = cc
    go false true z m w e = cc
    go false false true m w e = cc
    go false false false true w e = cc
    go false false false false true e = cc
    go false false false false false e = refl

all-true : (x y z : Bool) → not (x && y && z) ≡ false → (x ≡ true) × (y ≡ true) × (z ≡ true)
all-true true true true e = (refl, refl, refl)
all-true true true false e = cc
all-true true false z e = cc
all-true false y z e = cc

-- an answer that uses a section which was offered with SRTP takes up one of the lines
takes-line : (rounds : List Round) (offer : MadeOffer) (ask : AnswerAsk) (section : ℕ) → last_offer rounds ≡ Some offer → IsAnswerRound rounds ask →
    is_active_in offer.ask.sdp section ≡ true → is_active_in ask.sdp section ≡ true → is_srtp (written_profile offer.before offer.ask section) ≡ true →
    (line : CryptoLine) × (chosen_in ask.chosen section ≡ Some line) × IsOffered (offered_lines offer.before offer.ask offer.keys section) line
unfolding AnswerRead
takes-line rounds offer ask section l r offered active secure =
    let below = active-within ask.sdp section active in
    let takes = none-passes (takes_no_line offer ask) (all_sections ask.sdp) section (takes-lines rounds offer ask l r.no_fault) (in-all ask.sdp section below) in
    let some : is_none (chosen_in ask.chosen section) ≡ false = rest (is_active_in offer.ask.sdp section) (is_active_in ask.sdp section) (is_srtp (written_profile offer.before offer.ask section)) offered active secure takes in
    let line = is_there (chosen_in ask.chosen section) some in
    let first = subst (λ o. IsFirstOf (IsOffered (last_lines rounds section)) (section_lines section (lines_of ask.sdp)) o) line.1 (r.heard.first section below) in (
      line.0,
      line.1,
      subst (λ (o : Option MadeOffer). IsOffered (elim o [ None ↦ no_lines | Some made ↦ offered_lines made.before made.ask made.keys section ]) line.0) l
          (first-is (IsOffered (last_lines rounds section)) (section_lines section (lines_of ask.sdp)) line.0 first),
    )
  where
    rest : (x y z : Bool) → x ≡ true → y ≡ true → z ≡ true → (x && y && z && is_none (chosen_in ask.chosen section)) ≡ false → is_none (chosen_in ask.chosen section) ≡ false
    rest true true true p q s e = e
    rest true true false p q s e = cc
    rest true false z p q s e = cc
    rest false y z p q s e = cc

-- where the profile is SRTP, the answer commits a line, and the leg has a key for it
has-keys : (rounds : List Round) (offer : MadeOffer) (ask : AnswerAsk) (section : ℕ) (side : Side) → last_offer rounds ≡ Some offer →
    AreRounds rounds → IsAnswerRound rounds ask → is_active_in offer.ask.sdp section ≡ true → is_active_in ask.sdp section ≡ true → has_pairs rounds section ≡ true →
    is_srtp_leg (profile_offered rounds section side) ≡ true →
    (line : CryptoLine) × (chosen_by offer ask section side ≡ Some line) × HasKey rounds section side line.suite
has-keys rounds offer ask section side l rs r offered active has secure = go (side_eq side (maker offer)) refl
  where
    keys : IsKeyed rounds offer section
    keys = keyed rounds offer section rs l has offered

    profile : is_srtp_leg (Some (if side_eq side (maker offer) then (section_in offer.ask.sdp section).proto else profile_over (profile_in_force offer.before section side) offer.ask section)) ≡ true
    profile = subst (λ p. is_srtp_leg p ≡ true) (profile-last rounds offer section side l) secure

    go : (b : Bool) → side_eq side (maker offer) ≡ b → (line : CryptoLine) × (chosen_by offer ask section side ≡ Some line) × HasKey rounds section side line.suite
    go true e =
        let own = keys.own (subst (λ (b : Bool). is_srtp (if b then (section_in offer.ask.sdp section).proto else profile_over (profile_in_force offer.before section side) offer.ask section) ≡ true) e profile) in
        let of_side = same_side side (maker offer) e in (
          own.0,
          ap (λ (b : Bool). if b then chosen_in offer.ask.chosen section else chosen_in ask.chosen section) e ∙ own.1,
          subst (λ s. HasKey rounds section s own.0.suite) (sym of_side) own.2,
        )
    go false e =
        let of_side = other-of side (maker offer) e in
        let over : is_srtp (profile_over (profile_in_force offer.before section side) offer.ask section) ≡ true =
        subst (λ (b : Bool). is_srtp (if b then (section_in offer.ask.sdp section).proto else profile_over (profile_in_force offer.before section side) offer.ask section) ≡ true) e profile in
        let line = takes-line rounds offer ask section l r offered active (subst (λ s. is_srtp (profile_over (profile_in_force offer.before section s) offer.ask section) ≡ true) of_side over) in (
          line.0,
          ap (λ (b : Bool). if b then chosen_in offer.ask.chosen section else chosen_in ask.chosen section) e ∙ line.1,
          subst (λ s. HasKey rounds section s line.0.suite) (sym of_side) (keys.others line.0 line.2),
        )

-- the line that is committed, by the profile
pub line-by : (rounds : List Round) (offer : MadeOffer) (ask : AnswerAsk) (section : ℕ) (side : Side) → last_offer rounds ≡ Some offer →
    committed_line rounds ask section side ≡ (if is_srtp_leg (profile_offered rounds section side) then chosen_by offer ask section side else None)
line-by rounds offer ask section side l =
    ap (λ (o : Option MadeOffer). elim o [ None ↦ None | Some made ↦ if is_srtp_leg (profile_offered rounds section side) then chosen_by made ask section side else None ]) l

pub key-by : (rounds : List Round) (ask : AnswerAsk) (section : ℕ) (side : Side) (line : Option CryptoLine) → committed_line rounds ask section side ≡ line →
    committed_key rounds ask section side ≡ elim line [ None ↦ None | Some made ↦ leg_key rounds section side made.suite ]
key-by rounds ask section side line e = ap (λ (o : Option CryptoLine). elim o [ None ↦ None | Some made ↦ leg_key rounds section side made.suite ]) e

secured-leg : (rounds : List Round) (offer : MadeOffer) (ask : AnswerAsk) (section : ℕ) (side : Side) (s : LegSignal) → last_offer rounds ≡ Some offer →
    AreRounds rounds → IsAnswerRound rounds ask → is_rejected_by rounds ask section ≡ false → side_signal rounds offer ask section side ≡ s →
    IsSecured (is_srtp_leg (profile_offered rounds section side)) s
secured-leg rounds offer ask section side s l rs r taken same = go (is_srtp_leg (profile_offered rounds section side)) refl
  where
    uses : (is_active_in (offered_sdp rounds) section ≡ true) × (is_active_in ask.sdp section ≡ true) × (has_pairs rounds section ≡ true)
    uses = all-true (is_active_in (offered_sdp rounds) section) (is_active_in ask.sdp section) (has_pairs rounds section) taken

    offered : is_active_in offer.ask.sdp section ≡ true
    offered = subst (λ (o : Option MadeOffer). is_active_in (elim o [ None ↦ [] | Some made ↦ made.ask.sdp ]) section ≡ true) l uses.0

    inbound : s.inbound ≡ option_map line_key (committed_line rounds ask section side)
    inbound = ap (λ (t : LegSignal). t.inbound) (sym same) ∙ signal-inbound rounds offer ask section side

    outbound : s.outbound ≡ option_map (λ (k : NewKey). k.number) (committed_key rounds ask section side)
    outbound = ap (λ (t : LegSignal). t.outbound) (sym same) ∙ signal-outbound rounds offer ask section side

    go : (b : Bool) → is_srtp_leg (profile_offered rounds section side) ≡ b → IsSecured b s
    go false e =
        let line : committed_line rounds ask section side ≡ None =
        line-by rounds offer ask section side l ∙ ap (λ (b : Bool). if b then chosen_by offer ask section side else None) e in
        let key : committed_key rounds ask section side ≡ None = key-by rounds ask section side None line in
        (inbound ∙ ap (option_map line_key) line, outbound ∙ ap (option_map (λ (k : NewKey). k.number)) key)
    go true e =
        let keys = has-keys rounds offer ask section side l rs r offered uses.1 uses.2 e in
        let line : committed_line rounds ask section side ≡ Some keys.0 =
        line-by rounds offer ask section side l ∙ ap (λ (b : Bool). if b then chosen_by offer ask section side else None) e ∙ keys.1 in
        let found = has_key-found rounds section side keys.0.suite keys.2 in
        let key : committed_key rounds ask section side ≡ Some found.0 = key-by rounds ask section side (Some keys.0) line ∙ found.1 in
        (ap is_some (inbound ∙ ap (option_map line_key) line), ap is_some (outbound ∙ ap (option_map (λ (k : NewKey). k.number)) key))

pub secures_legs : SecuresLegs
unfolding signal
secures_legs rounds ask section side s rs r e = go (last_offer rounds) refl e
  where
    go : (offer : Option MadeOffer) → last_offer rounds ≡ offer →
        signal_at (elim offer [ None ↦ [] | Some made ↦ answer_signal rounds made ask ]) section side ≡ Some s →
        IsSecured (is_srtp_leg (profile_offered rounds section side)) s
    go None l e = cc
    go (Some offer) l e =
        let said = answer-signal rounds offer ask section side s e in
        secured-leg rounds offer ask section side s l rs r said.0 said.1

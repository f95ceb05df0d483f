-- The crypto lines that are chosen in an answer's description, section by section, and what the answer commits.
use Rattle.std.proofs.Common.{◌≡◌, ◌<◌, ◌≤◌, ◌-◌, ◌+◌, ◌==◌, ℕ, Bool, true, false, not, ◌&&◌, ◌||◌, List, [], ◌∷◌, ◌++◌, length, map, Option, Some, None, is_none, refl, sym, ap, ◌∙◌, subst, if◌then◌else◌, unwrap_or, option_map, slice_get, arith, append-nil}
use Rattle.std.proofs.lemmas.List.{append_assoc}
use Rattle.std.specs.List.{list_any}
use Rattle.std.specs.Str.{bytes_eq}
use Rattle.histories.specs.Words.{numbers}
use Rattle.relay_outside.specs.declared.address.Family.{Family}
use Rattle.relay_outside.specs.declared.settings.Config.{Config}
use Rattle.sdes_lines.specs.declared.crypto_line.CryptoLine.{CryptoLine}
use Rattle.sdp_text.specs.Lines.{lines_of}
use Rattle.sdp_text.specs.Descriptions.{sections_in}
use Rattle.sdp_text.specs.declared.section.Section.{Section}
use Rattle.sdp_edit.specs.ChosenLines.{section_lines, IsFirstOf, IsOffered}
use Rattle.ng_command.specs.declared.command.Options.{Options}
use Rattle.ng_reply.specs.declared.code.ErrorCode.{ErrorCode}
use Rattle.ng_reply.specs.declared.code.ErrorCode.TheVariants.{E8, E10, E11, E12, E20}
use Rattle.port_pool.specs.declared.holder.Side.{Side}
use Rattle.port_pool.specs.declared.holder.Side.TheVariants.{A, B}
use Rattle.port_pool.specs.declared.signal.SectionSignal.{SectionSignal}
use Rattle.port_pool.specs.declared.signal.SectionSignal.TheVariants.{Commit, Reject}
use Rattle.port_pool.specs.Signals.{side_eq, other_side}
use Rattle.offer_answer.specs.Rounds.{Round, AnswerAsk}
use Rattle.offer_answer.specs.Sides.{MadeOffer, is_settled, is_some_sides, last_offer, maker, offered_sdp}
use Rattle.offer_answer.specs.Sections.{section_count, section_in, no_section, all_sections, active_sections, is_active, is_active_in}
use Rattle.offer_answer.specs.Profiles.{is_srtp, is_srtp_leg, profile_offered, written_profile}
use Rattle.offer_answer.specs.Keys.{chosen_in, leg_key, committed_line, committed_key, no_lines, offered_lines, last_lines}
use Rattle.offer_answer.specs.Mux.{mux_taken, mux_back}
use Rattle.offer_answer.specs.Signals.{is_rejected_by, leg_signal, side_signal, section_signal, answer_signal}
use Rattle.offer_answer.specs.Faults.{may_answer, misfits_answerer, takes_no_line, fault_of_answer_to}
use Rattle.offer_answer.specs.Families.{leg_family, misfits}
use Rattle.offer_answer.specs.Plan.{AnswerRead, answer_fault, signal}
use Rattle.offer_answer.specs.Dialogs.{drawn_for_leg, leg_at}
use Rattle.offer_answer.specs.Answers.{IsLast, ReadsAnswer, AnsweredAt, line_committed, key_for_line}
use Rattle.offer_answer.specs.declared.leg.DrawnKey.{DrawnKey}
use Rattle.offer_answer.specs.declared.last_offer.LastOffer.{LastOffer}
use Rattle.offer_answer.specs.declared.answered_section.AnsweredSection.{AnsweredSection}
use Rattle.offer_answer.proofs.Offering.{past-end, numbers-next, numbers-end}
use Rattle.offer_answer.proofs.Committing.{line-by, key-by}

-- The sections of the answer.

pub count-answered : (lines : List (List ℕ)) (rounds : List Round) (ask : AnswerAsk) → ReadsAnswer lines rounds ask → section_count ask.sdp ≡ length (sections_in lines)
count-answered lines rounds ask h = ap (λ ls. length (sections_in ls)) h.lines_are

pub section-answered : (lines : List (List ℕ)) (sdp : List ℕ) (section : ℕ) → lines_of sdp ≡ lines → unwrap_or (slice_get (sections_in lines) section) no_section ≡ section_in sdp section
section-answered lines sdp section e = sym (ap (λ (ls : List (List ℕ)). unwrap_or (slice_get (sections_in ls) section) no_section) e)

pub taken-heard : (lines : List (List ℕ)) (rounds : List Round) (ask : AnswerAsk) (section : ℕ) (offered : List (Option CryptoLine)) → ReadsAnswer lines rounds ask →
    offered ≡ last_lines rounds section → section < length (sections_in lines) →
    IsFirstOf (IsOffered offered) (section_lines section lines) (chosen_in ask.chosen section)
unfolding AnswerRead
taken-heard lines rounds ask section offered h e l =
    subst (λ (o : List (Option CryptoLine)). IsFirstOf (IsOffered o) (section_lines section lines) (chosen_in ask.chosen section)) (sym e)
    (subst (λ (ls : List (List ℕ)). IsFirstOf (IsOffered (last_lines rounds section)) (section_lines section ls) (chosen_in ask.chosen section)) h.lines_are
    (h.heard.first section (omega (arith, l, count-answered lines rounds ask h))))

pub none-heard : (lines : List (List ℕ)) (rounds : List Round) (ask : AnswerAsk) (section : ℕ) → ReadsAnswer lines rounds ask → length (sections_in lines) ≤ section →
    None ≡ chosen_in ask.chosen section
unfolding AnswerRead
none-heard lines rounds ask section h l =
    let past = past-end ask.chosen section (omega (arith, l, count-answered lines rounds ask h, h.heard.count)) in
    sym (ap (λ (o : Option (Option CryptoLine)). elim o [ None ↦ None | Some line ↦ line ]) past)

pub lines-last : (rounds : List Round) (offer : MadeOffer) (section : ℕ) → last_offer rounds ≡ Some offer → offered_lines offer.before offer.ask offer.keys section ≡ last_lines rounds section
lines-last rounds offer section l =
    sym (ap (λ (o : Option MadeOffer). elim o [ None ↦ no_lines | Some made ↦ offered_lines made.before made.ask made.keys section ]) l)

pub sdp-last : (rounds : List Round) (offer : MadeOffer) → last_offer rounds ≡ Some offer → offer.ask.sdp ≡ offered_sdp rounds
sdp-last rounds offer l = sym (ap (λ (o : Option MadeOffer). elim o [ None ↦ [] | Some made ↦ made.ask.sdp ]) l)

-- What it commits.

pub line-is : (config : Config) (rounds : List Round) (offer : MadeOffer) (ask : AnswerAsk) (section : ℕ) (o : AnsweredSection) (from side : Side) →
    AnsweredAt config rounds offer ask section o → last_offer rounds ≡ Some offer → from ≡ maker offer →
    line_committed o from side ≡ committed_line rounds ask section side
line-is config rounds offer ask section o from side a l e =
    ap (λ p. if is_srtp_leg p then (if side_eq side from then o.made.line else o.line) else None) (a.kept_is.legs_are side).offered_is
    ∙ ap (λ s. if is_srtp_leg (profile_offered rounds section side) then (if side_eq side s then o.made.line else o.line) else None) e
    ∙ ap (λ (x : Option CryptoLine). if is_srtp_leg (profile_offered rounds section side) then (if side_eq side (maker offer) then x else o.line) else None) a.made_is.line_is
    ∙ ap (λ (x : Option CryptoLine). if is_srtp_leg (profile_offered rounds section side) then (if side_eq side (maker offer) then chosen_in offer.ask.chosen section else x) else None) a.line_is
    ∙ sym (line-by rounds offer ask section side l)

pub key-is : (config : Config) (rounds : List Round) (offer : MadeOffer) (ask : AnswerAsk) (section : ℕ) (o : AnsweredSection) (from side : Side) →
    AnsweredAt config rounds offer ask section o → last_offer rounds ≡ Some offer → from ≡ maker offer →
    option_map (drawn_for_leg section side) (key_for_line (leg_at o.kept side) (line_committed o from side)) ≡ committed_key rounds ask section side
key-is config rounds offer ask section o from side a l e =
    go (line_committed o from side)
    ∙ sym (key-by rounds ask section side (line_committed o from side) (sym (line-is config rounds offer ask section o from side a l e)))
  where
    go : (line : Option CryptoLine) → option_map (drawn_for_leg section side) (key_for_line (leg_at o.kept side) line)
        ≡ elim line [ None ↦ None | Some made ↦ leg_key rounds section side made.suite ]
    go None = refl
    go (Some line) = (a.kept_is.legs_are side).keys_are line.suite

by-side : (rounds : List Round) (offer : MadeOffer) (ask : AnswerAsk) (section : ℕ) (side : Side) (own : Bool) → side_eq side (maker offer) ≡ own →
    side_signal rounds offer ask section side
    ≡ (if own then leg_signal (section_in offer.ask.sdp section) offer.ask.options (committed_line rounds ask section side) (committed_key rounds ask section side)
    (mux_back offer.ask.options (section_in offer.ask.sdp section) (section_in ask.sdp section))
    else leg_signal (section_in ask.sdp section) ask.options (committed_line rounds ask section side) (committed_key rounds ask section side)
    (mux_taken offer.ask.options (section_in offer.ask.sdp section) (section_in ask.sdp section)))
by-side rounds offer ask section side own e =
    ap (λ (b : Bool). if b then leg_signal (section_in offer.ask.sdp section) offer.ask.options (committed_line rounds ask section side) (committed_key rounds ask section side)
    (mux_back offer.ask.options (section_in offer.ask.sdp section) (section_in ask.sdp section))
    else leg_signal (section_in ask.sdp section) ask.options (committed_line rounds ask section side) (committed_key rounds ask section side)
    (mux_taken offer.ask.options (section_in offer.ask.sdp section) (section_in ask.sdp section))) e

-- what is said by the options of the offer and by both sections
by-both : (config : Config) (rounds : List Round) (offer : MadeOffer) (ask : AnswerAsk) (section : ℕ) (o : AnsweredSection) (last : LastOffer)
    (says : Options → Section → Section → Bool) → AnsweredAt config rounds offer ask section o → IsLast rounds offer last →
    says last.options o.made.section o.section ≡ says offer.ask.options (section_in offer.ask.sdp section) (section_in ask.sdp section)
by-both config rounds offer ask section o last says a i =
    ap (λ (options : Options). says options o.made.section o.section) i.kept.options_are
    ∙ ap (λ (s : Section). says offer.ask.options s o.section) a.made_is.section_is
    ∙ ap (says offer.ask.options (section_in offer.ask.sdp section)) a.section_is

-- the leg of the offer's side, and the other one
pub own-signal : (config : Config) (rounds : List Round) (offer : MadeOffer) (ask : AnswerAsk) (section : ℕ) (o : AnsweredSection) (last : LastOffer) (side : Side)
    (line : Option CryptoLine) (key : Option DrawnKey) (mux : Bool) → AnsweredAt config rounds offer ask section o → IsLast rounds offer last → side_eq side last.maker ≡ true →
    line ≡ line_committed o last.maker side → key ≡ key_for_line (leg_at o.kept side) (line_committed o last.maker side) →
    mux ≡ mux_back last.options o.made.section o.section →
    leg_signal o.made.section last.options line (option_map (drawn_for_leg section side) key) mux ≡ side_signal rounds offer ask section side
own-signal config rounds offer ask section o last side line key mux a i own l k m =
    ap (λ s. leg_signal s last.options line (option_map (drawn_for_leg section side) key) mux) a.made_is.section_is
    ∙ ap (λ s. leg_signal (section_in offer.ask.sdp section) s line (option_map (drawn_for_leg section side) key) mux) i.kept.options_are
    ∙ ap (λ x. leg_signal (section_in offer.ask.sdp section) offer.ask.options x (option_map (drawn_for_leg section side) key) mux)
    (l ∙ line-is config rounds offer ask section o last.maker side a i.offer_is i.kept.maker_is)
    ∙ ap (λ x. leg_signal (section_in offer.ask.sdp section) offer.ask.options (committed_line rounds ask section side) x mux)
    (ap (option_map (drawn_for_leg section side)) k ∙ key-is config rounds offer ask section o last.maker side a i.offer_is i.kept.maker_is)
    ∙ ap (leg_signal (section_in offer.ask.sdp section) offer.ask.options (committed_line rounds ask section side) (committed_key rounds ask section side))
    (m ∙ by-both config rounds offer ask section o last mux_back a i)
    ∙ sym (by-side rounds offer ask section side true (sym (ap (side_eq side) i.kept.maker_is) ∙ own))

pub others-signal : (config : Config) (rounds : List Round) (offer : MadeOffer) (ask : AnswerAsk) (section : ℕ) (o : AnsweredSection) (last : LastOffer) (options : Options) (side : Side)
    (line : Option CryptoLine) (key : Option DrawnKey) (mux : Bool) → AnsweredAt config rounds offer ask section o → IsLast rounds offer last → ask.options ≡ options →
    side_eq side last.maker ≡ false →
    line ≡ line_committed o last.maker side → key ≡ key_for_line (leg_at o.kept side) (line_committed o last.maker side) →
    mux ≡ mux_taken last.options o.made.section o.section →
    leg_signal o.section options line (option_map (drawn_for_leg section side) key) mux ≡ side_signal rounds offer ask section side
others-signal config rounds offer ask section o last options side line key mux a i asked others l k m =
    ap (λ s. leg_signal s options line (option_map (drawn_for_leg section side) key) mux) a.section_is
    ∙ ap (λ s. leg_signal (section_in ask.sdp section) s line (option_map (drawn_for_leg section side) key) mux) (sym asked)
    ∙ ap (λ x. leg_signal (section_in ask.sdp section) ask.options x (option_map (drawn_for_leg section side) key) mux)
    (l ∙ line-is config rounds offer ask section o last.maker side a i.offer_is i.kept.maker_is)
    ∙ ap (λ x. leg_signal (section_in ask.sdp section) ask.options (committed_line rounds ask section side) x mux)
    (ap (option_map (drawn_for_leg section side)) k ∙ key-is config rounds offer ask section o last.maker side a i.offer_is i.kept.maker_is)
    ∙ ap (leg_signal (section_in ask.sdp section) ask.options (committed_line rounds ask section side) (committed_key rounds ask section side))
    (m ∙ by-both config rounds offer ask section o last mux_taken a i)
    ∙ sym (by-side rounds offer ask section side false (sym (ap (side_eq side) i.kept.maker_is) ∙ others))

pub reject-signal : (rounds : List Round) (offer : MadeOffer) (ask : AnswerAsk) (section : ℕ) (rejected : Bool) → is_rejected_by rounds ask section ≡ rejected →
    section_signal rounds offer ask section ≡ (if rejected then Reject else Commit (side_signal rounds offer ask section A) (side_signal rounds offer ask section B))
reject-signal rounds offer ask section rejected e =
    ap (λ (b : Bool). if b then Reject else Commit (side_signal rounds offer ask section A) (side_signal rounds offer ask section B)) e

-- what is left of the signal, from a section on
abbrev pub signal_left : List Round → MadeOffer → AnswerAsk → ℕ → ℕ → List SectionSignal
signal_left rounds offer ask i n = map (section_signal rounds offer ask) (numbers i (n - i))

pub signal-next : (rounds : List Round) (offer : MadeOffer) (ask : AnswerAsk) (i n : ℕ) (old new : List SectionSignal) (here : SectionSignal) → i < n →
    here ≡ section_signal rounds offer ask i → new ≡ old ++ here ∷ [] → new ++ signal_left rounds offer ask (i + 1) n ≡ old ++ signal_left rounds offer ask i n
signal-next rounds offer ask i n old new here l h e =
    ap (λ xs. xs ++ signal_left rounds offer ask (i + 1) n) e
    ∙ append_assoc old (here ∷ []) (signal_left rounds offer ask (i + 1) n)
    ∙ ap (λ s. old ++ (s ∷ signal_left rounds offer ask (i + 1) n)) h
    ∙ ap (λ ns. old ++ map (section_signal rounds offer ask) ns) (sym (numbers-next i n l))

pub signal-end : (rounds : List Round) (offer : MadeOffer) (ask : AnswerAsk) (i n : ℕ) (xs : List SectionSignal) → n ≤ i → xs ++ signal_left rounds offer ask i n ≡ xs
signal-end rounds offer ask i n xs l = ap (λ ns. xs ++ map (section_signal rounds offer ask) ns) (numbers-end i n l) ∙ append-nil xs

pub signal-is : (rounds : List Round) (offer : MadeOffer) (ask : AnswerAsk) → last_offer rounds ≡ Some offer → signal rounds ask ≡ answer_signal rounds offer ask
unfolding signal
signal-is rounds offer ask l = ap (λ (o : Option MadeOffer). elim o [ None ↦ [] | Some made ↦ answer_signal rounds made ask ]) l

-- The faults.

pub takes-is : (config : Config) (rounds : List Round) (offer : MadeOffer) (ask : AnswerAsk) (section : ℕ) (o : AnsweredSection) → AnsweredAt config rounds offer ask section o →
    (is_active o.made.section && is_active o.section && is_srtp o.made.written && is_none o.line) ≡ takes_no_line offer ask section
takes-is config rounds offer ask section o a =
    ap (λ s. is_active s && is_active o.section && is_srtp o.made.written && is_none o.line) a.made_is.section_is
    ∙ ap (λ s. is_active_in offer.ask.sdp section && is_active s && is_srtp o.made.written && is_none o.line) a.section_is
    ∙ ap (λ p. is_active_in offer.ask.sdp section && is_active_in ask.sdp section && is_srtp p && is_none o.line) a.made_is.written_is
    ∙ ap (λ l. is_active_in offer.ask.sdp section && is_active_in ask.sdp section && is_srtp (written_profile offer.before offer.ask section) && is_none l) a.line_is

pub any-left : (p : ℕ → Bool) (i n : ℕ) → i < n → list_any p (numbers i (n - i)) ≡ (p i || list_any p (numbers (i + 1) (n - (i + 1))))
any-left p i n l = ap (list_any p) (numbers-next i n l)

pub any-end : (p : ℕ → Bool) (i n : ℕ) → n ≤ i → list_any p (numbers i (n - i)) ≡ false
any-end p i n l = ap (list_any p) (numbers-end i n l)

pub fault-tags : (rounds : List Round) (ask : AnswerAsk) → (is_some_sides rounds ask.from_tag && may_answer rounds ask) ≡ false → answer_fault rounds ask ≡ Some E10
unfolding answer_fault
fault-tags rounds ask e =
    ap (λ (b : Bool). if not b then Some E10 else elim (last_offer rounds) [ None ↦ Some E10 | Some offer ↦ fault_of_answer_to rounds offer ask ]) e

pub fault-none : (rounds : List Round) (ask : AnswerAsk) → last_offer rounds ≡ None → answer_fault rounds ask ≡ Some E10
unfolding answer_fault
fault-none rounds ask l =
    ap (λ (o : Option MadeOffer). if not (is_some_sides rounds ask.from_tag && may_answer rounds ask) then Some E10 else elim o [ None ↦ Some E10 | Some offer ↦ fault_of_answer_to rounds offer ask ]) l
    ∙ go (is_some_sides rounds ask.from_tag && may_answer rounds ask)
  where
    go : (b : Bool) → (if not b then Some E10 else Some E10) ≡ Some E10
    go true = refl
    go false = refl

pub fault-to : (rounds : List Round) (offer : MadeOffer) (ask : AnswerAsk) → (is_some_sides rounds ask.from_tag && may_answer rounds ask) ≡ true → last_offer rounds ≡ Some offer →
    answer_fault rounds ask ≡ fault_of_answer_to rounds offer ask
unfolding answer_fault
fault-to rounds offer ask e l =
    ap (λ (b : Bool). if not b then Some E10 else elim (last_offer rounds) [ None ↦ Some E10 | Some made ↦ fault_of_answer_to rounds made ask ]) e
    ∙ ap (λ (o : Option MadeOffer). elim o [ None ↦ Some E10 | Some made ↦ fault_of_answer_to rounds made ask ]) l

pub may-cases : (rounds : List Round) (ask : AnswerAsk) (same settled : Bool) → bytes_eq ask.to_tag ask.from_tag ≡ same → is_settled rounds ≡ settled →
    may_answer rounds ask ≡ (if same then false else if settled then is_some_sides rounds ask.to_tag else true)
may-cases rounds ask same settled e f =
    ap (λ (b : Bool). if b then false else if is_settled rounds then is_some_sides rounds ask.to_tag else true) e
    ∙ ap (λ (b : Bool). if same then false else if b then is_some_sides rounds ask.to_tag else true) f

abbrev faulty : Bool → Bool → Bool → Bool → Option ErrorCode
faulty own many misfit lacks = if not own then Some E11 else if not many then Some E12 else if misfit then Some E20 else if lacks then Some E8 else None

pub fault-cases : (rounds : List Round) (offer : MadeOffer) (ask : AnswerAsk) (own many misfit lacks : Bool) → bytes_eq ask.from_tag offer.ask.from_tag ≡ own →
    (section_count ask.sdp == section_count offer.ask.sdp) ≡ many → list_any (misfits_answerer rounds offer ask) (active_sections ask.sdp) ≡ misfit →
    list_any (takes_no_line offer ask) (all_sections ask.sdp) ≡ lacks →
    fault_of_answer_to rounds offer ask ≡ (if not own then Some E11 else if not many then Some E12 else if misfit then Some E20 else if lacks then Some E8 else None)
fault-cases rounds offer ask own many misfit lacks o m f k =
    ap (λ (b : Bool). faulty b (section_count ask.sdp == section_count offer.ask.sdp) (list_any (misfits_answerer rounds offer ask) (active_sections ask.sdp))
    (list_any (takes_no_line offer ask) (all_sections ask.sdp))) o
    ∙ ap (λ (b : Bool). faulty own b (list_any (misfits_answerer rounds offer ask) (active_sections ask.sdp)) (list_any (takes_no_line offer ask) (all_sections ask.sdp))) m
    ∙ ap (λ (b : Bool). faulty own many b (list_any (takes_no_line offer ask) (all_sections ask.sdp))) f
    ∙ ap (λ (b : Bool). faulty own many misfit b) k

pub unfit-is : (config : Config) (rounds : List Round) (offer : MadeOffer) (ask : AnswerAsk) (section : ℕ) (o : AnsweredSection) (options : Options) (side : Side) →
    AnsweredAt config rounds offer ask section o → options ≡ ask.options → side ≡ other_side (maker offer) →
    (is_active o.section && misfits (leg_at o.kept side).family options o.section) ≡ (is_active_in ask.sdp section && misfits_answerer rounds offer ask section)
unfit-is config rounds offer ask section o options side a e s =
    ap (λ (x : Option Family). is_active o.section && misfits x options o.section) (a.kept_is.legs_are side).family_is
    ∙ ap (λ (x : Side). is_active o.section && misfits (leg_family rounds section x) options o.section) s
    ∙ ap (λ (x : Options). is_active o.section && misfits (leg_family rounds section (other_side (maker offer))) x o.section) e
    ∙ ap (λ (x : Section). is_active x && misfits (leg_family rounds section (other_side (maker offer))) ask.options x) a.section_is

-- The entries that the rounds of a call owe to its cell, and what a cell has of legs and keys after them.
use Rattle.std.proofs.Common.{◌≡◌, ◌∙◌, sym, ap, subst, refl, ℕ, ◌<◌, ◌≤◌, inl, inr, List, [], ◌∷◌, ◌++◌, Bool, true, false, cond, not, ◌&&◌, ◌==◌, Option, Some, None, filter, length, nat_lt, zero, suc, true≢false, if◌then◌else◌, arith}
use Rattle.std.specs.List.{list_any}
use Rattle.std.proofs.lemmas.Bool.Decides.{nat_tests}
use Rattle.std.proofs.lemmas.List.{length-map}
use Rattle.histories.specs.Words.{In, has, numbers}
use Rattle.histories.proofs.Lists.{in_append, filtered, equal}
use Rattle.ng_reply.specs.declared.code.ErrorCode.TheVariants.{E8, E10, E11, E12, E20}
use Rattle.port_pool.specs.declared.holder.Side.{Side}
use Rattle.port_pool.specs.declared.holder.Holder.{Holder}
use Rattle.port_pool.specs.declared.signal.SectionSignal.{SectionSignal}
use Rattle.port_pool.specs.Signals.{NewKey, same_leg, is_rejected}
use Rattle.offer_answer.specs.Rounds.{Round, Offered, Answered, OfferAsk, AnswerAsk, NewLeg, drawn_for}
use Rattle.offer_answer.specs.Sides.{MadeOffer, is_begun, last_offer, offered_sdp, has_answer, is_some_sides}
use Rattle.offer_answer.specs.Sections.{most_sections, section_count, all_sections, active_sections, is_active_in, leases, section_life, has_pairs, is_committed, committed_count}
use Rattle.offer_answer.specs.Keys.{leg_keys}
use Rattle.offer_answer.specs.Faults.{is_strangers, lacks_line, may_answer, takes_no_line, fault_of_answer_to, misfits_offerer, misfits_answerer}
use Rattle.offer_answer.specs.Signals.{answer_signal, section_signal}
use Rattle.offer_answer.specs.Plan.{demand, signal, offer_fault, answer_fault}
use Rattle.offer_answer.specs.Laws.{leg_place, new_leg_place, IsOfferRound, IsAnswerRound, AreRounds}
use Rattle.offer_answer.proofs.Numbers.{in-map}
use Rattle.offer_answer.proofs.Demanded.{new_leg-within, new_leg-is_new}
use Rattle.offer_answer.proofs.Lives.{LifeOf, begins, goes_on, is_over, life-step}
use Rattle.offer_answer.proofs.Standing.{rejects_what_goes, drops_what_goes}
use Rattle.offer_answer.proofs.Secured.{active-within, some-passes, in-mapped}
use Rattle.call_cell.specs.Cells.{CellEntry, Prepare, Commit, legs, keys_in}
use Rattle.call_cell.specs.LegKeys.{keys_since, keys_for, is_for_leg}
use Rattle.call_cell.proofs.Legs.{is_same_leg}
use Rattle.call_cell.proofs.Nested.{entry_at}
use Rattle.call_cell.proofs.PrepareSteps.{any_true, any_false}

-- what the rounds of the call of this number owe to its cell
abbrev pub entries_of : ℕ → List Round → List CellEntry
entries_of number [] = []
entries_of number (Offered ask new keys ∷ rounds) = entry_at 0 (Prepare number new keys (demand rounds ask).dropped) ∷ entries_of number rounds
entries_of number (Answered ask ∷ rounds) = entry_at 0 (Commit (signal rounds ask)) ∷ entries_of number rounds

-- no offer has more than 8 sections
abbrev pub AreFew : List Round → Type 0
AreFew [] = Unit {0}
AreFew (Offered ask new keys ∷ rounds) = (section_count ask.sdp ≤ most_sections) × AreFew rounds
AreFew (Answered ask ∷ rounds) = AreFew rounds

-- each offer's legs have other leases than those that stand
abbrev pub LeaseAnew : ℕ → List Round → Type 0
LeaseAnew number [] = Unit {0}
LeaseAnew number (Offered ask new keys ∷ rounds) =
    ((leg other : Holder) → In leg new → In other (legs (entries_of number rounds)) → same_leg other leg ≡ true → ⊥) × LeaseAnew number rounds
LeaseAnew number (Answered ask ∷ rounds) = LeaseAnew number rounds

-- the rounds of a call as they come about
pub record AreGood (number : ℕ) (rounds : List Round) : Type 0 where
  pub come : AreRounds rounds
  pub few : AreFew rounds
  pub anew : LeaseAnew number rounds

-- Sections.

-- a leg that an offer leases is one that it demands
pub new_leg : (rounds : List Round) (ask : OfferAsk) (new : List Holder) (keys : List NewKey) → IsOfferRound rounds ask new keys → (leg : Holder) → In leg new
    → (l : NewLeg) × In l (demand rounds ask).pairs × (leg.section ≡ l.section) × (leg.side ≡ l.side)
new_leg rounds ask new keys r leg i =
    let m = in-map new_leg_place (demand rounds ask).pairs (leg_place leg) (subst (λ ps. In (leg_place leg) ps) r.leased (in-mapped leg_place new leg i)) in
    (m.0, m.1, ap (λ (p : ℕ × Side). p.0) m.2, ap (λ (p : ℕ × Side). p.1) m.2)

pub new_within : (rounds : List Round) (ask : OfferAsk) (new : List Holder) (keys : List NewKey) → IsOfferRound rounds ask new keys → (leg : Holder) → In leg new
    → leg.section < section_count ask.sdp
new_within rounds ask new keys r leg i =
    let l = new_leg rounds ask new keys r leg i in
    subst (λ n. n < section_count ask.sdp) (sym l.2) (new_leg-within rounds ask l.0 l.1)

pub new_without : (rounds : List Round) (ask : OfferAsk) (new : List Holder) (keys : List NewKey) → IsOfferRound rounds ask new keys → (leg : Holder) → In leg new
    → has_pairs rounds leg.section ≡ false
new_without rounds ask new keys r leg i =
    let l = new_leg rounds ask new keys r leg i in
    subst (λ n. has_pairs rounds n ≡ false) (sym l.2) (new_leg-is_new rounds ask l.0 l.1)

-- the leg by which an offer leases pairs for a section
leases_by : (ask : OfferAsk) (new : List Holder) (keys : List NewKey) (section : ℕ) → leases (Offered ask new keys) section ≡ true
    → (leg : Holder) × In leg new × (leg.section ≡ section)
leases_by ask new keys section l =
    let p = some-passes (λ (leg : Holder). leg.section == section) new l in
    (p.0, p.1, (let q = p.2 in grind (arith, q)))

leases_its : (ask : OfferAsk) (new : List Holder) (keys : List NewKey) (leg : Holder) → In leg new → leases (Offered ask new keys) leg.section ≡ true
leases_its ask new keys leg i = any_true (λ (x : Holder). x.section == leg.section) leg new i (equal leg.section leg.section refl)

-- an offer leases no pairs for a section that has them
leases_none : (rounds : List Round) (ask : OfferAsk) (new : List Holder) (keys : List NewKey) → IsOfferRound rounds ask new keys → (section : ℕ)
    → has_pairs rounds section ≡ true → leases (Offered ask new keys) section ≡ false
leases_none rounds ask new keys r section has = go (leases (Offered ask new keys) section) refl
  where
    go : (b : Bool) → leases (Offered ask new keys) section ≡ b → b ≡ false
    go false q = refl
    go true q =
        let leg = leases_by ask new keys section q in
        let none = new_without rounds ask new keys r leg.0 leg.1 in
        absurd (true≢false (sym has ∙ ap (λ n. has_pairs rounds n) (sym leg.2) ∙ none))

-- a section that no answer committed, and that an offer doesn't use, has no pairs after it
unused_goes : (rounds : List Round) (ask : OfferAsk) (new : List Holder) (keys : List NewKey) (section : ℕ) → leases (Offered ask new keys) section ≡ false
    → is_active_in ask.sdp section ≡ false → has_answer (section_life rounds section) ≡ false → has_pairs (Offered ask new keys ∷ rounds) section ≡ false
unused_goes rounds ask new keys section l a q = go (section_life rounds section) refl
  where
    go : (now : List Round) → section_life rounds section ≡ now → has_pairs (Offered ask new keys ∷ rounds) section ≡ false
    go [] e = rw (l, e) refl
    go (former ∷ before) e =
        let q' : has_answer (former ∷ before) ≡ false = subst (λ rs. has_answer rs ≡ false) e q in
        rw (l, e, a, q') refl

no_life : (rounds : List Round) (section : ℕ) → section_life rounds section ≡ [] → has_pairs rounds section ≡ true → ⊥
no_life rounds section e h = true≢false (sym (subst (λ rs. is_begun rs ≡ true) e h))

no_answer : (rounds : List Round) (section : ℕ) → section_life rounds section ≡ [] → is_committed rounds section ≡ true → ⊥
no_answer rounds section e h = true≢false (sym (subst (λ rs. has_answer rs ≡ true) e h))

not_below : (m n : ℕ) → nat_lt m n ≡ false → n ≤ m
not_below m n h = grind (arith, nat_tests)

-- an offer without a fault has the sections that were committed
has_committed : (rounds : List Round) (ask : OfferAsk) → offer_fault rounds ask ≡ None → committed_count rounds ≤ section_count ask.sdp
unfolding offer_fault
has_committed rounds ask e =
    not_below (section_count ask.sdp) (committed_count rounds)
    (go (is_strangers rounds ask) (nat_lt (section_count ask.sdp) (committed_count rounds)) (list_any (misfits_offerer rounds ask) (active_sections ask.sdp))
    (list_any (lacks_line ask) (active_sections ask.sdp)) e)
  where
    go : (x y d z : Bool) → (if x then Some E10 else if y then Some E12 else if d then Some E20 else if z then Some E8 else None) ≡ None → y ≡ false
    go true y d z e = cc
    go false true d z e = cc
    go false false d z e = refl

-- Sections with pairs are sections of the last offer, and those that were committed are sections of the last committed one.
pub record IsWithin (rounds : List Round) (section : ℕ) : Type 0 where
  pub paired : has_pairs rounds section ≡ true → section < section_count (offered_sdp rounds)
  pub committed : is_committed rounds section ≡ true → section < committed_count rounds

within_offer : (rounds : List Round) (ask : OfferAsk) (new : List Holder) (keys : List NewKey) (section : ℕ) → IsOfferRound rounds ask new keys
    → IsWithin rounds section → LifeOf (Offered ask new keys) rounds section → IsWithin (Offered ask new keys ∷ rounds) section
within_offer rounds ask new keys section r before (begins l e) = record {
  paired = λ h. (let leg = leases_by ask new keys section l in subst (λ n. n < section_count ask.sdp) leg.2 (new_within rounds ask new keys r leg.0 leg.1));
  committed = λ h. absurd (true≢false (sym (subst (λ rs. has_answer rs ≡ true) e h)));
}
within_offer rounds ask new keys section r before (goes_on l had e) = record {
  paired = λ h. in_use (is_active_in ask.sdp section) (is_committed rounds section) refl refl h;
  committed = λ h. before.committed (subst (λ rs. has_answer rs ≡ true) e h);
}
  where
    in_use : (active committed : Bool) → is_active_in ask.sdp section ≡ active → is_committed rounds section ≡ committed
        → has_pairs (Offered ask new keys ∷ rounds) section ≡ true → section < section_count ask.sdp
    in_use true committed a c h = active-within ask.sdp section a
    in_use false true a c h = let low = before.committed c in let most = has_committed rounds ask r.no_fault in omega (arith, low, most)
    in_use false false a c h = absurd (true≢false (sym h ∙ unused_goes rounds ask new keys section l a c))
within_offer rounds ask new keys section r before (is_over e) = record {
  paired = λ h. absurd (no_life (Offered ask new keys ∷ rounds) section e h);
  committed = λ h. absurd (no_answer (Offered ask new keys ∷ rounds) section e h);
}

within_answer : (rounds : List Round) (ask : AnswerAsk) (section : ℕ) → IsWithin rounds section → LifeOf (Answered ask) rounds section
    → IsWithin (Answered ask ∷ rounds) section
within_answer rounds ask section before (begins l e) = absurd (let q = l in cc)
within_answer rounds ask section before (goes_on l had e) = record { paired = λ h. before.paired had; committed = λ h. before.paired had }
within_answer rounds ask section before (is_over e) = record {
  paired = λ h. absurd (no_life (Answered ask ∷ rounds) section e h);
  committed = λ h. absurd (no_answer (Answered ask ∷ rounds) section e h);
}

pub within : (rounds : List Round) → AreRounds rounds → (section : ℕ) → IsWithin rounds section
within [] rs section = record { paired = λ h. absurd (let q = h in cc); committed = λ h. absurd (let q = h in cc) }
within (Offered ask new keys ∷ rounds) rs section =
    within_offer rounds ask new keys section rs.0 (within rounds rs.1 section) (life-step (Offered ask new keys) rounds section)
within (Answered ask ∷ rounds) rs section =
    within_answer rounds ask section (within rounds rs.1 section) (life-step (Answered ask) rounds section)

small_answer : (rounds : List Round) (ask : AnswerAsk) (section : ℕ) → (has_pairs rounds section ≡ true → section < most_sections) → LifeOf (Answered ask) rounds section
    → has_pairs (Answered ask ∷ rounds) section ≡ true → section < most_sections
small_answer rounds ask section rest (begins l e) h = absurd (let q = l in cc)
small_answer rounds ask section rest (goes_on l had e) h = rest had
small_answer rounds ask section rest (is_over e) h = absurd (no_life (Answered ask ∷ rounds) section e h)

-- so there are at most 8 of them
pub small : (rounds : List Round) → AreRounds rounds → AreFew rounds → (section : ℕ) → has_pairs rounds section ≡ true → section < most_sections
small [] rs few section h = absurd (let q = h in cc)
small (Offered ask new keys ∷ rounds) rs few section h =
    let w = within (Offered ask new keys ∷ rounds) rs section in
    let low : section < section_count ask.sdp = w.paired h in
    let most : section_count ask.sdp ≤ most_sections = few.0 in
    omega (arith, low, most)
small (Answered ask ∷ rounds) rs few section h =
    small_answer rounds ask section (small rounds rs.1 few section) (life-step (Answered ask) rounds section) h

-- An answer's signal.

record Answers (rounds : List Round) (ask : AnswerAsk) : Type 0 where
  offer : MadeOffer
  is_last : last_offer rounds ≡ Some offer
  as_many : section_count ask.sdp ≡ section_count offer.ask.sdp

-- an answer without a fault is to an offer, and has as many sections
answers : (rounds : List Round) (ask : AnswerAsk) → answer_fault rounds ask ≡ None → Answers rounds ask
unfolding answer_fault
answers rounds ask e = go (not (is_some_sides rounds ask.from_tag && may_answer rounds ask)) (last_offer rounds) refl e
  where
    counts : (offer : MadeOffer) (own many differs lacks : Bool) → (section_count ask.sdp == section_count offer.ask.sdp) ≡ many
        → (if not own then Some E11 else if not many then Some E12 else if differs then Some E20 else if lacks then Some E8 else None) ≡ None → section_count ask.sdp ≡ section_count offer.ask.sdp
    counts offer own true differs lacks q f = grind (arith, q)
    counts offer true false differs lacks q f = absurd (let g : Some E12 ≡ None = f in cc)
    counts offer false false differs lacks q f = absurd (let g : Some E11 ≡ None = f in cc)

    go : (b : Bool) (o : Option MadeOffer) → last_offer rounds ≡ o
        → (if b then Some E10 else elim o [ None ↦ Some E10 | Some offer ↦ fault_of_answer_to rounds offer ask ]) ≡ None → Answers rounds ask
    go true o l f = absurd (let g : Some E10 ≡ None = f in cc)
    go false None l f = absurd (let g : Some E10 ≡ None = f in cc)
    go false (Some offer) l f = record {
      offer = offer;
      is_last = l;
      as_many = counts offer (Rattle.std.specs.Str.bytes_eq ask.from_tag offer.ask.from_tag) (section_count ask.sdp == section_count offer.ask.sdp)
          (list_any (misfits_answerer rounds offer ask) (active_sections ask.sdp)) (list_any (takes_no_line offer ask) (all_sections ask.sdp)) refl f;
    }

numbers_length : (k n : ℕ) → length (numbers k n) ≡ n
numbers_length k zero = refl
numbers_length k (suc n) = ap suc (numbers_length (suc k) n)

-- its signal speaks of each section of that offer
signal_long : (rounds : List Round) (ask : AnswerAsk) → IsAnswerRound rounds ask → length (signal rounds ask) ≡ section_count (offered_sdp rounds)
unfolding signal
signal_long rounds ask r =
    let a = answers rounds ask r.no_fault in
    ap (λ (o : Option MadeOffer). length {A = SectionSignal} (elim o [ None ↦ [] | Some made ↦ answer_signal rounds made ask ])) a.is_last
    ∙ length-map (all_sections ask.sdp) (section_signal rounds a.offer ask) ∙ numbers_length 0 (section_count ask.sdp) ∙ a.as_many
    ∙ sym (ap (λ (o : Option MadeOffer). section_count (elim o [ None ↦ [] | Some made ↦ made.ask.sdp ])) a.is_last)

-- Legs.

not_true : (b : Bool) → not b ≡ true → b ≡ false
not_true true q = absurd (let e = q in cc)
not_true false q = refl

undropped : (a b : Bool) → false ≡ (a && not b) → a ≡ true → b ≡ true
undropped true true q p = refl
undropped true false q p = absurd (let e = q in cc)
undropped false b q p = absurd (let e = p in cc)

unrejected : (b : Bool) → false ≡ not b → b ≡ true
unrejected true q = refl
unrejected false q = absurd (let e = q in cc)

-- a section keeps its pairs, if an offer doesn't drop it
pub pairs_offer : (rounds : List Round) (ask : OfferAsk) (new : List Holder) (keys : List NewKey) (section : ℕ) → IsOfferRound rounds ask new keys
    → section < most_sections → has_pairs rounds section ≡ true → has (demand rounds ask).dropped section ≡ false
    → has_pairs (Offered ask new keys ∷ rounds) section ≡ true
pairs_offer rounds ask new keys section r low had stays =
    undropped (has_pairs rounds section) (has_pairs (Offered ask new keys ∷ rounds) section)
    (sym stays ∙ drops_what_goes rounds ask new keys section low (leases_none rounds ask new keys r section had)) had

-- or an answer doesn't reject it
pub pairs_answer : (rounds : List Round) (ask : AnswerAsk) (section : ℕ) → AreRounds rounds → IsAnswerRound rounds ask
    → has_pairs rounds section ≡ true → is_rejected (signal rounds ask) section ≡ false → has_pairs (Answered ask ∷ rounds) section ≡ true
pairs_answer rounds ask section rs r had stays =
    let w = within rounds rs section in
    let long = signal_long rounds ask r in
    let low = w.paired had in
    unrejected (has_pairs (Answered ask ∷ rounds) section) (sym stays ∙ rejects_what_goes rounds ask section (omega (arith, long, low)))

pub pairs_new : (ask : OfferAsk) (new : List Holder) (keys : List NewKey) (rounds : List Round) (leg : Holder) → In leg new
    → has_pairs (Offered ask new keys ∷ rounds) leg.section ≡ true
pairs_new ask new keys rounds leg i = let l = leases_its ask new keys leg i in rw l refl

-- a leg that the cell has is of a section that has pairs
pub stands : (number : ℕ) (rounds : List Round) → AreRounds rounds → AreFew rounds → (leg : Holder) → In leg (legs (entries_of number rounds))
    → has_pairs rounds leg.section ≡ true
stands number [] rs few leg i = elim i [ ]
stands number (Offered ask new keys ∷ rounds) rs few leg i =
    let stay : Holder → Bool = λ (x : Holder). not (has (demand rounds ask).dropped x.section) in
    elim (in_append (filter stay (legs (entries_of number rounds))) new i) [
      | inl j ↦ (let f = filtered stay (legs (entries_of number rounds)) j in
          let had = stands number rounds rs.1 few.1 leg f.0 in
          pairs_offer rounds ask new keys leg.section rs.0 (small rounds rs.1 few.1 leg.section had) had (not_true (has (demand rounds ask).dropped leg.section) f.1))
      | inr j ↦ pairs_new ask new keys rounds leg j
    ]
stands number (Answered ask ∷ rounds) rs few leg i =
    let stay : Holder → Bool = λ (x : Holder). not (is_rejected (signal rounds ask) x.section) in
    elim (in_append (filter stay (legs (entries_of number rounds))) [] i) [
      | inl j ↦ (let f = filtered stay (legs (entries_of number rounds)) j in
          pairs_answer rounds ask leg.section rs.1 rs.0 (stands number rounds rs.1 few leg f.0) (not_true (is_rejected (signal rounds ask) leg.section) f.1))
      | inr j ↦ elim j [ ]
    ]

-- Keys.

-- the keys of a cell are those that the rounds drew
pub keys_drawn : (number : ℕ) (rounds : List Round) → keys_in (entries_of number rounds) ≡ drawn_for rounds
keys_drawn number [] = refl
keys_drawn number (Offered ask new keys ∷ rounds) = ap (λ (l : List NewKey). keys ++ l) (keys_drawn number rounds)
keys_drawn number (Answered ask ∷ rounds) = keys_drawn number rounds

since_new : (number : ℕ) (rounds : List Round) (ask : OfferAsk) (new : List Holder) (keys : List NewKey) (leg : Holder) → In leg new
    → keys_since (entries_of number (Offered ask new keys ∷ rounds)) leg ≡ drawn_for (section_life (Offered ask new keys ∷ rounds) leg.section)
since_new number rounds ask new keys leg i =
    let l = leases_its ask new keys leg i in
    let t : list_any (same_leg leg) new ≡ true = any_true (same_leg leg) leg new i (is_same_leg leg) in
    ap (λ (b : Bool). keys ++ cond b [] (keys_since (entries_of number rounds) leg)) t ∙ rw l refl

since_old : (number : ℕ) (rounds : List Round) (ask : OfferAsk) (new : List Holder) (keys : List NewKey) (leg : Holder)
    → list_any (same_leg leg) new ≡ false → leases (Offered ask new keys) leg.section ≡ false
    → has_pairs (Offered ask new keys ∷ rounds) leg.section ≡ true
    → keys_since (entries_of number rounds) leg ≡ drawn_for (section_life rounds leg.section) → LifeOf (Offered ask new keys) rounds leg.section
    → keys_since (entries_of number (Offered ask new keys ∷ rounds)) leg ≡ drawn_for (section_life (Offered ask new keys ∷ rounds) leg.section)
since_old number rounds ask new keys leg t l h rest (begins m e) = absurd (true≢false (sym m ∙ l))
since_old number rounds ask new keys leg t l h rest (goes_on m had e) =
    ap (λ (b : Bool). keys ++ cond b [] (keys_since (entries_of number rounds) leg)) t
    ∙ ap (λ (k : List NewKey). keys ++ k) rest ∙ ap (λ (rs : List Round). drawn_for rs) (sym e)
since_old number rounds ask new keys leg t l h rest (is_over e) = absurd (no_life (Offered ask new keys ∷ rounds) leg.section e h)

since_answered : (number : ℕ) (rounds : List Round) (ask : AnswerAsk) (leg : Holder) → has_pairs (Answered ask ∷ rounds) leg.section ≡ true
    → keys_since (entries_of number rounds) leg ≡ drawn_for (section_life rounds leg.section) → LifeOf (Answered ask) rounds leg.section
    → keys_since (entries_of number (Answered ask ∷ rounds)) leg ≡ drawn_for (section_life (Answered ask ∷ rounds) leg.section)
since_answered number rounds ask leg h rest (begins m e) = absurd (let q = m in cc)
since_answered number rounds ask leg h rest (goes_on m had e) = rest ∙ ap (λ (rs : List Round). drawn_for rs) (sym e)
since_answered number rounds ask leg h rest (is_over e) = absurd (no_life (Answered ask ∷ rounds) leg.section e h)

-- the keys that came to a cell since it has a leg are those that were drawn since the leg's section has its pairs
pub since_life : (number : ℕ) (rounds : List Round) → AreRounds rounds → AreFew rounds → LeaseAnew number rounds → (leg : Holder)
    → In leg (legs (entries_of number rounds)) → keys_since (entries_of number rounds) leg ≡ drawn_for (section_life rounds leg.section)
since_life number [] rs few anew leg i = elim i [ ]
since_life number (Offered ask new keys ∷ rounds) rs few anew leg i =
    let stay : Holder → Bool = λ (x : Holder). not (has (demand rounds ask).dropped x.section) in
    elim (in_append (filter stay (legs (entries_of number rounds))) new i) [
      | inl j ↦ (let f = filtered stay (legs (entries_of number rounds)) j in
          since_old number rounds ask new keys leg
          (any_false (same_leg leg) new (λ x k same. anew.0 x leg k f.0 same))
          (leases_none rounds ask new keys rs.0 leg.section (stands number rounds rs.1 few.1 leg f.0))
          (stands number (Offered ask new keys ∷ rounds) rs few leg i)
          (since_life number rounds rs.1 few.1 anew.1 leg f.0) (life-step (Offered ask new keys) rounds leg.section))
      | inr j ↦ since_new number rounds ask new keys leg j
    ]
since_life number (Answered ask ∷ rounds) rs few anew leg i =
    let stay : Holder → Bool = λ (x : Holder). not (is_rejected (signal rounds ask) x.section) in
    elim (in_append (filter stay (legs (entries_of number rounds))) [] i) [
      | inl j ↦ (let f = filtered stay (legs (entries_of number rounds)) j in
          since_answered number rounds ask leg (stands number (Answered ask ∷ rounds) rs few leg i)
          (since_life number rounds rs.1 few anew leg f.0) (life-step (Answered ask) rounds leg.section))
      | inr j ↦ elim j [ ]
    ]

-- so a leg of the cell has the keys of its life
pub keys_of_life : (number : ℕ) (rounds : List Round) → AreGood number rounds → (leg : Holder) → In leg (legs (entries_of number rounds))
    → keys_for (entries_of number rounds) leg ≡ leg_keys rounds leg.section leg.side
keys_of_life number rounds g leg i = ap (λ (l : List NewKey). filter (is_for_leg leg) l) (since_life number rounds g.come g.few g.anew leg i)

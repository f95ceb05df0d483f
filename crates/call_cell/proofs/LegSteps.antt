-- A leg over one relay: it took the packet, sent it, or neither.
use Rattle.std.proofs.Common.{◌≡◌, refl, ap, subst, sym, ◌∙◌, ℕ, Bool, true, false, List, ◌∷◌, Option, Some, None}
use Rattle.std.specs.Prelude.{◌&&◌, ◌==◌, ◌||◌, if◌then◌else◌}
use Rattle.std.specs.List.{cons_option}
use Rattle.relay_outside.specs.declared.settings.Config.{Config}
use Rattle.rtp_packet.specs.declared.head.Half.{Half}
use Rattle.sdes_lines.specs.declared.crypto_line.Suite.{Suite}
use Rattle.sdes_lines.specs.declared.crypto_line.Suite.TheVariants.{Tag80, Tag32}
use Rattle.rtcp_reports.specs.declared.block.Block.{Block}
use Rattle.srtp_sources.specs.Notes.{Note, is_half}
use Rattle.histories.specs.Words.{or_else}
use Rattle.port_pool.specs.declared.holder.Holder.{Holder}
use Rattle.port_pool.specs.declared.signal.LegSignal.{LegSignal}
use Rattle.port_pool.specs.Signals.{NewKey, same_leg}
use Rattle.call_cell.specs.declared.contexts.Outbound.{Outbound}
use Rattle.call_cell.specs.declared.receiver.Receiving.{Receiving}
use Rattle.call_cell.specs.declared.sender.Sending.{Sending}
use Rattle.call_cell.specs.declared.leg.Leg.{Leg}
use Rattle.call_cell.specs.Cells.{CellEntry, Relayed, Receipt, Shield, Deed, in_force, is_accepted, key_numbered}
use Rattle.call_cell.specs.Protection.{accepted, protected, Judged, Passed}
use Rattle.call_cell.specs.Deeds.{judged, kind, way}
use Rattle.call_cell.specs.Blocks.{block_in, block_of, last_report}
use Rattle.call_cell.specs.Lessons.{address, steps_of, learned}
use Rattle.call_cell.specs.Contexts.{OutboundFor}
use Rattle.relay_outside.specs.declared.address.Addr.{Addr}
use Rattle.endpoint_learn.specs.Lessons as learner
use Rattle.endpoint_learn.specs.Lessons.{Heard, taught}
use Rattle.endpoint_learn.proofs.Lessons.{learned_more}
use Rattle.call_cell.specs.Parts.{boxed_in, inbound_of, learner_of, ReceivingFor, InboundIn, SendingFor, OutboundIn, HasNamed, HasIt, SameNumbers, contexts_of, has_number, is_numbered, key_number_in, noted_under, taught_half}
use Rattle.call_cell.specs.LegHistories.{LegStandsFor, outbound_of, relay_entry, with_receiving, with_send}
use Rattle.call_cell.proofs.Steps.{if_true, relay_accepted, relay_protected, signal_is}
use Rattle.call_cell.proofs.Protecting.{other_kept}
use Rattle.call_cell.proofs.Counting.{sent_from, counted_still, counted_accepts, counted_sends}

-- the relay was accepted from this leg
abbrev pub takes : Holder → Receipt → Deed → Bool
takes leg p d = same_leg leg p.holder && is_accepted d.outcome

abbrev relayed_of : Receipt → Bool → Deed → Relayed
relayed_of p ok d = record { packet = p; sent_ok = ok; deed = d }

-- Receiving.

learned_keeps : (m : ℕ) (p : Receipt) (ok : Bool) (d : Deed) (h : List CellEntry) (leg : Holder) (half : Half) → takes leg p d ≡ false
    → learned (relay_entry m p ok d ∷ h) leg half ≡ learned h leg half
learned_keeps m p ok d h leg half is_not =
    ap (λ (b : Bool). learner.learned_after (cons_option (if b && is_half p.half half then Some (Heard p.source) else None) (steps_of h leg half))) is_not

accepted_keeps : (m : ℕ) (p : Receipt) (ok : Bool) (d : Deed) (h : List CellEntry) (leg : Holder) → takes leg p d ≡ false
    → accepted (relay_entry m p ok d ∷ h) leg ≡ accepted h leg
accepted_keeps m p ok d h leg is_not =
    relay_accepted m (relayed_of p ok d) h leg ∙ ap (λ (b : Bool). cons_option (if_true b d.noted) (accepted h leg)) is_not

receiving_keeps : (m : ℕ) (p : Receipt) (ok : Bool) (d : Deed) (h : List CellEntry) (leg : Holder) (signal : Option LegSignal) (receiving : Receiving)
    → takes leg p d ≡ false → ReceivingFor signal receiving (learned h leg) (accepted h leg)
    → ReceivingFor signal receiving (learned (relay_entry m p ok d ∷ h) leg) (accepted (relay_entry m p ok d ∷ h) leg)
receiving_keeps m p ok d h leg signal receiving is_not for =
    record {
      learned = λ half. for.learned half ∙ ap (λ (o : Option Addr). learner_of half signal o) (sym (learned_keeps m p ok d h leg half is_not));
      inbound = subst (λ (l : List Note). InboundIn (inbound_of signal) (boxed_in receiving.inbound) l) (sym (accepted_keeps m p ok d h leg is_not)) for.inbound;
    }

taught_case : (h : List CellEntry) (leg : Holder) (half : Half) (s : LegSignal) (source : Addr) → in_force h leg ≡ Some s → (b : Bool)
    → learner.learned_after (cons_option (if b then Some (Heard source) else None) (steps_of h leg half))
    ≡ (if b then taught s.flags (learned h leg half) source else learned h leg half)
taught_case h leg half s source force true = learned_more (steps_of h leg half) (address half s) source s.flags (signal_is h leg half (Some s) force)
taught_case h leg half s source force false = refl

learned_takes : (m : ℕ) (p : Receipt) (ok : Bool) (d : Deed) (h : List CellEntry) (leg : Holder) (s : LegSignal) (half : Half) → takes leg p d ≡ true
    → in_force h leg ≡ Some s → learned (relay_entry m p ok d ∷ h) leg half ≡ taught_half p.half s.flags p.source (learned h leg) half
learned_takes m p ok d h leg s half is_so force =
    ap (λ (b : Bool). learner.learned_after (cons_option (if b && is_half p.half half then Some (Heard p.source) else None) (steps_of h leg half))) is_so
    ∙ taught_case h leg half s p.source force (is_half p.half half)

accepted_takes : (m : ℕ) (p : Receipt) (ok : Bool) (d : Deed) (h : List CellEntry) (leg : Holder) → takes leg p d ≡ true
    → accepted (relay_entry m p ok d ∷ h) leg ≡ cons_option d.noted (accepted h leg)
accepted_takes m p ok d h leg is_so =
    relay_accepted m (relayed_of p ok d) h leg ∙ ap (λ (b : Bool). cons_option (if_true b d.noted) (accepted h leg)) is_so

receiving_takes : (m : ℕ) (p : Receipt) (ok : Bool) (d : Deed) (h : List CellEntry) (leg : Holder) (s : LegSignal) (receiving : Receiving)
    → takes leg p d ≡ true → in_force h leg ≡ Some s
    → ReceivingFor (Some s) receiving (taught_half p.half s.flags p.source (learned h leg)) (cons_option d.noted (accepted h leg))
    → ReceivingFor (Some s) receiving (learned (relay_entry m p ok d ∷ h) leg) (accepted (relay_entry m p ok d ∷ h) leg)
receiving_takes m p ok d h leg s receiving is_so force for =
    record {
      learned = λ half. for.learned half ∙ ap (λ (o : Option Addr). learner_of half (Some s) o) (sym (learned_takes m p ok d h leg s half is_so force));
      inbound = subst (λ (l : List Note). InboundIn s.inbound (boxed_in receiving.inbound) l) (sym (accepted_takes m p ok d h leg is_so)) for.inbound;
    }

-- The last report block.

reported_keeps : (m : ℕ) (p : Receipt) (ok : Bool) (d : Deed) (h : List CellEntry) (leg : Holder) → takes leg p d ≡ false
    → last_report (relay_entry m p ok d ∷ h) leg ≡ last_report h leg
reported_keeps m p ok d h leg is_not =
    ap (λ (b : Bool). or_else (if b then block_of (kind h p) (judged h p leg) else None) (last_report h leg)) is_not

reported_takes : (m : ℕ) (p : Receipt) (ok : Bool) (d : Deed) (h : List CellEntry) (leg : Holder) (noted : Option Note) (plain : List ℕ) → takes leg p d ≡ true
    → judged h p leg ≡ Passed noted plain → last_report (relay_entry m p ok d ∷ h) leg ≡ or_else (block_in (kind h p) plain) (last_report h leg)
reported_takes m p ok d h leg noted plain is_so is_judged =
    ap (λ (b : Bool). or_else (if b then block_of (kind h p) (judged h p leg) else None) (last_report h leg)) is_so
    ∙ ap (λ (j : Judged). or_else (block_of (kind h p) j) (last_report h leg)) is_judged

-- Sending.

same_in : (leg : Holder) (suite : Suite) (keys : ℕ → Option NewKey) (notes others : ℕ → List Note) → ((n : ℕ) → notes n ≡ others n) → (o : Option Outbound)
    → OutboundIn leg suite keys notes o → OutboundIn leg suite keys others o
same_in leg suite keys notes others same None for = tt
same_in leg suite keys notes others same (Some x) for =
    record {
      key = for.key;
      is_there = for.is_there;
      section = for.section;
      side = for.side;
      suite_is = for.suite_is;
      contexts_for = subst (λ (l : List Note). OutboundFor for.key x l) (same x.number) for.contexts_for;
    }

-- after a relay its shield is noted
sending_over : {O : Type 0} (m : ℕ) (p : Receipt) (ok : Bool) (d : Deed) (h : List CellEntry) (leg : Holder) (sending : Sending O)
    → SendingFor leg (key_numbered h) (noted_under d.shield (protected h)) sending
    → SendingFor leg (key_numbered (relay_entry m p ok d ∷ h)) (protected (relay_entry m p ok d ∷ h)) sending
sending_over m p ok d h leg sending for =
    let same : (n : ℕ) → noted_under d.shield (protected h) n ≡ protected (relay_entry m p ok d ∷ h) n
    = λ n. sym (relay_protected m (relayed_of p ok d) h n) in
    record {
      ends = for.ends;
      tag80 = same_in leg Tag80 (key_numbered h) (noted_under d.shield (protected h)) (protected (relay_entry m p ok d ∷ h)) same (boxed_in sending.tag80) for.tag80;
      tag32 = same_in leg Tag32 (key_numbered h) (noted_under d.shield (protected h)) (protected (relay_entry m p ok d ∷ h)) same (boxed_in sending.tag32) for.tag32;
    }

-- the shield is under no key of this leg
abbrev pub IsElsewhere : Holder → (ℕ → Option NewKey) → Option Shield → Type 0
IsElsewhere leg keys shield =
    (s : Shield) → shield ≡ Some s → (key : NewKey) → keys s.key ≡ Some key → key.section ≡ leg.section → key.side ≡ leg.side → ⊥

sending_keeps : {O : Type 0} (leg : Holder) (keys : ℕ → Option NewKey) (notes : ℕ → List Note) (shield : Option Shield) (sending : Sending O)
    → IsElsewhere leg keys shield → SendingFor leg keys notes sending → SendingFor leg keys (noted_under shield notes) sending
sending_keeps leg keys notes shield sending apart for =
    record {
      ends = for.ends;
      tag80 = other_kept leg Tag80 keys notes shield (boxed_in sending.tag80) (λ s q key there section side suite. apart s q key there section side) for.tag80;
      tag32 = other_kept leg Tag32 keys notes shield (boxed_in sending.tag32) (λ s q key there section side suite. apart s q key there section side) for.tag32;
    }

by_number : Option ℕ → ℕ → Bool
by_number None n = false
by_number (Some m) n = m == n

numbered_by : (o : Option Outbound) (n : ℕ) → is_numbered o n ≡ by_number (key_number_in o) n
unfolding by_number
numbered_by None n = refl
numbered_by (Some x) n = refl

same_number : (a b : Option Outbound) (n : ℕ) → key_number_in a ≡ key_number_in b → is_numbered a n ≡ is_numbered b n
same_number a b n q = numbered_by a n ∙ ap (λ (o : Option ℕ). by_number o n) q ∙ sym (numbered_by b n)

same_has : {O : Type 0} (old new : Sending O) (n : ℕ) → SameNumbers old new → has_number new n ≡ has_number old n
same_has old new n same =
    ap (λ (b : Bool). b || is_numbered (boxed_in new.tag32) n) (same_number (boxed_in new.tag80) (boxed_in old.tag80) n same.tag80)
    ∙ ap (λ (b : Bool). is_numbered (boxed_in old.tag80) n || b) (same_number (boxed_in new.tag32) (boxed_in old.tag32) n same.tag32)

named_still : {O : Type 0} (number : Option ℕ) (old new : Sending O) → SameNumbers old new → HasIt number old → HasIt number new
named_still None old new same for = tt
named_still (Some n) old new same for = same_has old new n same ∙ for

pub named_so : {O : Type 0} (number : Option ℕ) (keys : ℕ → Option NewKey) (sending : Sending O) → HasIt number sending → HasNamed number keys sending
named_so None keys sending for = tt
named_so (Some n) keys sending for = λ q. absurd (let e = sym for ∙ q in cc)

held_still : {O : Type 0} (suite : Suite) (old new : Sending O) → SameNumbers old new
    → key_number_in (contexts_of suite new) ≡ key_number_in (contexts_of suite old)
held_still Tag80 old new same = same.tag80
held_still Tag32 old new same = same.tag32

-- A leg.

pub leg_keeps : {O : Type 0} (config : Config) (m : ℕ) (p : Receipt) (ok : Bool) (d : Deed) (h : List CellEntry) (leg : Leg O)
    → takes leg.holder p d ≡ false → ((half : Half) → sent_from h leg.holder half p d ≡ false) → IsElsewhere leg.holder (key_numbered h) d.shield
    → LegStandsFor config h leg → LegStandsFor config (relay_entry m p ok d ∷ h) leg
leg_keeps config m p ok d h leg is_not unsent apart for =
    record {
      pair = for.pair;
      generation = for.generation;
      signal = for.signal;
      family = for.family;
      port = for.port;
      receiving = receiving_keeps m p ok d h leg.holder leg.signal leg.receiving is_not for.receiving;
      sending = sending_over m p ok d h leg.holder leg.sending
          (sending_keeps leg.holder (key_numbered h) (protected h) d.shield leg.sending apart for.sending);
      named = for.named;
      section = for.section;
      held = for.held;
      one_each = for.one_each;
      counted = counted_still m p ok d h leg.holder leg.counts for.counted is_not unsent;
      reported = for.reported ∙ sym (reported_keeps m p ok d h leg.holder is_not);
    }

pub leg_takes : {O : Type 0} (config : Config) (m : ℕ) (p : Receipt) (ok : Bool) (d : Deed) (h : List CellEntry) (leg : Leg O) (s : LegSignal) (receiving : Receiving)
    (noted : Option Note) (plain : List ℕ) → judged h p leg.holder ≡ Passed noted plain → takes leg.holder p d ≡ true → d.kind ≡ kind h p → ((half : Half) → sent_from h leg.holder half p d ≡ false)
    → IsElsewhere leg.holder (key_numbered h) d.shield → leg.signal ≡ Some s
    → ReceivingFor (Some s) receiving (taught_half p.half s.flags p.source (learned h leg.holder)) (cons_option d.noted (accepted h leg.holder))
    → LegStandsFor config h leg → LegStandsFor config (relay_entry m p ok d ∷ h) (with_receiving (kind h p) plain leg receiving)
leg_takes config m p ok d h leg s receiving noted plain is_judged is_so is_kind unsent apart signal takes_it for =
    let new = receiving_takes m p ok d h leg.holder s receiving is_so (sym for.signal ∙ signal) takes_it in
    record {
      pair = for.pair;
      generation = for.generation;
      signal = for.signal;
      family = for.family;
      port = for.port;
      receiving = subst (λ (o : Option LegSignal). ReceivingFor o receiving (learned (relay_entry m p ok d ∷ h) leg.holder) (accepted (relay_entry m p ok d ∷ h) leg.holder)) (sym signal) new;
      sending = sending_over m p ok d h leg.holder leg.sending
          (sending_keeps leg.holder (key_numbered h) (protected h) d.shield leg.sending apart for.sending);
      named = for.named;
      section = for.section;
      held = for.held;
      one_each = for.one_each;
      counted = counted_accepts m p ok d h leg.holder leg.counts for.counted is_so is_kind unsent;
      reported = ap (λ (o : Option Block). or_else (block_in (kind h p) plain) o) for.reported ∙ sym (reported_takes m p ok d h leg.holder noted plain is_so is_judged);
    }

pub leg_sends : {O : Type 0} (config : Config) (m : ℕ) (p : Receipt) (ok : Bool) (d : Deed) (h : List CellEntry) (leg : Leg O) (sending : Sending O)
    → takes leg.holder p d ≡ false → ((half : Half) → sent_from h leg.holder half p d ≡ (ok && is_half (way h p) half)) → SendingFor leg.holder (key_numbered h) (noted_under d.shield (protected h)) sending → SameNumbers leg.sending sending
    → LegStandsFor config h leg → LegStandsFor config (relay_entry m p ok d ∷ h) (with_send (way h p) ok leg sending)
leg_sends config m p ok d h leg sending is_not sent noted same for =
    record {
      pair = for.pair;
      generation = for.generation;
      signal = for.signal;
      family = for.family;
      port = for.port;
      receiving = receiving_keeps m p ok d h leg.holder leg.signal leg.receiving is_not for.receiving;
      sending = sending_over m p ok d h leg.holder sending noted;
      named = named_still (outbound_of leg.signal) leg.sending sending same for.named;
      section = for.section;
      held = λ suite. held_still suite leg.sending sending same ∙ for.held suite;
      one_each = for.one_each;
      counted = counted_sends m p ok d h leg.holder leg.counts ok for.counted is_not sent;
      reported = for.reported ∙ sym (reported_keeps m p ok d h leg.holder is_not);
    }

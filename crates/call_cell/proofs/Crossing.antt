-- A packet that a leg took, on its way to the leg on the other side.
use Rattle.std.proofs.Common.{◌≡◌, refl, ap, subst, sym, ◌∙◌, ℕ, ◌<◌, inl, inr, Bool, true, false, List, ◌∷◌, length, filter, Option, None, Ok, arith, get_or, set, Some}
use Rattle.std.specs.Prelude.{◌&&◌}
use Rattle.std.specs.List.{cons_option}
use Rattle.std.proofs.lemmas.List.{length-set}
use Rattle.relay_outside.specs.declared.settings.Config.{Config}
use Rattle.relay_outside.specs.declared.ports.OutCall.{OutCall}
use Rattle.relay_outside.specs.DeviceLogs.{EndLog}
use Rattle.rtp_packet.specs.declared.head.Half.{Half}
use Rattle.srtp_sources.specs.Notes.{Note}
use Rattle.histories.specs.Words.{first}
use Rattle.port_pool.specs.declared.holder.Holder.{Holder}
use Rattle.port_pool.specs.Signals.{same_leg}
use Rattle.call_cell.specs.declared.outcome.Lost.{Lost}
use Rattle.call_cell.specs.declared.outcome.Lost.TheVariants as lost
use Rattle.call_cell.specs.declared.outcome.Outcome.TheVariants as outcomes
use Rattle.call_cell.specs.declared.leg.Leg.{Leg}
use Rattle.call_cell.specs.Cells.{CellEntry, Receipt, Deed, is_accepted, is_opposite, opposite, key_numbered}
use Rattle.call_cell.specs.Protection.{accepted, Judged, Stopped, Passed}
use Rattle.call_cell.specs.Lessons.{learned}
use Rattle.call_cell.specs.Deeds.{kind, found, judged, lost_deed, opposite_of, is_leaving}
use Rattle.call_cell.specs.Parts.{ReceivingFor, taught_half}
use Rattle.call_cell.specs.LegHistories.{LegStandsFor, LegsStandFor, LegsDo, LegsRelay, LegTakes, LegAccepts, relay_entry, sent_ok}
use Rattle.call_cell.proofs.Counting.{sent_from}
use Rattle.call_cell.proofs.LegSteps.{takes, IsElsewhere, leg_keeps, leg_takes}
use Rattle.call_cell.proofs.Placing.{holders_of, IsPlace, same_or_not, at_set, off_set, same_holders, same_swap, same_both, true_or_not, other_default, apart_over}
use Rattle.call_cell.proofs.Relaying.{kind_by, kind_so, found_at, holders_over, none_elsewhere, ends_none, deed_alone}
use Rattle.call_cell.proofs.Splits.{both}

-- a leg took the packet
pub record Taking {O : Type 0} (config : Config) (h : List CellEntry) (p : Receipt) (those : List (Leg O)) (i : ℕ) (x new : Leg O) (noted : Option Note)
    (plain : List ℕ) (buf : List ℕ) (size : ℕ) : Type 0 where
  pub for : LegsStandFor config h those
  pub place : IsPlace (same_leg p.holder) those i x
  pub is_judged : judged h p (get_or those i x).holder ≡ Passed noted plain
  pub takes : LegTakes p.half (kind h p) p.source (learned h (get_or those i x).holder) (accepted h (get_or those i x).holder) noted plain (get_or those i x) new buf (Ok size)

pub same_holder : {O : Type 0} (config : Config) (h : List CellEntry) (p : Receipt) (those : List (Leg O)) (i : ℕ) (x new : Leg O) (noted : Option Note)
    (plain buf : List ℕ) (size : ℕ) → Taking config h p those i x new noted plain buf size → new.holder ≡ (get_or those i x).holder
same_holder {O} config h p those i x new noted plain buf size t = ap (λ (leg : Leg O). leg.holder) t.takes.rest

same_sending : {O : Type 0} (config : Config) (h : List CellEntry) (p : Receipt) (those : List (Leg O)) (i : ℕ) (x new : Leg O) (noted : Option Note)
    (plain buf : List ℕ) (size : ℕ) → Taking config h p those i x new noted plain buf size → new.sending ≡ (get_or those i x).sending
same_sending {O} config h p those i x new noted plain buf size t = ap (λ (leg : Leg O). leg.sending) t.takes.rest

pub taken_at : {O : Type 0} (config : Config) (h : List CellEntry) (p : Receipt) (those : List (Leg O)) (i : ℕ) (x new : Leg O) (noted : Option Note)
    (plain buf : List ℕ) (size : ℕ) → Taking config h p those i x new noted plain buf size → (m : ℕ) (ok : Bool) (d : Deed)
    → is_accepted d.outcome ≡ true → d.noted ≡ noted → d.kind ≡ kind h p → ((half : Half) → sent_from h (get_or those i x).holder half p d ≡ false)
    → IsElsewhere (get_or those i x).holder (key_numbered h) d.shield
    → LegStandsFor config (relay_entry m p ok d ∷ h) new
taken_at {O} config h p those i x new noted plain buf size t m ok d acc is_noted is_kind unsent apart =
    let leg = get_or those i x in
    let is_so : takes leg.holder p d ≡ true = both (same_leg leg.holder p.holder) (is_accepted d.outcome) (same_swap p.holder leg.holder t.place.passes) acc in
    let it = subst (λ (n : Option Note). ReceivingFor (Some t.takes.signal) new.receiving (taught_half p.half t.takes.signal.flags p.source (learned h leg.holder)) (cons_option n (accepted h leg.holder)))
    (sym is_noted) t.takes.receiving in
    let P : Leg O → Type 0 = λ (l : Leg O). LegStandsFor config (relay_entry m p ok d ∷ h) l in
    subst P (sym t.takes.rest) (leg_takes config m p ok d h leg t.takes.signal new.receiving noted plain t.is_judged is_so is_kind unsent apart t.takes.in_force it (t.for.each i x t.place.below))

pub not_same : {O : Type 0} (config : Config) (h : List CellEntry) (p : Receipt) (those : List (Leg O)) (i : ℕ) (x : Leg O) → LegsStandFor config h those
    → IsPlace (same_leg p.holder) those i x → (j : ℕ) (y : Leg O) → j < length those → (j ≡ i → ⊥) → same_leg (get_or those j y).holder p.holder ≡ false
not_same {O} config h p those i x for place j y within apart = elim (true_or_not (same_leg (get_or those j y).holder p.holder)) [
  | inl same ↦ absurd (apart (for.apart.leases j i y within place.below
      (subst (λ (l : Leg O). same_leg (get_or those j y).holder l.holder ≡ true) (other_default those i x y place.below)
      (same_both (get_or those j y).holder p.holder (get_or those i x).holder same place.passes))))
  | inr other ↦ other
]

pub taken_off : {O : Type 0} (config : Config) (h : List CellEntry) (p : Receipt) (those : List (Leg O)) (i : ℕ) (x : Leg O) → LegsStandFor config h those
    → IsPlace (same_leg p.holder) those i x → (m : ℕ) (ok : Bool) (d : Deed) (j : ℕ) (y : Leg O) → j < length those → (j ≡ i → ⊥)
    → ((half : Half) → sent_from h (get_or those j y).holder half p d ≡ false) → IsElsewhere (get_or those j y).holder (key_numbered h) d.shield → LegStandsFor config (relay_entry m p ok d ∷ h) (get_or those j y)
taken_off config h p those i x for place m ok d j y within apart unsent elsewhere =
    leg_keeps config m p ok d h (get_or those j y)
    (ap (λ (b : Bool). b && is_accepted d.outcome) (not_same config h p those i x for place j y within apart)) unsent elsewhere (for.each j y within)

-- Nothing leaves.

lost_each : {O : Type 0} (config : Config) (h : List CellEntry) (p : Receipt) (those : List (Leg O)) (i : ℕ) (x new : Leg O) (noted : Option Note)
    (plain buf : List ℕ) (size : ℕ) (cause : Lost) → Taking config h p those i x new noted plain buf size → (m : ℕ) (ok : Bool) (j : ℕ) (y : Leg O) → j < length those
    → LegStandsFor config (relay_entry m p ok (lost_deed (kind h p) noted cause) ∷ h) (get_or (set those i new) j y)
lost_each {O} config h p those i x new noted plain buf size cause t m ok j y within =
    let d : Deed = lost_deed (kind h p) noted cause in
    let P : Leg O → Type 0 = λ (l : Leg O). LegStandsFor config (relay_entry m p ok d ∷ h) l in
    elim (same_or_not j i) [
      | inl is ↦ subst P (sym (ap (λ (k : ℕ). get_or (set those i new) k y) is ∙ at_set those i new y t.place.below))
          (taken_at config h p those i x new noted plain buf size t m ok d refl refl refl (λ half. refl) (none_elsewhere (get_or those i x).holder (key_numbered h)))
      | inr apart ↦ subst P (sym (off_set those i j new y apart))
          (taken_off config h p those i x t.for t.place m ok d j y within apart (λ half. refl) (none_elsewhere (get_or those j y).holder (key_numbered h)))
    ]

lost_legs : {O : Type 0} (config : Config) (h : List CellEntry) (p : Receipt) (those : List (Leg O)) (i : ℕ) (x new : Leg O) (noted : Option Note)
    (plain buf : List ℕ) (size : ℕ) (cause : Lost) → Taking config h p those i x new noted plain buf size → (m : ℕ) (ok : Bool)
    → LegsStandFor config (relay_entry m p ok (lost_deed (kind h p) noted cause) ∷ h) (set those i new)
lost_legs config h p those i x new noted plain buf size cause t m ok =
    let q = same_holder config h p those i x new noted plain buf size t in
    record {
      holders = holders_over m p ok (lost_deed (kind h p) noted cause) h (set those i new) (same_holders those i new x q ∙ t.for.holders);
      apart = apart_over those i new x t.place.below q t.for.apart;
      each = λ j y within. lost_each config h p those i x new noted plain buf size cause t m ok j y (omega (arith, within, length-set those i new));
    }

-- the leg that took the packet sends nothing
pub taker_sending : {O : Type 0} (config : Config) (h : List CellEntry) (p : Receipt) (those : List (Leg O)) (i : ℕ) (x new : Leg O) (noted : Option Note)
    (plain buf : List ℕ) (size : ℕ) → Taking config h p those i x new noted plain buf size → (j : ℕ) (y : Leg O)
    → (get_or (set those i new) j y).sending ≡ (get_or those j y).sending
taker_sending {O} config h p those i x new noted plain buf size t j y = elim (same_or_not j i) [
  | inl is ↦ ap (λ (k : ℕ). (get_or (set those i new) k y).sending) is
      ∙ ap (λ (leg : Leg O). leg.sending) (at_set those i new y t.place.below) ∙ same_sending config h p those i x new noted plain buf size t
      ∙ ap (λ (leg : Leg O). leg.sending) (other_default those i x y t.place.below)
      ∙ sym (ap (λ (k : ℕ). (get_or those k y).sending) is)
  | inr apart ↦ ap (λ (leg : Leg O). leg.sending) (off_set those i j new y apart)
]

pub lost_do : {O : Type 0} (log : O → EndLog OutCall) (faults : O → ℕ) (config : Config) (h : List CellEntry) (p : Receipt) (those : List (Leg O)) (i : ℕ)
    (x new : Leg O) (noted : Option Note) (plain buf out : List ℕ) (size : ℕ) (cause : Lost) → Taking config h p those i x new noted plain buf size
    → LegsDo log faults config h p those (set those i new) out (outcomes.Lost cause) (lost_deed (kind h p) noted cause)
lost_do log faults config h p those i x new noted plain buf out size cause t =
    record {
      outcome = refl;
      front = tt;
      legs_for = λ m. lost_legs config h p those i x new noted plain buf size cause t m (sent_ok (outcomes.Lost cause));
      ends = λ j y within. ends_none log faults (is_leaving (opposite_of h (found h p)) (get_or those j y).holder) (sent_ok (outcomes.Lost cause))
          (get_or those j y).sending (get_or (set those i new) j y).sending (taker_sending config h p those i x new noted plain buf size t j y);
    }

-- the leg that the packet was taken for, with how it judged it
pub takes_it : {O : Type 0} (config : Config) (h : List CellEntry) (p : Receipt) (those : List (Leg O)) (i : ℕ) (x new : Leg O) (buf : List ℕ) (size : ℕ)
    → LegsStandFor config h those → IsPlace (same_leg p.holder) those i x → (j : Judged) → judged h p (get_or those i x).holder ≡ j
    → LegAccepts j p.half (kind_by p (get_or those i x)) p.source (learned h (get_or those i x).holder) (accepted h (get_or those i x).holder) (get_or those i x) new buf (Ok size)
    → (noted : Option Note) × (plain : List ℕ) × Taking config h p those i x new noted plain buf size
takes_it config h p those i x new buf size for place (Stopped cause) is does = absurd (let f = does.answer in cc)
takes_it config h p those i x new buf size for place (Passed noted plain) is does =
    let there = found_at config h p those i x for place in
    let same : kind_by p (get_or those i x) ≡ kind h p = sym (kind_so config h p (get_or those i x) (for.each i x place.below) there) in (
      noted,
      plain,
      record {
        for = for;
        place = place;
        is_judged = is;
        takes = subst (λ (k : Half). LegTakes p.half k p.source (learned h (get_or those i x).holder) (accepted h (get_or those i x).holder) noted plain (get_or those i x) new buf (Ok size)) same does;
      },
    )

pub opposite_is : {O : Type 0} (config : Config) (h : List CellEntry) (p : Receipt) (those : List (Leg O)) (i : ℕ) (x new : Leg O) (noted : Option Note)
    (plain buf : List ℕ) (size : ℕ) → Taking config h p those i x new noted plain buf size → (r : Option Holder)
    → first (filter (is_opposite (get_or those i x).holder) (holders_of (set those i new))) ≡ r → opposite h (get_or those i x).holder ≡ r
opposite_is config h p those i x new noted plain buf size t r q =
    ap (λ (l : List Holder). first (filter (is_opposite (get_or those i x).holder) l))
    (sym (same_holders those i new x (same_holder config h p those i x new noted plain buf size t) ∙ t.for.holders)) ∙ q

pub relays_unopposed : {O : Type 0} (log : O → EndLog OutCall) (faults : O → ℕ) (config : Config) (h : List CellEntry) (p : Receipt) (those : List (Leg O)) (i : ℕ)
    (x new : Leg O) (noted : Option Note) (plain buf out : List ℕ) (size : ℕ) → Taking config h p those i x new noted plain buf size
    → first (filter (is_opposite (get_or those i x).holder) (holders_of (set those i new))) ≡ None
    → LegsRelay log faults config h p those (set those i new) out (outcomes.Lost lost.Hold)
relays_unopposed {O} log faults config h p those i x new noted plain buf out size t none =
    let P : Deed → Type 0 = λ (d : Deed). LegsDo log faults config h p those (set those i new) out (outcomes.Lost lost.Hold) d in
    subst P (sym (deed_alone config h p true (get_or those i x).holder noted plain (found_at config h p those i x t.for t.place) t.is_judged
    (opposite_is config h p those i x new noted plain buf size t None none)))
    (lost_do log faults config h p those i x new noted plain buf out size lost.Hold t)

-- The legs of a cell over one relay.
use Rattle.std.proofs.Common.{◌≡◌, refl, ap, subst, sym, ◌∙◌, ℕ, Bool, true, false, List, ◌∷◌, filter, Option, Some, None, Err, get_or, set}
use Rattle.std.specs.Prelude.{◌&&◌}
use Rattle.std.proofs.lemmas.List.{set-get_or}
use Rattle.relay_outside.specs.declared.settings.Config.{Config}
use Rattle.relay_outside.specs.declared.ports.OutCall.{OutCall}
use Rattle.relay_outside.specs.DeviceLogs.{EndLog}
use Rattle.rtp_packet.specs.declared.head.Half.{Half}
use Rattle.srtp_sources.specs.Notes.{Note}
use Rattle.histories.specs.Words.{first}
use Rattle.port_pool.specs.declared.holder.Holder.{Holder}
use Rattle.port_pool.specs.declared.signal.LegSignal.{LegSignal}
use Rattle.port_pool.specs.Signals.{NewKey, same_leg}
use Rattle.call_cell.specs.declared.outcome.Refused.{Refused}
use Rattle.call_cell.specs.declared.outcome.Refused.TheVariants as refused
use Rattle.call_cell.specs.declared.outcome.Lost.TheVariants as lost
use Rattle.call_cell.specs.declared.outcome.Outcome.TheVariants as outcomes
use Rattle.call_cell.specs.declared.sender.Sending as parts
use Rattle.call_cell.specs.declared.leg.Leg.{Leg}
use Rattle.call_cell.specs.Cells.{CellEntry, Receipt, Deed, legs, in_force, opposite, key_numbered}
use Rattle.call_cell.specs.Protection.{accepted, Judged, Stopped, Passed}
use Rattle.call_cell.specs.Lessons.{learned}
use Rattle.call_cell.specs.Deeds.{kind, kind_on, in_force_of, deed, deed_found, deed_judged, deed_opposite, deed_towards, found, opposite_of, is_leaving, judged, judged_leg, refused_deed, lost_deed}
use Rattle.call_cell.specs.LegHistories.{LegStandsFor, LegsStandFor, LegsDo, LegsRelay, LegAccepts, EndsFor, relay_entry}
use Rattle.call_cell.proofs.Steps.{relay_legs}
use Rattle.call_cell.proofs.LegSteps.{IsElsewhere, leg_keeps}
use Rattle.call_cell.proofs.Placing.{holders_of, IsPlace}

-- The deed, by cases.

deed_stale : (config : Config) (h : List CellEntry) (p : Receipt) (ok : Bool) → found h p ≡ None → deed config h p ok ≡ refused_deed (kind h p) refused.Stale
unfolding deed
deed_stale config h p ok q = ap (λ (o : Option Holder). deed_found config h p ok o) q

deed_of : (config : Config) (h : List CellEntry) (p : Receipt) (ok : Bool) (leg : Holder) (j : Judged) → found h p ≡ Some leg → judged h p leg ≡ j
    → deed config h p ok ≡ deed_judged config h p ok leg j
unfolding deed
deed_of config h p ok leg j q is =
    ap (λ (o : Option Holder). deed_found config h p ok o) q ∙ ap (λ (x : Judged). deed_judged config h p ok leg x) is

pub deed_alone : (config : Config) (h : List CellEntry) (p : Receipt) (ok : Bool) (leg : Holder) (noted : Option Note) (plain : List ℕ) → found h p ≡ Some leg
    → judged h p leg ≡ Passed noted plain → opposite h leg ≡ None → deed config h p ok ≡ lost_deed (kind h p) noted lost.Hold
deed_alone config h p ok leg noted plain q is none =
    deed_of config h p ok leg (Passed noted plain) q is ∙ ap (λ (o : Option Holder). deed_opposite config h p noted plain ok o) none

pub deed_to : (config : Config) (h : List CellEntry) (p : Receipt) (ok : Bool) (leg other : Holder) (noted : Option Note) (plain : List ℕ) (s : Option LegSignal)
    → found h p ≡ Some leg → judged h p leg ≡ Passed noted plain → opposite h leg ≡ Some other → in_force h other ≡ s
    → deed config h p ok ≡ deed_towards config h p noted plain ok other s
deed_to config h p ok leg other noted plain s q is there force =
    deed_of config h p ok leg (Passed noted plain) q is ∙ ap (λ (o : Option Holder). deed_opposite config h p noted plain ok o) there
    ∙ ap (λ (o : Option LegSignal). deed_towards config h p noted plain ok other o) force

-- Legs that are as before.

and_false : (b : Bool) → (b && false) ≡ false
and_false true = refl
and_false false = refl

pub none_elsewhere : (leg : Holder) (keys : ℕ → Option NewKey) → IsElsewhere leg keys None
none_elsewhere leg keys s q = absurd (let f = q in cc)

pub ends_none : {O : Type 0} (log : O → EndLog OutCall) (faults : O → ℕ) (leaves ok : Bool) (old new : parts.Sending O) → new ≡ old
    → EndsFor log faults leaves None ok old new
ends_none {O} log faults true ok old new q = ap (λ (x : parts.Sending O). x.ends) q
ends_none {O} log faults false ok old new q = ap (λ (x : parts.Sending O). x.ends) q

pub holders_over : {O : Type 0} (m : ℕ) (p : Receipt) (ok : Bool) (d : Deed) (h : List CellEntry) (those : List (Leg O)) → holders_of those ≡ legs h
    → holders_of those ≡ legs (relay_entry m p ok d ∷ h)
holders_over m p ok d h those q = q ∙ sym (relay_legs m (record { packet = p; sent_ok = ok; deed = d }) h)

-- a refused packet
legs_keep : {O : Type 0} (config : Config) (m : ℕ) (p : Receipt) (ok : Bool) (cause : Refused) (h : List CellEntry) (those : List (Leg O))
    → LegsStandFor config h those → LegsStandFor config (relay_entry m p ok (refused_deed (kind h p) cause) ∷ h) those
legs_keep config m p ok cause h those for =
    record {
      holders = holders_over m p ok (refused_deed (kind h p) cause) h those for.holders;
      apart = for.apart;
      each = λ i x below. leg_keeps config m p ok (refused_deed (kind h p) cause) h (get_or those i x)
          (and_false (same_leg (get_or those i x).holder p.holder)) (λ half. refl) (none_elsewhere (get_or those i x).holder (key_numbered h)) (for.each i x below);
    }

legs_refuse : {O : Type 0} (log : O → EndLog OutCall) (faults : O → ℕ) (config : Config) (h : List CellEntry) (p : Receipt) (those : List (Leg O))
    (buf : List ℕ) (cause : Refused) → LegsStandFor config h those
    → LegsDo log faults config h p those those buf (outcomes.Refused cause) (refused_deed (kind h p) cause)
legs_refuse log faults config h p those buf cause for =
    record {
      outcome = refl;
      front = tt;
      legs_for = λ m. legs_keep config m p true cause h those for;
      ends = λ i x below. ends_none log faults (is_leaving (opposite_of h (found h p)) (get_or those i x).holder) true (get_or those i x).sending (get_or those i x).sending refl;
    }

pub relays_stale : {O : Type 0} (log : O → EndLog OutCall) (faults : O → ℕ) (config : Config) (h : List CellEntry) (p : Receipt) (those : List (Leg O))
    (buf : List ℕ) → LegsStandFor config h those → first (filter (same_leg p.holder) (holders_of those)) ≡ None
    → LegsRelay log faults config h p those those buf (outcomes.Refused refused.Stale)
relays_stale {O} log faults config h p those buf for none =
    let gone : found h p ≡ None = ap (λ (l : List Holder). first (filter (same_leg p.holder) l)) (sym for.holders) ∙ none in
    let P : Deed → Type 0 = λ (d : Deed). LegsDo log faults config h p those those buf (outcomes.Refused refused.Stale) d in
    subst P (sym (deed_stale config h p true gone)) (legs_refuse log faults config h p those buf refused.Stale for)

-- The leg that a packet was taken for.

pub found_at : {O : Type 0} (config : Config) (h : List CellEntry) (p : Receipt) (those : List (Leg O)) (i : ℕ) (x : Leg O) → LegsStandFor config h those
    → IsPlace (same_leg p.holder) those i x → found h p ≡ Some (get_or those i x).holder
found_at config h p those i x for place =
    ap (λ (l : List Holder). first (filter (same_leg p.holder) l)) (sym for.holders) ∙ place.is_first

-- as what the leg takes the packet
abbrev pub kind_by : {O : Type 0} → Receipt → Leg O → Half
kind_by p leg = kind_on leg.signal p.half p.bytes

pub kind_so : {O : Type 0} (config : Config) (h : List CellEntry) (p : Receipt) (leg : Leg O) → LegStandsFor config h leg → found h p ≡ Some leg.holder
    → kind h p ≡ kind_by p leg
kind_so config h p leg for there =
    ap (λ (o : Option Holder). kind_on (in_force_of h o) p.half p.bytes) there
    ∙ ap (λ (o : Option LegSignal). kind_on o p.half p.bytes) (sym for.signal)

-- how the leg judges the packet
abbrev pub judges : {O : Type 0} → List CellEntry → Receipt → Leg O → Judged
judges h p leg = judged_leg leg.signal (learned h leg.holder p.half) (accepted h leg.holder) (kind_by p leg) p.source p.bytes

pub judges_so : {O : Type 0} (config : Config) (h : List CellEntry) (p : Receipt) (leg : Leg O) → LegStandsFor config h leg → found h p ≡ Some leg.holder
    → judged h p leg.holder ≡ judges h p leg
judges_so config h p leg for there =
    ap (λ (o : Option LegSignal). judged_leg o (learned h leg.holder p.half) (accepted h leg.holder) (kind h p) p.source p.bytes) (sym for.signal)
    ∙ ap (λ (k : Half). judged_leg leg.signal (learned h leg.holder p.half) (accepted h leg.holder) k p.source p.bytes) (kind_so config h p leg for there)

refuse_case : {O : Type 0} (log : O → EndLog OutCall) (faults : O → ℕ) (config : Config) (h : List CellEntry) (p : Receipt) (those : List (Leg O)) (i : ℕ)
    (x new : Leg O) (buf other : List ℕ) (cause : Refused) → LegsStandFor config h those → IsPlace (same_leg p.holder) those i x → (j : Judged)
    → judged h p (get_or those i x).holder ≡ j
    → LegAccepts j p.half (kind_by p (get_or those i x)) p.source (learned h (get_or those i x).holder) (accepted h (get_or those i x).holder) (get_or those i x) new other (Err cause)
    → LegsRelay log faults config h p those (set those i new) buf (outcomes.Refused cause)
refuse_case {O} log faults config h p those i x new buf other cause for place (Passed noted plain) is does = absurd (let f = does.answer in cc)
refuse_case {O} log faults config h p those i x new buf other cause for place (Stopped why) is does =
    let same : cause ≡ why = (let f = does.answer in cc) in
    let P : Deed → Type 0 = λ (d : Deed). LegsDo log faults config h p those (set those i new) buf (outcomes.Refused cause) d in
    let Q : List (Leg O) → Type 0 = λ (l : List (Leg O)). LegsDo log faults config h p those l buf (outcomes.Refused cause) (refused_deed (kind h p) cause) in
    let kept : those ≡ set those i new = sym (ap (λ (y : Leg O). set those i y) does.contexts ∙ set-get_or those i x) in
    let it : deed config h p true ≡ refused_deed (kind h p) cause
    = deed_of config h p true (get_or those i x).holder (Stopped why) (found_at config h p those i x for place) is
    ∙ ap (λ (c : Refused). refused_deed (kind h p) c) (sym same) in
    subst P (sym it) (subst Q kept (legs_refuse log faults config h p those buf cause for))

pub relays_refused : {O : Type 0} (log : O → EndLog OutCall) (faults : O → ℕ) (config : Config) (h : List CellEntry) (p : Receipt) (those : List (Leg O)) (i : ℕ)
    (x new : Leg O) (buf other : List ℕ) (cause : Refused) → LegsStandFor config h those → IsPlace (same_leg p.holder) those i x
    → LegAccepts (judges h p (get_or those i x)) p.half (kind_by p (get_or those i x)) p.source (learned h (get_or those i x).holder) (accepted h (get_or those i x).holder) (get_or those i x) new other (Err cause)
    → LegsRelay log faults config h p those (set those i new) buf (outcomes.Refused cause)
relays_refused log faults config h p those i x new buf other cause for place does =
    refuse_case log faults config h p those i x new buf other cause for place (judges h p (get_or those i x))
    (judges_so config h p (get_or those i x) (for.each i x place.below) (found_at config h p those i x for place)) does

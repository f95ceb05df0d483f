-- A packet that a leg took goes to the leg on the other side, and leaves by it or stays.
use Rattle.std.proofs.Common.{◌≡◌, refl, ap, subst, sym, ◌∙◌, ℕ, ◌<◌, inl, inr, Bool, true, false, List, ◌∷◌, length, take, Option, Some, None, arith, get_or, set}
use Rattle.std.specs.Prelude.{◌&&◌, if◌then◌else◌}
use Rattle.std.proofs.lemmas.List.{length-set, set-get_or}
use Rattle.relay_outside.specs.declared.address.Family.{Family}
use Rattle.relay_outside.specs.declared.settings.Config.{Config}
use Rattle.relay_outside.specs.declared.ports.OutCall.{OutCall}
use Rattle.relay_outside.specs.DeviceLogs.{EndLog}
use Rattle.rtp_packet.specs.declared.head.Half.{Half}
use Rattle.sdes_lines.specs.declared.crypto_line.Suite.{Suite}
use Rattle.srtp_sources.specs.Notes.{Note, is_half}
use Rattle.port_pool.specs.Ports.{pair_family}
use Rattle.port_pool.specs.declared.holder.Holder.{Holder}
use Rattle.port_pool.specs.declared.signal.LegSignal.{LegSignal}
use Rattle.port_pool.specs.Signals.{NewKey, same_leg}
use Rattle.endpoint_learn.specs.declared.learner.Learner.{Learner}
use Rattle.call_cell.specs.LegHistories.{in_force_with}
use Rattle.call_cell.specs.declared.outcome.LocalPort.{LocalPort}
use Rattle.call_cell.specs.declared.outcome.Lost.{Lost}
use Rattle.call_cell.specs.declared.outcome.Lost.TheVariants as lost
use Rattle.call_cell.specs.declared.outcome.Outcome.{Outcome}
use Rattle.call_cell.specs.declared.outcome.Outcome.TheVariants as outcomes
use Rattle.call_cell.specs.declared.sender.Sending as parts
use Rattle.call_cell.specs.declared.leg.Leg.{Leg}
use Rattle.call_cell.specs.Cells.{CellEntry, Receipt, Shield, Sending, Deed, in_force, is_accepted, is_opposite, opposite, key_numbered}
use Rattle.call_cell.specs.Protection.{protected, Departure, Held, Leaves}
use Rattle.call_cell.specs.Lessons.{learned, leg_endpoint_by}
use Rattle.call_cell.specs.Deeds.{kind, way, way_on, in_force_of, sent_outcome, deed, deed_wrapped, found, opposite_of, is_leaving, lost_deed, sent_deed, wrapped_towards, wrapped_numbered}
use Rattle.call_cell.specs.Demands.{is_sent}
use Rattle.call_cell.specs.Parts.{SendingFor, HasNamed, learner_in, learner_of, SendsBy, SameNumbers, IsOf, wrapped_by, wrapped_for}
use Rattle.call_cell.specs.LegHistories.{FrontIs, outbound_of, LegStandsFor, LegsStandFor, LegsDo, LegsRelay, LegSends, LegKeeps, LegForwards, LegForwardsBy, EndsFor, relay_entry, sent_ok, send_outcome, port_by, leased_port, local_port}
use Rattle.call_cell.proofs.Counting.{sent_from}
use Rattle.call_cell.proofs.LegSteps.{IsElsewhere, leg_sends, named_so}
use Rattle.call_cell.proofs.Placing.{IsPlace, same_or_not, at_set, off_set, same_holders, same_itself, not_opposite, true_or_not, other_default, apart_over}
use Rattle.call_cell.proofs.Relaying.{found_at, holders_over, deed_to}
use Rattle.call_cell.proofs.Crossing.{Taking, same_holder, taken_at, taken_off, not_same, lost_do, taker_sending, opposite_is}

-- A packet goes to the leg on the other side.

towards_is : (h : List CellEntry) (s : LegSignal) (half : Half) (bytes : List ℕ) (o : Option ℕ)
    → wrapped_numbered h o half bytes ≡ wrapped_by (key_numbered h) (protected h) o half bytes
towards_is h s half bytes None = refl
towards_is h s half bytes (Some n) = refl

pub towards_so : (h : List CellEntry) (s : LegSignal) (half : Half) (bytes : List ℕ)
    → wrapped_towards h s half bytes ≡ wrapped_for (key_numbered h) (protected h) s half bytes
towards_so h s half bytes = ap (λ (w : Departure). if s.hold then Held lost.Hold else w) (towards_is h s half bytes s.outbound)

-- the leg on the other side, at its place, which is another one
pub record Facing {O : Type 0} (config : Config) (h : List CellEntry) (p : Receipt) (those : List (Leg O)) (i : ℕ) (x new : Leg O) (noted : Option Note)
    (plain buf : List ℕ) (size k : ℕ) (z : Leg O) : Type 0 where
  pub taking : Taking config h p those i x new noted plain buf size
  pub below : k < length those
  pub apart : k ≡ i → ⊥
  pub is_opposite : opposite h (get_or those i x).holder ≡ Some (get_or those k z).holder

other_place : {O : Type 0} (config : Config) (h : List CellEntry) (p : Receipt) (those : List (Leg O)) (i : ℕ) (x new : Leg O) (noted : Option Note)
    (plain buf : List ℕ) (size k : ℕ) (z : Leg O) → Taking config h p those i x new noted plain buf size
    → IsPlace (is_opposite (get_or those i x).holder) (set those i new) k z → k ≡ i → ⊥
other_place {O} config h p those i x new noted plain buf size k z t place is =
    let here : (get_or (set those i new) k z).holder ≡ (get_or those i x).holder
    = ap (λ (n : ℕ). (get_or (set those i new) n z).holder) is ∙ ap (λ (leg : Leg O). leg.holder) (at_set those i new z t.place.below)
    ∙ same_holder config h p those i x new noted plain buf size t in
    not_opposite (get_or those i x).holder (subst (λ (a : Holder). is_opposite (get_or those i x).holder a ≡ true) here place.passes)

pub faces : {O : Type 0} (config : Config) (h : List CellEntry) (p : Receipt) (those : List (Leg O)) (i : ℕ) (x new : Leg O) (noted : Option Note)
    (plain buf : List ℕ) (size k : ℕ) (z : Leg O) → Taking config h p those i x new noted plain buf size
    → IsPlace (is_opposite (get_or those i x).holder) (set those i new) k z → Facing config h p those i x new noted plain buf size k z
faces {O} config h p those i x new noted plain buf size k z t place =
    let apart = other_place config h p those i x new noted plain buf size k z t place in
    record {
      taking = t;
      below = omega (arith, place.below, length-set those i new);
      apart = apart;
      is_opposite = opposite_is config h p those i x new noted plain buf size t (Some (get_or (set those i new) k z).holder) place.is_first
          ∙ ap (λ (leg : Leg O). Some leg.holder) (off_set those i k new z apart);
    }

pub kept_lost : {O : Type 0} (log : O → EndLog OutCall) (faults : O → ℕ) (config : Config) (h : List CellEntry) (p : Receipt) (those : List (Leg O)) (i : ℕ)
    (x new : Leg O) (noted : Option Note) (plain buf : List ℕ) (size k : ℕ) (z y : Leg O) (out : List ℕ) (cause : Lost) (result : Outcome)
    → Facing config h p those i x new noted plain buf size k z → LegKeeps cause (get_or those k z) y result
    → deed config h p (sent_ok (outcomes.Lost cause)) ≡ lost_deed (kind h p) noted cause
    → LegsRelay log faults config h p those (set (set those i new) k y) out result
kept_lost {O} log faults config h p those i x new noted plain buf size k z y out cause result f keeps it =
    let mid = set those i new in
    let same : set mid k y ≡ mid = ap (λ (leg : Leg O). set mid k leg) (keeps.leg ∙ sym (off_set those i k new z f.apart)) ∙ set-get_or mid k z in
    let P : Deed → Type 0 = λ (d : Deed). LegsDo log faults config h p those mid out (outcomes.Lost cause) d in
    let Q : List (Leg O) → Type 0 = λ (l : List (Leg O)). LegsRelay log faults config h p those l out (outcomes.Lost cause) in
    let R : Outcome → Type 0 = λ (o : Outcome). LegsRelay log faults config h p those (set mid k y) out o in
    subst R (sym keeps.answer)
    (subst Q (sym same) (subst P (sym it) (lost_do log faults config h p those i x new noted plain buf out size cause f.taking)))

-- It leaves.

abbrev sending_to : {O : Type 0} → List CellEntry → Receipt → Leg O → LegSignal → List ℕ → Sending
sending_to h p leg s bytes =
    record { pair = leg.holder.pair; half = way h p; to = leg_endpoint_by s (learned h leg.holder (way h p)) (way h p); bytes = bytes }

-- a leg leaves by the port of its pair
leaves_by : {O : Type 0} (config : Config) (h : List CellEntry) (leg : Leg O) → LegStandsFor config h leg → (half : Half)
    → leased_port half leg.lease ≡ local_port config leg.holder.pair half
leaves_by config h leg for half =
    ap (λ (f : Family). let a : LocalPort = record { family = f; port = port_by half leg.lease.rtp_port } in a) for.family
    ∙ ap (λ (n : ℕ). let a : LocalPort = record { family = pair_family config leg.holder.pair; port = n } in a) (for.port half)

sent_so : (config : Config) (w : Sending) (ok : Bool) → send_outcome (local_port config w.pair w.half) w.to (length w.bytes) ok ≡ sent_outcome config w ok
sent_so config w true = refl
sent_so config w false = refl

sent_accepted : (config : Config) (w : Sending) (ok : Bool) → is_accepted (sent_outcome config w ok) ≡ true
sent_accepted config w true = refl
sent_accepted config w false = refl

front_case : (from : LocalPort) (w : Sending) (out : List ℕ) (ok : Bool) → take (length w.bytes) out ≡ w.bytes
    → FrontIs (send_outcome from w.to (length w.bytes) ok) (Some w) out
front_case from w out true q = q
front_case from w out false q = tt

-- the shield is under a key of the leg by which the packet leaves, and of no other
elsewhere : {O : Type 0} (config : Config) (h : List CellEntry) (those : List (Leg O)) (k : ℕ) (z : Leg O) (shield : Option Shield) → LegsStandFor config h those
    → k < length those → ((s : Shield) → shield ≡ Some s → (suite : Suite) × IsOf (get_or those k z).holder suite (key_numbered h) s.key)
    → (j : ℕ) (y : Leg O) → j < length those → (j ≡ k → ⊥) → IsElsewhere (get_or those j y).holder (key_numbered h) shield
elsewhere {O} config h those k z shield for below under j y within apart s q key there section side =
    let u = (under s q).1 in
    let e : ◌≡◌ {A = Option NewKey} (Some u.key) (Some key) = sym u.is_there ∙ there in
    let same : u.key ≡ key = cc in
    let here : get_or those k z ≡ get_or those k y = other_default those k z y below in
    apart (for.apart.places j k y within below
    (sym section ∙ ap (λ (n : NewKey). n.section) (sym same) ∙ u.section ∙ ap (λ (l : Leg O). l.holder.section) here)
    (sym side ∙ ap (λ (n : NewKey). n.side) (sym same) ∙ u.side ∙ ap (λ (l : Leg O). l.holder.side) here))

pub record Leaving {O : Type 0} (log : O → EndLog OutCall) (faults : O → ℕ) (config : Config) (h : List CellEntry) (p : Receipt) (those : List (Leg O)) (i : ℕ)
    (x new : Leg O) (noted : Option Note) (plain buf : List ℕ) (size k : ℕ) (z y : Leg O) (s : LegSignal) (shield : Option Shield) (bytes out : List ℕ)
    (result : Outcome) : Type 0 where
  pub facing : Facing config h p those i x new noted plain buf size k z
  pub sends : LegSends log faults (key_numbered h) (protected h) shield bytes (way h p) (leg_endpoint_by s (learned h (get_or those k z).holder (way h p)) (way h p))
      (get_or those k z) y out result
  pub numbers : SameNumbers (get_or those k z).sending y.sending

apart_leg : {O : Type 0} (config : Config) (h : List CellEntry) (those : List (Leg O)) (k : ℕ) (z : Leg O) → LegsStandFor config h those → k < length those
    → (j : ℕ) (v : Leg O) → j < length those → (j ≡ k → ⊥) → same_leg (get_or those k z).holder (get_or those j v).holder ≡ false
apart_leg {O} config h those k z for below j v within apart = elim (true_or_not (same_leg (get_or those k z).holder (get_or those j v).holder)) [
  | inl same ↦ absurd (apart (sym (for.apart.leases k j v below within
      (subst (λ (l : Leg O). same_leg l.holder (get_or those j v).holder ≡ true) (other_default those k z v below) same))))
  | inr other ↦ other
]

sent_is : (config : Config) (w : Sending) (ok : Bool) → is_sent (sent_outcome config w ok) ≡ ok
sent_is config w true = refl
sent_is config w false = refl

-- the packet leaves by the leg on the other side
leaving_by : {O : Type 0} (config : Config) (h : List CellEntry) (p : Receipt) (those : List (Leg O)) (i : ℕ) (x new : Leg O) (noted : Option Note)
    (plain buf : List ℕ) (size k : ℕ) (z : Leg O) → Facing config h p those i x new noted plain buf size k z
    → opposite_of h (found h p) ≡ Some (get_or those k z).holder
leaving_by {O} config h p those i x new noted plain buf size k z f =
    ap (λ (a : Option Holder). opposite_of h a) (found_at config h p those i x f.taking.for f.taking.place) ∙ f.is_opposite

and_one : (a b c : Bool) → c ≡ true → a ≡ b → (d : Bool) → (a && (d && c)) ≡ (b && d)
and_one a b c q r true = ap (λ (x : Bool). a && x) q ∙ and_true a ∙ r ∙ sym (and_true b)
  where
    and_true : (x : Bool) → (x && true) ≡ x
    and_true true = refl
    and_true false = refl
and_one a b c q r false = ap (λ (x : Bool). x && false) r

and_none : (a b c : Bool) → c ≡ false → (a && (b && c)) ≡ false
and_none true true c q = q
and_none true false c q = refl
and_none false b c q = refl

-- what the leg on the other side sends
sent_at : {O : Type 0} (config : Config) (h : List CellEntry) (p : Receipt) (those : List (Leg O)) (i : ℕ) (x new : Leg O) (noted : Option Note)
    (plain buf : List ℕ) (size k : ℕ) (z : Leg O) (shield : Option Shield) (w : Sending) (ok : Bool) → Facing config h p those i x new noted plain buf size k z
    → (half : Half) → sent_from h (get_or those k z).holder half p (sent_deed config (kind h p) noted shield w ok) ≡ (ok && is_half (way h p) half)
sent_at config h p those i x new noted plain buf size k z shield w ok f half =
    and_one (is_sent (sent_outcome config w ok)) ok (is_leaving (opposite_of h (found h p)) (get_or those k z).holder)
    (ap (λ (o : Option Holder). is_leaving o (get_or those k z).holder) (leaving_by config h p those i x new noted plain buf size k z f)
    ∙ same_itself (get_or those k z).holder)
    (sent_is config w ok) (is_half (way h p) half)

-- the other legs send nothing
unsent_off : {O : Type 0} (config : Config) (h : List CellEntry) (p : Receipt) (those : List (Leg O)) (i : ℕ) (x new : Leg O) (noted : Option Note)
    (plain buf : List ℕ) (size k : ℕ) (z : Leg O) (d : Deed) → Facing config h p those i x new noted plain buf size k z
    → (j : ℕ) (v : Leg O) → j < length those → (j ≡ k → ⊥) → (half : Half) → sent_from h (get_or those j v).holder half p d ≡ false
unsent_off config h p those i x new noted plain buf size k z d f j v within apart half =
    and_none (is_sent d.outcome) (is_half (way h p) half) (is_leaving (opposite_of h (found h p)) (get_or those j v).holder)
    (ap (λ (o : Option Holder). is_leaving o (get_or those j v).holder) (leaving_by config h p those i x new noted plain buf size k z f)
    ∙ apart_leg config h those k z f.taking.for f.below j v within apart)

leaving_each : {O : Type 0} (log : O → EndLog OutCall) (faults : O → ℕ) (config : Config) (h : List CellEntry) (p : Receipt) (those : List (Leg O)) (i : ℕ)
    (x new : Leg O) (noted : Option Note) (plain buf : List ℕ) (size k : ℕ) (z y : Leg O) (s : LegSignal) (shield : Option Shield) (bytes out : List ℕ)
    (result : Outcome) → Leaving log faults config h p those i x new noted plain buf size k z y s shield bytes out result → (m : ℕ) (j : ℕ) (v : Leg O) → j < length those
    → LegStandsFor config (relay_entry m p (sent_ok result) (sent_deed config (kind h p) noted shield (sending_to h p (get_or those k z) s bytes) (sent_ok result)) ∷ h)
    (get_or (set (set those i new) k y) j v)
leaving_each {O} log faults config h p those i x new noted plain buf size k z y s shield bytes out result l m j v within =
    let ok = sent_ok result in
    let t = l.facing.taking in
    let w : Sending = sending_to h p (get_or those k z) s bytes in
    let d : Deed = sent_deed config (kind h p) noted shield w ok in
    let acc : is_accepted d.outcome ≡ true = sent_accepted config w ok in
    let P : Leg O → Type 0 = λ (leg : Leg O). LegStandsFor config (relay_entry m p ok d ∷ h) leg in
    let long : k < length (set those i new) = omega (arith, l.facing.below, length-set those i new) in
    let away = elsewhere config h those k z shield t.for l.facing.below l.sends.under in
    elim (same_or_not j k) [
      | inl is ↦ subst P (sym (ap (λ (n : ℕ). get_or (set (set those i new) k y) n v) is ∙ at_set (set those i new) k y v long ∙ l.sends.rest))
          (leg_sends config m p ok d h (get_or those k z) y.sending
          (ap (λ (b : Bool). b && is_accepted d.outcome) (not_same config h p those i x t.for t.place k z l.facing.below l.facing.apart))
          (sent_at config h p those i x new noted plain buf size k z shield w ok l.facing)
          l.sends.sending l.numbers (t.for.each k z l.facing.below))
      | inr off ↦ subst P (sym (off_set (set those i new) k j y v off))
          (elim (same_or_not j i) [
            | inl at ↦ subst P (sym (ap (λ (n : ℕ). get_or (set those i new) n v) at ∙ at_set those i new v t.place.below))
                (taken_at config h p those i x new noted plain buf size t m ok d acc refl refl
                (unsent_off config h p those i x new noted plain buf size k z d l.facing i x t.place.below (λ q. l.facing.apart (sym q)))
                (away i x t.place.below (λ q. l.facing.apart (sym q))))
            | inr apart ↦ subst P (sym (off_set those i j new v apart))
                (taken_off config h p those i x t.for t.place m ok d j v within apart
                (unsent_off config h p those i x new noted plain buf size k z d l.facing j v within off) (away j v within off))
          ])
    ]

leaving_legs : {O : Type 0} (log : O → EndLog OutCall) (faults : O → ℕ) (config : Config) (h : List CellEntry) (p : Receipt) (those : List (Leg O)) (i : ℕ)
    (x new : Leg O) (noted : Option Note) (plain buf : List ℕ) (size k : ℕ) (z y : Leg O) (s : LegSignal) (shield : Option Shield) (bytes out : List ℕ)
    (result : Outcome) → Leaving log faults config h p those i x new noted plain buf size k z y s shield bytes out result → (m : ℕ)
    → LegsStandFor config (relay_entry m p (sent_ok result) (sent_deed config (kind h p) noted shield (sending_to h p (get_or those k z) s bytes) (sent_ok result)) ∷ h)
    (set (set those i new) k y)
leaving_legs {O} log faults config h p those i x new noted plain buf size k z y s shield bytes out result l m =
    let t = l.facing.taking in
    let mid = set those i new in
    let q = same_holder config h p those i x new noted plain buf size t in
    let r : y.holder ≡ (get_or mid k z).holder = ap (λ (leg : Leg O). leg.holder) l.sends.rest ∙ sym (ap (λ (leg : Leg O). leg.holder) (off_set those i k new z l.facing.apart)) in
    let long : k < length mid = omega (arith, l.facing.below, length-set those i new) in
    record {
      holders = holders_over m p (sent_ok result) (sent_deed config (kind h p) noted shield (sending_to h p (get_or those k z) s bytes) (sent_ok result)) h (set mid k y)
          (same_holders mid k y z r ∙ same_holders those i new x q ∙ t.for.holders);
      apart = apart_over mid k y z long r (apart_over those i new x t.place.below q t.for.apart);
      each = λ j v within. leaving_each log faults config h p those i x new noted plain buf size k z y s shield bytes out result l m j v
          (omega (arith, within, length-set mid k y, length-set those i new));
    }

leaving_ends : {O : Type 0} (log : O → EndLog OutCall) (faults : O → ℕ) (config : Config) (h : List CellEntry) (p : Receipt) (those : List (Leg O)) (i : ℕ)
    (x new : Leg O) (noted : Option Note) (plain buf : List ℕ) (size k : ℕ) (z y : Leg O) (s : LegSignal) (shield : Option Shield) (bytes out : List ℕ)
    (result : Outcome) → Leaving log faults config h p those i x new noted plain buf size k z y s shield bytes out result → (j : ℕ) (v : Leg O) → j < length those
    → EndsFor log faults (same_leg (get_or those k z).holder (get_or those j v).holder) (Some (sending_to h p (get_or those k z) s bytes)) (sent_ok result)
    (get_or those j v).sending (get_or (set (set those i new) k y) j v).sending
leaving_ends {O} log faults config h p those i x new noted plain buf size k z y s shield bytes out result l j v within =
    let ok = sent_ok result in
    let t = l.facing.taking in
    let w : Sending = sending_to h p (get_or those k z) s bytes in
    let mid = set those i new in
    let long : k < length mid = omega (arith, l.facing.below, length-set those i new) in
    let P : Bool → Type 0 = λ (b : Bool). EndsFor log faults b (Some w) ok (get_or those j v).sending (get_or (set mid k y) j v).sending in
    let here : get_or those k z ≡ get_or those k v = other_default those k z v l.facing.below in
    elim (same_or_not j k) [
      | inl is ↦
          let leg : get_or those k z ≡ get_or those j v = here ∙ sym (ap (λ (n : ℕ). get_or those n v) is) in
          let now : y ≡ get_or (set mid k y) j v = sym (ap (λ (n : ℕ). get_or (set mid k y) n v) is ∙ at_set mid k y v long) in
          let same : same_leg (get_or those k z).holder (get_or those j v).holder ≡ true
          = subst (λ (a : Leg O). same_leg (get_or those k z).holder a.holder ≡ true) leg (same_itself (get_or those k z).holder) in
          subst P (sym same)
          (subst (λ (a : Leg O). SendsBy log faults (way h p) w.to bytes ok a.sending (get_or (set mid k y) j v).sending) leg
          (subst (λ (a : Leg O). SendsBy log faults (way h p) w.to bytes ok (get_or those k z).sending a.sending) now l.sends.sends))
      | inr off ↦
          let other : same_leg (get_or those k z).holder (get_or those j v).holder ≡ false = apart_leg config h those k z t.for l.facing.below j v within off in
          let as_before : (get_or (set mid k y) j v).sending ≡ (get_or those j v).sending
          = ap (λ (a : Leg O). a.sending) (off_set mid k j y v off) ∙ taker_sending config h p those i x new noted plain buf size t j v in
          subst P (sym other) (ap (λ (a : parts.Sending O). a.ends) as_before)
    ]

pub leaves : {O : Type 0} (log : O → EndLog OutCall) (faults : O → ℕ) (config : Config) (h : List CellEntry) (p : Receipt) (those : List (Leg O)) (i : ℕ)
    (x new : Leg O) (noted : Option Note) (plain buf : List ℕ) (size k : ℕ) (z y : Leg O) (s : LegSignal) (shield : Option Shield) (bytes out : List ℕ)
    (result : Outcome) → Leaving log faults config h p those i x new noted plain buf size k z y s shield bytes out result
    → deed config h p (sent_ok result) ≡ sent_deed config (kind h p) noted shield (sending_to h p (get_or those k z) s bytes) (sent_ok result)
    → LegsRelay log faults config h p those (set (set those i new) k y) out result
leaves {O} log faults config h p those i x new noted plain buf size k z y s shield bytes out result l it =
    let ok = sent_ok result in
    let t = l.facing.taking in
    let o = get_or those k z in
    let w : Sending = sending_to h p o s bytes in
    let P : Deed → Type 0 = λ (d : Deed). LegsDo log faults config h p those (set (set those i new) k y) out result d in
    let leg_o = t.for.each k z l.facing.below in
    let answer : result ≡ send_outcome (local_port config o.holder.pair (way h p)) w.to (length bytes) ok
    = l.sends.answer ∙ ap (λ (a : LocalPort). send_outcome a w.to (length bytes) ok) (leaves_by config h o leg_o (way h p)) in
    let by = leaving_by config h p those i x new noted plain buf size k z l.facing in
    subst P (sym it) (record {
      outcome = answer ∙ sent_so config w ok;
      front = subst (λ (r : Outcome). FrontIs r (Some w) out) (sym answer) (front_case (local_port config o.holder.pair (way h p)) w out ok l.sends.buffer);
      legs_for = λ m. leaving_legs log faults config h p those i x new noted plain buf size k z y s shield bytes out result l m;
      ends = λ j v within. subst (λ (a : Option Holder). EndsFor log faults (is_leaving a (get_or those j v).holder) (Some w) ok (get_or those j v).sending (get_or (set (set those i new) k y) j v).sending)
          (sym by) (leaving_ends log faults config h p those i x new noted plain buf size k z y s shield bytes out result l j v within);
    })

-- What the leg on the other side does, by cases.

wrapped_case : {O : Type 0} (log : O → EndLog OutCall) (faults : O → ℕ) (config : Config) (h : List CellEntry) (p : Receipt) (those : List (Leg O)) (i : ℕ)
    (x new : Leg O) (noted : Option Note) (plain buf : List ℕ) (size k : ℕ) (z y : Leg O) (s : LegSignal) (out : List ℕ) (result : Outcome)
    → Facing config h p those i x new noted plain buf size k z → SameNumbers (get_or those k z).sending y.sending → (w : Departure)
    → ((ok : Bool) → deed config h p ok ≡ deed_wrapped config h p noted (get_or those k z).holder s ok w)
    → LegForwards log faults w (key_numbered h) (protected h) (way h p) (leg_endpoint_by s (learned h (get_or those k z).holder (way h p)) (way h p)) (get_or those k z) y out result
    → LegsRelay log faults config h p those (set (set those i new) k y) out result
wrapped_case log faults config h p those i x new noted plain buf size k z y s out result f numbers (Held cause) it does =
    kept_lost log faults config h p those i x new noted plain buf size k z y out cause result f does (it (sent_ok (outcomes.Lost cause)))
wrapped_case log faults config h p those i x new noted plain buf size k z y s out result f numbers (Leaves shield bytes) it does =
    leaves log faults config h p those i x new noted plain buf size k z y s shield bytes out result
    (record { facing = f; sends = does; numbers = numbers }) (it (sent_ok result))

signal_case : {O : Type 0} (log : O → EndLog OutCall) (faults : O → ℕ) (config : Config) (h : List CellEntry) (p : Receipt) (those : List (Leg O)) (i : ℕ)
    (x new : Leg O) (noted : Option Note) (plain buf : List ℕ) (size k : ℕ) (z y : Leg O) (out : List ℕ) (result : Outcome)
    → Facing config h p those i x new noted plain buf size k z → SameNumbers (get_or those k z).sending y.sending → (o : Option LegSignal)
    → in_force h (get_or those k z).holder ≡ o
    → LegForwardsBy log faults (in_force_with o (learner_of (way h p) o (learned h (get_or those k z).holder (way h p)))) (key_numbered h) (protected h) (kind h p) (way h p) plain (get_or those k z) y out result
    → LegsRelay log faults config h p those (set (set those i new) k y) out result
signal_case log faults config h p those i x new noted plain buf size k z y out result f numbers None is does =
    let t = f.taking in
    kept_lost log faults config h p those i x new noted plain buf size k z y out lost.Hold result f does
    (deed_to config h p true (get_or those i x).holder (get_or those k z).holder noted plain None (found_at config h p those i x t.for t.place) t.is_judged f.is_opposite is)
signal_case log faults config h p those i x new noted plain buf size k z y out result f numbers (Some s) is does =
    let t = f.taking in
    wrapped_case log faults config h p those i x new noted plain buf size k z y s out result f numbers (wrapped_for (key_numbered h) (protected h) s (kind h p) plain)
    (λ ok. deed_to config h p ok (get_or those i x).holder (get_or those k z).holder noted plain (Some s) (found_at config h p those i x t.for t.place) t.is_judged f.is_opposite is
    ∙ ap (λ (w : Departure). deed_wrapped config h p noted (get_or those k z).holder s ok w) (towards_so h s (kind h p) plain))
    does

-- the port by which the leg on the other side sends
way_so : {O : Type 0} (config : Config) (h : List CellEntry) (p : Receipt) (those : List (Leg O)) (i : ℕ) (x new : Leg O) (noted : Option Note)
    (plain buf : List ℕ) (size k : ℕ) (z : Leg O) → Facing config h p those i x new noted plain buf size k z
    → way_on (get_or those k z).signal (kind h p) ≡ way h p
way_so {O} config h p those i x new noted plain buf size k z f =
    ap (λ (o : Option LegSignal). way_on o (kind h p)) (f.taking.for.each k z f.below).signal
    ∙ sym (ap (λ (o : Option Holder). way_on (in_force_of h o) (kind h p)) (leaving_by config h p those i x new noted plain buf size k z f))

pub relays_towards : {O : Type 0} (log : O → EndLog OutCall) (faults : O → ℕ) (config : Config) (h : List CellEntry) (p : Receipt) (those : List (Leg O)) (i : ℕ)
    (x new : Leg O) (noted : Option Note) (plain buf : List ℕ) (size k : ℕ) (z y : Leg O) (out : List ℕ) (result : Outcome) (read : Half)
    → Taking config h p those i x new noted plain buf size → IsPlace (is_opposite (get_or those i x).holder) (set those i new) k z → read ≡ kind h p
    → SameNumbers (get_or (set those i new) k z).sending y.sending
    → ((keys : ℕ → Option NewKey) (notes : ℕ → List Note) → SendingFor (get_or (set those i new) k z).holder keys notes (get_or (set those i new) k z).sending
    → HasNamed (outbound_of (get_or (set those i new) k z).signal) keys (get_or (set those i new) k z).sending
    → LegForwardsBy log faults (in_force_with (get_or (set those i new) k z).signal (learner_in (way_on (get_or (set those i new) k z).signal read) (get_or (set those i new) k z).receiving))
    keys notes read (way_on (get_or (set those i new) k z).signal read) (take size buf) (get_or (set those i new) k z) y out result)
    → LegsRelay log faults config h p those (set (set those i new) k y) out result
relays_towards {O} log faults config h p those i x new noted plain buf size k z y out result read t place is numbers does =
    let f = faces config h p those i x new noted plain buf size k z t place in
    let there : get_or (set those i new) k z ≡ get_or those k z = off_set those i k new z f.apart in
    let leg_o = t.for.each k z f.below in
    let o = get_or those k z in
    let w = way h p in
    let P : Leg O → Type 0 = λ (leg : Leg O). SendingFor leg.holder (key_numbered h) (protected h) leg.sending
    → HasNamed (outbound_of leg.signal) (key_numbered h) leg.sending
    → LegForwardsBy log faults (in_force_with leg.signal (learner_in (way_on leg.signal read) leg.receiving)) (key_numbered h) (protected h) read (way_on leg.signal read) (take size buf) leg y out result in
    let many : size ≡ length plain = (let q = t.takes.answer in cc) in
    let front : take size buf ≡ plain = ap (λ (n : ℕ). take n buf) many ∙ t.takes.buffer in
    let one = (subst P there (does (key_numbered h) (protected h))) leg_o.sending (named_so (outbound_of o.signal) (key_numbered h) o.sending leg_o.named) in
    let read_so : LegForwardsBy log faults (in_force_with o.signal (learner_in (way_on o.signal (kind h p)) o.receiving)) (key_numbered h) (protected h) (kind h p) (way_on o.signal (kind h p)) (take size buf) o y out result
    = subst (λ (e : Half). LegForwardsBy log faults (in_force_with o.signal (learner_in (way_on o.signal e) o.receiving)) (key_numbered h) (protected h) e (way_on o.signal e) (take size buf) o y out result) is one in
    let by : LegForwardsBy log faults (in_force_with o.signal (learner_in w o.receiving)) (key_numbered h) (protected h) (kind h p) w (take size buf) o y out result
    = subst (λ (e : Half). LegForwardsBy log faults (in_force_with o.signal (learner_in e o.receiving)) (key_numbered h) (protected h) (kind h p) e (take size buf) o y out result)
    (way_so config h p those i x new noted plain buf size k z f) read_so in
    let two : LegForwardsBy log faults (in_force_with o.signal (learner_of w o.signal (learned h o.holder w))) (key_numbered h) (protected h) (kind h p) w plain o y out result
    = subst (λ (l : List ℕ). LegForwardsBy log faults (in_force_with o.signal (learner_of w o.signal (learned h o.holder w))) (key_numbered h) (protected h) (kind h p) w l o y out result) front
    (subst (λ (a : Option Learner). LegForwardsBy log faults (in_force_with o.signal a) (key_numbered h) (protected h) (kind h p) w (take size buf) o y out result) (leg_o.receiving.learned w) by) in
    signal_case log faults config h p those i x new noted plain buf size k z y out result f
    (subst (λ (leg : Leg O). SameNumbers leg.sending y.sending) there numbers) o.signal (sym leg_o.signal) two

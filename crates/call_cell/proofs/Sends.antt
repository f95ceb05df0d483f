-- What a relay that made a send did, and when a relay makes one.
use Rattle.std.proofs.Common.{◌≡◌, refl, ap, subst, sym, ◌∙◌, ℕ, List, Bool, true, false, Option, Some, None, length}
use Rattle.relay_outside.specs.declared.address.Addr.{Addr}
use Rattle.relay_outside.specs.declared.address.Family.{Family}
use Rattle.relay_outside.specs.declared.settings.Config.{Config}
use Rattle.histories.specs.Words.{In}
use Rattle.port_pool.specs.Ports.{pair_family, half_port}
use Rattle.port_pool.specs.declared.holder.Holder.{Holder}
use Rattle.port_pool.specs.declared.signal.LegSignal.{LegSignal}
use Rattle.port_pool.specs.Signals.{same_leg}
use Rattle.call_cell.specs.declared.outcome.Refused.{Refused}
use Rattle.call_cell.specs.declared.outcome.Lost.{Lost}
use Rattle.call_cell.specs.declared.outcome.Lost.TheVariants as lost
use Rattle.call_cell.specs.declared.outcome.Outcome.TheVariants as outcomes
use Rattle.call_cell.specs.Cells.{CellEntry, Receipt, Sending, Deed, legs, opposite, in_force}
use Rattle.call_cell.specs.Protection.{Judged, Departure}
use Rattle.endpoint_learn.specs.Lessons.{Signalling, endpoint_under}
use Rattle.call_cell.specs.Lessons.{learned, endpoint}
use Rattle.call_cell.specs.Deeds.{deed, found, way, bytes_of, transform, transformed, plain_of, sent_outcome}
use Rattle.call_cell.proofs.Legs.{found_is}
use Rattle.call_cell.proofs.Steps.{signal_is}
use Rattle.call_cell.proofs.Does.{IsNoFault, Does, refuses, loses, leaves, Taken, Leaving, sending_of, does}
use Rattle.call_cell.proofs.Noted.{own, refused_is}

-- a send of a relay: by the leg opposite to the one that is found, to its endpoint, what the packet is turned into
pub record Sends (h : List CellEntry) (p : Receipt) (w : Sending) : Type 0 where
  pub leg : Holder
  pub is_found : found h p ≡ Some leg
  pub is_leg : In leg (legs h)
  pub is_same : same_leg p.holder leg ≡ true
  -- what is in force on the leg that is found
  pub own : LegSignal
  pub own_in_force : in_force h leg ≡ Some own
  pub other : Holder
  pub is_opposite : opposite h leg ≡ Some other
  pub signal : LegSignal
  pub is_in_force : in_force h other ≡ Some signal
  pub sends_bytes : transform h p leg signal ≡ Some w.bytes
  pub from_pair : w.pair ≡ other.pair
  pub by_half : w.half ≡ way h p
  pub sends_to : endpoint h other w.half ≡ Some w.to

transform_is : (h : List CellEntry) (p : Receipt) (t : Taken h p) (l : Leaving h p t) → transform h p t.leg l.signal ≡ Some l.bytes
unfolding transform
transform_is h p t l =
    ap (λ (j : Judged). transformed h p l.signal (plain_of j)) t.is_judged ∙ ap (λ (w : Departure). bytes_of w) l.is_wrapped

sends_case : (config : Config) (h : List CellEntry) (p : Receipt) (ok : Bool) (w : Sending) (d : Deed) → Does config h p ok d
    → d.sending ≡ Some w → Sends h p w
sends_case config h p ok w d (refuses cause e) q = absurd (let f = ap (λ (x : Deed). x.sending) e in cc)
sends_case config h p ok w d (loses t cause n e) q = absurd (let f = ap (λ (x : Deed). x.sending) e in cc)
sends_case config h p ok w d (leaves t l e) q =
    let f = ap (λ (x : Deed). x.sending) e in
    let is_it : sending_of h p l.other l.signal l.bytes ≡ w = cc in
    let found_leg = found_is h p t.leg t.is_found in
    let o = own h p t in
    subst (λ (x : Sending). Sends h p x) is_it
    (record {
      leg = t.leg;
      is_found = t.is_found;
      is_leg = found_leg.is_leg;
      is_same = found_leg.is_same;
      own = o.signal;
      own_in_force = o.is_in_force;
      other = l.other;
      is_opposite = l.is_opposite;
      signal = l.signal;
      is_in_force = l.is_in_force;
      sends_bytes = transform_is h p t l;
      from_pair = refl;
      by_half = refl;
      sends_to = ap (λ (x : Option Signalling). endpoint_under x (learned h l.other (way h p))) (signal_is h l.other (way h p) (Some l.signal) l.is_in_force);
    })

pub sends : (config : Config) (h : List CellEntry) (p : Receipt) (ok : Bool) (w : Sending) → (deed config h p ok).sending ≡ Some w → Sends h p w
sends config h p ok w q = sends_case config h p ok w (deed config h p ok) (does config h p ok) q

outcome_case : (config : Config) (h : List CellEntry) (p : Receipt) (ok : Bool) (w : Sending) (d : Deed) → Does config h p ok d
    → d.sending ≡ Some w → d.outcome ≡ sent_outcome config w ok
outcome_case config h p ok w d (refuses cause e) q = absurd (let f = ap (λ (x : Deed). x.sending) e in cc)
outcome_case config h p ok w d (loses t cause n e) q = absurd (let f = ap (λ (x : Deed). x.sending) e in cc)
outcome_case config h p ok w d (leaves t l e) q =
    let f = ap (λ (x : Deed). x.sending) e in
    let is_it : sending_of h p l.other l.signal l.bytes ≡ w = cc in
    ap (λ (x : Deed). x.outcome) e ∙ ap (λ (x : Sending). sent_outcome config x ok) is_it

-- the outcome of a relay that made a send
pub outcome_of_send : (config : Config) (h : List CellEntry) (p : Receipt) (ok : Bool) (w : Sending) → (deed config h p ok).sending ≡ Some w
    → (deed config h p ok).outcome ≡ sent_outcome config w ok
outcome_of_send config h p ok w q = outcome_case config h p ok w (deed config h p ok) (does config h p ok) q

-- a packet that was sent
pub record IsSent (config : Config) (d : Deed) (family : Family) (port : ℕ) (to : Addr) (len : ℕ) : Type 0 where
  pub sending : Sending
  pub is_sending : d.sending ≡ Some sending
  pub to_is : sending.to ≡ to
  pub len_is : length sending.bytes ≡ len
  pub family_is : family ≡ pair_family config sending.pair
  pub port_is : port ≡ half_port config sending.pair sending.half

sent_by : (config : Config) (d : Deed) (w : Sending) (ok : Bool) (family : Family) (port : ℕ) (to : Addr) (len : ℕ) → d.sending ≡ Some w
    → sent_outcome config w ok ≡ outcomes.Sent family port to len → IsSent config d family port to len
sent_by config d w true family port to len q e = record {
  sending = w;
  is_sending = q;
  to_is = let f = e in cc;
  len_is = let f = e in cc;
  family_is = let f = e in cc;
  port_is = let f = e in cc;
}
sent_by config d w false family port to len q e = absurd (let f = e in cc)

sent_case : (config : Config) (h : List CellEntry) (p : Receipt) (ok : Bool) (family : Family) (port : ℕ) (to : Addr) (len : ℕ) (d : Deed) → Does config h p ok d
    → d.outcome ≡ outcomes.Sent family port to len → IsSent config d family port to len
sent_case config h p ok family port to len d (refuses cause e) q = absurd (let f = ap (λ (x : Deed). x.outcome) e in cc)
sent_case config h p ok family port to len d (loses t cause n e) q = absurd (let f = ap (λ (x : Deed). x.outcome) e in cc)
sent_case config h p ok family port to len d (leaves t l e) q =
    sent_by config d (sending_of h p l.other l.signal l.bytes) ok family port to len (ap (λ (x : Deed). x.sending) e)
    (sym (ap (λ (x : Deed). x.outcome) e) ∙ q)

pub sent : (config : Config) (h : List CellEntry) (p : Receipt) (ok : Bool) (family : Family) (port : ℕ) (to : Addr) (len : ℕ)
    → (deed config h p ok).outcome ≡ outcomes.Sent family port to len → IsSent config (deed config h p ok) family port to len
sent config h p ok family port to len q = sent_case config h p ok family port to len (deed config h p ok) (does config h p ok) q

-- What its one send is with the outcome SendFault: by that port, of that family.
pub record HasFailed (config : Config) (d : Deed) (family : Family) (port : ℕ) : Type 0 where
  pub sending : Sending
  pub is_sending : d.sending ≡ Some sending
  pub family_is : family ≡ pair_family config sending.pair
  pub port_is : port ≡ half_port config sending.pair sending.half

failed_by : (config : Config) (d : Deed) (w : Sending) (ok : Bool) (family : Family) (port : ℕ) → d.sending ≡ Some w → sent_outcome config w ok ≡ outcomes.Lost (lost.SendFault family port)
    → HasFailed config d family port
failed_by config d w true family port q e = absurd (let f = e in cc)
failed_by config d w false family port q e = record { sending = w; is_sending = q; family_is = let f = e in cc; port_is = let f = e in cc }

failed_case : (config : Config) (h : List CellEntry) (p : Receipt) (ok : Bool) (family : Family) (port : ℕ) (d : Deed) → Does config h p ok d
    → d.outcome ≡ outcomes.Lost (lost.SendFault family port) → HasFailed config d family port
failed_case config h p ok family port d (refuses cause e) q = absurd (let f = ap (λ (x : Deed). x.outcome) e in cc)
failed_case config h p ok family port d (loses t cause n e) q = absurd (n family port (let f = ap (λ (x : Deed). x.outcome) e in cc))
failed_case config h p ok family port d (leaves t l e) q =
    failed_by config d (sending_of h p l.other l.signal l.bytes) ok family port (ap (λ (x : Deed). x.sending) e)
    (sym (ap (λ (x : Deed). x.outcome) e) ∙ q)

pub send_failed : (config : Config) (h : List CellEntry) (p : Receipt) (ok : Bool) (family : Family) (port : ℕ)
    → (deed config h p ok).outcome ≡ outcomes.Lost (lost.SendFault family port) → HasFailed config (deed config h p ok) family port
send_failed config h p ok family port q = failed_case config h p ok family port (deed config h p ok) (does config h p ok) q

pub refused_sends_none : (config : Config) (h : List CellEntry) (p : Receipt) (ok : Bool) (cause : Refused)
    → (deed config h p ok).outcome ≡ outcomes.Refused cause → (deed config h p ok).sending ≡ None
refused_sends_none config h p ok cause q = ap (λ (x : Deed). x.sending) (refused_is config h p ok cause q)

sent_is_fault : (config : Config) (w : Sending) (ok : Bool) (cause : Lost) → sent_outcome config w ok ≡ outcomes.Lost cause
    → cause ≡ lost.SendFault (pair_family config w.pair) (half_port config w.pair w.half)
sent_is_fault config w true cause q = absurd (let f = q in cc)
sent_is_fault config w false cause q = let f = q in cc

lost_case : (config : Config) (h : List CellEntry) (p : Receipt) (ok : Bool) (cause : Lost) → IsNoFault cause → (d : Deed)
    → Does config h p ok d → d.outcome ≡ outcomes.Lost cause → d.sending ≡ None
lost_case config h p ok cause other d (refuses c e) q = ap (λ (x : Deed). x.sending) e
lost_case config h p ok cause other d (loses t c n e) q = ap (λ (x : Deed). x.sending) e
lost_case config h p ok cause other d (leaves t l e) q =
    absurd (other (pair_family config l.other.pair) (half_port config l.other.pair (way h p)) (sent_is_fault config (sending_of h p l.other l.signal l.bytes) ok cause (sym (ap (λ (x : Deed). x.outcome) e) ∙ q)))

pub lost_sends_none : (config : Config) (h : List CellEntry) (p : Receipt) (ok : Bool) (cause : Lost) → IsNoFault cause
    → (deed config h p ok).outcome ≡ outcomes.Lost cause → (deed config h p ok).sending ≡ None
lost_sends_none config h p ok cause other q = lost_case config h p ok cause other (deed config h p ok) (does config h p ok) q

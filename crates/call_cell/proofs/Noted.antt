-- What an accepted relay notes under the leg's inbound key.
use Rattle.std.proofs.Common.{◌≡◌, refl, ap, sym, ◌∙◌, ℕ, List, Bool, true, false, cond, Option, Some, None, Result, Ok, Err}
use Rattle.std.specs.Prelude.{is_some, not}
use Rattle.relay_outside.specs.declared.address.Addr.{Addr}
use Rattle.relay_outside.specs.declared.settings.Config.{Config}
use Rattle.rtp_packet.specs.declared.head.Half.{Half}
use Rattle.rtp_packet.specs.declared.head.Half.TheVariants.{Rtp, Rtcp}
use Rattle.sdes_lines.specs.declared.crypto_line.Suite.{Suite}
use Rattle.srtp_keys.specs.declared.faults.UnprotectFault.{UnprotectFault}
use Rattle.srtp_sources.specs.Notes.{Note}
use Rattle.srtp_context.specs.InboundPackets as srtp
use Rattle.srtcp_context.specs.InboundPackets as srtcp
use Rattle.histories.specs.Words.{In}
use Rattle.port_pool.specs.declared.holder.Holder.{Holder}
use Rattle.port_pool.specs.declared.signal.LegSignal.{LegSignal}
use Rattle.port_pool.specs.Signals.{same_leg}
use Rattle.call_cell.specs.declared.outcome.Refused.{Refused}
use Rattle.call_cell.specs.declared.outcome.Refused.TheVariants as refused
use Rattle.call_cell.specs.declared.outcome.Outcome.TheVariants as outcomes
use Rattle.call_cell.specs.Cells.{CellEntry, Receipt, Sending, Deed, legs, in_force, is_accepted}
use Rattle.call_cell.specs.Protection.{accepted, Judged, Stopped, Passed, is_packet, opened_rtp, opened_rtcp, opened_under, opened_by}
use Rattle.call_cell.specs.Lessons.{learned}
use Rattle.endpoint_learn.specs.Lessons.{is_wrong_source}
use Rattle.call_cell.specs.Deeds.{deed, found, kind, judged, judged_leg, sent_outcome, refused_deed}
use Rattle.call_cell.proofs.Legs.{found_is}
use Rattle.call_cell.proofs.Does.{Does, refuses, loses, leaves, Taken, sending_of, does}

sent_is_taken : (config : Config) (w : Sending) (ok : Bool) (cause : Refused) → sent_outcome config w ok ≡ outcomes.Refused cause → ⊥
sent_is_taken config w true cause q = let f = q in cc
sent_is_taken config w false cause q = let f = q in cc

refused_case : (config : Config) (h : List CellEntry) (p : Receipt) (ok : Bool) (cause : Refused) (d : Deed) → Does config h p ok d
    → d.outcome ≡ outcomes.Refused cause → d ≡ refused_deed (kind h p) cause
refused_case config h p ok cause d (refuses c e) q =
    let f = ap (λ (x : Deed). x.outcome) e in
    let same : c ≡ cause = cc in
    e ∙ ap (λ (x : Refused). refused_deed (kind h p) x) same
refused_case config h p ok cause d (loses t c n e) q = absurd (let f = ap (λ (x : Deed). x.outcome) e in cc)
refused_case config h p ok cause d (leaves t l e) q =
    absurd (sent_is_taken config (sending_of h p l.other l.signal l.bytes) ok cause (sym (ap (λ (x : Deed). x.outcome) e) ∙ q))

-- a relay that is refused notes nothing and sends nothing
pub refused_is : (config : Config) (h : List CellEntry) (p : Receipt) (ok : Bool) (cause : Refused)
    → (deed config h p ok).outcome ≡ outcomes.Refused cause → deed config h p ok ≡ refused_deed (kind h p) cause
refused_is config h p ok cause q = refused_case config h p ok cause (deed config h p ok) (does config h p ok) q

-- a relay that is accepted: its leg, which an answer has committed, and what it notes, which is something exactly under an inbound key
pub record Accepts (h : List CellEntry) (p : Receipt) (d : Deed) : Type 0 where
  pub leg : Holder
  pub is_found : found h p ≡ Some leg
  pub is_leg : In leg (legs h)
  pub is_same : same_leg p.holder leg ≡ true
  pub own : LegSignal
  pub own_in_force : in_force h leg ≡ Some own
  pub plain : List ℕ
  pub is_judged : judged h p leg ≡ Passed d.noted plain
  pub notes : is_some d.noted ≡ is_some own.inbound

rtp_notes : (r : Result srtp.Opened UnprotectFault) (noted : Option Note) (plain : List ℕ) → opened_rtp r ≡ Passed noted plain → is_some noted ≡ true
rtp_notes (Ok packet) noted plain q = let f : Some packet.note ≡ noted = (let g = q in cc) in sym (ap is_some f)
rtp_notes (Err cause) noted plain q = absurd (let f = q in cc)

rtcp_notes : (r : Result srtcp.Opened UnprotectFault) (noted : Option Note) (plain : List ℕ) → opened_rtcp r ≡ Passed noted plain → is_some noted ≡ true
rtcp_notes (Ok packet) noted plain q = let f : Some packet.note ≡ noted = (let g = q in cc) in sym (ap is_some f)
rtcp_notes (Err cause) noted plain q = absurd (let f = q in cc)

under_notes : (key : List ℕ × Suite) (notes : List Note) (half : Half) (bytes : List ℕ) (noted : Option Note) (plain : List ℕ)
    → opened_under key notes half bytes ≡ Passed noted plain → is_some noted ≡ true
unfolding opened_under
under_notes key notes Rtp bytes noted plain q = rtp_notes (srtp.opening key.0 key.1 notes bytes) noted plain q
under_notes key notes Rtcp bytes noted plain q = rtcp_notes (srtcp.rtcp_opening key.0 notes bytes) noted plain q

by_notes : (key : Option (List ℕ × Suite)) (notes : List Note) (half : Half) (bytes : List ℕ) (noted : Option Note) (plain : List ℕ)
    → opened_by key notes half bytes ≡ Passed noted plain → is_some noted ≡ is_some key
by_notes None notes half bytes noted plain q = let f : None ≡ noted = (let g = q in cc) in sym (ap is_some f)
by_notes (Some key) notes half bytes noted plain q = under_notes key notes half bytes noted plain q

packet_case : (passes wrong : Bool) (rest : Judged) (noted : Option Note) (plain : List ℕ)
    → cond (not passes) (Stopped refused.Malformed) (cond wrong (Stopped refused.WrongSource) rest) ≡ Passed noted plain → rest ≡ Passed noted plain
packet_case true true rest noted plain q = absurd (let f = q in cc)
packet_case true false rest noted plain q = q
packet_case false wrong rest noted plain q = absurd (let f = q in cc)

-- a leg whose packet was taken was committed by an answer, and something is noted exactly under an inbound key
pub record Own (h : List CellEntry) (leg : Holder) (noted : Option Note) : Type 0 where
  pub signal : LegSignal
  pub is_in_force : in_force h leg ≡ Some signal
  pub notes : is_some noted ≡ is_some signal.inbound

own_case : (h : List CellEntry) (leg : Holder) (s : Option LegSignal) → in_force h leg ≡ s → (known : Option Addr) (notes : List Note)
    (half : Half) (source : Addr) (bytes : List ℕ) (noted : Option Note) (plain : List ℕ)
    → judged_leg s known notes half source bytes ≡ Passed noted plain → Own h leg noted
own_case h leg None e known notes half source bytes noted plain q = absurd (let f = q in cc)
own_case h leg (Some s) e known notes half source bytes noted plain q = record {
  signal = s;
  is_in_force = e;
  notes =
      by_notes s.inbound notes half bytes noted plain
      (packet_case (is_packet half bytes) (is_wrong_source s.flags known source) (opened_by s.inbound notes half bytes) noted plain q);
}

pub own : (h : List CellEntry) (p : Receipt) (t : Taken h p) → Own h t.leg t.note
own h p t =
    own_case h t.leg (in_force h t.leg) refl (learned h t.leg p.half) (accepted h t.leg) (kind h p) p.source p.bytes t.note t.plain t.is_judged

taken_accepts : (h : List CellEntry) (p : Receipt) (t : Taken h p) (d : Deed) → d.noted ≡ t.note → Accepts h p d
taken_accepts h p t d q =
    let found_leg = found_is h p t.leg t.is_found in
    let o = own h p t in
    record {
      leg = t.leg;
      is_found = t.is_found;
      is_leg = found_leg.is_leg;
      is_same = found_leg.is_same;
      own = o.signal;
      own_in_force = o.is_in_force;
      plain = t.plain;
      is_judged = t.is_judged ∙ ap (λ (n : Option Note). Passed n t.plain) (sym q);
      notes = ap is_some q ∙ o.notes;
    }

accepts_case : (config : Config) (h : List CellEntry) (p : Receipt) (ok : Bool) (d : Deed) → Does config h p ok d
    → is_accepted d.outcome ≡ true → Accepts h p d
accepts_case config h p ok d (refuses c e) q = absurd (let f = ap (λ (x : Deed). is_accepted x.outcome) e in cc)
accepts_case config h p ok d (loses t c n e) q = taken_accepts h p t d (ap (λ (x : Deed). x.noted) e)
accepts_case config h p ok d (leaves t l e) q = taken_accepts h p t d (ap (λ (x : Deed). x.noted) e)

pub accepts : (config : Config) (h : List CellEntry) (p : Receipt) (ok : Bool) → is_accepted (deed config h p ok).outcome ≡ true → Accepts h p (deed config h p ok)
accepts config h p ok q = accepts_case config h p ok (deed config h p ok) (does config h p ok) q

-- What a relay does, by cases: it refuses the packet, loses it after it was taken, or makes its one send.
use Rattle.std.proofs.Common.{◌≡◌, refl, ℕ, List, Bool, true, false, cond, Option, Some, None, Result, Ok, Err}
use Rattle.relay_outside.specs.declared.address.Family.{Family}
use Rattle.relay_outside.specs.declared.settings.Config.{Config}
use Rattle.rtp_packet.specs.declared.head.Half.{Half}
use Rattle.rtp_packet.specs.declared.head.Half.TheVariants.{Rtp, Rtcp}
use Rattle.srtp_keys.specs.declared.faults.ProtectFault.{ProtectFault}
use Rattle.srtp_keys.specs.declared.faults.ProtectFault.TheVariants.{TooOld, IndexUsed, TooManySources, KeySpent}
use Rattle.srtp_sources.specs.Notes.{Note}
use Rattle.srtp_context.specs.OutboundPackets as srtp_out
use Rattle.srtcp_context.specs.OutboundPackets as srtcp_out
use Rattle.port_pool.specs.declared.holder.Holder.{Holder}
use Rattle.port_pool.specs.declared.signal.LegSignal.{LegSignal}
use Rattle.port_pool.specs.Signals.{NewKey}
use Rattle.call_cell.specs.declared.outcome.Refused.{Refused}
use Rattle.call_cell.specs.declared.outcome.Refused.TheVariants as refused
use Rattle.call_cell.specs.declared.outcome.Lost.{Lost}
use Rattle.call_cell.specs.declared.outcome.Lost.TheVariants as lost
use Rattle.call_cell.specs.Cells.{CellEntry, Receipt, Shield, Sending, Deed, opposite, in_force, key_numbered}
use Rattle.call_cell.specs.Protection.{protected, Judged, Stopped, Passed, Departure, Held, Leaves, lost_by, wrapped_rtp, wrapped_rtcp, wrapped_under, wrapped_with}
use Rattle.call_cell.specs.Lessons.{learned, leg_endpoint_by}
use Rattle.call_cell.specs.Deeds.{kind, way, found, judged, wrapped_numbered, wrapped_towards, refused_deed, lost_deed, sent_deed, deed_wrapped, deed_towards, deed_opposite, deed_judged, deed_found, deed}

-- a packet that was taken: the leg that is found for it, what is noted, and the plain packet
pub record Taken (h : List CellEntry) (p : Receipt) : Type 0 where
  pub leg : Holder
  pub is_found : found h p ≡ Some leg
  pub note : Option Note
  pub plain : List ℕ
  pub is_judged : judged h p leg ≡ Passed note plain

-- a packet that leaves by the opposite leg, towards what is in force there
pub record Leaving (h : List CellEntry) (p : Receipt) (t : Taken h p) : Type 0 where
  pub other : Holder
  pub is_opposite : opposite h t.leg ≡ Some other
  pub signal : LegSignal
  pub is_in_force : in_force h other ≡ Some signal
  pub shield : Option Shield
  pub bytes : List ℕ
  pub is_wrapped : wrapped_towards h signal (kind h p) t.plain ≡ Leaves shield bytes

-- the one send
abbrev pub sending_of : (h : List CellEntry) (p : Receipt) (other : Holder) (signal : LegSignal) (bytes : List ℕ) → Sending
sending_of h p other signal bytes =
    record { pair = other.pair; half = way h p; to = leg_endpoint_by signal (learned h other (way h p)) (way h p); bytes = bytes }

-- the cause is no failed send
abbrev pub IsNoFault : Lost → Type 0
IsNoFault cause = (family : Family) (port : ℕ) → cause ≡ lost.SendFault family port → ⊥

pub data Does (config : Config) (h : List CellEntry) (p : Receipt) (ok : Bool) (d : Deed) : Type 0 where
  refuses : (cause : Refused) → d ≡ refused_deed (kind h p) cause → Does config h p ok d
  loses : (t : Taken h p) (cause : Lost) → IsNoFault cause → d ≡ lost_deed (kind h p) t.note cause → Does config h p ok d
  leaves : (t : Taken h p) (l : Leaving h p t)
      → d ≡ sent_deed config (kind h p) t.note l.shield (sending_of h p l.other l.signal l.bytes) ok → Does config h p ok d

-- nothing is held back as a send that failed

lost_by_none : (cause : ProtectFault) → IsNoFault (lost_by cause)
lost_by_none TooOld family port q = let e = q in cc
lost_by_none IndexUsed family port q = let e = q in cc
lost_by_none TooManySources family port q = let e = q in cc
lost_by_none KeySpent family port q = let e = q in cc

rtp_never : (number : ℕ) (r : Result srtp_out.Wrapped ProtectFault) (cause : Lost) → wrapped_rtp number r ≡ Held cause → IsNoFault cause
rtp_never number (Ok packet) cause q family port e = let f = q in cc
rtp_never number (Err fault) cause q family port e = lost_by_none fault family port (let f = q in cc)

rtcp_never : (number : ℕ) (r : Result srtcp_out.Wrapped ProtectFault) (cause : Lost) → wrapped_rtcp number r ≡ Held cause → IsNoFault cause
rtcp_never number (Ok packet) cause q family port e = let f = q in cc
rtcp_never number (Err fault) cause q family port e = lost_by_none fault family port (let f = q in cc)

under_never : (key : NewKey) (notes : List Note) (half : Half) (plain : List ℕ) (cause : Lost)
    → wrapped_under key notes half plain ≡ Held cause → IsNoFault cause
unfolding wrapped_under
under_never key notes Rtp plain cause q family port e = rtp_never key.number (srtp_out.wrapping key.bytes key.suite notes plain) cause q family port e
under_never key notes Rtcp plain cause q family port e = rtcp_never key.number (srtcp_out.rtcp_wrapping key.bytes notes plain) cause q family port e

with_never : (key : Option NewKey) (notes : List Note) (half : Half) (plain : List ℕ) (cause : Lost)
    → wrapped_with key notes half plain ≡ Held cause → IsNoFault cause
with_never None notes half plain cause q family port e = let f = q in cc
with_never (Some key) notes half plain cause q family port e = under_never key notes half plain cause q family port e

numbered_never : (h : List CellEntry) (number : Option ℕ) (half : Half) (plain : List ℕ) (cause : Lost)
    → wrapped_numbered h number half plain ≡ Held cause → IsNoFault cause
numbered_never h None half plain cause q family port e = let f = q in cc
numbered_never h (Some number) half plain cause q family port e = with_never (key_numbered h number) (protected h number) half plain cause q family port e

towards_case : (h : List CellEntry) (number : Option ℕ) (half : Half) (plain : List ℕ) (cause : Lost) (hold : Bool)
    → cond hold (Held lost.Hold) (wrapped_numbered h number half plain) ≡ Held cause → IsNoFault cause
towards_case h number half plain cause true q family port e = let f = q in cc
towards_case h number half plain cause false q family port e = numbered_never h number half plain cause q family port e

towards_never : (h : List CellEntry) (s : LegSignal) (half : Half) (plain : List ℕ) (cause : Lost)
    → wrapped_towards h s half plain ≡ Held cause → IsNoFault cause
towards_never h s half plain cause q family port e = towards_case h s.outbound half plain cause s.hold q family port e

hold_is_none : IsNoFault lost.Hold
hold_is_none family port q = let e = q in cc

-- the cases

by_wrapped : (config : Config) (h : List CellEntry) (p : Receipt) (ok : Bool) (t : Taken h p) (other : Holder) (s : LegSignal)
    → opposite h t.leg ≡ Some other → in_force h other ≡ Some s → (w : Departure) → wrapped_towards h s (kind h p) t.plain ≡ w
    → Does config h p ok (deed_wrapped config h p t.note other s ok w)
by_wrapped config h p ok t other s o f (Held cause) e = loses t cause (towards_never h s (kind h p) t.plain cause e) refl
by_wrapped config h p ok t other s o f (Leaves shield bytes) e =
    leaves t
    (record { other = other; is_opposite = o; signal = s; is_in_force = f; shield = shield; bytes = bytes; is_wrapped = e })
    refl

by_in_force : (config : Config) (h : List CellEntry) (p : Receipt) (ok : Bool) (t : Taken h p) (other : Holder)
    → opposite h t.leg ≡ Some other → (s : Option LegSignal) → in_force h other ≡ s
    → Does config h p ok (deed_towards config h p t.note t.plain ok other s)
by_in_force config h p ok t other o None e = loses t lost.Hold hold_is_none refl
by_in_force config h p ok t other o (Some s) e = by_wrapped config h p ok t other s o e (wrapped_towards h s (kind h p) t.plain) refl

by_opposite : (config : Config) (h : List CellEntry) (p : Receipt) (ok : Bool) (t : Taken h p) (other : Option Holder)
    → opposite h t.leg ≡ other → Does config h p ok (deed_opposite config h p t.note t.plain ok other)
by_opposite config h p ok t None e = loses t lost.Hold hold_is_none refl
by_opposite config h p ok t (Some other) e = by_in_force config h p ok t other e (in_force h other) refl

by_judged : (config : Config) (h : List CellEntry) (p : Receipt) (ok : Bool) (leg : Holder) → found h p ≡ Some leg
    → (j : Judged) → judged h p leg ≡ j → Does config h p ok (deed_judged config h p ok leg j)
by_judged config h p ok leg f (Stopped cause) e = refuses cause refl
by_judged config h p ok leg f (Passed note plain) e =
    by_opposite config h p ok (record { leg = leg; is_found = f; note = note; plain = plain; is_judged = e }) (opposite h leg) refl

by_found : (config : Config) (h : List CellEntry) (p : Receipt) (ok : Bool) (leg : Option Holder) → found h p ≡ leg
    → Does config h p ok (deed_found config h p ok leg)
by_found config h p ok None e = refuses refused.Stale refl
by_found config h p ok (Some leg) e = by_judged config h p ok leg e (judged h p leg) refl

pub does : (config : Config) (h : List CellEntry) (p : Receipt) (ok : Bool) → Does config h p ok (deed config h p ok)
unfolding deed
does config h p ok = by_found config h p ok (found h p) refl

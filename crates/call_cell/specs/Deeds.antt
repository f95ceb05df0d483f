-- What a relay does with a packet, after the history of its cell since the last End: the first cause for which it is
-- refused or lost, or its one send.
use Rattle.std.specs.Prelude.{ℕ, Bool, true, false, not, ◌&&◌, List, length, Option, Some, None, filter, if◌then◌else◌}
use Rattle.relay_outside.specs.declared.address.Addr.{Addr}
use Rattle.relay_outside.specs.declared.settings.Config.{Config}
use Rattle.rtp_packet.specs.declared.head.Half.{Half}
use Rattle.rtp_packet.specs.declared.head.Half.TheVariants.{Rtp}
use Rattle.rtcp_mux.specs.PacketType.{half_of_packet}
use Rattle.srtp_sources.specs.Notes.{Note, is_half}
use Rattle.histories.specs.Words.{first}
use Rattle.port_pool.specs.Ports.{pair_family, half_port}
use Rattle.port_pool.specs.declared.holder.Holder.{Holder}
use Rattle.port_pool.specs.declared.signal.LegSignal.{LegSignal}
use Rattle.port_pool.specs.Signals.{same_leg}
use Rattle.endpoint_learn.specs.Lessons.{is_wrong_source}
use Rattle.call_cell.specs.declared.outcome.Refused.{Refused}
use Rattle.call_cell.specs.declared.outcome.Refused.TheVariants as refused
use Rattle.call_cell.specs.declared.outcome.Lost.{Lost}
use Rattle.call_cell.specs.declared.outcome.Lost.TheVariants as lost
use Rattle.call_cell.specs.declared.outcome.Outcome.{Outcome}
use Rattle.call_cell.specs.declared.outcome.Outcome.TheVariants as outcomes
use Rattle.call_cell.specs.Cells.{CellEntry, Receipt, Shield, Sending, Deed, legs, opposite, in_force, key_numbered}
use Rattle.call_cell.specs.Protection.{accepted, protected, Judged, Stopped, Passed, is_packet, opened_by, Departure, Held, Leaves, wrapped_with}
use Rattle.call_cell.specs.Lessons.{learned, leg_endpoint_by}

-- the leg that the packet was taken for, where it is still there
abbrev pub found : List CellEntry → Receipt → Option Holder
found h p = first (filter (same_leg p.holder) (legs h))

-- the leg by which a packet leaves: the one on the other side
abbrev pub opposite_of : List CellEntry → Option Holder → Option Holder
opposite_of h None = None
opposite_of h (Some leg) = opposite h leg

-- what is in force on a leg, where there is one
abbrev pub in_force_of : List CellEntry → Option Holder → Option LegSignal
in_force_of h None = None
in_force_of h (Some leg) = in_force h leg

-- Whether a packet is RTP or RTCP: it is what its port is for, but where the leg takes both on its RTP port (RFC 5761), the
-- packet itself tells.
abbrev pub kind_on : Option LegSignal → Half → List ℕ → Half
kind_on None half bytes = half
kind_on (Some s) half bytes = if s.mux && is_half half Rtp then half_of_packet bytes else half

abbrev pub kind : List CellEntry → Receipt → Half
kind h p = kind_on (in_force_of h (found h p)) p.half p.bytes

-- the port by which a packet of a kind leaves to a leg with that in force: that for its kind, but a leg that takes both on its
-- RTP port is sent both by that one
abbrev pub way_on : Option LegSignal → Half → Half
way_on None kind = kind
way_on (Some s) kind = if s.mux then Rtp else kind

abbrev pub way : List CellEntry → Receipt → Half
way h p = way_on (in_force_of h (opposite_of h (found h p))) (kind h p)

abbrev pub is_leaving : Option Holder → Holder → Bool
is_leaving None leg = false
is_leaving (Some other) leg = same_leg other leg

-- a packet of a source, taken by a half of a leg with that in force, that learned source and those notes
abbrev pub judged_leg : Option LegSignal → Option Addr → List Note → Half → Addr → List ℕ → Judged
judged_leg None known notes kind source bytes = Stopped refused.NotAnswered
judged_leg (Some s) known notes kind source bytes =
    if not (is_packet kind bytes) then Stopped refused.Malformed
    else if is_wrong_source s.flags known source then Stopped refused.WrongSource
    else opened_by s.inbound notes kind bytes

-- how the packet is judged for the leg
abbrev pub judged : List CellEntry → Receipt → Holder → Judged
judged h p leg = judged_leg (in_force h leg) (learned h leg p.half) (accepted h leg) (kind h p) p.source p.bytes

-- the plain packet under the outbound key of this number
abbrev pub wrapped_numbered : List CellEntry → Option ℕ → Half → List ℕ → Departure
wrapped_numbered h None kind bytes = Leaves None bytes
wrapped_numbered h (Some number) kind bytes = wrapped_with (key_numbered h number) (protected h number) kind bytes

-- an accepted packet, towards a leg with that in force
abbrev pub wrapped_towards : List CellEntry → LegSignal → Half → List ℕ → Departure
wrapped_towards h s kind bytes = if s.hold then Held lost.Hold else wrapped_numbered h s.outbound kind bytes

abbrev pub refused_deed : Half → Refused → Deed
refused_deed kind cause =
    record { outcome = outcomes.Refused cause; kind = kind; noted = None; shield = None; sending = None }

abbrev pub lost_deed : Half → Option Note → Lost → Deed
lost_deed kind note cause = record { outcome = outcomes.Lost cause; kind = kind; noted = note; shield = None; sending = None }

-- the outcome of a send by the port of a pair's half, by its answer
abbrev pub sent_outcome : Config → Sending → Bool → Outcome
sent_outcome config sending true = outcomes.Sent (pair_family config sending.pair) (half_port config sending.pair sending.half) sending.to (length sending.bytes)
sent_outcome config sending false = outcomes.Lost (lost.SendFault (pair_family config sending.pair) (half_port config sending.pair sending.half))

abbrev pub sent_deed : Config → Half → Option Note → Option Shield → Sending → Bool → Deed
sent_deed config kind note shield sending sent_ok =
    record { outcome = sent_outcome config sending sent_ok; kind = kind; noted = note; shield = shield; sending = Some sending }

-- a packet that is wrapped in this way, towards a leg with that in force
abbrev pub deed_wrapped : Config → List CellEntry → Receipt → Option Note → Holder → LegSignal → Bool → Departure → Deed
deed_wrapped config h p note other s sent_ok (Held cause) = lost_deed (kind h p) note cause
deed_wrapped config h p note other s sent_ok (Leaves shield bytes) =
    sent_deed config (kind h p) note shield
    (record { pair = other.pair; half = way h p; to = leg_endpoint_by s (learned h other (way h p)) (way h p); bytes = bytes }) sent_ok

abbrev pub deed_towards : Config → List CellEntry → Receipt → Option Note → List ℕ → Bool → Holder → Option LegSignal → Deed
deed_towards config h p note plain sent_ok other None = lost_deed (kind h p) note lost.Hold
deed_towards config h p note plain sent_ok other (Some s) =
    deed_wrapped config h p note other s sent_ok (wrapped_towards h s (kind h p) plain)

abbrev pub deed_opposite : Config → List CellEntry → Receipt → Option Note → List ℕ → Bool → Option Holder → Deed
deed_opposite config h p note plain sent_ok None = lost_deed (kind h p) note lost.Hold
deed_opposite config h p note plain sent_ok (Some other) = deed_towards config h p note plain sent_ok other (in_force h other)

abbrev pub deed_judged : Config → List CellEntry → Receipt → Bool → Holder → Judged → Deed
deed_judged config h p sent_ok leg (Stopped cause) = refused_deed (kind h p) cause
deed_judged config h p sent_ok leg (Passed note plain) = deed_opposite config h p note plain sent_ok (opposite h leg)

abbrev pub deed_found : Config → List CellEntry → Receipt → Bool → Option Holder → Deed
deed_found config h p sent_ok None = refused_deed (kind h p) refused.Stale
deed_found config h p sent_ok (Some leg) = deed_judged config h p sent_ok leg (judged h p leg)

-- what a relay of the packet does after that history, with that result of its send
unfoldable pub deed : Config → List CellEntry → Receipt → Bool → Deed
deed config h p sent_ok = deed_found config h p sent_ok (found h p)

abbrev pub plain_of : Judged → Option (List ℕ)
plain_of (Stopped cause) = None
plain_of (Passed noted plain) = Some plain

abbrev pub bytes_of : Departure → Option (List ℕ)
bytes_of (Held cause) = None
bytes_of (Leaves shield bytes) = Some bytes

abbrev pub transformed : List CellEntry → Receipt → LegSignal → Option (List ℕ) → Option (List ℕ)
transformed h p s None = None
transformed h p s (Some plain) = bytes_of (wrapped_towards h s (kind h p) plain)

-- What a packet that the leg received is turned into, towards a leg with that in force: opened under the inbound key, where
-- there is one, and protected under the outbound key, where there is one
unfoldable pub transform : List CellEntry → Receipt → Holder → LegSignal → Option (List ℕ)
transform h p leg s = transformed h p s (plain_of (judged h p leg))

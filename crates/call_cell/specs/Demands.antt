-- When a call is due to end, what is told of its legs, and which event a cell's history demands.
use Rattle.std.specs.Prelude.{◌≡◌, ◌<◌, ℕ, ◌+◌, ◌^◌, Bool, true, false, ◌&&◌, ◌==◌, nat_le, List, [], ◌∷◌, Option, Some, None, is_some, filter, filter_map, count_by, if◌then◌else◌}
use Rattle.std.specs.List.{list_any, flat_map}
use Rattle.relay_outside.specs.declared.settings.Config.{Config}
use Rattle.rtp_packet.specs.declared.head.Half.{Half}
use Rattle.rtp_packet.specs.declared.head.Half.TheVariants.{Rtp, Rtcp}
use Rattle.srtp_sources.specs.Notes.{is_half}
use Rattle.histories.specs.Words.{In, first, final, numbers}
use Rattle.port_pool.specs.Ports.{pair_port}
use Rattle.port_pool.specs.declared.holder.Holder.{Holder}
use Rattle.port_pool.specs.declared.holder.Side.{Side}
use Rattle.port_pool.specs.declared.holder.Side.TheVariants.{A, B}
use Rattle.port_pool.specs.declared.signal.LegSignal.{LegSignal}
use Rattle.port_pool.specs.Signals.{same_leg, side_eq}
use Rattle.port_pool.specs.declared.reports.LegReport.{LegReport}
use Rattle.call_cell.specs.declared.outcome.Outcome.{Outcome}
use Rattle.call_cell.specs.declared.outcome.Outcome.TheVariants as outcomes
use Rattle.call_cell.specs.Cells.{CellEvent, CellEntry, Prepare, Commit, Relay, Expire, Read, End, Relayed, Sending, legs_of, legs, life, in_force, since_end, is_accepted, relayed, accepted_of, prepared_call}
use Rattle.call_cell.specs.Lessons.{learned, leg_endpoint_by}
use Rattle.call_cell.specs.Blocks.{last_report}
use Rattle.call_cell.specs.Deeds.{deed, way, found, opposite_of, is_leaving}

-- Timeouts.

abbrev pub commits : CellEvent → Bool
commits (Commit signal) = true
commits _ = false

-- a commit or an accepted packet
abbrev pub is_activity : CellEvent → Bool
is_activity (Commit signal) = true
is_activity (Relay r) = is_accepted r.deed.outcome
is_activity _ = false

-- the entry is at least so long ago
abbrev pub is_past : ℕ → ℕ → Option CellEntry → Bool
is_past now limit None = false
is_past now limit (Some e) = nat_le (e.moment + limit) now

-- a committed call without a commit or an accepted packet for so long, or one never committed that began so long ago
unfoldable pub is_due : Config → List CellEntry → ℕ → Bool
is_due config h now =
    if list_any (λ e. commits e.event) h then is_past now config.timeout_ms (first (filter (λ e. is_activity e.event) h))
    else is_past now config.offer_timeout_ms (final (filter (λ e. is_some (prepared_call e)) h))

-- Reports.

abbrev pub is_sent : Outcome → Bool
is_sent (outcomes.Refused cause) = false
is_sent (outcomes.Lost cause) = false
is_sent (outcomes.Sent family port to len) = true

-- how many packets of a half were accepted from the leg
abbrev pub accepted_count : List CellEntry → Holder → Half → ℕ
accepted_count h leg half = count_by (λ r. is_half r.deed.kind half) (accepted_of (life h leg) leg)

-- the packet that was relayed after these entries, if one was, was sent by the leg's end of a half
abbrev pub is_sent_by : Holder → Half → List CellEntry → Option Relayed → Bool
is_sent_by leg half h None = false
is_sent_by leg half h (Some r) =
    is_sent r.deed.outcome && (is_half (way h r.packet) half && is_leaving (opposite_of h (found h r.packet)) leg)

-- how many packets of a half were sent by the leg's ports to its side
abbrev pub sent_count : List CellEntry → Holder → Half → ℕ
sent_count [] leg half = 0
sent_count (e ∷ h) leg half =
    if list_any (same_leg leg) (legs_of e.event) then 0
    else if is_sent_by leg half h (relayed e) then sent_count h leg half + 1 else sent_count h leg half

-- the counts of the legs that are there are below 2 ^ 63
abbrev pub CountsBelow : List CellEntry → Type 0
CountsBelow h = (leg : Holder) (half : Half) → In leg (legs h) → (accepted_count h leg half < 2 ^ 63) × (sent_count h leg half < 2 ^ 63)

abbrev pub report_under : Config → List CellEntry → Holder → Option LegSignal → Option LegReport
report_under config h leg None = None
report_under config h leg (Some s) = Some (record {
  section = leg.section;
  side = leg.side;
  port = pair_port config leg.pair;
  endpoint = leg_endpoint_by s (learned h leg Rtp) Rtp;
  rtp_accepted = accepted_count h leg Rtp;
  rtp_sent = sent_count h leg Rtp;
  rtcp_accepted = accepted_count h leg Rtcp;
  rtcp_sent = sent_count h leg Rtcp;
  report = last_report h leg;
})

abbrev pub report_of : Config → List CellEntry → Holder → Option LegReport
report_of config h leg = report_under config h leg (in_force h leg)

abbrev pub report_in : Config → List CellEntry → Option Holder → Option LegReport
report_in config h None = None
report_in config h (Some leg) = report_of config h leg

abbrev pub stands_at : ℕ → Side → Holder → Bool
stands_at section side leg = (leg.section == section) && side_eq leg.side side

-- the report of the leg of that section and side, where it is committed
abbrev pub report_at : Config → List CellEntry → ℕ → Side → Option LegReport
report_at config h section side = report_in config h (first (filter (stands_at section side) (legs h)))

-- the reports of the legs of a section, that of side A first
abbrev pub section_reports : Config → List CellEntry → ℕ → List LegReport
section_reports config h section = filter_map (report_at config h section) (A ∷ B ∷ [])

-- the reports of the legs of committed sections, by section
unfoldable pub reports : Config → List CellEntry → List LegReport
reports config h = flat_map (section_reports config h) (numbers 0 8)

-- What a history demands.

-- a relay that makes no send is told that none failed
abbrev pub IsSendAnswered : Option Sending → Bool → Type 0
IsSendAnswered None sent_ok = sent_ok ≡ true
IsSendAnswered (Some sending) sent_ok = Unit {0}

-- a relay does what the history demands, with that result of its send
pub record FitsRelay (config : Config) (h : List CellEntry) (r : Relayed) : Type 0 where
  pub does : r.deed ≡ deed config h r.packet r.sent_ok
  pub answered : IsSendAnswered r.deed.sending r.sent_ok

-- the event is the one that the cell's history demands at that moment
abbrev pub CellFitsAt : Config → List CellEntry → ℕ → CellEvent → Type 0
CellFitsAt config h now (Relay r) = FitsRelay config (since_end h) r
CellFitsAt config h now (Expire due) = due ≡ is_due config (since_end h) now
CellFitsAt config h now (Read log) = log ≡ reports config (since_end h)
CellFitsAt config h now (Prepare call legs keys dropped) = Unit {0}
CellFitsAt config h now (Commit signal) = Unit {0}
CellFitsAt config h now End = Unit {0}

abbrev pub FitsCell : Config → List CellEntry → CellEntry → Type 0
FitsCell config h e = CellFitsAt config h e.moment e.event

-- What a cell tells of its legs.
use Rattle.std.specs.Prelude.{ℕ, List, [], ◌∷◌, Option, Some, None, position, slice_get, filter_map}
use Rattle.std.specs.List.{flat_map}
use Rattle.std.specs.Option.{option_and_then}
use Rattle.relay_outside.specs.declared.settings.Config.{Config}
use Rattle.rtp_packet.specs.declared.head.Half.TheVariants.{Rtp}
use Rattle.histories.specs.Words.{numbers}
use Rattle.port_pool.specs.declared.holder.Side.{Side}
use Rattle.port_pool.specs.declared.holder.Side.TheVariants.{A, B}
use Rattle.port_pool.specs.declared.reports.LegReport.{LegReport}
use Rattle.port_pool.specs.declared.signal.LegSignal.{LegSignal}
use Rattle.endpoint_learn.specs.declared.learner.Learner.{Learner}
use Rattle.call_cell.specs.declared.leg.Leg.{Leg}
use Rattle.call_cell.specs.declared.cell.Cell.{Cell}
use Rattle.call_cell.specs.Cells.{CellEntry, Read}
use Rattle.call_cell.specs.Demands.{FitsCell, stands_at}
use Rattle.call_cell.specs.Parts.{learner_in, endpoint_of}
use Rattle.call_cell.specs.LegHistories.{in_force_with}
use Rattle.call_cell.specs.CellHistories.{CellFor, cell_last_moment}

-- A leg.

-- what a leg tells with that in force, and that learner of RTP
abbrev pub leg_report_under : {O : Type 0} → Leg O → Option (LegSignal × Learner) → Option LegReport
leg_report_under leg None = None
leg_report_under leg (Some (s, learner)) = Some (record {
  section = leg.holder.section;
  side = leg.holder.side;
  port = leg.lease.rtp_port;
  endpoint = endpoint_of learner;
  rtp_accepted = leg.counts.rtp_accepted;
  rtp_sent = leg.counts.rtp_sent;
  rtcp_accepted = leg.counts.rtcp_accepted;
  rtcp_sent = leg.counts.rtcp_sent;
  report = leg.report;
})

abbrev pub leg_report : {O : Type 0} → Leg O → Option LegReport
leg_report leg = leg_report_under leg (in_force_with leg.signal (learner_in Rtp leg.receiving))

-- The legs.

-- the leg of that section and side, of the place where it is found
abbrev pub leg_report_from : {O : Type 0} → List (Leg O) → Option ℕ → Option LegReport
leg_report_from {O} those place = option_and_then (λ (leg : Leg O). leg_report leg) (option_and_then (slice_get those) place)

abbrev pub told_at : {O : Type 0} → List (Leg O) → ℕ → Side → Option LegReport
told_at {O} those section side = leg_report_from those (position (λ (leg : Leg O). stands_at section side leg.holder) those)

abbrev pub reports_of_section : {O : Type 0} → List (Leg O) → ℕ → List LegReport
reports_of_section those section = filter_map (told_at those section) (A ∷ B ∷ [])

-- the reports of all, by section, that of side A first
abbrev pub leg_reports : {O : Type 0} → List (Leg O) → List LegReport
leg_reports those = flat_map (reports_of_section those) (numbers 0 8)

-- The cell.

-- reading a cell, which is handed no moment
abbrev pub read_after : List CellEntry → List LegReport → CellEntry
read_after h log = record { moment = cell_last_moment h; event = Read log }

-- the cell tells the reports of its legs after that history, and nothing changes
pub record CellReads {O : Type 0} (config : Config) (cell : Cell O) (h : List CellEntry) (all_reports : List LegReport) : Type 0 where
  pub fits : FitsCell config h (read_after h all_reports)
  pub stands : CellFor config cell (read_after h all_reports ∷ h)

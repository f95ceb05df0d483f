-- What is told of a call that was read.
use Rattle.std.specs.Prelude.{◌≡◌, ℕ, List, [], Option, Some, None}
use Rattle.ng_bencode.specs.Room.{Room}
use Rattle.port_pool.specs.declared.reports.LegReport.{LegReport}
use Rattle.call_board.specs.Reports.{Report}
use Rattle.call_board.specs.Views.{CallView}
use Rattle.board_turns.specs.declared.command_outcome.CommandOutcome.{CommandOutcome}
use Rattle.board_turns.specs.declared.device_answers.DeviceAnswers.TheVariants as device_answers

-- what the board keeps of a call, with these reports of its legs
abbrev pub view_report : CallView → List LegReport → Report
view_report c log = record { created = c.first; last_signal = c.last; rounds = c.rounds; legs = log }

-- a call was read, and these bytes are the reply; or memory ran out after it was read
abbrev pub ReportsOfBy : List LegReport → List ℕ → CommandOutcome → Option (Room ℕ) → Type 0
ReportsOfBy log bytes done None = done.device_answers ≡ device_answers.ReportOutOfMemory log
ReportsOfBy log bytes done (Some text) = (done.chosen_lines ≡ []) × (done.device_answers ≡ device_answers.Report log) × (text.list ≡ bytes)

abbrev pub ReportsOf : List LegReport → List ℕ → CommandOutcome → Type 0
ReportsOf log bytes done = ReportsOfBy log bytes done done.reply

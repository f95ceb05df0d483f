-- What the devices returned in the turn of a datagram, as the run tells it.
use Rattle.std.specs.Prelude.{◌≡◌, ℕ, Bool, true, false, List, [], ◌∷◌, ◌++◌, Option, Some, None, replicate, map, if◌then◌else◌}
use Rattle.histories.specs.Words.{In}
use Rattle.relay_outside.specs.declared.keys.KeyCall.{KeyCall}
use Rattle.relay_outside.specs.declared.keys.KeyCall.TheVariants as key
use Rattle.relay_outside.specs.declared.ports.PortCall.{PortCall}
use Rattle.relay_outside.specs.declared.settings.Config.{Config}
use Rattle.relay_outside.specs.DeviceLogs.{Rose, Gained}
use Rattle.port_pool.specs.declared.reports.LegReport.{LegReport}
use Rattle.call_board.specs.Acts.{Given}
use Rattle.media_ports.specs.Openings.{OpensAt}
use Rattle.board_turns.specs.declared.device_answers.DeviceAnswers.{DeviceAnswers}
use Rattle.board_turns.specs.declared.device_answers.DeviceAnswers.TheVariants.{Nothing, OutOfMemory, PortFault, KeyFault, Offered, Report, ReportOutOfMemory}

abbrev pub given_so : Bool → List Bool → List (List ℕ) → Bool → Given
given_so out_of_memory opens draws failed = record { out_of_memory = out_of_memory; opens = opens; draws = draws; draw_failed = failed; report = None }

-- a call was read, and nothing else was asked
abbrev pub given_report : Bool → List LegReport → Given
given_report out_of_memory log = record { out_of_memory = out_of_memory; opens = []; draws = []; draw_failed = false; report = Some log }

abbrev pub given_by : DeviceAnswers → Given
given_by Nothing = given_so false [] [] false
given_by OutOfMemory = given_so true [] [] false
given_by (PortFault opened) = given_so false (replicate opened true ++ false ∷ []) [] false
given_by (KeyFault opened drawn) = given_so false (replicate opened true) drawn.list true
given_by (Offered opened drawn) = given_so false (replicate opened true) drawn.list false
given_by (Report log) = given_report false log
given_by (ReportOutOfMemory log) = given_report true log

-- no port was asked for, and no key
abbrev pub IsUnasked : DeviceAnswers → Type 0
IsUnasked Nothing = Unit {0}
IsUnasked OutOfMemory = Unit {0}
IsUnasked (PortFault opened) = ⊥
IsUnasked (KeyFault opened drawn) = ⊥
IsUnasked (Offered opened drawn) = ⊥
IsUnasked (Report log) = Unit {0}
IsUnasked (ReportOutOfMemory log) = Unit {0}

-- the calls of a key source whose draws gave these keys, and then failed or not
abbrev pub draws_of : Given → List KeyCall
draws_of given = map key.Drawn given.draws ++ (if given.draw_failed then key.Failed ∷ [] else [])

-- What an entry says that the devices returned is what they told: the openings are those that the port maker's list gained, of the
-- ports of the pairs that the entry leased, in lease order, and with their results; the draws are those that the key source's list
-- gained; and a port that could not be opened, or a key that could not be drawn, stands in it only where the count of the port maker's
-- faults, or of the key source's, rose
pub record IsGivenBy (config : Config) (leased : List ℕ) (given : Given) (ports ports_now keys keys_now : ℕ) (opened opened_now : Option (List PortCall)) (drew drew_now : Option (List KeyCall)) : Type 0 where
  pub port_fault : In false given.opens → Rose ports ports_now
  pub key_fault : given.draw_failed ≡ true → Rose keys keys_now
  pub opens : Gained opened opened_now (OpensAt config leased given.opens)
  pub draws : Gained drew drew_now (λ calls. calls ≡ draws_of given)

use Rattle.turn_table.specs.Steps.{entry}
use Rattle.relay_core.specs.Turns.{IsOfLane}
use Rattle.media_lane.specs.Relays.{relay_made}
use Rattle.media_lane.specs.Takes.{take_made}
use Rattle.media_lane.specs.Visits.{Row}
use Rattle.media_lane.proofs.Between.{one_row}
use Rattle.media_lane.proofs.Sweeps.{rows_in}
use Rattle.media_lane.proofs.laws.lanes_take_and_relay.Goals as goal

pub returns-clause-takes : goal.returns-clause-takes
returns-clause-takes c = λ place number half taken. one_row (λ (row : Row). IsOfLane row.event.event) (entry place number (take_made half taken) tt) tt

pub returns-clause-relays : goal.returns-clause-relays
returns-clause-relays c = λ place number packet now moment outcome. one_row (λ (row : Row). IsOfLane row.event.event) (entry place number (relay_made packet now moment outcome) tt) tt

pub returns-clause-sweeps : goal.returns-clause-sweeps
returns-clause-sweeps c = rows_in

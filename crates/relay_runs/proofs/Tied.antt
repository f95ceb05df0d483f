-- How the calls of a port maker stay tied to the rows of a run: a control turn and the stop tie more of them, and by the rows of sweeps nothing
-- leaves a place.
use Rattle.std.proofs.Common.{◌≡◌, refl, sym, subst, ℕ, List, [], ◌∷◌, ◌++◌, Option}
use Rattle.relay_outside.specs.declared.ports.PortCall.{PortCall}
use Rattle.relay_outside.specs.declared.settings.Config.{Config}
use Rattle.relay_outside.specs.DeviceLogs.{Gained}
use Rattle.turn_table.specs.Histories as table_lists
use Rattle.port_pool.specs.Boxes.{Open, Take, Close}
use Rattle.call_cell.specs.Cells.{Prepare, Commit, Relay, Expire, Read, End}
use Rattle.relay_core.specs.Entries.{Event, Board, Cell, Box}
use Rattle.relay_core.specs.Turns.{IsOfLane}
use Rattle.media_lane.specs.Visits.{Row}
use Rattle.board_turns.specs.Ties.{AreTied, PortsFollowRows}
use Rattle.board_turns.proofs.Tying.{NothingLeaves, NothingLeft, none_left, row_left, both_left, ties_both, ties_left, ties_none}
use Rattle.relay_runs.specs.RunStates.{AddsSweep}
use Rattle.relay_runs.proofs.Orders.{AreOfLane, sweep_of_lane}

lane_leaves : (v : Event) → IsOfLane v → NothingLeaves v
lane_leaves (Board b) h = absurd h
lane_leaves (Cell (Prepare call legs keys dropped)) h = absurd h
lane_leaves (Cell (Commit signal)) h = absurd h
lane_leaves (Cell (Relay r)) h = record { closing = refl; parting = refl }
lane_leaves (Cell (Expire due)) h = absurd h
lane_leaves (Cell (Read reports)) h = absurd h
lane_leaves (Cell End) h = absurd h
lane_leaves (Box (Open leg)) h = absurd h
lane_leaves (Box (Take half taken)) h = record { closing = refl; parting = refl }
lane_leaves (Box Close) h = absurd h

lanes_left : (rows : List Row) → AreOfLane rows → NothingLeft rows
lanes_left [] lanes = none_left
lanes_left (row ∷ rows) lanes =
    both_left (row ∷ []) rows (row_left row (lane_leaves row.event.event (lanes row (table_lists.here refl))))
    (lanes_left rows (λ r i. lanes r (table_lists.there i)))

-- All rows so far.

tied_of : (config : Config) (before now : Option (List PortCall)) (rows : List Row) → PortsFollowRows config before now [] rows → Gained before now (AreTied config rows)
tied_of config before now rows ties = subst (λ (xs : List Row). Gained before now (AreTied config xs)) (sym ties.rows_are) ties.calls

-- nothing was called, and there is no row
pub none_tied : (config : Config) (before now : Option (List PortCall)) (rows : List Row) → rows ≡ [] → before ≡ now → Gained before now (AreTied config rows)
none_tied config before now rows none same =
    subst (λ (xs : List Row). Gained before now (AreTied config xs)) (sym none)
    (subst (λ (o : Option (List PortCall)). Gained before o (AreTied {T = Unit {0}} config [])) same (tied_of config before before [] (ties_none config before [])))

-- more calls, tied to more rows
pub more_tied : (config : Config) (t0 t1 t2 : Option (List PortCall)) (rows after : List Row) → Gained t0 t1 (AreTied config rows) → PortsFollowRows config t1 t2 rows after
    → Gained t0 t2 (AreTied config after)
more_tied config t0 t1 t2 rows after tied ties =
    tied_of config t0 t2 after (ties_both config t0 t1 t2 [] rows after (record { more = rows; rows_are = refl; calls = tied }) ties)

-- more rows of lanes, and no call
pub lanes_tied : (config : Config) (before now : Option (List PortCall)) (rows more after : List Row) → AreOfLane more → after ≡ rows ++ more
    → Gained before now (AreTied config rows) → Gained before now (AreTied config after)
lanes_tied config before now rows more after lanes is tied =
    more_tied config before now now rows after tied (ties_left config now rows after more is (lanes_left more lanes))

-- a sweep
pub sweep_tied : (config : Config) (threads : ℕ) (range : Option (ℕ × ℕ)) (before now : Option (List PortCall)) (rows after : List Row) → AddsSweep config threads range rows after
    → Gained before now (AreTied config rows) → Gained before now (AreTied config after)
sweep_tied config threads range before now rows after sweep tied =
    lanes_tied config before now rows sweep.rows after (sweep_of_lane config threads range sweep.rows sweep.alone) sweep.are tied

-- a whole run: its control turns, rows of lanes, and the stop
pub whole_tied : (config : Config) (t0 t1 t2 : Option (List PortCall)) (first beside joined last : List Row) → Gained t0 t1 (AreTied config first) → AreOfLane beside
    → joined ≡ first ++ beside → PortsFollowRows config t1 t2 joined last → Gained t0 t2 (AreTied config last)
whole_tied config t0 t1 t2 first beside joined last tied lanes is stop =
    more_tied config t0 t1 t2 joined last (lanes_tied config t0 t1 first beside joined lanes is tied) stop

-- A run of `serve`: its control turns, with the rows of all lanes beside them, the last sweep, its stop, and the close of the table.
use Rattle.std.proofs.Common.{◌≡◌, ◌∙◌, sym, ap, subst, refl, ℕ, ◌<◌, ◌≤◌, ◌⊎◌, inl, inr, List, [], ◌∷◌, ◌++◌, Option, map, append_assoc, arith}
use Rattle.std.proofs.lemmas.List.{map-append}
use Rattle.relay_outside.specs.declared.keys.KeyCall.{KeyCall}
use Rattle.relay_outside.specs.declared.link.LinkCall.{LinkCall}
use Rattle.relay_outside.specs.declared.ports.PortCall.{PortCall}
use Rattle.relay_outside.specs.declared.settings.Config.{Config}
use Rattle.relay_outside.specs.DeviceLogs.{Gained}
use Rattle.histories.specs.Words.{In}
use Rattle.turn_table.specs.declared.hands.Turns.{Turns}
use Rattle.turn_table.specs.declared.hands.Hand.{Hand}
use Rattle.turn_table.specs.Hands.{entries}
use Rattle.call_board.specs.Acts.{BoardEntry}
use Rattle.relay_core.specs.declared.part.Part.{Part}
use Rattle.relay_core.specs.Entries.{Entry}
use Rattle.relay_core.specs.Legal.{Legal}
use Rattle.relay_core.specs.Records.{Made, entry_of, list_of, as_logged}
use Rattle.relay_core.specs.Safe.{Safe}
use Rattle.relay_core.specs.RowMoments.{AreTimed}
use Rattle.relay_core.specs.EndLogs.{InOrder, InsAreTold, OutsAreTold}
use Rattle.relay_core.specs.Turns.{Numbered, made_by}
use Rattle.relay_core.proofs.Joins.{not_in_both}
use Rattle.histories.proofs.Lists.{in_right}
use Rattle.media_ports.specs.OpenPorts.{LogsHeld}
use Rattle.media_ports.specs.Openings as asked
use Rattle.media_lane.specs.declared.answers.Totals.{Totals}
use Rattle.media_lane.specs.Gates.{AreGated}
use Rattle.media_lane.specs.Sweeps.{Sweeps}
use Rattle.media_lane.specs.Totals.{HasTotals}
use Rattle.media_lane.specs.Visits.{Row, all_rows}
use Rattle.media_lane.proofs.Counts.{turn_totals, told_totals}
use Rattle.board_turns.specs.Between.{board_of, IsBetween, MakesTurn}
use Rattle.board_turns.specs.Stops.{stop_entry}
use Rattle.board_turns.specs.Ties.{AreTied, PortsFollowRows}
use Rattle.board_turns.proofs.Grown.{makes_history}
use Rattle.ng_server.proofs.Tellings.{told_board}
use Rattle.relay_runs.specs.declared.status.Status.{Status}
use Rattle.relay_runs.specs.declared.totals.Counts.{Counts}
use Rattle.relay_runs.specs.Rounds.{ControlRound, history_after, HasSwept, IsBoardTurn, AreControlRounds, AreLanes, lane_count, all_of, StandsAfter, IsWhole}
use Rattle.relay_runs.specs.ServeRuns.{DidServe}
use Rattle.relay_runs.specs.Threads.{CountsUp}
use Rattle.relay_runs.specs.RunStates.{DidTurns}
use Rattle.relay_runs.proofs.Between.{turn_parts, low_or}
use Rattle.relay_runs.proofs.Orders.{AreOfLane, lanes_of_lane, swept_of_lane, both_of_lane, whole_in_order}
use Rattle.relay_runs.proofs.Tied.{whole_tied}
use Rattle.relay_runs.proofs.Wholes.{ran}

-- Where rows stand at their places.

-- of two lists of rows the second stands after the first, where at each place of the first its numbers run from 0
stands_after : (rows more : List Row) → CountsUp (list_of rows) → Numbered (list_of (rows ++ more)) → StandsAfter (list_of rows) (list_of more)
stands_after rows more counted numbered e f i j p = by_case (low_or f.number e.number)
  where
    by_case : (f.number < e.number) ⊎ (e.number ≤ f.number) → f.number < e.number
    by_case (inl low) = low
    by_case (inr high) =
        let g = counted f e.number j high in
        absurd (not_in_both (list_of rows) (list_of more) (subst Numbered (map-append entry_of rows more) numbered) g.0 e g.1 i (g.2 ∙ p) g.3)

-- a turn of the board stands after all rows before it
turn_stands : (config : Config) (before more rows : List Row) (e : BoardEntry) → IsBoardTurn config (before ++ more) e rows → StandsAfter (list_of more) (list_of rows)
turn_stands config before more rows e t x f i j p = by_part (turn_parts config (before ++ more) e rows t x i)
  where
    there_too : In f (list_of (before ++ more))
    there_too = subst (λ (l : List Entry). In f l) (sym (map-append entry_of before more)) (in_right (list_of before) (list_of more) j)

    by_part : In x (list_of t.nested) ⊎ (x ≡ entry_of t.last) → f.number < x.number
    by_part (inl k) = t.turn.above x k f there_too p
    by_part (inr is) =
        let place : f.place ≡ 0 = p ∙ ap (λ (y : Entry). y.place) is ∙ t.turn.at_board in
        let number : x.number ≡ (entry_of t.last).number = ap (λ (y : Entry). y.number) is in
        let low = t.turn.at_front f there_too place in
        omega (arith, low, number)

-- The whole run: first is the main hand after the control turns, taken that after it took in the hands of all lanes and surveyed the table, swept that
-- after the last sweep, last that after the stop.
module _ {M I O : Type 0} {g : _} (config : Config) (threads : ℕ) (range : Option (ℕ × ℕ)) (rounds : List ControlRound) (totals swept_totals : Totals)
    (turns : Turns M (Part I O) Made (Unit {0})) (first taken swept last : Hand M (Part I O) Made (Unit {0}) g) (beside : List (List Row))
    (are : AreControlRounds config threads range rounds (entries first)) (history_is : board_of (made_by first) ≡ history_after config rounds)
    (lanes : AreLanes config (lane_count config threads) range beside) (taken_is : entries taken ≡ entries first ++ all_of beside)
    (counted : CountsUp (made_by taken)) (taken_history : board_of (made_by taken) ≡ board_of (made_by first))
    (s : Sweeps config 0 1 range taken swept swept_totals) (same : board_of (made_by swept) ≡ board_of (made_by taken))
    (before : IsBetween config turns swept) (after : IsBetween config turns last) (makes : MakesTurn config swept last (stop_entry (board_of (made_by swept))))
    (counts : HasTotals (made_by swept) totals)
    (closed : (l : List Entry) × (map as_logged l ≡ made_by last) × Legal config l × Safe config l × OutsAreTold (entries last) l) (timed : AreTimed (entries last)) where
  abbrev sweep : List Row
  sweep = all_rows config s.visits

  abbrev stop : List Row
  stop = makes.rows ++ makes.row ∷ []

  is_sweep : HasSwept config 0 1 range sweep
  is_sweep = record { visits = s.visits; rows_are = refl; is_sweep = record { passed = s.passed; own_once = s.own_once } }

  history : board_of (made_by swept) ≡ history_after config rounds
  history = same ∙ taken_history ∙ history_is

  swept_is : entries swept ≡ (entries first ++ all_of beside) ++ sweep
  swept_is = s.list_is ∙ ap (λ (xs : List Row). xs ++ sweep) taken_is

  rows_are : entries last ≡ ((entries first ++ all_of beside) ++ sweep) ++ stop
  rows_are = makes.list_is ∙ append_assoc (entries swept) makes.rows (makes.row ∷ []) ∙ ap (λ (xs : List Row). xs ++ stop) swept_is

  stopped : IsBoardTurn config ((entries first ++ all_of beside) ++ sweep) (stop_entry (history_after config rounds)) stop
  stopped =
      subst (λ (h : List BoardEntry). IsBoardTurn config ((entries first ++ all_of beside) ++ sweep) (stop_entry h) stop) history
      (subst (λ (xs : List Row). IsBoardTurn config xs (stop_entry (board_of (made_by swept))) stop) swept_is
      (record { nested = makes.rows; last = makes.row; rows_are = refl; turn = makes.turn; is = makes.is }))

  -- all that lanes and the last sweep did
  pub all_of_lanes : AreOfLane (all_of beside ++ sweep)
  all_of_lanes = both_of_lane (all_of beside) sweep (lanes_of_lane config (lane_count config threads) range beside lanes) (swept_of_lane config 0 1 range sweep is_sweep)

  pub swept_rows : entries swept ≡ entries first ++ (all_of beside ++ sweep)
  swept_rows = swept_is ∙ append_assoc (entries first) (all_of beside) sweep

  pub whole_run : (whole : IsWhole config threads range rounds totals) × (whole.rows ≡ entries last) × OutsAreTold whole.rows whole.list
  whole_run = (
    record {
      in_rounds = entries first;
      beside = beside;
      last_sweep = sweep;
      stop = stop;
      are_rounds = are;
      are_lanes = lanes;
      is_sweep = is_sweep;
      is_stop = stopped;
      after_all =
          stands_after (entries first ++ all_of beside) sweep (subst (λ (xs : List Row). CountsUp (list_of xs)) taken_is counted)
          (subst (λ (xs : List Row). Numbered (list_of xs)) swept_is before.numbered);
      before_stop = turn_stands config (entries first ++ all_of beside) sweep stop (stop_entry (history_after config rounds)) stopped;
      rows = entries last;
      rows_are = rows_are;
      timed = timed;
      list = closed.0;
      told_is = closed.1;
      legal = closed.2;
      safe = closed.3;
      board_is =
          sym (told_board closed.0) ∙ ap board_of closed.1
          ∙ makes_history config turns swept last (stop_entry (board_of (made_by swept))) before after makes
          ∙ ap (λ (h : List BoardEntry). stop_entry h ∷ h) history;
      totals_are =
          told_totals closed.0 totals
          (subst (λ (l : List Entry). HasTotals l totals) (sym closed.1)
          (turn_totals config swept last (stop_entry (board_of (made_by swept))) totals before.orderly makes counts));
    },
    refl,
    closed.4,
  )

-- With what the devices told of it.
pub ran_whole : (limit : ℕ) (config : Config) (threads : ℕ) (range : Option (ℕ × ℕ)) (gate : ℕ → Type 0) (l0 l1 : Option (List LinkCall)) (t0 t1 : Option (List ℕ)) (o0 o1 o2 : Option (List PortCall)) (k0 k1 : Option (List KeyCall))
    (p0 p1 p2 q0 q1 : ℕ) (ended : Status) (counts : Counts) (totals : Totals) (rows beside joined all : List Row) → p1 ≤ p2 → Gained o1 o2 asked.NoneOpened
    → (turns : DidTurns limit config threads range
    (record { link = l0; link_now = l1; timer = t0; timer_now = t1; opened = o0; opened_now = o1; drew = k0; drew_now = k1; port_faults = p0; port_faults_now = p1; key_faults = q0; key_faults_now = q1 })
    ended counts rows)
    → (whole : IsWhole config threads range turns.rounds totals) × (whole.rows ≡ all) × OutsAreTold whole.rows whole.list → AreGated gate (list_of all) → PortsFollowRows config o1 o2 joined all
    → AreOfLane beside → joined ≡ rows ++ beside → (InOrder (list_of all) → InsAreTold config all) → LogsHeld config o0 [] → LogsHeld config o2 []
    → DidServe [] limit config threads range gate
    (record { link = l0; link_now = l1; timer = t0; timer_now = t1; opened = o0; opened_now = o2; drew = k0; drew_now = k1; port_faults = p0; port_faults_now = p2; key_faults = q0; key_faults_now = q1 })
    ended counts totals
ran_whole limit config threads range gate l0 l1 t0 t1 o0 o1 o2 k0 k1 p0 p1 p2 q0 q1 ended counts totals rows beside joined all later closes turns whole gated stop lanes is ins shut shut_again =
    let serve = whole.0 in
    let run = ran limit config threads range gate l0 l1 t0 t1 o0 o1 o2 k0 k1 p0 p1 p2 q0 q1 ended counts rows later closes turns serve.rows serve.list serve.told_is serve.legal serve.safe serve.board_is whole.2
    (subst (λ (xs : List Row). InOrder (list_of xs) → InsAreTold config xs) (sym whole.1) ins (whole_in_order config threads range turns.rounds totals serve))
    (subst (λ (xs : List Row). AreGated gate (list_of xs)) (sym whole.1) gated)
    (subst (λ (xs : List Row). Gained o0 o2 (AreTied config xs)) (sym whole.1) (whole_tied config o0 o1 o2 rows beside joined all turns.tied lanes is stop))
    shut shut_again in
    record {
      rounds = turns.rounds;
      last = turns.last;
      whole = serve;
      gated = run.gated;
      counts_are = turns.counts_are;
      has_ended = turns.has_ended;
      last_is = turns.last_is;
      log = run.log;
      ends = run.ends;
      all_sent = run.all_sent;
      opens_same = run.opens_same;
    }

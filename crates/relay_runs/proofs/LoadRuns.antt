-- A load: its control turns, the work of its threads of media between two surveys of the table, its stop, and the close of the table.
use Rattle.std.proofs.Common.{◌≡◌, ◌∙◌, sym, ap, subst, refl, ℕ, ◌<◌, ◌≤◌, List, [], ◌∷◌, ◌++◌, Option, map, append_assoc}
use Rattle.relay_outside.specs.declared.keys.KeyCall.{KeyCall}
use Rattle.relay_outside.specs.declared.link.LinkCall.{LinkCall}
use Rattle.relay_outside.specs.declared.ports.PortCall.{PortCall}
use Rattle.relay_outside.specs.declared.settings.Config.{Config}
use Rattle.relay_outside.specs.DeviceLogs.{Gained}
use Rattle.turn_table.specs.declared.hands.Turns.{Turns}
use Rattle.turn_table.specs.declared.hands.Hand.{Hand}
use Rattle.turn_table.specs.declared.view.View.{View}
use Rattle.turn_table.specs.Hands.{IsUnchanged, KnowsAll, view, entries}
use Rattle.call_board.specs.Acts.{BoardEntry}
use Rattle.relay_core.specs.declared.part.Part.{Part}
use Rattle.relay_core.specs.Entries.{Entry}
use Rattle.relay_core.specs.Legal.{Legal}
use Rattle.relay_core.specs.Records.{Made, list_of, as_logged}
use Rattle.relay_core.specs.Safe.{Safe}
use Rattle.relay_core.specs.RowMoments.{AreTimed}
use Rattle.relay_core.specs.EndLogs.{InOrder, InsAreTold, OutsAreTold}
use Rattle.relay_core.specs.Turns.{Numbered, made_by}
use Rattle.media_ports.specs.OpenPorts.{LogsHeld}
use Rattle.media_ports.specs.Openings as asked
use Rattle.media_lane.specs.declared.answers.Totals.{Totals}
use Rattle.media_lane.specs.Gates.{AreGated}
use Rattle.media_lane.specs.Totals.{HasTotals}
use Rattle.media_lane.specs.Visits.{Row}
use Rattle.media_lane.proofs.Counts.{turn_totals, told_totals}
use Rattle.board_turns.specs.Between.{board_of, IsBetween, MakesTurn}
use Rattle.board_turns.specs.Stops.{stop_entry}
use Rattle.board_turns.specs.Ties.{AreTied, PortsFollowRows}
use Rattle.board_turns.proofs.Grown.{makes_history}
use Rattle.ng_server.proofs.Tellings.{told_board}
use Rattle.relay_runs.specs.declared.status.Status.{Status}
use Rattle.relay_runs.specs.declared.totals.Counts.{Counts}
use Rattle.relay_runs.specs.Loads.{IsLoadWhole, DidLoadTurns}
use Rattle.relay_runs.specs.Rounds.{ControlRound, history_after, IsBoardTurn, AreControlRounds, AreLanes, all_of}
use Rattle.relay_runs.specs.Threads.{CountsUp, RelaysDue}
use Rattle.relay_runs.specs.ServeRuns.{Outside}
use Rattle.relay_runs.specs.RunStates.{DidTurns}
use Rattle.relay_runs.proofs.Between.{known_counted, relays_between}
use Rattle.relay_runs.proofs.Gates.{makes_gated}
use Rattle.relay_runs.proofs.Orders.{AreOfLane, lanes_of_lane, load_in_order}
use Rattle.relay_runs.proofs.Tied.{whole_tied}
use Rattle.relay_runs.proofs.Wholes.{ran}

-- The work of the threads: h0 is the main hand before the first survey, h1 after it, h2 after the lanes are made, and h4 after it took in theirs and the
-- second survey.
module _ {M I O : Type 0} {g : _} (config : Config) (lanes : ℕ) (range : Option (ℕ × ℕ)) (gate : ℕ → Type 0)
    (h0 h1 h2 : Hand M (Part I O) Made (Unit {0}) g) (first : IsUnchanged h0 h1) (made_is : entries h2 ≡ entries h1) where
  -- the list of the hand before the threads
  pub old_list : entries h2 ≡ entries h0
  old_list = made_is ∙ ap (λ (v : View (Part I O) Made (Unit {0})). v.entries) first.1

  pub relays_due : (h4 : Hand M (Part I O) Made (Unit {0}) g) (beside : List (List Row)) (was is : Totals) → KnowsAll h1 → AreLanes config lanes range beside
      → entries h4 ≡ entries h2 ++ all_of beside → (AreGated gate (made_by h2) → AreGated gate (made_by h4)) → (HasTotals (made_by h2) was → HasTotals (made_by h4) is)
      → RelaysDue config lanes range gate h0 h4 was is
  relays_due h4 beside was is knows made taken gated totals = record {
    beside = beside;
    list_is = taken ∙ ap (λ (rows : List Row). rows ++ all_of beside) old_list;
    are_lanes = made;
    counted = subst (λ (v : View (Part I O) Made (Unit {0})). CountsUp (list_of v.entries)) first.1 (known_counted (view h1) knows);
    gated = λ before. gated (subst (λ (rows : List Row). AreGated gate (list_of rows)) (sym old_list) before);
    totals = λ before. totals (subst (λ (rows : List Row). HasTotals (list_of rows) was) (sym old_list) before);
  }

-- The whole load: first is the main hand after the control turns, joined that after the threads, last that after the stop.
module _ {M I O : Type 0} {g : _} (config : Config) (threads : ℕ) (range : Option (ℕ × ℕ)) (gate : ℕ → Type 0) (rounds : List ControlRound) (was is : Totals)
    (turns : Turns M (Part I O) Made (Unit {0})) (first joined last : Hand M (Part I O) Made (Unit {0}) g) (some : 0 < threads)
    (are : AreControlRounds config threads range rounds (entries first)) (history_is : board_of (made_by first) ≡ history_after config rounds)
    (begun : IsBetween config turns first) (due : RelaysDue config threads range gate first joined was is) (same : board_of (made_by joined) ≡ board_of (made_by first))
    (before : IsBetween config turns joined) (after : IsBetween config turns last) (makes : MakesTurn config joined last (stop_entry (board_of (made_by joined))))
    (counts : HasTotals (made_by first) was)
    (closed : (l : List Entry) × (map as_logged l ≡ made_by last) × Legal config l × Safe config l × OutsAreTold (entries last) l) (timed : AreTimed (entries last)) where
  abbrev rows : List Row
  rows = all_of due.beside

  abbrev stop : List Row
  stop = makes.rows ++ makes.row ∷ []

  pub lane_rows : AreOfLane rows
  lane_rows = lanes_of_lane config threads range due.beside due.are_lanes

  history : board_of (made_by joined) ≡ history_after config rounds
  history = same ∙ history_is

  rows_are : entries last ≡ (entries first ++ rows) ++ stop
  rows_are = makes.list_is ∙ append_assoc (entries joined) makes.rows (makes.row ∷ []) ∙ ap (λ (xs : List Row). xs ++ stop) due.list_is

  stopped : IsBoardTurn config (entries first ++ rows) (stop_entry (history_after config rounds)) stop
  stopped =
      subst (λ (h : List BoardEntry). IsBoardTurn config (entries first ++ rows) (stop_entry h) stop) history
      (subst (λ (xs : List Row). IsBoardTurn config xs (stop_entry (board_of (made_by joined))) stop) due.list_is
      (record { nested = makes.rows; last = makes.row; rows_are = refl; turn = makes.turn; is = makes.is }))

  pub whole_load : (whole : IsLoadWhole config threads range rounds is) × (whole.rows ≡ entries last) × OutsAreTold whole.rows whole.list
  whole_load = (
    record {
      in_rounds = entries first;
      beside = due.beside;
      stop = stop;
      are_rounds = are;
      are_lanes = due.are_lanes;
      is_stop = stopped;
      rows = entries last;
      rows_are = rows_are;
      timed = timed;
      list = closed.0;
      told_is = closed.1;
      legal = closed.2;
      safe = closed.3;
      board_is =
          sym (told_board closed.0) ∙ ap board_of closed.1
          ∙ makes_history config turns joined last (stop_entry (board_of (made_by joined))) before after makes
          ∙ ap (λ (h : List BoardEntry). stop_entry h ∷ h) history;
      totals_are =
          told_totals closed.0 is
          (subst (λ (l : List Entry). HasTotals l is) (sym closed.1)
          (turn_totals config joined last (stop_entry (board_of (made_by joined))) is before.orderly makes (due.totals counts)));
      ordered =
          relays_between config threads range some rounds (history_after config rounds) (entries first) rows stop are begun.orderly due.counted lane_rows
          (subst (λ (xs : List Row). Numbered (list_of xs)) due.list_is before.numbered) stopped closed.0
          (closed.1 ∙ ap (λ (xs : List Row). list_of xs) rows_are);
    },
    refl,
    closed.4,
  )

  pub load_gated : AreGated gate (made_by first) → AreGated gate (made_by last)
  load_gated gated = makes_gated gate config joined last (stop_entry (board_of (made_by joined))) before.orderly makes (due.gated gated)

-- With what the devices told of it.
pub ran_load : (limit : ℕ) (config : Config) (threads : ℕ) (range : Option (ℕ × ℕ)) (gate : ℕ → Type 0) (l0 l1 : Option (List LinkCall)) (t0 t1 : Option (List ℕ)) (o0 o1 o2 : Option (List PortCall)) (k0 k1 : Option (List KeyCall))
    (p0 p1 p2 q0 q1 : ℕ) (ended : Status) (counts : Counts) (totals : Totals) (rows beside joined all : List Row) → p1 ≤ p2 → Gained o1 o2 asked.NoneOpened
    → (turns : DidTurns limit config threads range
    (record { link = l0; link_now = l1; timer = t0; timer_now = t1; opened = o0; opened_now = o1; drew = k0; drew_now = k1; port_faults = p0; port_faults_now = p1; key_faults = q0; key_faults_now = q1 })
    ended counts rows)
    → (whole : IsLoadWhole config threads range turns.rounds totals) × (whole.rows ≡ all) × OutsAreTold whole.rows whole.list → AreGated gate (list_of all) → PortsFollowRows config o1 o2 joined all
    → AreOfLane beside → joined ≡ rows ++ beside → (InOrder (list_of all) → InsAreTold config all) → LogsHeld config o0 [] → LogsHeld config o2 []
    → DidLoadTurns limit config threads range gate
    (record { link = l0; link_now = l1; timer = t0; timer_now = t1; opened = o0; opened_now = o2; drew = k0; drew_now = k1; port_faults = p0; port_faults_now = p2; key_faults = q0; key_faults_now = q1 })
    ended counts totals
ran_load limit config threads range gate l0 l1 t0 t1 o0 o1 o2 k0 k1 p0 p1 p2 q0 q1 ended counts totals rows beside joined all later closes turns whole gated stop lanes is ins shut shut_again =
    let load = whole.0 in
    let run = ran limit config threads range gate l0 l1 t0 t1 o0 o1 o2 k0 k1 p0 p1 p2 q0 q1 ended counts rows later closes turns load.rows load.list load.told_is load.legal load.safe load.board_is whole.2
    (subst (λ (xs : List Row). InOrder (list_of xs) → InsAreTold config xs) (sym whole.1) ins (load_in_order config threads range turns.rounds totals load))
    (subst (λ (xs : List Row). AreGated gate (list_of xs)) (sym whole.1) gated)
    (subst (λ (xs : List Row). Gained o0 o2 (AreTied config xs)) (sym whole.1) (whole_tied config o0 o1 o2 rows beside joined all turns.tied lanes is stop))
    shut shut_again in
    record {
      rounds = turns.rounds;
      last = turns.last;
      whole = load;
      gated = run.gated;
      counts_are = turns.counts_are;
      has_ended = turns.has_ended;
      last_is = turns.last_is;
      log = run.log;
      ends = run.ends;
      all_sent = run.all_sent;
      opens_same = run.opens_same;
    }

-- the same with what stayed the same by another name
pub ended_so : (limit : ℕ) (config : Config) (threads : ℕ) (range : Option (ℕ × ℕ)) (gate : ℕ → Type 0) (outside : Outside) (ended same : Status) (counts alike : Counts) (totals : Totals)
    → same ≡ ended → alike ≡ counts → DidLoadTurns limit config threads range gate outside ended counts totals → DidLoadTurns limit config threads range gate outside same alike totals
ended_so limit config threads range gate outside ended same counts alike totals p q did =
    subst (λ (s : Status). DidLoadTurns limit config threads range gate outside s alike totals) (sym p)
    (subst (λ (k : Counts). DidLoadTurns limit config threads range gate outside ended k totals) (sym q) did)

-- The end of a run: the stop of all calls, and the close of the table.
use Rattle.std.proofs.Common.{◌≡◌, refl, sym, subst, ℕ, ◌≤◌, ◌<◌, ◌^◌, arith, List, [], ◌∷◌, Option, Some, None, All, map}
use Rattle.relay_outside.specs.declared.ports.PortCall.{PortCall}
use Rattle.relay_outside.specs.declared.keys.KeyCall.{KeyCall}
use Rattle.relay_outside.specs.declared.link.LinkCall.{LinkCall}
use Rattle.relay_outside.specs.declared.settings.Config.{Config}
use Rattle.relay_outside.specs.DeviceLogs.{Gained}
use Rattle.relay_outside.proofs.Telling.{gained_less}
use Rattle.turn_table.specs.declared.hands.Turns.{Turns}
use Rattle.turn_table.specs.declared.hands.Hand.{Hand}
use Rattle.call_board.specs.Acts.{BoardEntry}
use Rattle.relay_core.specs.declared.part.Part.{Part}
use Rattle.relay_core.specs.Entries.{Entry}
use Rattle.relay_core.specs.Legal.{Legal}
use Rattle.relay_core.specs.Records.{Made, list_of, as_logged}
use Rattle.relay_core.specs.Safe.{Safe}
use Rattle.relay_core.specs.EndLogs.{InsAreTold, OutsAreTold}
use Rattle.relay_core.specs.Turns.{made_by}
use Rattle.media_ports.specs.ReturnedEnds.{IsOfPair}
use Rattle.media_ports.specs.OpenPorts.{LogsHeld}
use Rattle.media_ports.specs.Openings as asked
use Rattle.media_lane.specs.declared.answers.Totals.{Totals}
use Rattle.media_lane.specs.Visits.{Row, AreTotals}
use Rattle.media_lane.specs.Gates.{AreGated}
use Rattle.board_turns.specs.Between.{board_of, IsBetween}
use Rattle.board_turns.specs.Stops.{stop_entry}
use Rattle.board_turns.specs.Ties.{AreTied}
use Rattle.board_turns.proofs.Firsts.{first_board, none_open}
use Rattle.media_lane.specs.Totals.{HasTotals}
use Rattle.ng_server.specs.Servers.{OpensJust}
use Rattle.relay_runs.specs.declared.status.Status.{Status}
use Rattle.relay_runs.specs.declared.totals.Counts.{Counts}
use Rattle.command_line.specs.declared.settings.Settings.{Settings}
use Rattle.relay_runs.specs.Ends.{HasAllSends, AreEnds, OpensSame}
use Rattle.relay_runs.specs.Rounds.{ControlRound, history_after}
use Rattle.relay_runs.specs.Run.{OpensNone, LogsNone}
use Rattle.relay_runs.specs.ServeRuns.{Outside, HaveCauses, AreLogged}
use Rattle.relay_runs.specs.declared.control_loop.Looped.{Looped}
use Rattle.relay_runs.specs.RunStates.{DidTurns, MayRun, CanWork, DidWork, MadeTurns}
use Rattle.relay_runs.proofs.Departures.{is_sent}
use Rattle.relay_runs.proofs.Ends.{whole_ends, opens_same}
use Rattle.relay_runs.proofs.Gates.{told_gated}
use Rattle.relay_runs.proofs.Loops.{opened_alone}

-- the same hand, by another name of its table and its configuration
pub moved_between : {M I O T : Type 0} {g : _} (config same : Config) (turns like : Turns M (Part I O) Made T) (hand : Hand M (Part I O) Made T g) → config ≡ same → turns ≡ like
    → IsBetween config turns hand → IsBetween same like hand
moved_between {M} {I} {O} {T} {g} config same turns like hand p q b =
    subst (λ (t : Turns M (Part I O) Made T). IsBetween same t hand) q (subst (λ (c : Config). IsBetween c turns hand) p b)

-- before the first turn
pub may_begin : {M I O : Type 0} {g : _} (settings : Settings) (config : Config) (turns : Turns M (Part I O) Made (Unit {0})) (opened : Option (List PortCall))
    (hand : Hand M (Part I O) Made (Unit {0}) g) → settings.turns < 2 ^ 63 → config ≡ settings.config → IsBetween config turns hand → made_by hand ≡ [] → LogsHeld config opened []
    → CanWork settings config turns opened (Some hand)
may_begin {M} {I} {O} {g} settings config turns opened hand limit config_is between nothing shut = record {
  limit = limit;
  config_is = config_is;
  between = between;
  nothing = nothing;
  opens = subst (λ (h : List BoardEntry). OpensJust config h opened) (sym (first_board (made_by hand) nothing)) shut;
}

-- the hand that is there may take turns
pub may_turn : {M I O : Type 0} {g : _} (settings : Settings) (config : Config) (turns : Turns M (Part I O) Made (Unit {0})) (opened : Option (List PortCall))
    (before : Option (Hand M (Part I O) Made (Unit {0}) g)) (hand : Hand M (Part I O) Made (Unit {0}) g) → before ≡ Some hand → CanWork settings config turns opened before
    → MayRun settings config turns opened hand
may_turn {M} {I} {O} {g} settings config turns opened before hand is can =
    subst (λ (h : Option (Hand M (Part I O) Made (Unit {0}) g)). CanWork settings config turns opened h) is can

-- the turns that it made
pub did_work : {M I O : Type 0} {g : _} (settings : Settings) (config : Config) (turns : Turns M (Part I O) Made (Unit {0})) (range : Option (ℕ × ℕ)) (gate : ℕ → Type 0) (outside : Outside) (faults faults_now : ℕ)
    (before : Option (Hand M (Part I O) Made (Unit {0}) g)) (old new : Hand M (Part I O) Made (Unit {0}) g) (looped : Looped) → before ≡ Some old
    → MadeTurns settings config turns range gate outside faults faults_now old new looped → DidWork settings config turns range gate outside faults faults_now before (Some new) looped
did_work {M} {I} {O} {g} settings config turns range gate outside faults faults_now before old new looped is made =
    subst (λ (h : Option (Hand M (Part I O) Made (Unit {0}) g)). DidWork settings config turns range gate outside faults faults_now h (Some new) looped) (sym is) made

-- the turns of the hand that is there after them
pub made_turns : {M I O : Type 0} {g : _} (settings : Settings) (config : Config) (turns : Turns M (Part I O) Made (Unit {0})) (range : Option (ℕ × ℕ)) (gate : ℕ → Type 0) (outside : Outside) (faults faults_now : ℕ)
    (old new : Hand M (Part I O) Made (Unit {0}) g) (after : Option (Hand M (Part I O) Made (Unit {0}) g)) (looped : Looped) → after ≡ Some new
    → DidWork settings config turns range gate outside faults faults_now (Some old) after looped → MadeTurns settings config turns range gate outside faults faults_now old new looped
made_turns {M} {I} {O} {g} settings config turns range gate outside faults faults_now old new after looped is did =
    subst (λ (h : Option (Hand M (Part I O) Made (Unit {0}) g)). DidWork settings config turns range gate outside faults faults_now (Some old) h looped) is did

-- what the turns caused, when more faults of ports were counted after them
stopped_causes : (history : List BoardEntry) (then later : Outside) → then.port_faults ≡ later.port_faults → then.key_faults ≡ later.key_faults
    → then.port_faults_now ≤ later.port_faults_now → then.key_faults_now ≡ later.key_faults_now → HaveCauses then history → HaveCauses later history
stopped_causes history then later p q port key causes entry given i is =
    let caused = causes entry given i is in
    record {
      port_fault = λ f. (let rose = caused.port_fault f in omega (arith, rose, p, port));
      key_fault = λ f. (let rose = caused.key_fault f in omega (arith, rose, q, key));
    }

-- what is known of a run, besides its steps, by the list of them all
pub record HasRun (config : Config) (gate : ℕ → Type 0) (rounds : List ControlRound) (last : List ℕ) (ended : Status) (outside : Outside) (list : List Entry) : Type 0 where
  pub gated : AreGated gate list
  pub log : AreLogged config [] rounds last ended outside
  pub ends : Gained outside.opened outside.opened_now (AreEnds config list)
  pub all_sent : HasAllSends config list
  pub opens_same : OpensSame outside.opened outside.opened_now

-- by its control turns, and the stop after them
module _ (limit : ℕ) (config : Config) (threads : ℕ) (range : Option (ℕ × ℕ)) (gate : ℕ → Type 0) (l0 l1 : Option (List LinkCall)) (t0 t1 : Option (List ℕ)) (o0 o1 o2 : Option (List PortCall)) (k0 k1 : Option (List KeyCall))
    (p0 p1 p2 q0 q1 : ℕ) (ended : Status) (counts : Counts) (first : List Row) (later : p1 ≤ p2) (closes : Gained o1 o2 asked.NoneOpened)
    (turns : DidTurns limit config threads range
    (record { link = l0; link_now = l1; timer = t0; timer_now = t1; opened = o0; opened_now = o1; drew = k0; drew_now = k1; port_faults = p0; port_faults_now = p1; key_faults = q0; key_faults_now = q1 })
    ended counts first) where
  abbrev history : List BoardEntry
  history = history_after config turns.rounds

  pub ran : (rows : List Row) (list : List Entry) → map as_logged list ≡ list_of rows → Legal config list → Safe config list → board_of list ≡ stop_entry history ∷ history
      → OutsAreTold rows list → InsAreTold config rows → AreGated gate (list_of rows) → Gained o0 o2 (AreTied config rows) → LogsHeld config o0 [] → LogsHeld config o2 []
      → HasRun config gate turns.rounds turns.last ended
      (record { link = l0; link_now = l1; timer = t0; timer_now = t1; opened = o0; opened_now = o2; drew = k0; drew_now = k1; port_faults = p0; port_faults_now = p2; key_faults = q0; key_faults_now = q1 })
      list
  ran rows list told_is legal safe board_is outs ins gated tied shut shut_again = record {
    gated = told_gated gate list (subst (λ (l : List Entry). AreGated gate l) (sym told_is) gated);
    log = record {
      link = turns.log.link;
      timer = turns.log.timer;
      ports = opened_alone config history o0 o1 o2 turns.log.ports closes;
      keys = turns.log.keys;
      causes = stopped_causes history _ _ refl refl later refl turns.log.causes;
    };
    ends = whole_ends config rows list told_is history legal board_is ins outs o0 o2 tied;
    all_sent = λ e x w i is sending. is_sent config list history legal safe board_is e x w i is sending;
    opens_same = opens_same config o0 o2 (gained_less o0 o2 (AreTied config rows) (λ calls. All (IsOfPair config) calls) (λ calls these. these.of_pairs) tied) shut shut_again;
  }

-- of a port maker that was not called no port is open
pub opens_none : (settings : Option Settings) → OpensNone settings []
opens_none None = tt
opens_none (Some settings) = none_open settings.config

pub never_called : (settings : Option Settings) (as_logged : Option (List PortCall)) → as_logged ≡ Some [] → LogsNone settings as_logged
never_called settings as_logged nothing = subst (λ (t : Option (List PortCall)). LogsNone settings t) (sym nothing) (opens_none settings)

-- a list without an entry has no totals
pub first_totals : (l : List Entry) (t : Totals) → l ≡ [] → AreTotals [] t → HasTotals l t
first_totals l t none are =
    subst (λ (k : List Entry). HasTotals k t) (sym none) (record { taken = are.taken; sent = are.sent; refused = are.refused; lost = are.lost })

-- just the ports are open that a history says, and so those that the same one says
pub opens_again : (config : Config) (h k : List BoardEntry) (as_logged : Option (List PortCall)) → k ≡ h → OpensJust config h as_logged → OpensJust config k as_logged
opens_again config h k as_logged same opens = subst (λ (l : List BoardEntry). OpensJust config l as_logged) (sym same) opens

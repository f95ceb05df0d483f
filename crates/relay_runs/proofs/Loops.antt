-- The control turns of a run, one after another, as the rows grow and the lists of the devices gain their calls.
use Rattle.std.specs.Prelude.{is_some, unwrap_or}
use Rattle.std.specs.Option.{option_map}
use Rattle.std.proofs.Common.{◌≡◌, ◌∙◌, ap, refl, subst, sym, ℕ, ◌<◌, ◌≤◌, List, [], ◌∷◌, ◌++◌, append-nil, Option, Some, None, true, false, cond, arith}
use Rattle.relay_outside.specs.DeviceLogs.{Gains, Gained}
use Rattle.relay_outside.specs.declared.keys.KeyCall.{KeyCall}
use Rattle.relay_outside.specs.declared.link.LinkCall.{LinkCall}
use Rattle.relay_outside.specs.declared.ports.PortCall.{PortCall}
use Rattle.relay_outside.specs.declared.settings.Config.{Config}
use Rattle.relay_outside.proofs.Telling.{gained_none, gained_one, gained_both, gained_less}
use Rattle.histories.specs.Words.{here, there}
use Rattle.media_ports.specs.Addresses.{pair_addresses}
use Rattle.media_ports.specs.Openings.{NoneOpened, OpensAt}
use Rattle.media_ports.specs.Calls as port_calls
use Rattle.media_ports.proofs.Asked.{opens_with_both, opens_with_closed, opens_these_both, opens_none_at}
use Rattle.turn_table.specs.declared.hands.Turns.{Turns}
use Rattle.turn_table.specs.declared.hands.Hand.{Hand}
use Rattle.turn_table.specs.Hands.{entries}
use Rattle.call_board.specs.Acts.{Call, Given, BoardEntry}
use Rattle.relay_core.specs.declared.part.Part.{Part}
use Rattle.relay_core.specs.Records.{Made, list_of}
use Rattle.relay_core.specs.Turns.{made_by}
use Rattle.media_lane.specs.Visits.{Row}
use Rattle.board_turns.specs.Between.{board_of, IsBetween}
use Rattle.board_turns.specs.Ties.{AreTied, PortsFollowRows}
use Rattle.board_turns.specs.Ticks.{tick_entry}
use Rattle.board_turns.specs.Controls.{RequestRecord, entry_pairs, moment_at}
use Rattle.board_turns.specs.DeviceAnswers.{IsGivenBy}
use Rattle.ng_server.specs.declared.control_turn.ControlTurn.{ControlTurn}
use Rattle.ng_server.specs.ControlTurns.{FollowsTake, GaveFor, DidTurn, Turned}
use Rattle.relay_runs.specs.declared.status.Status.{Status}
use Rattle.relay_runs.specs.declared.status.Status.TheVariants as status
use Rattle.relay_runs.specs.declared.totals.Counts.{Counts}
use Rattle.relay_runs.specs.Rounds.{ControlRound, status_after, entry_due, with_entry, history_after, moments, counted_from, is_second_later, AreControlRounds}
use Rattle.relay_runs.specs.ServeRuns.{Outside, Gave, IsCaused, HaveCauses, given_in, opening_results, opening_calls_of, OpensBy, draws_made, run_counts, turn_counts, sum_of_counts, counts_in, Counted, AreExchanges, AreCalls, last_take, HasEnded}
use Rattle.relay_runs.specs.RunStates.{Running, AddsSweep, TicksWhenDue, DidTurns}
use Rattle.relay_runs.proofs.Counts.{calls_counted, sum_none, not_answered, ends_uncounted, ends_below, ends_with, one_take}
use Rattle.relay_runs.proofs.Rounds.{AddsTurn, turn_rows, turn_heard, tick_rows, one_more, counted_next, no_rows, no_rounds, board_after, board_ticked}
use Rattle.relay_runs.proofs.Tied.{none_tied, more_tied, sweep_tied}

-- what a device gave, and then more
gave_more : {C : Type 0} (first second third : Option (List C)) (some more : List C) → Gave first second some → Gave second third more → Gave first third (some ++ more)
gave_more {C} first second third some more gave again =
    gained_both first second third (λ xs. xs ≡ some) (λ ys. ys ≡ more) (λ zs. zs ≡ some ++ more)
    (λ xs ys x y. ap (λ (zs : List C). zs ++ ys) x ∙ ap (λ (zs : List C). some ++ zs) y) gave again

-- one moment
gave_one : (before after : Option (List ℕ)) (now : ℕ) → Gains before after now → Gave before after (now ∷ [])
gave_one before after now gains = gained_one before after now (λ ys. ys ≡ now ∷ []) gains refl

-- the openings of a turn
opened_for : (config : Config) (history : List BoardEntry) (now : ℕ) (made : Option RequestRecord) (p p2 q q2 : ℕ) (o0 o1 o2 : Option (List PortCall)) (k1 k2 : Option (List KeyCall))
    → Gained o0 o1 (OpensBy config history) → GaveFor config history now made p p2 q q2 o1 o2 k1 k2 → Gained o0 o2 (OpensBy config (with_entry history (entry_due config history now made)))
opened_for config history now None p p2 q q2 o0 o1 o2 k1 k2 opened gave =
    subst (λ (o : Option (List PortCall)). Gained o0 o (OpensBy config history)) (sym gave.0) opened
opened_for config history now (Some x) p p2 q q2 o0 o1 o2 k1 k2 opened gave =
    let pairs = entry_pairs config history (moment_at history now) x in
    gained_both o0 o1 o2 (OpensBy config history) (OpensAt config pairs x.given.opens) (OpensBy config (with_entry history (entry_due config history now (Some x))))
    (λ xs ys these those. record {
      answered = opens_with_both (opening_results history) x.given.opens xs ys these.answered those.answered;
      in_order = opens_these_both (opening_calls_of config history) (port_calls.openings (pair_addresses config pairs) x.given.opens) xs ys these.in_order those.in_order;
    }) opened gave.opens

-- calls that open none after those of a history
pub opened_alone : (config : Config) (history : List BoardEntry) (o0 o1 o2 : Option (List PortCall)) → Gained o0 o1 (OpensBy config history) → Gained o1 o2 NoneOpened
    → Gained o0 o2 (OpensBy config history)
opened_alone config history o0 o1 o2 opened closes =
    gained_both o0 o1 o2 (OpensBy config history) NoneOpened (OpensBy config history)
    (λ xs ys these none. record {
      answered = opens_with_closed (opening_results history) xs ys these.answered none;
      in_order =
          opens_these_both (opening_calls_of config history) [] xs ys these.in_order (opens_none_at config [] ys none).in_order ∙ append-nil (opening_calls_of config history);
    }) opened closes

-- the draws of a turn
drew_for : (config : Config) (history : List BoardEntry) (now : ℕ) (made : Option RequestRecord) (p p2 q q2 : ℕ) (o1 o2 : Option (List PortCall)) (k0 k1 k2 : Option (List KeyCall))
    → Gave k0 k1 (draws_made history) → GaveFor config history now made p p2 q q2 o1 o2 k1 k2 → Gave k0 k2 (draws_made (with_entry history (entry_due config history now made)))
drew_for config history now None p p2 q q2 o1 o2 k0 k1 k2 drew gave =
    subst (λ (k : Option (List KeyCall)). Gave k0 k (draws_made history)) (sym gave.1) drew
drew_for config history now (Some x) p p2 q q2 o1 o2 k0 k1 k2 drew gave = gave_more k0 k1 k2 (draws_made history) _ drew gave.draws

-- what was caused then is caused later
caused_later : (then later : Outside) (given : Given) → then.port_faults ≡ later.port_faults → then.key_faults ≡ later.key_faults
    → then.port_faults_now ≤ later.port_faults_now → then.key_faults_now ≤ later.key_faults_now → IsCaused then given → IsCaused later given
caused_later then later given p q port key caused = record {
  port_fault = λ f. (let rose = caused.port_fault f in omega (arith, rose, port, p));
  key_fault = λ f. (let rose = caused.key_fault f in omega (arith, rose, key, q));
}

module _ (config : Config) (history : List BoardEntry) (now : ℕ) (then later : Outside) (causes : HaveCauses then history)
    (p : then.port_faults ≡ later.port_faults) (q : then.key_faults ≡ later.key_faults) (p_low : then.port_faults ≤ then.port_faults_now) (q_low : then.key_faults ≤ then.key_faults_now)
    (port : then.port_faults_now ≤ later.port_faults_now) (key : then.key_faults_now ≤ later.key_faults_now) (o1 o2 : Option (List PortCall)) (k1 k2 : Option (List KeyCall)) where
  caused_now : (x : RequestRecord) → IsGivenBy config (entry_pairs config history (moment_at history now) x) x.given then.port_faults_now later.port_faults_now then.key_faults_now later.key_faults_now o1 o2 k1 k2 → IsCaused later x.given
  caused_now x by = record {
    port_fault = λ f. (let rose = by.port_fault f in omega (arith, rose, p, p_low));
    key_fault = λ f. (let rose = by.key_fault f in omega (arith, rose, q, q_low));
  }

  -- the causes of the entries, and of one more
  causes_for : (made : Option RequestRecord) → GaveFor config history now made then.port_faults_now later.port_faults_now then.key_faults_now later.key_faults_now o1 o2 k1 k2
      → HaveCauses later (with_entry history (entry_due config history now made))
  causes_for None gave entry given i is = caused_later then later given p q port key (causes entry given i is)
  causes_for (Some x) gave entry given (here same) is =
      let shown : Some given ≡ Some x.given = sym is ∙ ap (λ (e : BoardEntry). given_in e.event) same in
      let equal : given ≡ x.given = cc in
      subst (λ (y : Given). IsCaused later y) (sym equal) (caused_now x gave)
  causes_for (Some x) gave entry given (there i) is = caused_later then later given p q port key (causes entry given i is)

-- A tick opens no port, draws no key, and has no cause.

abbrev with_ticked : List BoardEntry → ℕ → Option (List Call) → List BoardEntry
with_ticked history now ticked = with_entry history (option_map (tick_entry history now) ticked)

ticked_opens : (config : Config) (history : List BoardEntry) (now : ℕ) (ticked : Option (List Call)) (calls : List PortCall) → OpensBy config history calls
    → OpensBy config (with_ticked history now ticked) calls
ticked_opens config history now None calls opens = opens
ticked_opens config history now (Some ended) calls opens = record {
  answered = opens.answered ∙ sym (append-nil (opening_results history));
  in_order = opens.in_order ∙ sym (append-nil (opening_calls_of config history));
}

ticked_draws : (history : List BoardEntry) (now : ℕ) (ticked : Option (List Call)) → draws_made (with_ticked history now ticked) ≡ draws_made history
ticked_draws history now None = refl
ticked_draws history now (Some calls) = append-nil (draws_made history)

ticked_causes : (history : List BoardEntry) (now : ℕ) (then later : Outside) → HaveCauses then history → then.port_faults ≡ later.port_faults → then.key_faults ≡ later.key_faults
    → then.port_faults_now ≤ later.port_faults_now → then.key_faults_now ≤ later.key_faults_now → (ticked : Option (List Call)) → HaveCauses later (with_ticked history now ticked)
ticked_causes history now then later causes p q port key None entry given i is = caused_later then later given p q port key (causes entry given i is)
ticked_causes history now then later causes p q port key (Some calls) entry given (here same) is =
    absurd (let shown : Some given ≡ None = sym is ∙ ap (λ (e : BoardEntry). given_in e.event) same in cc)
ticked_causes history now then later causes p q port key (Some calls) entry given (there i) is = caused_later then later given p q port key (causes entry given i is)

-- no turn yet
pub begins : (config : Config) (threads : ℕ) (range : Option (ℕ × ℕ)) (rows : List Row) (outside : Outside) → list_of rows ≡ [] → board_of (list_of rows) ≡ [] → outside.link ≡ outside.link_now
    → outside.timer ≡ outside.timer_now → outside.opened ≡ outside.opened_now → outside.drew ≡ outside.drew_now → Running config threads range rows (run_counts 0 0 0) None outside
begins config threads range rows outside none board link timer opened drew = record {
  rounds = [];
  are_rounds = no_rounds config threads range rows none;
  board_is = board;
  counts_are = refl;
  since_is = refl;
  link = subst (λ (l : Option (List LinkCall)). Gained outside.link l (AreExchanges config [])) link (gained_none outside.link (AreExchanges config []) refl);
  timer = subst (λ (t : Option (List ℕ)). Gave outside.timer t []) timer (gained_none outside.timer (λ more. more ≡ []) refl);
  ports =
      subst (λ (o : Option (List PortCall)). Gained outside.opened o (OpensBy config [])) opened
      (gained_none outside.opened (OpensBy config []) (record { answered = refl; in_order = refl }));
  tied = none_tied config outside.opened outside.opened_now rows (no_rows rows none) opened;
  keys = subst (λ (k : Option (List KeyCall)). Gave outside.drew k []) drew (gained_none outside.drew (λ more. more ≡ []) refl);
  causes = λ entry given i. elim i [ ];
}

module _ {M I O : Type 0} {g : _} where
  -- a turn that ends the run makes no entry
  ends_idle : (config : Config) (old new : Hand M (Part I O) Made (Unit {0}) g) (now : ℕ) (answer : ControlTurn) (made : Option RequestRecord) (ended : Status)
      → Some ended ≡ status_after answer → FollowsTake config old new now answer made → (made ≡ None) × (new ≡ old)
  ends_idle config old new now answer None ended ends follows = (refl, follows.1)
  ends_idle config old new now answer (Some x) ended ends follows =
      absurd (let k : true ≡ false = sym follows.0 ∙ not_answered answer ended ends in cc)

  module _ (config : Config) (threads : ℕ) (range : Option (ℕ × ℕ)) (turns : Turns M (Part I O) Made (Unit {0})) (old mid : Hand M (Part I O) Made (Unit {0}) g) (counts next : Counts) (now : ℕ)
      (answer : ControlTurn) (since : Option ℕ)
      (l0 l1 l2 : Option (List LinkCall)) (t0 t1 t2 : Option (List ℕ)) (o0 o1 o2 : Option (List PortCall)) (k0 k1 k2 : Option (List KeyCall)) (p0 p1 p2 q0 q1 q2 : ℕ)
      (next_is : next ≡ sum_of_counts counts (turn_counts answer)) (before : IsBetween config turns old) (after : IsBetween config turns mid)
      (running : Running config threads range (entries old) counts since
      (record { link = l0; link_now = l1; timer = t0; timer_now = t1; opened = o0; opened_now = o1; drew = k0; drew_now = k1; port_faults = p0; port_faults_now = p1; key_faults = q0; key_faults_now = q1 }))
      (asked : Gains t1 t2 now) (turned : Turned config old mid now answer p1 p2 q1 q2 o1 o2 k1 k2 l1 l2)
      (ties : PortsFollowRows config o1 o2 (entries old) (entries mid))
      (p_low : p0 ≤ p1) (q_low : q0 ≤ q1) (p_later : p1 ≤ p2) (q_later : q1 ≤ q2) where
    abbrev h : List BoardEntry
    h = history_after config running.rounds

    abbrev made : Option RequestRecord
    made = turned.made

    -- the history after the turn
    abbrev h2 : List BoardEntry
    h2 = with_entry h (entry_due config h now made)

    abbrev out : Outside
    out = record { link = l0; link_now = l2; timer = t0; timer_now = t2; opened = o0; opened_now = o2; drew = k0; drew_now = k2; port_faults = p0; port_faults_now = p2; key_faults = q0; key_faults_now = q2 }

    board_is : board_of (made_by mid) ≡ h2
    board_is =
        board_after config turns old mid now answer made before after turned.follows
        ∙ ap (λ (k : List BoardEntry). with_entry k (entry_due config k now made)) running.board_is

    turn : AddsTurn config (entry_due config h now made) (entries old) (entries mid)
    turn =
        subst (λ (k : List BoardEntry). AddsTurn config (entry_due config k now made) (entries old) (entries mid)) running.board_is
        (turn_rows config old mid now answer made turned.follows)

    did : Gained l1 l2 (DidTurn config h now answer made)
    did = subst (λ (k : List BoardEntry). Gained l1 l2 (DidTurn config k now answer made)) running.board_is turned.calls

    timer : Gave t0 t2 (moments running.rounds ++ now ∷ [])
    timer = gave_more t0 t1 t2 (moments running.rounds) (now ∷ []) running.timer (gave_one t1 t2 now asked)

    given : GaveFor config h now made p1 p2 q1 q2 o1 o2 k1 k2
    given = subst (λ (k : List BoardEntry). GaveFor config k now made p1 p2 q1 q2 o1 o2 k1 k2) running.board_is turned.given

    ports : Gained o0 o2 (OpensBy config h2)
    ports = opened_for config h now made p1 p2 q1 q2 o0 o1 o2 k1 k2 running.ports given

    tied : Gained o0 o2 (AreTied config (entries mid))
    tied = more_tied config o0 o1 o2 (entries old) (entries mid) running.tied ties

    keys : Gave k0 k2 (draws_made h2)
    keys = drew_for config h now made p1 p2 q1 q2 o1 o2 k0 k1 k2 running.keys given

    causes : HaveCauses out h2
    causes =
        causes_for config h now
        (record { link = l0; link_now = l1; timer = t0; timer_now = t1; opened = o0; opened_now = o1; drew = k0; drew_now = k1; port_faults = p0; port_faults_now = p1; key_faults = q0; key_faults_now = q1 })
        out running.causes refl refl p_low q_low p_later q_later o1 o2 k1 k2 made given

    -- one more round: the turn, after which the run goes on, a sweep, where no thread relays media, and a tick, where one is due
    module _ (next_since : ℕ) (swept new : Hand M (Part I O) Made (Unit {0}) g) (o3 : Option (List PortCall)) (p3 : ℕ) (goes : None ≡ status_after answer)
        (same : board_of (made_by swept) ≡ board_of (made_by mid)) (sweep : AddsSweep config threads range (entries mid) (entries swept))
        (swept_between : IsBetween config turns swept) (new_between : IsBetween config turns new) (ticks : TicksWhenDue config swept new since now)
        (since_now : next_since ≡ cond (is_second_later since now) now (unwrap_or since now)) (closes : Gained o2 o3 NoneOpened)
        (tick_ties : PortsFollowRows config o2 o3 (entries swept) (entries new)) (p_tick : p2 ≤ p3) where
      abbrev r : ControlRound
      r = record { handed = now; answer = answer; heard = made; ticked = ticks.ticked }

      abbrev out3 : Outside
      out3 = record { link = l0; link_now = l2; timer = t0; timer_now = t2; opened = o0; opened_now = o3; drew = k0; drew_now = k2; port_faults = p0; port_faults_now = p3; key_faults = q0; key_faults_now = q2 }

      swept_board : board_of (made_by swept) ≡ h2
      swept_board = same ∙ board_is

      due : is_some ticks.ticked ≡ is_second_later (counted_from running.rounds) now
      due = ticks.when_due ∙ ap (λ (s : Option ℕ). is_second_later s now) running.since_is

      tick : AddsTurn config (option_map (tick_entry h2 now) ticks.ticked) (entries swept) (entries new)
      tick =
          subst (λ (k : List BoardEntry). AddsTurn config (option_map (tick_entry k now) ticks.ticked) (entries swept) (entries new)) swept_board
          (tick_rows config swept new now ticks.ticked ticks.did)

      pub turn_goes : Running config threads range (entries new) next (Some next_since) out3
      turn_goes = record {
        rounds = r ∷ running.rounds;
        are_rounds =
            one_more config threads range running.rounds r (entries old) (entries mid) (entries swept) (entries new) (sym goes)
            (turn_heard config old mid now answer made turned.follows) due running.are_rounds turn sweep tick;
        board_is =
            board_ticked config turns swept new now ticks.ticked swept_between new_between ticks.did
            ∙ ap (λ (k : List BoardEntry). with_ticked k now ticks.ticked) swept_board;
        counts_are = next_is ∙ ap (λ (n : Counts). sum_of_counts n (turn_counts answer)) running.counts_are;
        since_is =
            ap (λ (m : ℕ). Some m) since_now
            ∙ ap (λ (s : Option ℕ). Some (cond (is_second_later s now) now (unwrap_or s now))) running.since_is
            ∙ sym (counted_next r running.rounds (is_second_later (counted_from running.rounds) now) due);
        link =
            gained_both l0 l1 l2 (AreExchanges config running.rounds) (DidTurn config h now answer made) (AreExchanges config (r ∷ running.rounds))
            (λ xs ys x y. (xs, ys, refl, x, y)) running.link did;
        timer = timer;
        ports =
            gained_less o0 o3 (OpensBy config h2) (OpensBy config (with_ticked h2 now ticks.ticked)) (ticked_opens config h2 now ticks.ticked)
            (opened_alone config h2 o0 o2 o3 ports closes);
        tied =
            more_tied config o0 o2 o3 (entries swept) (entries new) (sweep_tied config threads range o0 o2 (entries mid) (entries swept) sweep tied) tick_ties;
        keys = subst (λ (drawn : List KeyCall). Gave k0 k2 drawn) (sym (ticked_draws h2 now ticks.ticked)) keys;
        causes = ticked_causes h2 now out out3 causes refl refl p_tick (omega arith) ticks.ticked;
      }

    -- the turn after which the run ends
    module _ (limit : ℕ) (ended : Status) (ends : Some ended ≡ status_after answer) (below : counts.turns < limit) where
      idle : (made ≡ None) × (mid ≡ old)
      idle = ends_idle config old mid now answer made ended ends turned.follows

      counts_stay : next ≡ counts
      counts_stay = next_is ∙ ap (λ (n : Counts). sum_of_counts counts n) (ends_uncounted answer ended ends) ∙ sum_none counts

      -- its calls are those of a take
      calls : (xs ys : List LinkCall) → AreExchanges config running.rounds xs → DidTurn config h now answer made ys → AreCalls config [] running.rounds ended (xs ++ ys)
      calls xs ys x y =
          let take : ys ≡ last_take ended = ends_with config h now answer ended ys ends (subst (λ (m : Option RequestRecord). DidTurn config h now answer m ys) idle.0 y) in
          record {
            more = xs;
            exchanges = x;
            calls_are = ap (λ (zs : List LinkCall). xs ++ zs) take;
            counted = subst (λ (zs : List LinkCall). Counted (counts_in running.rounds) (xs ++ zs)) (sym take) (calls_counted config running.rounds ended xs x);
          }

      pub turn_ends : DidTurns limit config threads range out ended next (entries mid)
      turn_ends = record {
        rounds = running.rounds;
        last = now ∷ [];
        are_rounds = subst (λ (k : Hand M (Part I O) Made (Unit {0}) g). AreControlRounds config threads range running.rounds (entries k)) (sym idle.1) running.are_rounds;
        board_is = ap (λ (k : Hand M (Part I O) Made (Unit {0}) g). board_of (made_by k)) idle.1 ∙ running.board_is;
        counts_are = counts_stay ∙ running.counts_are;
        has_ended = subst (λ (n : Counts). HasEnded ended limit n.turns) (sym counts_stay) (ends_below limit counts.turns answer ended ends below);
        last_is = one_take answer ended ends;
        log = record {
          link = gained_both l0 l1 l2 (AreExchanges config running.rounds) (DidTurn config h now answer made) (AreCalls config [] running.rounds ended) calls running.link did;
          timer = timer;
          ports = subst (λ (m : Option RequestRecord). Gained o0 o2 (OpensBy config (with_entry h (entry_due config h now m)))) idle.0 ports;
          keys = subst (λ (m : Option RequestRecord). Gave k0 k2 (draws_made (with_entry h (entry_due config h now m)))) idle.0 keys;
          causes = subst (λ (m : Option RequestRecord). HaveCauses out (with_entry h (entry_due config h now m))) idle.0 causes;
        };
        tied = tied;
      }

-- all turns were made
pub turns_spent : (config : Config) (threads : ℕ) (range : Option (ℕ × ℕ)) (rows : List Row) (counts : Counts) (since : Option ℕ) (outside : Outside) (limit : ℕ) → counts.turns ≡ limit
    → Running config threads range rows counts since outside → DidTurns limit config threads range outside status.TurnsSpent counts rows
turns_spent config threads range rows counts since outside limit spent running = record {
  rounds = running.rounds;
  last = [];
  are_rounds = running.are_rounds;
  board_is = running.board_is;
  counts_are = running.counts_are;
  has_ended = spent;
  last_is = refl;
  log = record {
    link =
        gained_less outside.link outside.link_now (AreExchanges config running.rounds) (AreCalls config [] running.rounds status.TurnsSpent)
        (λ xs x. record {
          more = xs;
          exchanges = x;
          calls_are = sym (append-nil xs);
          counted = subst (λ (zs : List LinkCall). Counted (counts_in running.rounds) zs) (append-nil xs) (calls_counted config running.rounds status.TurnsSpent xs x);
        })
        running.link;
    timer = subst (λ (ms : List ℕ). Gave outside.timer outside.timer_now ms) (sym (append-nil (moments running.rounds))) running.timer;
    ports = running.ports;
    keys = running.keys;
    causes = running.causes;
  };
  tied = running.tied;
}

-- The datagrams of a run are answered, where no count of faults of ports and keys rose.
use Rattle.std.proofs.Common.{◌≡◌, sym, subst, refl, List, [], ◌∷◌, ◌++◌, Option, Some, None}
use Rattle.histories.specs.Words.{In, here, there}
use Rattle.relay_outside.specs.DeviceLogs.{Rose}
use Rattle.relay_outside.specs.declared.settings.Config.{Config}
use Rattle.call_board.specs.Acts.{BoardEntry}
use Rattle.call_board.specs.KeptReplies.{kept_reply}
use Rattle.board_turns.specs.Controls.{RequestRecord, entry_at}
use Rattle.board_laws.specs.Answers.{IsAnswered}
use Rattle.board_laws.proofs.Ends.{control_answered}
use Rattle.relay_runs.specs.Rounds.{ControlRound, with_entry, with_request, tick_of, entry_due, history_after}
use Rattle.relay_runs.specs.ServeRuns.{Outside, HaveCauses, IsCaused}
use Rattle.run_laws.specs.Answers.{moment_in, turn_in}

-- a history that goes on has the entries that it had

in_entry : (h : List BoardEntry) (more : Option BoardEntry) (e : BoardEntry) → In e h → In e (with_entry h more)
in_entry h None e i = i
in_entry h (Some x) e i = there i

in_more : (config : Config) (later rounds : List ControlRound) (e : BoardEntry) → In e (history_after config rounds) → In e (history_after config (later ++ rounds))
in_more config [] rounds e i = i
in_more config (r ∷ later) rounds e i =
    let h : List BoardEntry = history_after config (later ++ rounds) in
    in_entry (with_request config h r) (tick_of (with_request config h r) r) e (in_entry h (entry_due config h r.handed r.heard) e (in_more config later rounds e i))

-- the entry of a datagram that a round heard
in_heard : (config : Config) (earlier : List ControlRound) (r : ControlRound) (x : RequestRecord) → r.heard ≡ Some x
    → In (entry_at config (history_after config earlier) (moment_in config earlier r) x) (history_after config (r ∷ earlier))
in_heard config earlier r x is =
    let h : List BoardEntry = history_after config earlier in
    let e : BoardEntry = entry_at config h (moment_in config earlier r) x in
    in_entry (with_request config h r) (tick_of (with_request config h r) r) e
    (subst (λ (o : Option RequestRecord). In e (with_entry h (entry_due config h r.handed o))) (sym is) (here refl))

pub answered_in : (config : Config) (outside : Outside) (all later earlier : List ControlRound) (r : ControlRound) (x : RequestRecord) → HaveCauses outside (history_after config all) → all ≡ later ++ r ∷ earlier
    → r.heard ≡ Some x → kept_reply (history_after config earlier) x.source x.cookie (moment_in config earlier r) ≡ None
    → (Rose outside.port_faults outside.port_faults_now → ⊥) → (Rose outside.key_faults outside.key_faults_now → ⊥) → IsAnswered config (history_after config earlier) (turn_in config earlier r x)
answered_in config outside all later earlier r x causes split is unkept no_port no_key =
    let e : BoardEntry = entry_at config (history_after config earlier) (moment_in config earlier r) x in
    let there_is : In e (history_after config all) =
    subst (λ (l : List ControlRound). In e (history_after config l)) (sym split) (in_more config later (r ∷ earlier) e (in_heard config earlier r x is)) in
    let cause : IsCaused outside x.given = causes e x.given there_is refl in
    control_answered config (history_after config earlier) (moment_in config earlier r) x unkept
    (record { opened = λ i. no_port (cause.port_fault i); drew = λ i. no_key (cause.key_fault i) })

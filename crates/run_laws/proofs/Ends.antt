-- No take of a round after which a run goes on found the end of the link.
use Rattle.std.proofs.Common.{◌≡◌, ◌∙◌, sym, ap, subst, refl, ℕ, inl, inr, List, [], ◌∷◌, Bool, Option, Some, None}
use Rattle.histories.specs.Words.{here, there}
use Rattle.histories.proofs.Lists.{in_nothing, in_append}
use Rattle.relay_outside.specs.declared.address.Addr.{Addr}
use Rattle.relay_outside.specs.declared.link.LinkCall.{LinkCall}
use Rattle.relay_outside.specs.declared.link.LinkCall.TheVariants as call
use Rattle.relay_outside.specs.declared.link.LinkGiven.{LinkGiven}
use Rattle.relay_outside.specs.declared.link.LinkGiven.TheVariants as given
use Rattle.relay_outside.specs.declared.settings.Config.{Config}
use Rattle.ng_frame.specs.Frame.{frame}
use Rattle.call_board.specs.Acts.{BoardEntry}
use Rattle.media_lane.specs.Visits.{Row}
use Rattle.board_turns.specs.Controls.{RequestRecord, control_of, moment_at}
use Rattle.ng_server.specs.ControlTurns.{is_too_long, DidReply, DidFollow}
use Rattle.ng_server.specs.declared.control_turn.ControlTurn.{ControlTurn}
use Rattle.ng_server.specs.declared.control_turn.ControlTurn.TheVariants as turn
use Rattle.relay_runs.specs.declared.status.Status.{Status}
use Rattle.relay_runs.specs.declared.status.Status.TheVariants as status
use Rattle.relay_runs.specs.Rounds.{ControlRound, status_after, history_after, AreControlRounds}
use Rattle.relay_runs.specs.ServeRuns.{AreExchanges}
use Rattle.run_laws.specs.Causes.{ReachesEnd}

-- the take that found the end
abbrev pub last : LinkCall
last = call.Take 16385 given.End

pub not_bind : (at : Addr) (done : Bool) → last ≡ call.Bind at done → ⊥
not_bind at done e = cc

not_send : (to : Addr) (bytes : List ℕ) (done : Bool) → last ≡ call.Send to bytes done → ⊥
not_send to bytes done e = cc

not_datagram : (from : Addr) (bytes : List ℕ) → last ≡ call.Take 16385 (given.Datagram from bytes) → ⊥
not_datagram from bytes e = cc

not_nothing : last ≡ call.Take 16385 given.Nothing → ⊥
not_nothing e = cc

pub not_failed : last ≡ call.Take 16385 given.Failed → ⊥
not_failed e = cc

pub in_none : (calls : List LinkCall) → calls ≡ [] → ReachesEnd calls → ⊥
in_none calls e i = in_nothing (subst (λ (l : List LinkCall). ReachesEnd l) e i)

pub not_among : (x : LinkCall) (calls : List LinkCall) → (last ≡ x → ⊥) → (ReachesEnd calls → ⊥) → ReachesEnd (x ∷ calls) → ⊥
not_among x calls other rest (here e) = other e
not_among x calls other rest (there i) = rest i

goes_on : (answer : ControlTurn) (other : ControlTurn) (status : Status) → status_after answer ≡ None → answer ≡ other → status_after other ≡ Some status → ⊥
goes_on answer other status goes is ends = let e : None ≡ Some status = sym goes ∙ ap status_after is ∙ ends in cc

in_reply : (config : Config) (h : List BoardEntry) (now : ℕ) (from : Addr) (parts : Option (List ℕ × List ℕ)) (too_long : Bool) (answer : ControlTurn) (made : Option RequestRecord) (sends : List LinkCall)
    → DidReply config h now from parts too_long answer made sends → ReachesEnd sends → ⊥
in_reply config h now from None too_long answer made sends did i = in_none sends did.2 i
in_reply config h now from (Some parts) too_long answer None sends did i = did
in_reply config h now from (Some parts) too_long answer (Some x) sends did i =
    not_among (call.Send from (control_of config h (moment_at h now) x).reply did.done) [] (not_send from (control_of config h (moment_at h now) x).reply did.done) in_nothing
    (subst (λ (l : List LinkCall). ReachesEnd l) did.sends_are i)

in_turn : (config : Config) (h : List BoardEntry) (now : ℕ) (gave : LinkGiven) (answer : ControlTurn) (made : Option RequestRecord) (sends : List LinkCall) → status_after answer ≡ None
    → DidFollow config h now gave answer made sends → ReachesEnd (call.Take 16385 gave ∷ sends) → ⊥
in_turn config h now (given.Datagram from datagram) answer made sends goes did i =
    not_among (call.Take 16385 (given.Datagram from datagram)) sends (not_datagram from datagram)
    (in_reply config h now from (frame datagram) (is_too_long datagram) answer made sends did) i
in_turn config h now given.Nothing answer made sends goes did i = not_among (call.Take 16385 given.Nothing) sends not_nothing (in_none sends did.2) i
in_turn config h now given.End answer made sends goes did i = goes_on answer turn.End status.Ok goes did.0 refl
in_turn config h now given.Failed answer made sends goes did i = goes_on answer turn.ReadFault status.ControlFault goes did.0 refl

-- not among the calls of the rounds
pub in_rounds : (config : Config) (threads : ℕ) (range : Option (ℕ × ℕ)) (rounds : List ControlRound) (rows : List Row) (calls : List LinkCall) → AreControlRounds config threads range rounds rows
    → AreExchanges config rounds calls → ReachesEnd calls → ⊥
in_rounds config threads range [] rows calls are made i = in_none calls made i
in_rounds config threads range (r ∷ rounds) rows calls are made i =
    elim (in_append made.0 made.1 (subst (λ (l : List LinkCall). ReachesEnd l) made.2 i)) [
      | inl earlier ↦ in_rounds config threads range rounds are.0 made.0 are.8 made.3 earlier
      | inr later ↦
          in_turn config (history_after config rounds) r.handed made.4.gave r.answer r.heard made.4.sends are.5 made.4.followed
          (subst (λ (l : List LinkCall). ReachesEnd l) made.4.calls_are later)
    ]

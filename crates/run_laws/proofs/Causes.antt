-- The status of a run of `serve` has its cause among the calls of its link.
use Rattle.std.proofs.Common.{◌≡◌, ◌∙◌, sym, ap, subst, refl, ℕ, ◌⊎◌, inl, inr, List, [], ◌∷◌, ◌++◌, true, false, Option, Some}
use Rattle.std.proofs.lemmas.List.{append_cancel_left}
use Rattle.histories.specs.Words.{In, here}
use Rattle.histories.proofs.Lists.{in_nothing, in_right, in_append}
use Rattle.relay_outside.specs.declared.lines.WriteCall.{WriteCall}
use Rattle.relay_outside.specs.declared.lines.WriteCall.TheVariants.{Write}
use Rattle.relay_outside.specs.declared.link.LinkCall.{LinkCall}
use Rattle.relay_outside.specs.declared.link.LinkCall.TheVariants as call
use Rattle.relay_outside.specs.declared.link.LinkGiven.TheVariants as given
use Rattle.relay_outside.specs.DeviceLogs.{Gained}
use Rattle.command_line.specs.declared.settings.Settings.{Settings}
use Rattle.media_lane.specs.Visits.{Row}
use Rattle.relay_runs.specs.declared.status.Status.{Status}
use Rattle.relay_runs.specs.declared.status.Status.TheVariants as status
use Rattle.relay_runs.specs.Rounds.{ControlRound, AreControlRounds}
use Rattle.relay_runs.specs.Run.{Serves, DidRun}
use Rattle.relay_runs.specs.ServeRuns.{Outside, AreExchanges, AreCalls, HasEnded, counts_in, last_take, totals_line}
use Rattle.run_laws.specs.Causes.{ReachesEnd, IsCausedBy, WritesFailed}
use Rattle.run_laws.proofs.Ends.{last, not_bind, not_failed, in_none, not_among, in_rounds}

-- what a device that tells its calls gained
pub gained : {C : Type 0} (P : List C → Type 0) (old new : Option (List C)) (before calls : List C) → old ≡ Some before → new ≡ Some (before ++ calls) → Gained old new P → P calls
gained {C} P old new before calls was is g =
    let h : Gained (Some before) (Some (before ++ calls)) P =
    subst (λ (x : Option (List C)). Gained (Some before) x P) is (subst (λ (x : Option (List C)). Gained x new P) was g) in
    subst P (sym (append_cancel_left before calls h.0 h.1)) h.2

same : {A B : Type 0} {x y : A} → x ≡ y → (f : A → B) → f x ≡ f y
same e f = ap f e

-- The rounds, with what comes before and after them.

abbrev bound : Settings → List LinkCall
bound settings = call.Bind settings.listen true ∷ []

not_ended : (settings : Settings) (threads : ℕ) (range : Option (ℕ × ℕ)) (rounds : List ControlRound) (rows : List Row) (more ends calls : List LinkCall)
    → AreControlRounds settings.config threads range rounds rows → AreExchanges settings.config rounds more → calls ≡ bound settings ++ more ++ ends → (ReachesEnd ends → ⊥) → ReachesEnd calls → ⊥
not_ended settings threads range rounds rows more ends calls are made is none i =
    elim (in_append (bound settings ++ more) ends (subst (λ (l : List LinkCall). ReachesEnd l) is i)) [
      | inl front ↦ elim (in_append (bound settings) more front) [
        | inl j ↦ not_among (call.Bind settings.listen true) [] (not_bind settings.listen true) in_nothing j
        | inr j ↦ in_rounds settings.config threads range rounds rows more are made j
      ]
      | inr back ↦ none back
    ]

by_status : (settings : Settings) (threads : ℕ) (range : Option (ℕ × ℕ)) (rounds : List ControlRound) (rows : List Row) (calls : List LinkCall) (turns : ℕ) (ended : Status)
    → AreControlRounds settings.config threads range rounds rows → HasEnded ended settings.turns turns → turns ≡ (counts_in rounds).turns
    → AreCalls settings.config (bound settings) rounds ended calls → IsCausedBy settings calls ended
by_status settings threads range rounds rows calls turns status.Ok are has counts c =
    subst (λ (l : List LinkCall). ReachesEnd l) (sym c.calls_are) (in_right (bound settings ++ c.more) (last ∷ []) (here refl))
by_status settings threads range rounds rows calls turns status.ControlFault are has counts c = (
  inr (subst (λ (l : List LinkCall). In (call.Take 16385 given.Failed) l) (sym c.calls_are) (in_right (bound settings ++ c.more) (call.Take 16385 given.Failed ∷ []) (here refl))),
  not_ended settings threads range rounds rows c.more (last_take status.ControlFault) calls are c.exchanges c.calls_are (not_among (call.Take 16385 given.Failed) [] not_failed in_nothing),
)
by_status settings threads range rounds rows calls turns status.TurnsSpent are has counts c = (
  c.counted.turns_are ∙ sym counts ∙ has,
  not_ended settings threads range rounds rows c.more [] calls are c.exchanges c.calls_are in_nothing,
)
by_status settings threads range rounds rows calls turns status.OutOfMemory are has counts c = absurd has
by_status settings threads range rounds rows calls turns status.PrintFault are has counts c = absurd has
by_status settings threads range rounds rows calls turns status.Usage are has counts c = absurd has
by_status settings threads range rounds rows calls turns status.ScriptFault are has counts c = absurd has
by_status settings threads range rounds rows calls turns status.ScriptRead are has counts c = absurd has

ran : (settings : Settings) (range : Option (ℕ × ℕ)) (gate : ℕ → Type 0) (outside : Outside) (wrote wrote_now : Option (List WriteCall)) (answer : Status) (before calls : List LinkCall)
    → outside.link ≡ Some before → outside.link_now ≡ Some (before ++ calls) → DidRun settings range gate outside wrote wrote_now answer → IsCausedBy settings calls answer
ran settings range gate outside wrote wrote_now answer before calls was is r =
    let c : AreCalls settings.config (bound settings) r.did.rounds r.ended calls =
    gained (λ (l : List LinkCall). AreCalls settings.config (bound settings) r.did.rounds r.ended l) outside.link outside.link_now before calls was is r.did.log.link in
    elim r.answer_is [
      | inl e ↦
          subst (λ (s : Status). IsCausedBy settings calls s) (sym e)
          (by_status settings settings.threads range r.did.rounds r.did.whole.in_rounds calls r.counts.turns r.ended r.did.whole.are_rounds r.did.has_ended (same r.did.counts_are (λ x. x.turns)) c)
      | inr e ↦
          subst (λ (s : Status). IsCausedBy settings calls s) (sym e)
          (subst (λ (l : List LinkCall). In (call.Bind settings.listen true) l) (sym c.calls_are) (here refl))
    ]

pub caused : (settings : Settings) (range : Option (ℕ × ℕ)) (gate : ℕ → Type 0) (outside : Outside) (wrote wrote_now : Option (List WriteCall)) (answer : Status) (before calls : List LinkCall)
    → Serves (Some settings) range gate outside wrote wrote_now answer → outside.link ≡ Some before → outside.link_now ≡ Some (before ++ calls) → IsCausedBy settings calls answer
caused settings range gate outside wrote wrote_now answer before calls (inl none) was is =
    subst (λ (s : Status). IsCausedBy settings calls s) (sym none.2) (gained (λ (l : List LinkCall). l ≡ []) outside.link outside.link_now before calls was is none.0.link)
caused settings range gate outside wrote wrote_now answer before calls (inr (inl unbound)) was is =
    let alone = gained (λ (l : List LinkCall). l ≡ call.Bind settings.listen false ∷ []) outside.link outside.link_now before calls was is unbound.0.link in
    subst (λ (s : Status). IsCausedBy settings calls s) (sym unbound.2) (
      inl alone,
      λ i. not_among (call.Bind settings.listen false) [] (not_bind settings.listen false) in_nothing (subst (λ (l : List LinkCall). ReachesEnd l) alone i),
    )
caused settings range gate outside wrote wrote_now answer before calls (inr (inr r)) was is = ran settings range gate outside wrote wrote_now answer before calls was is r

-- Where the link found its end.

by_cause : (settings : Settings) (calls : List LinkCall) (answer : Status) → ReachesEnd calls → IsCausedBy settings calls answer → (answer ≡ status.Ok) ⊎ (answer ≡ status.PrintFault)
by_cause settings calls status.Ok i c = inl refl
by_cause settings calls status.PrintFault i c = inr refl
by_cause settings calls status.ControlFault i c = absurd (c.1 i)
by_cause settings calls status.TurnsSpent i c = absurd (c.1 i)
by_cause settings calls status.OutOfMemory i c = absurd (in_none calls c i)
by_cause settings calls status.Usage i c = absurd c
by_cause settings calls status.ScriptFault i c = absurd c
by_cause settings calls status.ScriptRead i c = absurd c

pub ended : (settings : Settings) (range : Option (ℕ × ℕ)) (gate : ℕ → Type 0) (outside : Outside) (wrote wrote_now : Option (List WriteCall)) (answer : Status) (before calls : List LinkCall)
    → Serves (Some settings) range gate outside wrote wrote_now answer → outside.link ≡ Some before → outside.link_now ≡ Some (before ++ calls) → ReachesEnd calls
    → (answer ≡ status.Ok) ⊎ (answer ≡ status.PrintFault)
ended settings range gate outside wrote wrote_now answer before calls s was is i =
    by_cause settings calls answer i (caused settings range gate outside wrote wrote_now answer before calls s was is)

-- The sink.

not_memory : status.PrintFault ≡ status.OutOfMemory → ⊥
not_memory e = cc

not_control : status.PrintFault ≡ status.ControlFault → ⊥
not_control e = cc

pub unwritten : (settings : Settings) (range : Option (ℕ × ℕ)) (gate : ℕ → Type 0) (outside : Outside) (before writes : List WriteCall)
    → Serves (Some settings) range gate outside (Some before) (Some (before ++ writes)) status.PrintFault → WritesFailed writes
unwritten settings range gate outside before writes (inl none) = absurd (not_memory none.2)
unwritten settings range gate outside before writes (inr (inl unbound)) = absurd (not_control unbound.2)
unwritten settings range gate outside before writes (inr (inr r)) =
    let line = totals_line r.counts r.totals in
    let alone = gained (λ (l : List WriteCall). l ≡ Write line false ∷ []) (Some before) (Some (before ++ writes)) before writes refl refl r.line in
    (line, subst (λ (l : List WriteCall). In (Write line false) l) (sym alone) (here refl))

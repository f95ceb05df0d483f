-- A script without a fault is played to its end, unless memory runs out, or the source or a write fails.
use Rattle.std.proofs.Common.{◌≡◌, ◌∙◌, sym, subst, refl, ℕ, ◌+◌, inl, inr, List, [], ◌∷◌, ◌++◌, map, length, Some}
use Rattle.std.proofs.lemmas.List.{append_cancel_left}
use Rattle.histories.specs.Words.{In, here, there}
use Rattle.relay_outside.specs.declared.lines.LineCall.{LineCall}
use Rattle.relay_outside.specs.declared.lines.WriteCall.{WriteCall}
use Rattle.relay_outside.specs.declared.settings.Config.{Config}
use Rattle.relay_outside.specs.DeviceLogs.{Gained}
use Rattle.relay_script.specs.EventLines.{ScriptFault, printed_line}
use Rattle.relay_script.specs.Steps.{Step}
use Rattle.replay_devices.specs.Scripts.{ReadsScript}
use Rattle.replay_devices.specs.declared.script.Ending.{Ending}
use Rattle.replay_devices.specs.declared.script.Ending.TheVariants as ending
use Rattle.replay_steps.specs.Steps.{Stops}
use Rattle.replay_steps.specs.Output.{written, unwritten, DidPlay, DidReplay, Replays}
use Rattle.replay_steps.specs.declared.ended.Ended.{Ended}
use Rattle.replay_steps.specs.declared.ended.Ended.TheVariants as ended
use Rattle.replay_laws.specs.Alike.{NeverOutOfMemory, WritesOut}
use Rattle.replay_laws.specs.Faultless.{IsFaultless, EndsFaultless}
use Rattle.replay_laws.proofs.Fed.{runs_out_or_never}
use Rattle.replay_laws.proofs.Reading.{reads_once}
use Rattle.replay_laws.proofs.Texts.{writes_once}

-- what the sink gained is what was written
pub written_are : (old writes text : List WriteCall) → Gained (Some old) (Some (old ++ writes)) (λ more. more ≡ text) → text ≡ writes
written_are old writes text gained = sym (append_cancel_left old writes gained.0 gained.1 ∙ gained.2)

-- what is known of a replay is known of these steps
tied : (config : Config) (seed : ℕ) (steps : List Step) (how : Ending) (end : Ended) (before calls : List LineCall) (old writes : List WriteCall) → ReadsScript steps how calls
    → DidReplay config seed end (Some before) (Some (before ++ calls)) (Some old) (Some (old ++ writes)) → DidPlay config seed steps how end writes
tied config seed steps how end before calls old writes reads d =
    let more = d.reads_are in
    let here : ReadsScript d.steps d.how calls = subst (λ (l : List LineCall). ReadsScript d.steps d.how l) (sym (append_cancel_left before calls more.0 more.1)) more.2 in
    let same = reads_once d.steps steps d.how how calls here reads in
    let wrote : d.writes ≡ writes = written_are old writes d.writes d.writes_are in
    subst (λ (x : List Step). DidPlay config seed x how end writes) same.0
    (subst (λ (y : Ending). DidPlay config seed d.steps y end writes) same.1 (subst (λ (w : List WriteCall). DidPlay config seed d.steps d.how end w) wrote d.did))

last_in : (xs : List WriteCall) (x : WriteCall) → In x (xs ++ x ∷ [])
last_in [] x = here refl
last_in (y ∷ xs) x = there (last_in xs x)

pub ends_faultless : (config : Config) (seed : ℕ) (steps : List Step) (how : Ending) (end : Ended) (before calls : List LineCall) (old writes : List WriteCall) → ReadsScript steps how calls
    → IsFaultless config seed steps how → Replays config seed end (Some before) (Some (before ++ calls)) (Some old) (Some (old ++ writes)) → EndsFaultless config seed steps how end writes
ends_faultless config seed steps how ended.Finished before calls old writes reads f d = (tied config seed steps how ended.Finished before calls old writes reads d).1.0
ends_faultless config seed steps how ended.ScriptRead before calls old writes reads f d = (tied config seed steps how ended.ScriptRead before calls old writes reads d).1.0
ends_faultless config seed steps how ended.PrintFault before calls old writes reads f d = elim (tied config seed steps how ended.PrintFault before calls old writes reads d).1 [
  | inl x ↦ (printed_line x.event ++ 10 ∷ [], subst (λ (l : List WriteCall). In (unwritten x.event) l) (sym x.writes_are) (last_in (map written x.prints) (unwritten x.event)))
  | inr x ↦ absurd (f.inside x.0)
]
ends_faultless config seed steps how ended.OutOfMemory before calls old writes reads f d = tt
ends_faultless config seed steps how ended.DeviceFault before calls old writes reads f d = tt
ends_faultless config seed steps how ended.ScriptFault before calls old writes reads f d =
    let did = tied config seed steps how ended.ScriptFault before calls old writes reads d in
    elim did.1 [
      | inl x ↦ record {
        entries = did.0;
        stops = x;
        stopped = did.2;
        unfed = elim (runs_out_or_never did.0) [
          | inl never ↦
              absurd (f.can_be_made x.before x.after x.step x.prints x.course x.steps_are x.plays (subst (λ l. Stops config l) (sym x.entries_are) did.2)
              (subst (λ l. NeverOutOfMemory l) (sym x.entries_are) never) x.faulty)
          | inr runs_out ↦ runs_out
        ];
      }
      | inr x ↦ absurd (f.inside x.0)
    ]

-- a script that was played to its end without want of memory

end_outside : ending.End ≡ ending.Outside → ⊥
end_outside e = cc

finished_faulty : ended.Finished ≡ ended.ScriptFault → ⊥
finished_faulty e = cc

pub tried : (config : Config) (seed : ℕ) (steps : List Step) (how : Ending) (writes : List WriteCall) → WritesOut config seed steps how ended.Finished writes → IsFaultless config seed steps how
tried config seed steps how writes w = record {
  inside = λ out. end_outside (sym w.wrote.0 ∙ out);
  can_be_made = λ before behind step prints course is plays stops fed faulty.
      let other : WritesOut config seed steps how ended.ScriptFault (map written (prints ++ ScriptFault (length before + 1) ∷ [])) = record {
        entries = course.entries;
        wrote = inl
            (record { before = before; step = step; after = behind; steps_are = is; prints = prints; course = course; plays = plays; faulty = faulty; entries_are = refl; writes_are = refl });
        stopped = stops;
        fed = fed;
      } in
      finished_faulty
      (writes_once config seed steps how ended.Finished ended.ScriptFault writes (map written (prints ++ ScriptFault (length before + 1) ∷ [])) tt tt w other).end;
}

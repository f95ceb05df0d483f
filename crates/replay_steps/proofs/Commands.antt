-- What a line `ng` did.
use Rattle.std.proofs.Common.{◌≡◌, ◌∙◌, refl, sym, ap, subst, ℕ, Bool, List, [], ◌∷◌, ◌++◌, Option, Some, None, Result, Ok, Err, length, drop}
use Rattle.std.specs.Prelude.{MatchResult}
use Rattle.std.proofs.Math.Seq.{drop-append_seam}
use Rattle.relay_outside.specs.DeviceLogs.{Gained}
use Rattle.relay_outside.specs.declared.address.Addr.{Addr}
use Rattle.relay_outside.specs.declared.keys.KeyCall.{KeyCall}
use Rattle.relay_outside.specs.declared.ports.PortCall.{PortCall}
use Rattle.relay_outside.specs.declared.settings.Config.{Config}
use Rattle.relay_core.specs.Entries.{Entry}
use Rattle.relay_script.specs.Steps as step
use Rattle.relay_script.specs.EventLines.{event_of}
use Rattle.relay_script.specs.declared.event.Printed as coded
use Rattle.replay_devices.specs.Steps as model
use Rattle.replay_devices.specs.Devices.{Happening, fails}
use Rattle.replay_devices.specs.Watch.{WatchState, WatchStandsFor}
use Rattle.replay_steps.specs.declared.ended.Untold.{Untold}
use Rattle.replay_steps.specs.declared.step.Stepped.{Stepped}
use Rattle.replay_steps.specs.declared.step.Stepped.TheVariants as stepped
use Rattle.replay_steps.specs.Receipts.{ReceiptList}
use Rattle.replay_steps.specs.ControlSteps.{Controlled}
use Rattle.replay_steps.specs.Steps.{course_of, Controls, Makes, OfStep, replied}
use Rattle.replay_steps.specs.WatchNotes.{Watches, WatchesTurn, StepsSo}
use Rattle.replay_steps.proofs.Courses.{one_event}

-- the calls that a list gained
gained_calls : {C : Type 0} (old new : Option (List C)) (all : List C) (n : ℕ) (P : List C → Type 0) → new ≡ Some all → ((calls : List C) → old ≡ Some calls → n ≡ length calls) → Gained old new P
    → P (drop n all)
gained_calls old None all n P is count gained = absurd (let k : None ≡ Some all = is in cc)
gained_calls None (Some calls) all n P is count gained = absurd gained
gained_calls {C} (Some first) (Some calls) all n P is count (more, list, p) =
    let here : calls ≡ all = let k : Some calls ≡ Some all = is in cc in
    let rest : drop n all ≡ more = ap (λ (xs : List C). drop n xs) (sym here ∙ list) ∙ ap (λ (m : ℕ). drop m (first ++ more)) (count first refl) ∙ drop-append_seam first more in
    subst P (sym rest) p

module _ (config : Config) (seed : ℕ) (l new : List Entry) (clock : ℕ) (source : Addr) (bytes : List ℕ) (held : ReceiptList) (read_fails reply_fails : Bool) (old mid now : WatchState)
    (ports ports_now : Option (List PortCall)) (keys keys_now : Option (List KeyCall)) (opened drawn : ℕ)
    (reads : (past : List Happening) → WatchStandsFor config seed past old → read_fails ≡ fails model.Reading past) (sends : (past : List Happening) → WatchStandsFor config seed past old → reply_fails ≡ fails model.Replying past)
    (counted : (calls : List PortCall) → ports ≡ Some calls → opened ≡ length calls) (drew : (calls : List KeyCall) → keys ≡ Some calls → drawn ≡ length calls)
    (watched : WatchesTurn config seed ports_now opened keys_now drawn old mid) where
  command : (e : coded.Printed) → Controlled config clock l source bytes read_fails reply_fails ports ports_now keys keys_now (Ok e) new
      → ((past : List Happening) → WatchStandsFor config seed past mid → WatchStandsFor config seed (replied (event_of e) past) now)
      → Watches config seed old now (λ past past_now. Makes config seed (course_of l held clock past) (step.Ng source bytes) (event_of e ∷ []) (course_of new held clock past_now))
  command e controlled answers past s =
      let found = watched.watches past s in
      let opens = drop opened watched.openings in
      let draws = drop drawn watched.draws in
      let controls : Controls config clock l source bytes read_fails reply_fails opens draws (event_of e) new =
      gained_calls keys keys_now watched.draws drawn (λ d. Controls config clock l source bytes read_fails reply_fails opens d (event_of e) new) watched.keys_tell drew
      (gained_calls ports ports_now watched.openings opened (λ o. Gained keys keys_now (λ d. Controls config clock l source bytes read_fails reply_fails o d (event_of e) new)) watched.ports_tell
      counted controlled) in (
        replied (event_of e) found.0,
        one_event (event_of e) _ (record {
          entries = new;
          opened = opens;
          drawn = draws;
          controls = subst (λ (b : Bool). Controls config clock l source bytes b (fails model.Replying past) opens draws (event_of e) new) (reads past s)
              (subst (λ (b : Bool). Controls config clock l source bytes read_fails b opens draws (event_of e) new) (sends past s) controls);
          between = found.1.0;
          opens = found.1.1;
          past = found.0;
          draws = found.1.2;
          new_is = refl;
        }),
        answers found.0 found.2,
      )

  pub commanded : (o : Result coded.Printed Untold) (did : Stepped) → MatchResult o (λ (e : coded.Printed). did ≡ stepped.Prints e) (λ (why : Untold). did ≡ stepped.Untold why)
      → Controlled config clock l source bytes read_fails reply_fails ports ports_now keys keys_now o new
      → ((e : coded.Printed) → o ≡ Ok e → (past : List Happening) → WatchStandsFor config seed past mid → WatchStandsFor config seed (replied (event_of e) past) now)
      → StepsSo config seed did old now (λ past past_now. OfStep config seed (course_of l held clock past) (step.Ng source bytes) did (course_of new held clock past_now))
  commanded (Err why) did is controlled answers =
      subst (λ (d : Stepped). StepsSo config seed d old now (λ past past_now. OfStep config seed (course_of l held clock past) (step.Ng source bytes) d (course_of new held clock past_now))) (sym is) tt
  commanded (Ok e) did is controlled answers =
      subst (λ (d : Stepped). StepsSo config seed d old now (λ past past_now. OfStep config seed (course_of l held clock past) (step.Ng source bytes) d (course_of new held clock past_now))) (sym is)
      (command e controlled (answers e refl))

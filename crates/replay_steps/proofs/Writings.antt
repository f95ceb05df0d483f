-- What is written where a write fails, and by several steps.
use Rattle.std.proofs.Common.{◌≡◌, ◌∙◌, refl, sym, ap, subst, ℕ, ◌+◌, List, [], ◌∷◌, ◌++◌, true, Option, Some, None, inl, inr, length, map}
use Rattle.std.proofs.lemmas.List.{map-append, append-nil}
use Rattle.relay_outside.specs.DeviceLogs.{Gains, Gained}
use Rattle.relay_outside.specs.declared.lines.WriteCall.{WriteCall}
use Rattle.relay_outside.specs.declared.settings.Config.{Config}
use Rattle.relay_outside.proofs.Telling.{gained_none, gained_one, gained_both}
use Rattle.relay_core.specs.Entries.{Entry}
use Rattle.relay_script.specs.EventLines.{Printed, ScriptFault, event_of}
use Rattle.replay_devices.specs.declared.event_writer.WriteFault.{WriteFault}
use Rattle.replay_devices.specs.declared.event_writer.WriteFault.TheVariants as fault
use Rattle.relay_outside.specs.declared.lines.LineCall.{LineCall}
use Rattle.relay_script.specs.Steps.{Step}
use Rattle.replay_devices.specs.declared.script.Ending.{Ending}
use Rattle.replay_devices.specs.declared.script.Ending.TheVariants as ending
use Rattle.replay_devices.specs.Scripts.{ReadsScript}
use Rattle.replay_steps.specs.declared.ended.Ended.{Ended}
use Rattle.replay_steps.specs.declared.ended.Ended.TheVariants as ended
use Rattle.replay_steps.specs.declared.ended.Untold.{Untold}
use Rattle.replay_steps.specs.declared.ended.Untold.TheVariants as untold
use Rattle.replay_steps.specs.declared.step.Stepped.{Stepped}
use Rattle.replay_steps.specs.declared.step.Stepped.TheVariants as stepped
use Rattle.replay_steps.specs.Steps.{Course, at_first, course_after, calls_devices, Makes, IsFaulty, OfStep, Plays, Stops}
use Rattle.replay_steps.specs.Output.{Wrote, written, unwritten, EndsUnwritten, ended_untold, DidTell, DidPrint, DidStep, Played, Demands, FailsAt, PlayedSome, DidSteps, DidEnd, DidFinish, PlayedAnd, DidWrite, DidPlay, DidReplay, Replays}
use Rattle.replay_steps.proofs.Courses.{plays_more}

-- Writes of which something holds.

-- none
pub wrote_none : (log : Option (List WriteCall)) (P : List WriteCall → Type 0) → P [] → Wrote log log P
wrote_none log P here = record { writes = []; holds = here; log = gained_none log (λ more. more ≡ []) refl }

-- one
pub wrote_one : (old new : Option (List WriteCall)) (call : WriteCall) (P : List WriteCall → Type 0) → Gains old new call → P (call ∷ []) → Wrote old new P
wrote_one old new call P gains here = record { writes = call ∷ []; holds = here; log = gained_one old new call (λ more. more ≡ call ∷ []) gains refl }

-- some, and then more
pub wrote_both : (first second third : Option (List WriteCall)) (P Q R : List WriteCall → Type 0) → ((xs ys : List WriteCall) → P xs → Q ys → R (xs ++ ys))
    → Wrote first second P → Wrote second third Q → Wrote first third R
wrote_both first second third P Q R join before course_after = record {
  writes = before.writes ++ course_after.writes;
  holds = join before.writes course_after.writes before.holds course_after.holds;
  log = gained_both first second third (λ more. more ≡ before.writes) (λ more. more ≡ course_after.writes) (λ more. more ≡ before.writes ++ course_after.writes)
      (λ xs ys p q. ap (λ (zs : List WriteCall). zs ++ ys) p ∙ ap (λ (zs : List WriteCall). before.writes ++ zs) q) before.log course_after.log;
}

-- what holds of them, said in another way
pub wrote_less : (old new : Option (List WriteCall)) (P Q : List WriteCall → Type 0) → ((xs : List WriteCall) → P xs → Q xs) → Wrote old new P → Wrote old new Q
wrote_less old new P Q less wrote = record { writes = wrote.writes; holds = less wrote.writes wrote.holds; log = wrote.log }

-- One line.

module _ {S : Type 0} (log : S → Option (List WriteCall)) (event : Printed) (old new : S) (Told : Ended → List WriteCall → Type 0) where
  -- a line that was not written ends the replay
  pub not_written : (why : WriteFault) (end : Ended) → EndsUnwritten why end → (why ≡ fault.OutOfMemory → new ≡ old)
      → (why ≡ fault.Failed → Gains (log old) (log new) (unwritten event)) → Told ended.OutOfMemory [] → Told ended.PrintFault (unwritten event ∷ []) → Wrote (log old) (log new) (Told end)
  not_written fault.OutOfMemory end is same failed memory fault =
      subst (λ (e : Ended). Wrote (log old) (log new) (Told e)) (sym is)
      (subst (λ (s : S). Wrote (log old) (log s) (Told ended.OutOfMemory)) (sym (same refl)) (wrote_none (log old) (Told ended.OutOfMemory) memory))
  not_written fault.Failed end is same failed memory fault =
      subst (λ (e : Ended). Wrote (log old) (log new) (Told e)) (sym is)
      (wrote_one (log old) (log new) (unwritten event) (Told ended.PrintFault) (failed refl) fault)

-- Several steps.

-- these steps were made, a replay came to there, and what they print was written
pub record PlayedTo (config : Config) (seed : ℕ) (steps : List Step) (r : Course) (writes : List WriteCall) : Type 0 where
  pub prints : List Printed
  pub plays : Plays config seed steps at_first prints r
  pub writes_are : writes ≡ map written prints

pub none_played : (config : Config) (seed : ℕ) (r : Course) → r ≡ at_first → PlayedTo config seed [] r []
none_played config seed r is = record { prints = []; plays = (refl, is); writes_are = refl }

-- lines after lines
both_written : (xs ys : List WriteCall) (prints more : List Printed) → xs ≡ map written prints → ys ≡ map written more → xs ++ ys ≡ map written (prints ++ more)
both_written xs ys prints more p q = ap (λ (zs : List WriteCall). zs ++ ys) p ∙ ap (λ (zs : List WriteCall). map written prints ++ zs) q ∙ sym (map-append written prints more)

none_written : (xs ys : List WriteCall) (prints : List Printed) → xs ≡ map written prints → ys ≡ [] → xs ++ ys ≡ map written prints
none_written xs ys prints p q = ap (λ (zs : List WriteCall). xs ++ zs) q ∙ append-nil xs ∙ p

last_failed : (xs ys : List WriteCall) (prints : List Printed) (event : Printed) → xs ≡ map written prints → ys ≡ unwritten event ∷ [] → xs ++ ys ≡ map written prints ++ unwritten event ∷ []
last_failed xs ys prints event p q = ap (λ (zs : List WriteCall). zs ++ ys) p ∙ ap (λ (zs : List WriteCall). map written prints ++ zs) q

module _ (config : Config) (seed : ℕ) (before : List Step) (r : Course) (s : Step) (new : Course) (line : ℕ) where
  -- a step, after which the replay goes on
  pub went_on : (did : Stepped) → OfStep config seed r s did new → (xs ys : List WriteCall) → PlayedTo config seed before r xs → DidStep did line None ys
      → PlayedTo config seed (before ++ s ∷ []) (course_after s new) (xs ++ ys)
  went_on stepped.Quiet makes xs ys x y = record {
    prints = x.prints ++ [];
    plays = plays_more config seed before at_first x.prints r s [] new x.plays makes;
    writes_are = both_written xs ys x.prints [] x.writes_are y.1;
  }
  went_on (stepped.Prints e) makes xs ys x y = record {
    prints = x.prints ++ event_of e ∷ [];
    plays = plays_more config seed before at_first x.prints r s (event_of e ∷ []) new x.plays makes;
    writes_are = both_written xs ys x.prints (event_of e ∷ []) x.writes_are y;
  }
  went_on stepped.Faulty makes xs ys x y = absurd y
  went_on (stepped.Untold why) makes xs ys x y = absurd (let k : None ≡ Some (ended_untold why) = y.0 in cc)

  -- a step by which the replay ends
  module _ (steps behind : List Step) (steps_are : steps ≡ before ++ s ∷ behind) (l : List Entry) (line_is : line ≡ length before + 1) (entries_are : new.entries ≡ l) where
    ended_there : (xs ys : List WriteCall) → PlayedTo config seed before r xs → ys ≡ [] → PlayedSome config seed steps (xs ++ ys)
    ended_there xs ys x none = record {
      before = before;
      after = s ∷ behind;
      steps_are = steps_are;
      prints = x.prints;
      course = r;
      plays = x.plays;
      writes_are = none_written xs ys x.prints x.writes_are none;
    }

    failed : (event : Printed) (xs ys : List WriteCall) → PlayedTo config seed before r xs → ys ≡ unwritten event ∷ [] → Demands config seed r s (length before + 1) event new → FailsAt config seed steps l (xs ++ ys)
    failed event xs ys x is demands = record {
      before = before;
      step = s;
      after = behind;
      steps_are = steps_are;
      prints = x.prints;
      course = r;
      plays = x.plays;
      event = event;
      last = new;
      demands = demands;
      entries_are = entries_are;
      writes_are = last_failed xs ys x.prints event x.writes_are is;
    }

    printed : (event : Printed) (end : Ended) (xs ys : List WriteCall) → PlayedTo config seed before r xs → Makes config seed r s (event ∷ []) new → DidPrint event (Some end) ys
        → DidSteps config seed steps l (Some end) (xs ++ ys)
    printed event ended.Finished xs ys x makes y = absurd y
    printed event ended.ScriptFault xs ys x makes y = absurd y
    printed event ended.ScriptRead xs ys x makes y = absurd y
    printed event ended.PrintFault xs ys x makes y = failed event xs ys x y (inl makes)
    printed event ended.OutOfMemory xs ys x makes y = ended_there xs ys x y
    printed event ended.DeviceFault xs ys x makes y = absurd y

    told_faulty : (end : Ended) (xs ys : List WriteCall) → PlayedTo config seed before r xs → IsFaulty r s → new ≡ r → DidTell line end ys → DidSteps config seed steps l (Some end) (xs ++ ys)
    told_faulty ended.Finished xs ys x faulty same y = absurd y
    told_faulty ended.ScriptFault xs ys x faulty same y = record {
      before = before;
      step = s;
      after = behind;
      steps_are = steps_are;
      prints = x.prints;
      course = r;
      plays = x.plays;
      faulty = faulty;
      entries_are = ap (λ (c : Course). c.entries) (sym same) ∙ entries_are;
      writes_are = both_written xs ys x.prints (ScriptFault (length before + 1) ∷ []) x.writes_are (y ∙ ap (λ (n : ℕ). written (ScriptFault n) ∷ []) line_is);
    }
    told_faulty ended.ScriptRead xs ys x faulty same y = absurd y
    told_faulty ended.PrintFault xs ys x faulty same y =
        failed (ScriptFault (length before + 1)) xs ys x (y ∙ ap (λ (n : ℕ). unwritten (ScriptFault n) ∷ []) line_is) (inr (faulty, refl, same))
    told_faulty ended.OutOfMemory xs ys x faulty same y = ended_there xs ys x y
    told_faulty ended.DeviceFault xs ys x faulty same y = absurd y

    untold_there : (why : Untold) → (stepped.Untold why ≡ stepped.Untold untold.DeviceFault → calls_devices s ≡ true) → (xs ys : List WriteCall) → PlayedTo config seed before r xs → ys ≡ []
        → DidSteps config seed steps l (Some (ended_untold why)) (xs ++ ys)
    untold_there untold.OutOfMemory differs xs ys x none = ended_there xs ys x none
    untold_there untold.DeviceFault differs xs ys x none = record {
      before = before;
      step = s;
      after = behind;
      steps_are = steps_are;
      prints = x.prints;
      course = r;
      plays = x.plays;
      calls = differs refl;
      writes_are = none_written xs ys x.prints x.writes_are none;
    }

    pub ended_in : (did : Stepped) (end : Ended) → (did ≡ stepped.Untold untold.DeviceFault → calls_devices s ≡ true) → OfStep config seed r s did new → (xs ys : List WriteCall) → PlayedTo config seed before r xs → DidStep did line (Some end) ys
        → DidSteps config seed steps l (Some end) (xs ++ ys)
    ended_in stepped.Quiet end differs makes xs ys x y = absurd (let k : Some end ≡ None = y.0 in cc)
    ended_in (stepped.Prints e) end differs makes xs ys x y = printed (event_of e) end xs ys x makes y
    ended_in stepped.Faulty end differs makes xs ys x y = told_faulty end xs ys x makes.0 makes.1 y
    ended_in (stepped.Untold why) end differs makes xs ys x y = subst (λ (o : Option Ended). DidSteps config seed steps l o (xs ++ ys)) (sym y.0) (untold_there why differs xs ys x y.1)

-- some of the steps were made
pub some_played : (config : Config) (seed : ℕ) (steps before behind : List Step) (r : Course) → steps ≡ before ++ behind → (xs : List WriteCall) → PlayedTo config seed before r xs → PlayedSome config seed steps xs
some_played config seed steps before behind r is xs x = record {
  before = before;
  after = behind;
  steps_are = is;
  prints = x.prints;
  course = r;
  plays = x.plays;
  writes_are = x.writes_are;
}

-- all of them were made
pub all_played : (config : Config) (seed : ℕ) (steps before : List Step) (r : Course) (l : List Entry) → before ≡ steps → r.entries ≡ l → (xs : List WriteCall) → PlayedTo config seed before r xs
    → Played config seed steps l xs
all_played config seed steps before r l is entries xs x = record {
  prints = x.prints;
  course = r;
  plays = subst (λ (k : List Step). Plays config seed k at_first x.prints r) is x.plays;
  entries_are = entries;
  writes_are = x.writes_are;
}

-- The end of the script, after all steps.

module _ (config : Config) (seed : ℕ) (steps : List Step) (l : List Entry) where
  no_more : (xs ys : List WriteCall) → ys ≡ [] → Played config seed steps l xs → Played config seed steps l (xs ++ ys)
  no_more xs ys none x = subst (λ (zs : List WriteCall). Played config seed steps l (xs ++ zs)) (sym none) (subst (Played config seed steps l) (sym (append-nil xs)) x)

  one_more : (xs ys : List WriteCall) (last : WriteCall) → ys ≡ last ∷ [] → Played config seed steps l xs → PlayedAnd config seed steps l (last ∷ []) (xs ++ ys)
  one_more xs ys last is x = record { front = xs; played = x; writes_are = ap (λ (zs : List WriteCall). xs ++ zs) is }

  after_tell : (line : ℕ) (end : Ended) → line ≡ length steps + 1 → (xs ys : List WriteCall) → Played config seed steps l xs → DidTell line end ys → DidWrite config seed steps ending.Outside end l (xs ++ ys)
  after_tell line ended.Finished at xs ys x y = absurd y
  after_tell line ended.ScriptFault at xs ys x y = inr (refl, one_more xs ys (written (ScriptFault (length steps + 1))) (y ∙ ap (λ (n : ℕ). written (ScriptFault n) ∷ []) at) x)
  after_tell line ended.ScriptRead at xs ys x y = absurd y
  after_tell line ended.PrintFault at xs ys x y = inr (refl, one_more xs ys (unwritten (ScriptFault (length steps + 1))) (y ∙ ap (λ (n : ℕ). unwritten (ScriptFault n) ∷ []) at) x)
  after_tell line ended.OutOfMemory at xs ys x y = record {
    before = steps;
    after = [];
    steps_are = sym (append-nil steps);
    prints = x.prints;
    course = x.course;
    plays = x.plays;
    writes_are = none_written xs ys x.prints x.writes_are y;
  }
  after_tell line ended.DeviceFault at xs ys x y = absurd y

  after_end : (line : ℕ) (how : Ending) (end : Ended) → line ≡ length steps + 1 → (xs ys : List WriteCall) → Played config seed steps l xs → DidEnd how line end ys → DidWrite config seed steps how end l (xs ++ ys)
  after_end line ending.End end at xs ys x y = subst (λ (e : Ended). DidWrite config seed steps ending.End e l (xs ++ ys)) (sym y.0) (refl, no_more xs ys y.1 x)
  after_end line ending.Outside end at xs ys x y = after_tell line end at xs ys x y
  after_end line ending.Fault end at xs ys x y = subst (λ (e : Ended). DidWrite config seed steps ending.Fault e l (xs ++ ys)) (sym y.0) (refl, no_more xs ys y.1 x)

  -- a replay that ended in its steps
  ended_early : (how : Ending) (already : Ended) (xs : List WriteCall) → DidSteps config seed steps l (Some already) xs → DidWrite config seed steps how already l xs
  ended_early how ended.Finished xs x = absurd x
  ended_early how ended.ScriptFault xs x = inl x
  ended_early how ended.ScriptRead xs x = absurd x
  ended_early how ended.PrintFault xs x = inl x
  ended_early how ended.OutOfMemory xs x = x
  ended_early how ended.DeviceFault xs x = x

  nothing_more : (P : List WriteCall → Type 0) (xs ys : List WriteCall) → ys ≡ [] → P xs → P (xs ++ ys)
  nothing_more P xs ys none p = subst (λ (zs : List WriteCall). P (xs ++ zs)) (sym none) (subst P (sym (append-nil xs)) p)

  after_all : (line : ℕ) (ran : Option Ended) (how : Ending) (end : Ended) → (ran ≡ None → line ≡ length steps + 1) → (xs ys : List WriteCall) → DidSteps config seed steps l ran xs
      → DidFinish ran how line end ys → DidWrite config seed steps how end l (xs ++ ys)
  after_all line None how end at xs ys x y = after_end line how end (at refl) xs ys x y
  after_all line (Some already) how end at xs ys x y =
      subst (λ (e : Ended). DidWrite config seed steps how e l (xs ++ ys)) (sym y.0) (nothing_more (DidWrite config seed steps how already l) xs ys y.1 (ended_early how already xs x))

  -- and then all calls were stopped
  and_stopped : (how : Ending) (end : Ended) → Stops config l → (xs : List WriteCall) → DidWrite config seed steps how end l xs → DidPlay config seed steps how end xs
  and_stopped how ended.Finished stops xs x = (l, x, stops)
  and_stopped how ended.ScriptFault stops xs x = (l, x, stops)
  and_stopped how ended.ScriptRead stops xs x = (l, x, stops)
  and_stopped how ended.PrintFault stops xs x = (l, x, stops)
  and_stopped how ended.OutOfMemory stops xs x = x
  and_stopped how ended.DeviceFault stops xs x = x

  pub after_stop : (line : ℕ) (ran : Option Ended) (how : Ending) (end : Ended) → (ran ≡ None → line ≡ length steps + 1) → Stops config l → (xs ys : List WriteCall)
      → DidSteps config seed steps l ran xs → DidFinish ran how line end ys → DidPlay config seed steps how end (xs ++ ys)
  after_stop line ran how end at stops xs ys x y = and_stopped how end stops (xs ++ ys) (after_all line ran how end at xs ys x y)

-- what was read with it
pub replays : (config : Config) (seed : ℕ) (steps : List Step) (how : Ending) (end : Ended) (read read_now : Option (List LineCall)) (wrote wrote_now : Option (List WriteCall))
    → Gained read read_now (ReadsScript steps how) → Wrote wrote wrote_now (DidPlay config seed steps how end) → Replays config seed end read read_now wrote wrote_now
replays config seed steps how end read read_now wrote wrote_now reads w = by_end end
    (record { steps = steps; how = how; writes = w.writes; did = w.holds; reads_are = reads; writes_are = w.log })
  where
    by_end : (e : Ended) → DidReplay config seed e read read_now wrote wrote_now → Replays config seed e read read_now wrote wrote_now
    by_end ended.Finished did = did
    by_end ended.ScriptFault did = did
    by_end ended.ScriptRead did = did
    by_end ended.PrintFault did = did
    by_end ended.OutOfMemory did = inr did
    by_end ended.DeviceFault did = did

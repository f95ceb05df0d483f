-- So they write one text.
use Rattle.std.proofs.Common.{◌≡◌, ◌∙◌, sym, ap, subst, refl, ℕ, ◌+◌, ◌⊎◌, inl, inr, List, [], ◌∷◌, ◌++◌, map, length, append_assoc, Bool, true, false, arith}
use Rattle.std.specs.Prelude.{◌||◌}
use Rattle.std.specs.List.{list_any}
use Rattle.histories.proofs.Lists.{equal}
use Rattle.relay_outside.specs.declared.lines.WriteCall.{WriteCall}
use Rattle.relay_outside.specs.declared.settings.Config.{Config}
use Rattle.relay_core.specs.Entries.{Entry}
use Rattle.relay_core.proofs.Turns.{nothing_is_orderly}
use Rattle.relay_script.specs.Steps as step
use Rattle.relay_script.specs.Steps.{Step}
use Rattle.relay_script.specs.EventLines.{Printed, ScriptFault}
use Rattle.replay_devices.specs.declared.script.Ending.{Ending}
use Rattle.replay_devices.specs.declared.script.Ending.TheVariants as ending
use Rattle.replay_steps.specs.declared.ended.Ended.{Ended}
use Rattle.replay_steps.specs.declared.ended.Ended.TheVariants as ended
use Rattle.replay_steps.specs.Steps.{Course, Packet, at_first, course_after, is_under, Makes, IsFaulty, Plays, Stops}
use Rattle.replay_steps.specs.Output.{written, Played, StopsAt, PlayedAnd}
use Rattle.replay_laws.specs.Alike.{NeverOutOfMemory, WritesOut, IsWrittenOut, SaysTheSame}
use Rattle.replay_laws.proofs.Beginnings.{Begins}
use Rattle.replay_laws.proofs.Turns.{begins_less}
use Rattle.replay_laws.proofs.Gaining.{play_gained}
use Rattle.replay_laws.proofs.Whole.{Went, first_both, stop_begins, fed_before, plays_once, faulty_too}

-- A step that was made could be made.

skip_over : (number : ℕ) (p : Packet) (before behind : List (ℕ × Packet)) → list_any (is_under number) (before ++ (number, p) ∷ behind) ≡ true
skip_over number p [] behind = rw (equal number number refl) refl
skip_over number p (h ∷ before) behind = by_case (is_under number h) (skip_over number p before behind)
  where
    by_case : (b : Bool) → list_any (is_under number) (before ++ (number, p) ∷ behind) ≡ true → (b || list_any (is_under number) (before ++ (number, p) ∷ behind)) ≡ true
    by_case true same = refl
    by_case false same = same

clash : {A : Type 0} → true ≡ false → A
clash e = absurd (let f : true ≡ false = e in cc)

made_right : (config : Config) (seed : ℕ) (r : Course) (s : Step) (p : List Printed) (x : Course) → Makes config seed r s p x → IsFaulty r s → ⊥
made_right config seed r step.Skip p x m faulty = faulty
made_right config seed r (step.At moment) p x m faulty = faulty
made_right config seed r (step.Key bytes) p x m faulty = faulty
made_right config seed r (step.Fail kind count) p x m faulty = faulty
made_right config seed r (step.FailSend port count) p x m faulty = faulty
made_right config seed r (step.Ng source bytes) p x m faulty = faulty
made_right config seed r (step.Take port source bytes) p x m faulty = let low = m.0 in omega (arith, low, faulty)
made_right config seed r (step.Relay number) p x m faulty =
    let a = m.holds in
    clash (sym (skip_over number a.packet a.before a.after) ∙ ap (list_any (is_under number)) (sym a.held_is) ∙ faulty)
made_right config seed r (step.Packet port source bytes) p x m faulty = faulty
made_right config seed r step.Tick p x m faulty = faulty

-- Of several steps, those up to one.

pub record Parted (config : Config) (seed : ℕ) (a b : List Step) (r : Course) (p : List Printed) (x : Course) : Type 0 where
  pub mid : Course
  pub first : List Printed
  pub rest : List Printed
  pub prints_are : p ≡ first ++ rest
  pub plays : Plays config seed a r first mid
  pub plays_on : Plays config seed b mid rest x

pub parted : (config : Config) (seed : ℕ) (a b : List Step) (r : Course) (p : List Printed) (x : Course) → Plays config seed (a ++ b) r p x → Parted config seed a b r p x
parted config seed [] b r p x plays = record { mid = r; first = []; rest = p; prints_are = refl; plays = (refl, refl); plays_on = plays }
parted config seed (s ∷ a) b r p x plays =
    let more = parted config seed a b (course_after s plays.0) plays.2 x plays.5 in
    record {
      mid = more.mid;
      first = plays.1 ++ more.first;
      rest = more.rest;
      prints_are = plays.3 ∙ ap (λ (xs : List Printed). plays.1 ++ xs) more.prints_are ∙ sym (append_assoc plays.1 more.first more.rest);
      plays = (plays.0, plays.1, more.first, refl, plays.4, more.plays);
      plays_on = more.plays_on;
    }

-- the steps of one list up to two of it
pub data InOrder (before : List Step) (one : Step) (first : List Step) (other : Step) : Type 0 where
  same : before ≡ first → InOrder before one first other
  earlier : (rest : List Step) → first ≡ before ++ one ∷ rest → InOrder before one first other
  later : (rest : List Step) → before ≡ first ++ other ∷ rest → InOrder before one first other

pub step_heads : (s t : Step) (ss ts : List Step) → s ∷ ss ≡ t ∷ ts → s ≡ t
step_heads s t ss ts e = cc

pub step_tails : (s t : Step) (ss ts : List Step) → s ∷ ss ≡ t ∷ ts → ss ≡ ts
step_tails s t ss ts e = cc

order_there : (s t : Step) (before first : List Step) (one other : Step) → s ≡ t → InOrder before one first other → InOrder (s ∷ before) one (t ∷ first) other
order_there s t before first one other is (same q) = same (ap (λ (x : Step). x ∷ before) is ∙ ap (λ (xs : List Step). t ∷ xs) q)
order_there s t before first one other is (earlier rest q) = earlier rest (ap (λ (xs : List Step). t ∷ xs) q ∙ ap (λ (x : Step). x ∷ before ++ one ∷ rest) (sym is))
order_there s t before first one other is (later rest q) = later rest (ap (λ (xs : List Step). s ∷ xs) q ∙ ap (λ (x : Step). x ∷ first ++ other ∷ rest) is)

pub in_order : (before behind first more : List Step) (one other : Step) → before ++ one ∷ behind ≡ first ++ other ∷ more → InOrder before one first other
in_order [] behind [] more one other is = same refl
in_order [] behind (t ∷ first) more one other is = earlier first (ap (λ (x : Step). x ∷ first) (sym (step_heads one t behind (first ++ other ∷ more) is)))
in_order (s ∷ before) behind [] more one other is = later before (ap (λ (x : Step). x ∷ before) (step_heads s other (before ++ one ∷ behind) more is))
in_order (s ∷ before) behind (t ∷ first) more one other is =
    order_there s t before first one other (step_heads s t (before ++ one ∷ behind) (first ++ other ∷ more) is)
    (in_order before behind first more one other (step_tails s t (before ++ one ∷ behind) (first ++ other ∷ more) is))

-- a replay up to here, after which comes a stop
pub record Ran (config : Config) (seed : ℕ) (steps : List Step) (p : List Printed) (x : Course) : Type 0 where
  pub plays : Plays config seed steps at_first p x
  pub begins : Begins config x.entries
  pub fed : NeverOutOfMemory x.entries

pub ran : (config : Config) (seed : ℕ) (steps : List Step) (p : List Printed) (x : Course) (l : List Entry) → Plays config seed steps at_first p x → x.entries ≡ l → Stops config l → NeverOutOfMemory l → Ran config seed steps p x
ran config seed steps p x l plays is stops fed = record {
  plays = plays;
  begins = stop_begins config x.entries (play_gained config seed steps at_first p x (nothing_is_orderly config) plays).orderly (subst (Stops config) (sym is) stops);
  fed = subst NeverOutOfMemory (sym is) fed;
}

pub both_went : (config : Config) (seed : ℕ) (steps : List Step) (p q : List Printed) (x y : Course) → Ran config seed steps p x → Ran config seed steps q y → Went config p q x y
both_went config seed steps p q x y a b = plays_once config seed steps at_first at_first p q x y (first_both config) a.plays b.plays a.begins b.begins a.fed b.fed

-- the first of its steps
pub front_ran : (config : Config) (seed : ℕ) (a b : List Step) (p : List Printed) (x : Course) → Ran config seed (a ++ b) p x → (parts : Parted config seed a b at_first p x)
    → Ran config seed a parts.first parts.mid
front_ran config seed a b p x ran parts =
    let orderly = (play_gained config seed a at_first parts.first parts.mid (nothing_is_orderly config) parts.plays).orderly in
    let grown = play_gained config seed b parts.mid parts.rest x orderly parts.plays_on in
    record {
      plays = parts.plays;
      begins = begins_less config parts.mid.entries grown.added x.entries grown.is grown.rising ran.begins;
      fed = fed_before parts.mid.entries x.entries grown.added grown.is ran.fed;
    }

-- what can't be made in the one is not made in the other
pub never_made : (config : Config) (seed : ℕ) (before : List Step) (it : Step) (rest : List Step) (p q : List Printed) (x y : Course) → Ran config seed before p x → IsFaulty x it
    → Ran config seed (before ++ it ∷ rest) q y → ⊥
never_made config seed before it rest p q x y a faulty b =
    let parts = parted config seed before (it ∷ rest) at_first q y b.plays in
    let mid : Course = parts.mid in
    let went = both_went config seed before p parts.first x mid a (front_ran config seed before (it ∷ rest) q y b parts) in
    made_right config seed mid it parts.plays_on.1 parts.plays_on.0 parts.plays_on.4 (faulty_too config x mid it went.both faulty)

-- What is written.

pub played_once : (config : Config) (seed : ℕ) (steps : List Step) (l k : List Entry) (v w : List WriteCall) → Played config seed steps l v → Played config seed steps k w
    → Stops config l → Stops config k → NeverOutOfMemory l → NeverOutOfMemory k → v ≡ w
played_once config seed steps l k v w a b s t fed fed_too =
    a.writes_are ∙ ap (map written) (both_went config seed steps a.prints b.prints a.course b.course
    (ran config seed steps a.prints a.course l a.plays a.entries_are s fed) (ran config seed steps b.prints b.course k b.plays b.entries_are t fed_too)).prints ∙ sym b.writes_are

pub stop_or_all : (config : Config) (seed : ℕ) (steps : List Step) (l k : List Entry) (v w : List WriteCall) → StopsAt config seed steps l v → Played config seed steps k w
    → Stops config l → Stops config k → NeverOutOfMemory l → NeverOutOfMemory k → ⊥
stop_or_all config seed steps l k v w a b s t fed fed_too =
    never_made config seed a.before a.step a.after a.prints b.prints a.course b.course (ran config seed a.before a.prints a.course l a.plays a.entries_are s fed) a.faulty
    (ran config seed (a.before ++ a.step ∷ a.after) b.prints b.course k (subst (λ (x : List Step). Plays config seed x at_first b.prints b.course) a.steps_are b.plays) b.entries_are t fed_too)

stops_once : (config : Config) (seed : ℕ) (steps : List Step) (l k : List Entry) (v w : List WriteCall) → StopsAt config seed steps l v → StopsAt config seed steps k w
    → Stops config l → Stops config k → NeverOutOfMemory l → NeverOutOfMemory k → v ≡ w
stops_once config seed steps l k v w a b s t fed fed_too = by_case (in_order a.before a.after b.before b.after a.step b.step (sym a.steps_are ∙ b.steps_are))
  where
    left : Ran config seed a.before a.prints a.course
    left = ran config seed a.before a.prints a.course l a.plays a.entries_are s fed

    right : Ran config seed b.before b.prints b.course
    right = ran config seed b.before b.prints b.course k b.plays b.entries_are t fed_too

    by_case : InOrder a.before a.step b.before b.step → v ≡ w
    by_case (same q) =
        a.writes_are
        ∙ ap (λ (xs : List Printed). map written (xs ++ ScriptFault (length a.before + 1) ∷ []))
        (both_went config seed b.before a.prints b.prints a.course b.course (subst (λ (x : List Step). Ran config seed x a.prints a.course) q left) right).prints
        ∙ ap (λ (x : List Step). map written (b.prints ++ ScriptFault (length x + 1) ∷ [])) q ∙ sym b.writes_are
    by_case (earlier rest q) =
        absurd (never_made config seed a.before a.step rest a.prints b.prints a.course b.course left a.faulty (subst (λ (x : List Step). Ran config seed x b.prints b.course) q right))
    by_case (later rest q) =
        absurd (never_made config seed b.before b.step rest b.prints a.prints b.course a.course right b.faulty (subst (λ (x : List Step). Ran config seed x a.prints a.course) q left))

-- By how both ended.

end_fault : ending.End ≡ ending.Fault → ⊥
end_fault e = cc

pub end_outside : ending.End ≡ ending.Outside → ⊥
end_outside e = cc

pub fault_outside : ending.Fault ≡ ending.Outside → ⊥
fault_outside e = cc

pub writes_once : (config : Config) (seed : ℕ) (steps : List Step) (how : Ending) (end other : Ended) (v w : List WriteCall) → IsWrittenOut end → IsWrittenOut other
    → WritesOut config seed steps how end v → WritesOut config seed steps how other w → SaysTheSame end other v w
writes_once config seed steps how ended.Finished ended.Finished v w i j a b =
    record { end = refl; writes = played_once config seed steps a.entries b.entries v w a.wrote.1 b.wrote.1 a.stopped b.stopped a.fed b.fed }
writes_once config seed steps how ended.ScriptRead ended.ScriptRead v w i j a b =
    record { end = refl; writes = played_once config seed steps a.entries b.entries v w a.wrote.1 b.wrote.1 a.stopped b.stopped a.fed b.fed }
writes_once config seed steps how ended.Finished ended.ScriptRead v w i j a b = absurd (end_fault (sym a.wrote.0 ∙ b.wrote.0))
writes_once config seed steps how ended.ScriptRead ended.Finished v w i j a b = absurd (end_fault (sym b.wrote.0 ∙ a.wrote.0))
writes_once config seed steps how ended.Finished ended.ScriptFault v w i j a b = elim b.wrote [
  | inl stops ↦ absurd (stop_or_all config seed steps b.entries a.entries w v stops a.wrote.1 b.stopped a.stopped b.fed a.fed)
  | inr outside ↦ absurd (end_outside (sym a.wrote.0 ∙ outside.0))
]
writes_once config seed steps how ended.ScriptFault ended.Finished v w i j a b = elim a.wrote [
  | inl stops ↦ absurd (stop_or_all config seed steps a.entries b.entries v w stops b.wrote.1 a.stopped b.stopped a.fed b.fed)
  | inr outside ↦ absurd (end_outside (sym b.wrote.0 ∙ outside.0))
]
writes_once config seed steps how ended.ScriptRead ended.ScriptFault v w i j a b = elim b.wrote [
  | inl stops ↦ absurd (stop_or_all config seed steps b.entries a.entries w v stops a.wrote.1 b.stopped a.stopped b.fed a.fed)
  | inr outside ↦ absurd (fault_outside (sym a.wrote.0 ∙ outside.0))
]
writes_once config seed steps how ended.ScriptFault ended.ScriptRead v w i j a b = elim a.wrote [
  | inl stops ↦ absurd (stop_or_all config seed steps a.entries b.entries v w stops b.wrote.1 a.stopped b.stopped a.fed b.fed)
  | inr outside ↦ absurd (fault_outside (sym b.wrote.0 ∙ outside.0))
]
writes_once config seed steps how ended.ScriptFault ended.ScriptFault v w i j a b = record { end = refl; writes = by_case a.wrote b.wrote }
  where
    by_case : StopsAt config seed steps a.entries v ⊎ ((how ≡ ending.Outside) × PlayedAnd config seed steps a.entries (written (ScriptFault (length steps + 1)) ∷ []) v)
        → StopsAt config seed steps b.entries w ⊎ ((how ≡ ending.Outside) × PlayedAnd config seed steps b.entries (written (ScriptFault (length steps + 1)) ∷ []) w) → v ≡ w
    by_case (inl p) (inl q) = stops_once config seed steps a.entries b.entries v w p q a.stopped b.stopped a.fed b.fed
    by_case (inl p) (inr q) = absurd (stop_or_all config seed steps a.entries b.entries v q.1.front p q.1.played a.stopped b.stopped a.fed b.fed)
    by_case (inr p) (inl q) = absurd (stop_or_all config seed steps b.entries a.entries w p.1.front q p.1.played b.stopped a.stopped b.fed a.fed)
    by_case (inr p) (inr q) =
        p.1.writes_are ∙ ap (λ (xs : List WriteCall). xs ++ written (ScriptFault (length steps + 1)) ∷ [])
        (played_once config seed steps a.entries b.entries p.1.front q.1.front p.1.played q.1.played a.stopped b.stopped a.fed b.fed) ∙ sym q.1.writes_are
writes_once config seed steps how ended.PrintFault other v w i j a b = absurd i
writes_once config seed steps how ended.OutOfMemory other v w i j a b = absurd i
writes_once config seed steps how ended.DeviceFault other v w i j a b = absurd i
writes_once config seed steps how end ended.PrintFault v w i j a b = absurd j
writes_once config seed steps how end ended.OutOfMemory v w i j a b = absurd j
writes_once config seed steps how end ended.DeviceFault v w i j a b = absurd j

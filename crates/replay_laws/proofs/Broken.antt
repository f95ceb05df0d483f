-- A replay whose output failed broke off in a line of what another one wrote that wrote all.
use Rattle.std.proofs.Common.{◌≡◌, ◌∙◌, sym, ap, subst, refl, ℕ, ◌+◌, inl, inr, List, [], ◌∷◌, ◌++◌, map, length, append_assoc, true}
use Rattle.std.proofs.lemmas.List.{map-append, append-nil}
use Rattle.relay_outside.specs.declared.lines.WriteCall.{WriteCall}
use Rattle.relay_outside.specs.declared.lines.WriteCall.TheVariants.{Write}
use Rattle.relay_outside.specs.declared.settings.Config.{Config}
use Rattle.relay_core.specs.Entries.{Entry}
use Rattle.relay_script.specs.EventLines.{Printed, ScriptFault, printed_line}
use Rattle.relay_script.specs.Steps.{Step}
use Rattle.replay_devices.specs.declared.script.Ending.{Ending}
use Rattle.replay_devices.specs.declared.script.Ending.TheVariants as ending
use Rattle.replay_steps.specs.declared.ended.Ended.{Ended}
use Rattle.replay_steps.specs.declared.ended.Ended.TheVariants as ended
use Rattle.replay_steps.specs.Steps.{Course, at_first, course_after, Makes, IsFaulty, Stops}
use Rattle.replay_steps.specs.Output.{written, unwritten, Played, PlayedAnd, StopsAt, FailsAt, Demands}
use Rattle.replay_steps.proofs.Courses.{plays_more}
use Rattle.replay_laws.specs.Alike.{NeverOutOfMemory, WritesOut, IsWrittenOut, BreaksOff}
use Rattle.replay_laws.proofs.Texts.{InOrder, same, earlier, later, in_order, step_heads, step_tails, parted, Ran, ran, both_went, front_ran, never_made, played_once, stop_or_all, end_outside, fault_outside}

-- Where the steps of the one end, and those of the other.

data Cut (front before : List Step) (one : Step) : Type 0 where
  inside : (rest : List Step) → before ≡ front ++ rest → Cut front before one
  beyond : (rest : List Step) → front ≡ before ++ one ∷ rest → Cut front before one

cut_there : (s t : Step) (front before : List Step) (one : Step) → s ≡ t → Cut front before one → Cut (s ∷ front) (t ∷ before) one
cut_there s t front before one is (inside rest q) = inside rest (ap (λ (xs : List Step). t ∷ xs) q ∙ ap (λ (x : Step). x ∷ front ++ rest) (sym is))
cut_there s t front before one is (beyond rest q) = beyond rest (ap (λ (xs : List Step). s ∷ xs) q ∙ ap (λ (x : Step). x ∷ before ++ one ∷ rest) is)

cut : (front course_after before behind : List Step) (one : Step) → front ++ course_after ≡ before ++ one ∷ behind → Cut front before one
cut [] course_after before behind one is = inside before refl
cut (s ∷ front) course_after [] behind one is = beyond front (ap (λ (x : Step). x ∷ front) (step_heads s one (front ++ course_after) behind is))
cut (s ∷ front) course_after (t ∷ before) behind one is =
    cut_there s t front before one (step_heads s t (front ++ course_after) (before ++ one ∷ behind) is)
    (cut front course_after before behind one (step_tails s t (front ++ course_after) (before ++ one ∷ behind) is))

-- Of steps of which the one made the first, it printed the first.

against : (config : Config) (seed : ℕ) (front rest : List Step) (p q : List Printed) (x y : Course) → Ran config seed front p x → Ran config seed (front ++ rest) q y
    → (more : List Printed) × (q ≡ p ++ more)
against config seed front rest p q x y a b =
    let parts = parted config seed front rest at_first q y b.plays in (
      parts.rest,
      parts.prints_are
          ∙ ap (λ (xs : List Printed). xs ++ parts.rest) (sym (both_went config seed front p parts.first x parts.mid a (front_ran config seed front rest q y b parts)).prints),
    )

broken_by : (p : List Printed) (e : Printed) (more : List Printed) (v w : List WriteCall) → v ≡ map written p ++ unwritten e ∷ [] → w ≡ map written ((p ++ e ∷ []) ++ more) → BreaksOff v w
broken_by p e more v w is too = record {
  front = map written p;
  line = printed_line e ++ 10 ∷ [];
  rest = map written more;
  first_is = is;
  second_is =
      too ∙ map-append written (p ++ e ∷ []) more ∙ ap (λ (xs : List WriteCall). xs ++ map written more) (map-append written p (e ∷ []))
      ∙ append_assoc (map written p) (written e ∷ []) (map written more);
}

broken_more : (v w : List WriteCall) (text tail : List WriteCall) → text ≡ w ++ tail → BreaksOff v w → BreaksOff v text
broken_more v w text tail is b = record {
  front = b.front;
  line = b.line;
  rest = b.rest ++ tail;
  first_is = b.first_is;
  second_is = is ∙ ap (λ (xs : List WriteCall). xs ++ tail) b.second_is ∙ append_assoc b.front (Write b.line true ∷ b.rest) tail;
}

-- A step whose line was not written.
module _ (config : Config) (seed : ℕ) (steps : List Step) (l : List Entry) (v : List WriteCall) (a : FailsAt config seed steps l v) (s : Stops config l) (fed : NeverOutOfMemory l) where
  abbrev front : List Step
  front = a.before ++ a.step ∷ []

  front_is : steps ≡ front ++ a.after
  front_is = a.steps_are ∙ sym (append_assoc a.before (a.step ∷ []) a.after)

  -- it was made
  made : Makes config seed a.course a.step (a.event ∷ []) a.last → Ran config seed front (a.prints ++ a.event ∷ []) (course_after a.step a.last)
  made makes =
      ran config seed front (a.prints ++ a.event ∷ []) (course_after a.step a.last) l (plays_more config seed a.before at_first a.prints a.course a.step (a.event ∷ []) a.last a.plays makes) a.entries_are s fed

  -- it can't be made
  stood : a.last ≡ a.course → Ran config seed a.before a.prints a.course
  stood is = ran config seed a.before a.prints a.course l a.plays (sym (ap (λ (c : Course). c.entries) is) ∙ a.entries_are) s fed

  fails_all : (k : List Entry) (w : List WriteCall) → Played config seed steps k w → Stops config k → NeverOutOfMemory k → BreaksOff v w
  fails_all k w b t fed_too = by_case a.demands
    where
      all : (whole : List Step) → steps ≡ whole → Ran config seed whole b.prints b.course
      all whole is = subst (λ (x : List Step). Ran config seed x b.prints b.course) is (ran config seed steps b.prints b.course k b.plays b.entries_are t fed_too)

      by_case : Demands config seed a.course a.step (length a.before + 1) a.event a.last → BreaksOff v w
      by_case (inl makes) =
          let more = against config seed front a.after (a.prints ++ a.event ∷ []) b.prints (course_after a.step a.last) b.course (made makes) (all (front ++ a.after) front_is) in
          broken_by a.prints a.event more.0 v w a.writes_are (b.writes_are ∙ ap (map written) more.1)
      by_case (inr faulty) =
          absurd (never_made config seed a.before a.step a.after a.prints b.prints a.course b.course (stood faulty.2) faulty.0 (all (a.before ++ a.step ∷ a.after) a.steps_are))

  fails_stops : (k : List Entry) (w : List WriteCall) → StopsAt config seed steps k w → Stops config k → NeverOutOfMemory k → BreaksOff v w
  fails_stops k w b t fed_too = by_case a.demands
    where
      right : Ran config seed b.before b.prints b.course
      right = ran config seed b.before b.prints b.course k b.plays b.entries_are t fed_too

      rightly : (whole : List Step) → b.before ≡ whole → Ran config seed whole b.prints b.course
      rightly whole is = subst (λ (x : List Step). Ran config seed x b.prints b.course) is right

      by_cut : Makes config seed a.course a.step (a.event ∷ []) a.last → Cut front b.before b.step → BreaksOff v w
      by_cut makes (inside rest q) =
          let more = against config seed front rest (a.prints ++ a.event ∷ []) b.prints (course_after a.step a.last) b.course (made makes) (rightly (front ++ rest) q) in
          let last : List Printed = ScriptFault (length b.before + 1) ∷ [] in
          broken_by a.prints a.event (more.0 ++ last) v w a.writes_are
          (b.writes_are ∙ ap (λ (xs : List Printed). map written (xs ++ last)) more.1 ∙ ap (map written) (append_assoc (a.prints ++ a.event ∷ []) more.0 last))
      by_cut makes (beyond rest q) =
          absurd (never_made config seed b.before b.step rest b.prints (a.prints ++ a.event ∷ []) b.course (course_after a.step a.last) right b.faulty
          (subst (λ (x : List Step). Ran config seed x (a.prints ++ a.event ∷ []) (course_after a.step a.last)) q (made makes)))

      by_order : IsFaulty a.course a.step → a.event ≡ ScriptFault (length a.before + 1) → Ran config seed a.before a.prints a.course → InOrder a.before a.step b.before b.step → BreaksOff v w
      by_order faulty event left (same q) =
          let went = both_went config seed b.before a.prints b.prints a.course b.course (subst (λ (x : List Step). Ran config seed x a.prints a.course) q left) right in
          let last : ScriptFault (length b.before + 1) ≡ a.event = ap (λ (x : List Step). ScriptFault (length x + 1)) (sym q) ∙ sym event in
          broken_by a.prints a.event [] v w a.writes_are
          (b.writes_are ∙ ap (λ (xs : List Printed). map written (xs ++ ScriptFault (length b.before + 1) ∷ [])) (sym went.prints)
          ∙ ap (λ (x : Printed). map written (a.prints ++ x ∷ [])) last ∙ ap (map written) (sym (append-nil (a.prints ++ a.event ∷ []))))
      by_order faulty event left (earlier rest q) =
          absurd (never_made config seed a.before a.step rest a.prints b.prints a.course b.course left faulty (rightly (a.before ++ a.step ∷ rest) q))
      by_order faulty event left (later rest q) =
          absurd (never_made config seed b.before b.step rest b.prints a.prints b.course a.course right b.faulty (subst (λ (x : List Step). Ran config seed x a.prints a.course) q left))

      by_case : Demands config seed a.course a.step (length a.before + 1) a.event a.last → BreaksOff v w
      by_case (inl makes) = by_cut makes (cut front a.after b.before b.after b.step (sym front_is ∙ b.steps_are))
      by_case (inr faulty) =
          by_order faulty.0 faulty.1 (stood faulty.2) (in_order a.before a.after b.before b.after a.step b.step (sym a.steps_are ∙ b.steps_are))

-- By how the other ended.

module _ (config : Config) (seed : ℕ) (steps : List Step) (how : Ending) (v w : List WriteCall) where
  -- the line of a step was not written
  step_broken : (other : Ended) → IsWrittenOut other → (l : List Entry) → FailsAt config seed steps l v → Stops config l → NeverOutOfMemory l → WritesOut config seed steps how other w → BreaksOff v w
  step_broken ended.Finished j l a s fed b = fails_all config seed steps l v a s fed b.entries w b.wrote.1 b.stopped b.fed
  step_broken ended.ScriptRead j l a s fed b = fails_all config seed steps l v a s fed b.entries w b.wrote.1 b.stopped b.fed
  step_broken ended.ScriptFault j l a s fed b = elim b.wrote [
    | inl stops ↦ fails_stops config seed steps l v a s fed b.entries w stops b.stopped b.fed
    | inr all ↦ broken_more v all.1.front w _ all.1.writes_are (fails_all config seed steps l v a s fed b.entries all.1.front all.1.played b.stopped b.fed)
  ]
  step_broken ended.PrintFault j l a s fed b = absurd j
  step_broken ended.OutOfMemory j l a s fed b = absurd j
  step_broken ended.DeviceFault j l a s fed b = absurd j

  -- the line that tells of a line outside the grammar was not written
  last_broken : (other : Ended) → IsWrittenOut other → (l : List Entry) → how ≡ ending.Outside → PlayedAnd config seed steps l (unwritten (ScriptFault (length steps + 1)) ∷ []) v → Stops config l → NeverOutOfMemory l
      → WritesOut config seed steps how other w → BreaksOff v w
  last_broken ended.Finished j l out a s fed b = absurd (end_outside (sym b.wrote.0 ∙ out))
  last_broken ended.ScriptRead j l out a s fed b = absurd (fault_outside (sym b.wrote.0 ∙ out))
  last_broken ended.ScriptFault j l out a s fed b = elim b.wrote [
    | inl stops ↦ absurd (stop_or_all config seed steps b.entries l w a.front stops a.played b.stopped s b.fed fed)
    | inr all ↦ record {
      front = a.front;
      line = printed_line (ScriptFault (length steps + 1)) ++ 10 ∷ [];
      rest = [];
      first_is = a.writes_are;
      second_is =
          all.1.writes_are
          ∙ ap (λ (xs : List WriteCall). xs ++ written (ScriptFault (length steps + 1)) ∷ [])
          (played_once config seed steps b.entries l all.1.front a.front all.1.played a.played b.stopped s b.fed fed);
    }
  ]
  last_broken ended.PrintFault j l out a s fed b = absurd j
  last_broken ended.OutOfMemory j l out a s fed b = absurd j
  last_broken ended.DeviceFault j l out a s fed b = absurd j

pub writes_broken : (config : Config) (seed : ℕ) (steps : List Step) (how : Ending) (other : Ended) (v w : List WriteCall) → IsWrittenOut other
    → WritesOut config seed steps how ended.PrintFault v → WritesOut config seed steps how other w → BreaksOff v w
writes_broken config seed steps how other v w j a b = elim a.wrote [
  | inl fails ↦ step_broken config seed steps how v w other j a.entries fails a.stopped a.fed b
  | inr all ↦ last_broken config seed steps how v w other j a.entries all.0 all.1 a.stopped a.fed b
]

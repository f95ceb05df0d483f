use Rattle.std.proofs.Common.{◌∙◌, ◌+◌, suc, refl, sym, ap, subst, List, [], ◌∷◌, ◌++◌, Some, None, map, drop, arith}
use Rattle.std.proofs.lemmas.List.{append_assoc}
use Rattle.relay_core.specs.Turns.{made_by}
use Rattle.relay_script.specs.Steps.{Step, step_meaning}
use Rattle.replay_devices.specs.Devices.{Happening, Made}
use Rattle.replay_devices.specs.Watch.{step_of}
use Rattle.replay_steps.specs.Ready.{course_at}
use Rattle.replay_steps.specs.Steps.{Course, course_after}
use Rattle.replay_steps.specs.Output.{DidStep, Played, PlayedSome, DidSteps}
use Rattle.replay_steps.proofs.Fronts.{upto, step_at, upto_next, upto_count, upto_all}
use Rattle.replay_steps.proofs.Steps.{ready_still}
use Rattle.replay_steps.proofs.Watchings.{some_step, one_step}
use Rattle.replay_steps.proofs.Writings.{PlayedTo, wrote_none, wrote_both, wrote_less, none_played, went_on, ended_in, some_played, all_played}
use Rattle.replay_steps.proofs.script_steps.play_steps.Goals as goal

pub steps-init : goal.steps-init
steps-init g c = record {
  same = (refl, refl, refl, refl);
  ready = c.requires.ready;
  received = let none = ap (λ (r : Course). r.received) c.requires.none in omega (arith, none);
  below = omega arith;
  numbered = refl;
  log = λ seed begins. ([], begins, wrote_none (g.O.LineSink.log c.args.out.now) _ (none_played c.args.replayer.now.server.config seed _ c.requires.none));
  later = omega arith;
}

pub returns-in-Some-clause-log : goal.returns-in-Some-clause-log
returns-in-Some-clause-log g c seed begins =
    let config = c.args.replayer.now.server.config in
    let steps = c.args.steps.now in
    let made = c.steps.made in
    let x = c.index-steps-made.result in
    let did = c.make_step-stepped.result.0 in
    let shown = c.steps.invariant.log seed begins in
    let from : List Happening → Course = λ past. course_at c.steps.state past in
    let to : List Happening → Course = λ past. course_at c.make_step-stepped.result.1 past in
    let step = some_step config seed from (step_meaning x) did to c.steps.state.watch c.make_step-stepped.result.1.watch (c.make_step-stepped.ensures.steps seed) shown.0 shown.1 in
    let less = c.steps-test.true in
    let count = upto_count steps made x less c.index-steps-made.is in
    let numbered = c.steps.invariant.numbered in
    wrote_both (g.O.LineSink.log c.args.out.now) (g.O.LineSink.log c.steps.out) (g.O.LineSink.log c.write_step.new.out) (PlayedTo config seed (upto made steps) (from shown.0))
    (DidStep did (c.steps.line + 1) (Some c.in-Some.ended)) (DidSteps config seed (map step_meaning steps) (made_by c.make_step-stepped.result.1.hand) (Some c.in-Some.ended))
    (ended_in config seed (upto made steps) (from shown.0) (step_meaning x) (to step.0) (c.steps.line + 1) (map step_meaning steps) (map step_meaning (drop (suc made) steps)) (step_at steps made x less c.index-steps-made.is)
    (made_by c.make_step-stepped.result.1.hand) (omega (arith, count, numbered)) refl did c.in-Some.ended c.make_step-stepped.ensures.differs step.1)
    shown.2 c.in-Some.ensures.log

pub returns-in_default-clause-log : goal.returns-in_default-clause-log
returns-in_default-clause-log g c seed begins =
    let config = c.args.replayer.now.server.config in
    let steps = c.args.steps.now in
    let made = c.steps.made in
    let x = c.index-steps-made.result in
    let shown = c.steps.invariant.log seed begins in
    let at = course_at c.steps.state shown.0 in
    wrote_less (g.O.LineSink.log c.args.out.now) (g.O.LineSink.log c.steps.out) (PlayedTo config seed (upto made steps) at) (PlayedSome config seed (map step_meaning steps))
    (some_played config seed (map step_meaning steps) (upto made steps) (step_meaning x ∷ map step_meaning (drop (suc made) steps)) at (step_at steps made x c.steps-test.true c.index-steps-made.is)) shown.2

pub returns-then-not-tell-clause-log : goal.returns-then-not-tell-clause-log
returns-then-not-tell-clause-log g c seed begins =
    let config = c.args.replayer.now.server.config in
    let steps = c.args.steps.now in
    let made = c.steps.made in
    let x = c.index-steps-made.result in
    let did = c.make_step-stepped.result.0 in
    let shown = c.steps.invariant.log seed begins in
    let from : List Happening → Course = λ past. course_at c.steps.state past in
    let to : List Happening → Course = λ past. course_at c.make_step-stepped.result.1 past in
    let step = one_step config seed from (step_meaning x) did to c.steps.state.watch c.make_step-stepped.result.1.watch (c.make_step-stepped.ensures.steps seed) shown.0 shown.1 (c.write_step.ensures.known c.in-None.is) in
    let less = c.steps-test.true in
    let behind = map step_meaning (drop (suc made) steps) in
    wrote_both (g.O.LineSink.log c.args.out.now) (g.O.LineSink.log c.steps.out) (g.O.LineSink.log c.write_step.new.out) (PlayedTo config seed (upto made steps) (from shown.0))
    (DidStep did (c.steps.line + 1) None) (PlayedSome config seed (map step_meaning steps))
    (λ xs ys played wrote. some_played config seed (map step_meaning steps) (upto made steps ++ step_meaning x ∷ []) behind (course_after (step_meaning x) (to step.0))
    (step_at steps made x less c.index-steps-made.is ∙ sym (append_assoc (upto made steps) (step_meaning x ∷ []) behind)) (xs ++ ys)
    (went_on config seed (upto made steps) (from shown.0) (step_meaning x) (to step.0) (c.steps.line + 1) did step.1 xs ys played wrote))
    shown.2 c.in-None.ensures.log

pub returns-clause-log : goal.returns-clause-log
returns-clause-log g c seed begins =
    let config = c.args.replayer.now.server.config in
    let steps = c.args.steps.now in
    let made = c.steps.made in
    let shown = c.steps.invariant.log seed begins in
    let most = c.steps.invariant.below in
    let least = c.steps-test.false in
    let at = course_at c.steps.state shown.0 in
    wrote_less (g.O.LineSink.log c.args.out.now) (g.O.LineSink.log c.steps.out) (PlayedTo config seed (upto made steps) at) (Played config seed (map step_meaning steps) (made_by c.steps.state.hand))
    (all_played config seed (map step_meaning steps) (upto made steps) at (made_by c.steps.state.hand) (upto_all steps made (omega (arith, most, least))) refl) shown.2

pub steps-preserved : goal.steps-preserved
steps-preserved g c =
    let config = c.args.replayer.now.server.config in
    let steps = c.args.steps.now in
    let made = c.steps.made in
    let x = c.index-steps-made.result in
    let did = c.make_step-stepped.result.0 in
    let from : List Happening → Course = λ past. course_at c.steps.state past in
    let to : List Happening → Course = λ past. course_at c.make_step-stepped.result.1 past in
    let numbered = c.steps.invariant.numbered in
    let test = c.steps-test.true in
    let was = c.steps.invariant.same in
    let is = c.make_step-stepped.ensures.same in
    let before = c.steps.invariant.received in
    let more = c.make_step-stepped.ensures.received in
    let early = c.steps.invariant.later in
    let late = c.write_step.ensures.later in
    record {
      same = (is.0 ∙ was.0, is.1 ∙ was.1, is.2 ∙ was.2, is.3 ∙ was.3);
      ready = ready_still c.args.replayer.now c.make_step-stepped.result.1 _ c.make_step-stepped.ensures.ready refl refl refl;
      received = omega (arith, before, more);
      below = omega (arith, test);
      numbered = omega (arith, numbered);
      log = λ seed begins.
          let shown = c.steps.invariant.log seed begins in
          let step = one_step config seed from (step_meaning x) did to c.steps.state.watch c.make_step-stepped.result.1.watch (c.make_step-stepped.ensures.steps seed) shown.0 shown.1 (c.write_step.ensures.known c.in-None.is) in (
            Made (step_of (step_meaning x)) ∷ step.0,
            c.in-Ok.ensures config seed step.0 step.2,
            wrote_both (g.O.LineSink.log c.args.out.now) (g.O.LineSink.log c.steps.out) (g.O.LineSink.log c.write_step.new.out) (PlayedTo config seed (upto made steps) (from shown.0))
                (DidStep did (c.steps.line + 1) None) (PlayedTo config seed (upto (made + 1) steps) (course_after (step_meaning x) (to step.0)))
                (λ xs ys played wrote. subst (λ (k : List Step). PlayedTo config seed k (course_after (step_meaning x) (to step.0)) (xs ++ ys)) (upto_next steps made x test c.index-steps-made.is)
                (went_on config seed (upto made steps) (from shown.0) (step_meaning x) (to step.0) (c.steps.line + 1) did step.1 xs ys played wrote))
                shown.2 c.in-None.ensures.log,
          );
      later = omega (arith, early, late);
    }

pub make_step-stepped-requires-clause-ready : goal.make_step-stepped-requires-clause-ready
make_step-stepped-requires-clause-ready g c =
    ready_still c.args.replayer.now c.steps.state _ c.steps.invariant.ready refl c.begin.ensures.ports refl

pub returns-in-Some-clause-ready : goal.returns-in-Some-clause-ready
returns-in-Some-clause-ready g c =
    ready_still c.args.replayer.now c.make_step-stepped.result.1 _ c.make_step-stepped.ensures.ready refl refl refl

pub returns-in_default-clause-ready : goal.returns-in_default-clause-ready
returns-in_default-clause-ready g c =
    ready_still c.args.replayer.now c.make_step-stepped.result.1 _ c.make_step-stepped.ensures.ready refl refl refl

pub returns-then-not-tell-clause-ready : goal.returns-then-not-tell-clause-ready
returns-then-not-tell-clause-ready g c =
    ready_still c.args.replayer.now c.make_step-stepped.result.1 _ c.make_step-stepped.ensures.ready refl refl refl

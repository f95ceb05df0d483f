use Rattle.std.proofs.Common.{◌∙◌, subst, inl, inr, refl, true, false}
use Rattle.relay_runs.specs.declared.status.Status.TheVariants as status
use Rattle.relay_runs.specs.Preparations.{IsPreparedRun}
use Rattle.relay_runs.specs.Rounds.{lane_count}
use Rattle.relay_runs.proofs.Runs.{loop_prints, not_begun, not_bound, bound_runs}
use Rattle.relay_runs.proofs.serve_command.serve.Goals as goal

pub returns-in_default-clause-served : goal.returns-in_default-clause-served
returns-in_default-clause-served g c = not_begun c.args.settings.now _ _ _ _ refl refl refl refl

pub returns-in_default-reserve-clause-served : goal.returns-in_default-reserve-clause-served
returns-in_default-reserve-clause-served g c = not_begun c.args.settings.now _ _ _ _ refl refl refl refl

pub serve_turns-looped-requires-clause-prepared : goal.serve_turns-looped-requires-clause-prepared
serve_turns-looped-requires-clause-prepared g c lifetimes within =
    let settings = c.args.settings.now in
    let prepared = c.in-Ok-reserve.prepared in
    let share = c.serve_share-share in
    subst (λ n. IsPreparedRun settings.config n (lane_count settings.config settings.threads) prepared) share.ensures.threads
    (subst (λ n. IsPreparedRun settings.config share.result.threads n prepared) share.ensures.lanes c.in-Ok-reserve.ensures.prepared)

pub returns-in_default-bind-clause-served : goal.returns-in_default-bind-clause-served
returns-in_default-bind-clause-served g c = not_bound c.args.settings.now _ _ _ _ c.in_default-bind.ensures.log refl refl refl

pub returns-in-Ok-write-clause-served : goal.returns-in-Ok-write-clause-served
returns-in-Ok-write-clause-served g c =
    bound_runs _ _ _ _ _ _ _ _ _ _ _ _ _ c.args.settings.now _ _ _ c.serve_turns-looped.result.status c.serve_turns-looped.result.counts c.serve_turns-looped.result.totals
    c.in-Ok-bind.ensures.log c.in-Ok-reserve.ensures.prepared.config_is c.serve_turns-looped.ensures.did
    c.serve_turns-looped.result.status _ _ c.as_slice.result.now true (inl refl) (c.as_slice.ensures ∙ c.put_totals.ensures)
    (loop_prints c.serve_turns-looped.result.status c.serve_turns-looped.ensures.ends) c.in-Ok-write.ensures.log

pub returns-clause-served : goal.returns-clause-served
returns-clause-served g c =
    bound_runs _ _ _ _ _ _ _ _ _ _ _ _ _ c.args.settings.now _ _ _ c.serve_turns-looped.result.status c.serve_turns-looped.result.counts c.serve_turns-looped.result.totals
    c.in-Ok-bind.ensures.log c.in-Ok-reserve.ensures.prepared.config_is c.serve_turns-looped.ensures.did
    status.PrintFault _ _ c.as_slice.result.now false (inr refl) (c.as_slice.ensures ∙ c.put_totals.ensures) refl c.in-Err.ensures.log

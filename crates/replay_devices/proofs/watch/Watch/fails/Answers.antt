use Rattle.std.proofs.Common.{◌∙◌, sym, ap}
use Rattle.relay_script.specs.declared.step.FailKind.{FailKind}
use Rattle.replay_devices.specs.Steps as model
use Rattle.replay_devices.specs.Devices.{fails}
use Rattle.replay_devices.specs.Watch.{WatchState, model_kind}
use Rattle.replay_devices.proofs.Watches.{counts_fail}
use Rattle.replay_devices.proofs.watch.Watch.fails.Goals as goal

pub returns-in-Open : goal.returns-in-Open
returns-in-Open c config seed past s =
    c.next_fails.ensures ∙ counts_fail model.Opening past c.self.inside.opens.list (ap (λ (w : WatchState). w.opens) c.self.view_is ∙ s.opens_are)
    ∙ ap (λ (kind : FailKind). fails (model_kind kind) past) (sym c.in-Open.is)

pub returns-in-Draw : goal.returns-in-Draw
returns-in-Draw c config seed past s =
    c.next_fails-in-Draw.ensures ∙ counts_fail model.Drawing past c.self.inside.draws.list (ap (λ (w : WatchState). w.draws) c.self.view_is ∙ s.draws_are)
    ∙ ap (λ (kind : FailKind). fails (model_kind kind) past) (sym c.in-Draw.is)

pub returns-in-Take : goal.returns-in-Take
returns-in-Take c config seed past s =
    c.next_fails-in-Take.ensures ∙ counts_fail model.Taking past c.self.inside.takes.list (ap (λ (w : WatchState). w.takes) c.self.view_is ∙ s.takes_are)
    ∙ ap (λ (kind : FailKind). fails (model_kind kind) past) (sym c.in-Take.is)

pub returns-in-Read : goal.returns-in-Read
returns-in-Read c config seed past s =
    c.next_fails-in-Read.ensures ∙ counts_fail model.Reading past c.self.inside.reads.list (ap (λ (w : WatchState). w.reads) c.self.view_is ∙ s.reads_are)
    ∙ ap (λ (kind : FailKind). fails (model_kind kind) past) (sym c.in-Read.is)

pub returns-in-Reply : goal.returns-in-Reply
returns-in-Reply c config seed past s =
    c.next_fails-in-Reply.ensures ∙ counts_fail model.Replying past c.self.inside.replies.list (ap (λ (w : WatchState). w.replies) c.self.view_is ∙ s.replies_are)
    ∙ ap (λ (kind : FailKind). fails (model_kind kind) past) (sym c.in-Reply.is)

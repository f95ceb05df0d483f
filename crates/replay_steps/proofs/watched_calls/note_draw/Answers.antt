use Rattle.std.proofs.Common.{◌∙◌, refl, sym, subst, [], ◌∷◌, true, false}
use Rattle.relay_outside.specs.declared.keys.KeyCall.{KeyCall}
use Rattle.replay_devices.specs.Devices.{Drew}
use Rattle.replay_steps.specs.Steps.{DrawsAsked}
use Rattle.replay_steps.proofs.watched_calls.note_draw.Goals as goal

pub returns-then-not-failing : goal.returns-then-not-failing
returns-then-not-failing c sent config seed past s =
    let due = c.note_key.ensures sent config seed past s in (
      Drew true ∷ past,
      subst (λ (call : KeyCall). DrawsAsked seed (call ∷ []) past (Drew true ∷ past)) (sym c.in-Drawn.is)
          (sym (c.fails-failing.ensures config seed past s) ∙ c.if-not-failing.true, due.0, refl),
      due.1,
    )

pub returns-in-Failed : goal.returns-in-Failed
returns-in-Failed c sent config seed past s = (
  Drew false ∷ past,
  subst (λ (call : KeyCall). DrawsAsked seed (call ∷ []) past (Drew false ∷ past)) (sym c.in-Failed.is) (sym (c.fails-failing.ensures config seed past s) ∙ sent, refl),
  c.failed_to_draw.ensures config seed past s,
)

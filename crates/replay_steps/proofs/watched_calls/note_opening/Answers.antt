use Rattle.std.proofs.Common.{◌∙◌, refl, sym, ap, subst, Bool, not, [], ◌∷◌}
use Rattle.relay_outside.specs.declared.ports.PortCall.{PortCall}
use Rattle.replay_devices.specs.Devices.{Opened}
use Rattle.replay_steps.specs.Steps.{OpensAsked}
use Rattle.replay_steps.proofs.Watchings.{differ, found_end}
use Rattle.replay_steps.proofs.watched_calls.note_opening.Goals as goal

pub returns-else-done-failing : goal.returns-else-done-failing
returns-else-done-failing c sent seed past s =
    let at = c.in-Open.at in
    let done = c.in-Open.done in
    let config = c.args.config.now in
    let found = found_end config at.port at.ip c.find_end.result c.find_end.ensures (sym c.is_some.ensures ∙ sent) in (
      Opened found.0.0 found.0.1 done ∷ past,
      subst (λ (call : PortCall). OpensAsked config (call ∷ []) past (Opened found.0.0 found.0.1 done ∷ past)) (sym c.in-Open.is)
          (found.0, found.1, differ done c.fails-failing.result c.if-done-failing.false ∙ ap (λ (b : Bool). not b) (c.fails-failing.ensures config seed past s), refl),
      c.opened.ensures config seed found.0.0 found.0.1 (found.1.family ∙ sym c.family.ensures) found.1.port_is past s,
    )

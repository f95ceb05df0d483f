use Rattle.std.proofs.Common.{sym, subst, [], ◌∷◌, ◌++◌, inl, inr}
use Rattle.relay_outside.specs.declared.ports.PortCall.{PortCall}
use Rattle.relay_outside.specs.Ports.{IsOpen}
use Rattle.replay_steps.proofs.Openings.{shut_opened, shut_closed, or_left, or_both, and_not}
use Rattle.replay_steps.proofs.open_ports.is_open_after.Goals as goal

pub returns-in-Open : goal.returns-in-Open
returns-in-Open c calls shut none =
    subst (λ (call : PortCall). IsOpen (calls ++ call ∷ []) c.args.at → ⊥) (sym c.in-Open.is)
    (shut_opened calls c.in-Open.there c.args.at c.in-Open.done (shut (or_left c.args.was _ none))
    (λ same done. or_both c.args.was c.in-Open.done c.is_same-same.result none done (c.is_same-same.ensures.differ same)))

pub returns-in-Close : goal.returns-in-Close
returns-in-Close c calls shut none =
    subst (λ (call : PortCall). IsOpen (calls ++ call ∷ []) c.args.at → ⊥) (sym c.in-Close.is)
    (shut_closed calls c.in-Close.there c.args.at c.in-Close.taken c.in-Close.sent
    (λ differ is_open. elim (and_not c.args.was c.is_same-same-in-Close.result none) [
      | inl was ↦ shut was is_open
      | inr same ↦ differ (c.is_same-same-in-Close.ensures.same same)
    ]))

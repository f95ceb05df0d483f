use Rattle.std.proofs.Common.{◌∙◌, sym, subst, ℕ, Bool, Option}
use Rattle.std.specs.Prelude.{MatchOption}
use Rattle.call_cell.specs.declared.outcome.LocalPort.{LocalPort}
use Rattle.replay_steps.proofs.SendsTold.{IsUnsent, IsSentBy, tells_send, unsent, sent_watched}
use Rattle.replay_steps.proofs.Watchings.{false_is, differ}
use Rattle.replay_steps.proofs.line_packet.note_send.Goals as goal

pub returns-clause-asked : goal.returns-clause-asked
returns-clause-asked c log config seed h p is =
    let outcome = c.args.outcome in
    let by = subst (λ (o : Option (LocalPort × Bool)). MatchOption o (IsUnsent config h p outcome) (λ x. IsSentBy config h p outcome x.0 x.1)) (sym c.send_of.ensures ∙ c.in-Some.is)
    (tells_send config h p outcome is) in
    sent_watched config h p seed c.args.watch.now c.sent.new.self outcome c.in-Some.from c.in-Some.done c.send_fails-failing.result by
    (λ pair half family at past s. c.send_fails-failing.ensures config seed past pair half family at s)
    (λ pair half ok family at. c.sent.ensures config seed pair half ok family at) (differ c.in-Some.done c.send_fails-failing.result (false_is _ log))

pub returns-in_default-clause-asked : goal.returns-in_default-clause-asked
returns-in_default-clause-asked c log config seed h p is =
    let outcome = c.args.outcome in
    unsent config h p seed c.args.watch.now outcome
    (subst (λ (o : Option (LocalPort × Bool)). MatchOption o (IsUnsent config h p outcome) (λ x. IsSentBy config h p outcome x.0 x.1)) (sym c.send_of.ensures ∙ c.in_default.is)
    (tells_send config h p outcome is))

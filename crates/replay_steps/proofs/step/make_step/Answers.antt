use Rattle.std.proofs.Common.{sym, subst, ℕ, List}
use Rattle.relay_script.specs.declared.step.Step as coded
use Rattle.relay_script.specs.Steps as line
use Rattle.relay_script.specs.Steps.{step_meaning}
use Rattle.replay_steps.specs.Moves.{MakesStep}
use Rattle.replay_steps.proofs.step.make_step.Goals as goal

pub returns-in-Ng : goal.returns-in-Ng
returns-in-Ng g c =
    subst (λ (s : coded.Step). MakesStep c.args.replayer.now (step_meaning s) c.control-stepped.result c.args.state c.control-stepped.new.state)
    (sym c.in-Ng.is)
    (subst (λ (bytes : List ℕ). MakesStep c.args.replayer.now (line.Ng c.in-Ng.source bytes) c.control-stepped.result c.args.state c.control-stepped.new.state) c.as_slice.ensures c.control-stepped.ensures)

pub returns-in-Take : goal.returns-in-Take
returns-in-Take g c =
    subst (λ (s : coded.Step). MakesStep c.args.replayer.now (step_meaning s) c.take_packet.result.0 c.args.state c.take_packet.result.1)
    (sym c.in-Take.is)
    (subst (λ (bytes : List ℕ). MakesStep c.args.replayer.now (line.Take c.in-Take.port c.in-Take.source bytes) c.take_packet.result.0 c.args.state c.take_packet.result.1) c.as_slice-in-Take.ensures c.take_packet.ensures)

pub returns-in-Relay : goal.returns-in-Relay
returns-in-Relay g c =
    subst (λ (s : coded.Step). MakesStep c.args.replayer.now (step_meaning s) c.relay_receipt.result.0 c.args.state c.relay_receipt.result.1) (sym c.in-Relay.is) c.relay_receipt.ensures

pub returns-in-Packet : goal.returns-in-Packet
returns-in-Packet g c =
    subst (λ (s : coded.Step). MakesStep c.args.replayer.now (step_meaning s) c.pass_packet.result.0 c.args.state c.pass_packet.result.1)
    (sym c.in-Packet.is)
    (subst (λ (bytes : List ℕ). MakesStep c.args.replayer.now (line.Packet c.in-Packet.port c.in-Packet.source bytes) c.pass_packet.result.0 c.args.state c.pass_packet.result.1) c.as_slice-in-Packet.ensures c.pass_packet.ensures)

pub returns-in-Tick : goal.returns-in-Tick
returns-in-Tick g c =
    subst (λ (s : coded.Step). MakesStep c.args.replayer.now (step_meaning s) c.tick-stepped.result c.args.state c.tick-stepped.new.state)
    (sym c.in-Tick.is) c.tick-stepped.ensures

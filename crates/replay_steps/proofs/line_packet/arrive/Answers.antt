use Rattle.std.proofs.Common.{◌≡◌, refl, sym, subst, inl, List, Option, Some, Bool, true, false}
use Rattle.relay_outside.specs.declared.ports.PortCall.{PortCall}
use Rattle.relay_outside.specs.declared.settings.Config.{Config}
use Rattle.relay_outside.specs.declared.address.Addr.{Addr}
use Rattle.relay_outside.specs.Ports.{IsOpen}
use Rattle.relay_core.specs.Legal.{Orderly}
use Rattle.relay_core.specs.Turns.{made_by}
use Rattle.media_lane.specs.Steps.{KeepsReceipts}
use Rattle.ng_server.specs.Servers.{OpensJust, history_of}
use Rattle.relay_script.specs.declared.event.Printed.TheVariants as code
use Rattle.replay_steps.specs.declared.line_packet.Arrived.TheVariants as arrivals
use Rattle.replay_steps.specs.declared.ended.Untold.TheVariants as untold
use Rattle.replay_steps.specs.Arrivals.{IsNoEnd, IsGoodArrival}
use Rattle.replay_steps.specs.Steps.{Arrives}
use Rattle.replay_steps.proofs.Holdings.{receipts_kept}
use Rattle.replay_steps.proofs.Openings.{shut_unless}
use Rattle.replay_steps.proofs.Steps.{moved_between, ready_again}
use Rattle.replay_steps.proofs.line_packet.arrive.Goals as goal

not_open : (b : Bool) → (b ≡ true → ⊥) → b ≡ false
not_open true never = absurd (never refl)
not_open false never = refl

pub receive_between-received-requires-clause-between : goal.receive_between-received-requires-clause-between
receive_between-received-requires-clause-between g c =
    let replayer = c.args.replayer.now in
    moved_between replayer.server.config replayer.config replayer.server.turns c.turns-turns.result.now c.args.state.hand (sym c.requires.ready.config_is) (sym c.turns-turns.ensures) c.requires.ready.between

-- no end has the port
pub returns-in_default : goal.returns-in_default
returns-in_default g c =
    let replayer = c.args.replayer.now in
    record {
      same = (refl, refl, refl, refl);
      ready = c.requires.ready;
      receipts_are = refl;
      clock_is = refl;
      watch_is = refl;
      good = tt;
      failing = c.fails-failing.result;
      asked = λ seed past s. c.fails-failing.ensures replayer.server.config seed past s;
      arrives = inl (subst (λ (k : Config). IsNoEnd k c.args.packet.port c.args.packet.source.ip) c.requires.ready.config_is c.in_default.ensures, refl, refl);
      memory = λ q. absurd (let k : arrivals.Printed code.Nothing ≡ arrivals.Untold untold.OutOfMemory = q in cc);
    }

-- the port maker tells nothing
pub returns-in_default-calls : goal.returns-in_default-calls
returns-in_default-calls g c =
    let replayer = c.args.replayer.now in
    record {
      same = (refl, refl, refl, refl);
      ready = c.requires.ready;
      receipts_are = refl;
      clock_is = refl;
      watch_is = refl;
      good = tt;
      failing = c.fails-failing.result;
      asked = λ seed past s. c.fails-failing.ensures replayer.server.config seed past s;
      arrives = tt;
      memory = λ q. c.in_default-calls.ensures;
    }

pub returns : goal.returns
returns g c =
    let replayer = c.args.replayer.now in
    let k = replayer.config in
    let config = replayer.server.config in
    let state = c.args.state in
    let l = made_by state.hand in
    let hand = c.receive_between-received.result.1 in
    let new = made_by hand in
    let took = c.receive_between-received.ensures in
    let ready = c.requires.ready in
    let arrived = c.tell_arrival.result in
    let keeps = subst (λ (k : Config). KeepsReceipts k l new) ready.config_is took.others in
    record {
      same = took.same;
      ready = ready_again replayer state _ ready took.same (moved_between k config c.turns-turns.result.now replayer.server.turns hand ready.config_is c.turns-turns.ensures took.between) took.board refl refl
          (receipts_kept config l new state.receipts.list keeps ready.receipts);
      receipts_are = refl;
      clock_is = refl;
      watch_is = refl;
      good = subst (λ (k : Config). IsGoodArrival k l arrived new) ready.config_is (c.tell_arrival.ensures.good k l new took.receipt took.apart);
      failing = c.fails-failing.result;
      asked = λ seed past s. c.fails-failing.ensures config seed past s;
      arrives =
          let opens = subst (λ (o : Option (List PortCall)). OpensJust config (history_of state.hand) o) c.in-Some-calls.ensures ready.opens in
          let shut =
          shut_unless k l (subst (λ (k : Config). Orderly k l) (sym ready.config_is) ready.between.orderly) c.in-Some-calls.log.now c.in-Some.pair c.in-Some.half
          (subst (λ (k : Config). OpensJust k (history_of state.hand) (Some c.in-Some-calls.log.now)) (sym ready.config_is) opens) c.in-Some.ensures.in_range in
          subst (λ (k : Config). Arrives k l c.args.packet.port c.args.packet.source c.args.packet.bytes.now c.fails-failing.result arrived new) ready.config_is
          (c.tell_arrival.ensures.arrives k l new c.args.packet.port c.in-Some.pair c.in-Some.half c.in-Some.ensures took.took (λ closed. shut
          (subst (λ (at : Addr). IsOpen c.in-Some-calls.log.now at → ⊥) c.port_address.ensures (c.is_open-opened.ensures (not_open c.is_open-opened.result closed)))));
      memory = λ q. absurd (c.tell_arrival.ensures.memory q);
    }

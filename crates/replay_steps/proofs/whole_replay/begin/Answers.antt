use Rattle.std.proofs.Common.{refl, sym}
use Rattle.replay_steps.specs.declared.state.Replayer.{Replayer}
use Rattle.replay_steps.specs.declared.state.ReplayState.{ReplayState}
use Rattle.replay_steps.proofs.Beginnings.{ready_first, course_first}
use Rattle.replay_steps.proofs.whole_replay.begin.Goals as goal

pub returns : goal.returns
returns g c =
    let begins = c.in_ok-server.ensures in
    let replayer : Replayer _ = record { rt = c.args.rt; alloc = c.args.alloc; config = c.args.config.now; server = c.in_ok-server.server } in
    let state : ReplayState =
    record { hand = c.in_ok-server.hand; desk = c.in_ok-desk.desk; devices = c.in_ok-devices.devices; watch = c.in_ok-watch.watch; receipts = c.in_ok-receipts.receipts; clock = 0 } in
    record {
      config_is = begins.config;
      ready = ready_first replayer state begins.nothing c.in_ok-receipts.ensures (sym begins.config) begins.between begins.all c.in_ok-devices.ensures;
      course_is = course_first replayer state begins.nothing c.in_ok-receipts.ensures refl;
      watch = c.in_ok-watch.ensures;
    }

use Rattle.std.proofs.Common.{refl, sym, subst, ◌&&◌, true}
use Rattle.relay_outside.specs.declared.link.LinkCall.TheVariants as call
use Rattle.relay_outside.specs.DeviceLogs.{WhereLogged}
use Rattle.load_maker.specs.Links.{LogsLoad}
use Rattle.load_maker.proofs.Noted.{gains_call}
use Rattle.load_maker.proofs.Links.{noted_send}
use Rattle.load_maker.proofs.link.LoadLinkControlLink.send.Goals as goal

pub invariant_of-self : goal.invariant_of-self
invariant_of-self c =
    let before = c.self.invariant in
    record {
      few = before.few;
      left = before.left;
      log = subst (λ b. WhereLogged c.note.new.self (LogsLoad c.self.inside.given (c.self.inside.well && b))) (sym c.is_success.ensures)
          (noted_send c.self.inside.given c.self.inside.well c.self.inside.log c.note.new.self c.args.to c.args.bytes.now (call.Send c.args.to c.args.bytes.now true) refl refl
          (gains_call c.self.inside.log c.note.new.self c.send_call-call.result (call.Send c.args.to c.args.bytes.now true) c.note.ensures c.send_call-call.ensures) before.log);
    }

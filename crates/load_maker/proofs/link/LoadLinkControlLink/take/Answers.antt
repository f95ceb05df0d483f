use Rattle.std.proofs.Common.{ap, sym, refl, subst, ◌∙◌, arith, ◌≡◌, MatchOption, length}
use Rattle.relay_outside.specs.declared.link.LinkCall.TheVariants as call
use Rattle.relay_outside.specs.declared.link.LinkGiven.TheVariants as given
use Rattle.load_maker.specs.Datagrams.{controller, datagram_with}
use Rattle.load_maker.proofs.Noted.{gains_call}
use Rattle.load_maker.proofs.Links.{noted_other, noted_datagram}
use Rattle.load_maker.proofs.link.LoadLinkControlLink.take.Goals as goal

pub invariant_of-self : goal.invariant_of-self
invariant_of-self c =
    let before = c.self.invariant in
    record {
      few = before.few;
      left = before.left;
      log = noted_other c.self.inside.given c.self.inside.well c.self.inside.log c.note.new.self _ refl refl c.note.ensures before.log;
    }

pub invariant_of-self-in_default : goal.invariant_of-self-in_default
invariant_of-self-in_default c =
    let before = c.self.invariant in
    record {
      few = before.few;
      left = before.left;
      log = noted_other c.self.inside.given c.self.inside.well c.self.inside.log c.note-in_default.new.self _ refl refl c.note-in_default.ensures before.log;
    }

pub invariant_of-self-2 : goal.invariant_of-self-2
invariant_of-self-2 c =
    let before = c.self.invariant in
    let given_now = call.Take (length c.args.buf.now) (given.Datagram controller (datagram_with c.self.inside.given)) in
    record {
      few = before.few;
      left = (let left = before.left in let more = c.if-self.false in omega (arith, left, more));
      log = noted_datagram c.self.inside.given c.self.inside.well c.self.inside.log c.note-2.new.self given_now refl refl
          (gains_call c.self.inside.log c.note-2.new.self c.datagram_call-call.result given_now c.note-2.ensures
          (subst (λ bytes. MatchOption c.datagram_call-call.result (Unit {0}) (λ x. x ≡ call.Take (length c.args.buf.now) (given.Datagram controller bytes)))
          (c.put_front-len.ensures.front ∙ c.as_slice.ensures ∙ c.in-Some.ensures.0 ∙ sym (ap (λ link. datagram_with link.given) c.self.view_is)) c.datagram_call-call.ensures)) before.log;
    }

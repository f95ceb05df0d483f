use Rattle.std.proofs.Common.{◌∙◌, ◌≡◌, ap, sym, subst, arith, ◌+◌, ◌<◌, nat_lt, Some, MatchOption, length, take}
use Rattle.relay_outside.specs.declared.ports.InCall.TheVariants as into
use Rattle.relay_outside.specs.declared.ports.InGiven.TheVariants as given
use Rattle.relay_outside.specs.DeviceLogs.{WhereLogged}
use Rattle.load_maker.specs.Packets.{side_source, packet}
use Rattle.load_maker.specs.Ports.{next_stream}
use Rattle.load_maker.specs.Takes.{GivesOn}
use Rattle.load_maker.proofs.Noted.{gains_call}
use Rattle.load_maker.proofs.Takes.{noted_nothing, noted_packet, left_stream, take_least}
use Rattle.load_maker.proofs.ends.LoadInInEnd.take.Goals as goal

pub invariant_of-self : goal.invariant_of-self
invariant_of-self c =
    let before = c.self.invariant in
    (before.0, before.1, before.2, noted_nothing c.self.inside.stream c.self.inside.given (length c.args.buf.now) c.self.inside.log c.note.new.self c.note.ensures before.3)

pub invariant_of-self-2 : goal.invariant_of-self-2
invariant_of-self-2 c =
    let before = c.self.invariant in
    let stream = c.in-Some.stream in
    let room = length c.args.buf.now in
    let sent = take c.write-size.result c.write-size.new.out in
    let count = c.self.inside.given in
    let more : count < c.self.inside.packets = subst (λ end. end.given < end.packets) (sym c.self.view_is) c.in-Some.ensures.left in
    let is_stream : c.self.inside.stream ≡ Some stream =
    left_stream (nat_lt count c.self.inside.packets) c.self.inside.stream stream (c.in-Some.ensures.next ∙ sym (ap (λ end. next_stream end) c.self.view_is)) in
    let same =
    ap (λ from. given.Datagram from (take c.fill-len.result c.fill-len.new.buf)) c.source-from.ensures
    ∙ ap (λ bytes. given.Datagram (side_source stream.call stream.side) bytes)
    (c.fill-len.ensures.front ∙ ap (λ n. take n sent) c.fill-len.ensures.count ∙ take_least sent room ∙ ap (λ bytes. take room bytes) c.write-size.ensures.written) in (
      omega (arith, more),
      before.1,
      before.2,
      subst (λ st. WhereLogged c.note-2.new.self (λ takes. GivesOn st 0 takes (count + 1))) (sym is_stream)
          (noted_packet stream count room c.self.inside.log c.note-2.new.self
          (gains_call c.self.inside.log c.note-2.new.self c.arrival_call-call.result
          (into.Take room (given.Datagram (side_source stream.call stream.side) (take room (packet stream.call stream.side (count + 1))))) c.note-2.ensures
          (subst (λ gift. MatchOption c.arrival_call-call.result (Unit {0}) (λ x. x ≡ into.Take room gift)) same c.arrival_call-call.ensures))
          (subst (λ st. WhereLogged c.self.inside.log (λ takes. GivesOn st 0 takes count)) is_stream before.3)),
    )

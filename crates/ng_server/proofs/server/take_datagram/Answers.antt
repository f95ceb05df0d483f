use Rattle.std.proofs.Common.{◌∙◌, ap, refl}
use Rattle.std.specs.Prelude.{Ok, Err}
use Rattle.relay_outside.specs.declared.answers.Taken.TheVariants as taken
use Rattle.ng_server.specs.declared.control_turn.ControlTurn.TheVariants as turn
use Rattle.ng_server.proofs.Taken.{takes_datagram, takes_none}
use Rattle.ng_server.proofs.server.take_datagram.Goals as goal

pub returns-in-Ok-Datagram-clause-taken : goal.returns-in-Ok-Datagram-clause-taken
returns-in-Ok-Datagram-clause-taken g c =
    takes_datagram _ c.take.result c.take.new.buf c.in-Ok-Datagram.from c.in-Ok-Datagram.len (g.N.ControlLink.log c.args.link.now) (g.N.ControlLink.log c.take.new.self) c.requires
    (c.in-Ok-Datagram.is ∙ ap Ok c.in-Ok-Datagram.field-0-is) c.take.ensures.log

pub returns-in-Ok-Nothing-clause-none : goal.returns-in-Ok-Nothing-clause-none
returns-in-Ok-Nothing-clause-none g c =
    takes_none _ c.take.result (Ok taken.Nothing) c.take.new.buf turn.Nothing (g.N.ControlLink.log c.args.link.now) (g.N.ControlLink.log c.take.new.self) c.requires (c.in-Ok-Nothing.is ∙ ap Ok c.in-Ok-Nothing.field-0-is) refl c.take.ensures.log

pub returns-in-Ok-End-clause-none : goal.returns-in-Ok-End-clause-none
returns-in-Ok-End-clause-none g c =
    takes_none _ c.take.result (Ok taken.End) c.take.new.buf turn.End (g.N.ControlLink.log c.args.link.now) (g.N.ControlLink.log c.take.new.self) c.requires (c.in-Ok-End.is ∙ ap Ok c.in-Ok-End.field-0-is) refl c.take.ensures.log

pub returns-in-Err-clause-none : goal.returns-in-Err-clause-none
returns-in-Err-clause-none g c =
    takes_none _ c.take.result (Err c.in-Err.field-0) c.take.new.buf turn.ReadFault (g.N.ControlLink.log c.args.link.now) (g.N.ControlLink.log c.take.new.self) c.requires c.in-Err.is refl c.take.ensures.log

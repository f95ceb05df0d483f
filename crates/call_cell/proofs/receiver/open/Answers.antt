use Rattle.std.proofs.Common.{◌∙◌, sym, take}
use Rattle.call_cell.specs.Heads.{half_of}
use Rattle.call_cell.proofs.Boxed.{opens_in}
use Rattle.call_cell.proofs.receiver.open.Goals as goal

pub returns-in-Some-as_mut-clause-opens : goal.returns-in-Some-as_mut-clause-opens
returns-in-Some-as_mut-clause-opens c key notes for =
    opens_in key notes (half_of c.args.head) (take c.args.len c.args.buf.now) c.in-Some.place c.in-Some-as_mut.contexts.now c.unprotect.new.self
    c.unprotect.new.buf c.unprotect.result c.args.inbound.now c.in-Some.is (sym (c.in-Some-as_mut.ensures.value ∙ c.deref_mut.ensures.value)) c.unprotect.ensures.opens for

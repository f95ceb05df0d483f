use Rattle.std.proofs.Common.{◌∙◌, sym, take}
use Rattle.call_cell.specs.Heads.{half_of}
use Rattle.call_cell.proofs.Protecting.{wraps_in}
use Rattle.call_cell.proofs.sender.protect_under.Goals as goal

pub returns-in-Some-as_mut-clause-wraps : goal.returns-in-Some-as_mut-clause-wraps
returns-in-Some-as_mut-clause-wraps c leg suite keys notes for numbered =
    wraps_in leg suite keys notes c.args.number (half_of c.args.head) (take c.args.len c.args.buf.now) c.in-Some.place c.in-Some-as_mut.contexts.now c.protect.new.self
    c.protect.new.buf c.protect.result c.args.place.now c.in-Some.is (sym (c.in-Some-as_mut.ensures.value ∙ c.deref_mut.ensures.value)) c.protect.ensures.wraps
    for numbered

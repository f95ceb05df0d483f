use Rattle.std.proofs.Common.{sym, ◌∙◌, take}
use Rattle.sdes_lines.specs.declared.crypto_line.Suite.TheVariants.{Tag80, Tag32}
use Rattle.call_cell.specs.Protection.{wrapped_with}
use Rattle.call_cell.specs.Heads.{half_of}
use Rattle.call_cell.proofs.Protecting.{protects_80, protects_32}
use Rattle.call_cell.proofs.sender.Sending.protect.Goals as goal

pub returns-then-is_numbered-clause-protects : goal.returns-then-is_numbered-clause-protects
returns-then-is_numbered-clause-protects g c leg keys notes for named =
    rw (c.in-Some.is)
    (protects_80 leg keys notes c.args.self.now c.protect_under.new.place c.protect_under.new.buf c.protect_under.result for
    (wrapped_with (keys c.in-Some.number) (notes c.in-Some.number) (half_of c.args.head) (take c.args.len c.args.buf.now))
    (c.protect_under.ensures.wraps leg Tag80 keys notes for.tag80 (sym c.is_numbered.ensures ∙ c.if-is_numbered.true)))

pub returns-then-is_numbered-2-clause-protects : goal.returns-then-is_numbered-2-clause-protects
returns-then-is_numbered-2-clause-protects g c leg keys notes for named =
    rw (c.in-Some.is)
    (protects_32 leg keys notes c.args.self.now c.protect_under-then-is_numbered-2.new.place c.protect_under-then-is_numbered-2.new.buf
    c.protect_under-then-is_numbered-2.result for
    (wrapped_with (keys c.in-Some.number) (notes c.in-Some.number) (half_of c.args.head) (take c.args.len c.args.buf.now))
    (c.protect_under-then-is_numbered-2.ensures.wraps leg Tag32 keys notes for.tag32 (sym c.is_numbered-2.ensures ∙ c.if-is_numbered-2.true)))

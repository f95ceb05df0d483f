use Rattle.std.proofs.Common.{ap, ◌∙◌, arith}
use Rattle.offer_answer.specs.Dialogs.{leg_at}
use Rattle.offer_answer.proofs.Dialogs.{protocol_kept, no_protocol}
use Rattle.offer_answer.proofs.dialog.Dialog.protocol.Goals as goal

pub returns-then-section-lt-MOST_SECTIONS : goal.returns-then-section-lt-MOST_SECTIONS
returns-then-section-lt-MOST_SECTIONS c = λ config rounds s.
    ap (λ leg. leg.in_force) (c.leg.ensures ∙ ap (λ kept. leg_at kept c.args.side) c.section.ensures)
    ∙ protocol_kept config c.args.self.now rounds c.args.section c.args.side s (omega (arith, c.if-section-lt-MOST_SECTIONS.true))

pub returns-else-section-lt-MOST_SECTIONS : goal.returns-else-section-lt-MOST_SECTIONS
returns-else-section-lt-MOST_SECTIONS c = λ config rounds s.
    no_protocol config c.args.self.now rounds c.args.section c.args.side s (omega (arith, c.if-section-lt-MOST_SECTIONS.false))

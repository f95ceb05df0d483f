use Rattle.std.proofs.Common.{refl, subst, arith}
use Rattle.sdp_edit.specs.Widths.{IsSectionWithin}
use Rattle.offer_answer.specs.Edits.{longest_host, widest_section}
use Rattle.offer_answer.specs.declared.last_offer.MadeSection.{MadeSection}
use Rattle.offer_answer.proofs.Written.{section-of, port-digits}
use Rattle.offer_answer.proofs.offer_text.offered_edit.Goals as goal

pub returns-clause-within : goal.returns-clause-within
returns-clause-within c =
    let made : MadeSection = c.made_at-made.result in
    subst
    (λ (m : MadeSection). IsSectionWithin (section-of c.offered_port-port.result made.written c.written_host.result c.offered_lines.result c.mux_on.result)
    (widest_section (longest_host c.args.config.now) c.args.next.now.last.options m))
    c.made_at-made.ensures (record {
      port_within = port-digits c.offered_port-port.result (omega arith);
      proto_is = refl;
      address_within = c.written_host.ensures.within;
      mux_is = c.mux_on.ensures;
      lines_within = c.offered_lines.ensures.within;
    })

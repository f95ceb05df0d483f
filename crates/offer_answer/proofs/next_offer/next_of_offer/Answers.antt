use Rattle.std.proofs.Common.{ap, sym, ◌∙◌, arith}
use Rattle.offer_answer.proofs.Offering.{count-heard}
use Rattle.offer_answer.proofs.next_offer.next_of_offer.Goals as goal

pub returns-clause-next : goal.returns-clause-next
returns-clause-next c = λ config rounds ask s a m.
    let t = ap (λ o. o.transport) (sym a.options_are) in
    record {
      last_for = record {
        from_tag_is = c.in-Ok.ensures ∙ c.as_slice.ensures ∙ sym a.from_tag_is;
        maker_is = m;
        options_are = sym a.options_are;
        count_is = c.section_count.ensures.count ∙ sym (count-heard c.args.sdp.now ask a.hears);
        few = omega (arith, count-heard c.args.sdp.now ask a.hears, c.section_count.ensures.count, c.section_count.ensures.most);
        heard = a.hears.heard;
        sections_are = c.made_sections-made.ensures config rounds ask s a.hears t m;
      };
      sections_are = c.sections_after-sections.ensures.next config rounds ask s a.hears (sym a.options_are) m;
    }

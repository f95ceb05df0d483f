use Rattle.std.proofs.Common.{◌≡◌, ◌<◌, ◌≤◌, true, false, sym, ◌∙◌, arith}
use Rattle.offer_answer.specs.Sections.{section_count, committed_count}
use Rattle.offer_answer.specs.Faults.{is_strangers}
use Rattle.offer_answer.proofs.Offering.{count-heard, fault-strangers, fault-few, fault-misfits, fault-lines}
use Rattle.offer_answer.proofs.offer_plan.fault_of.Goals as goal

pub returns-then-is_strangers-clause-fault : goal.returns-then-is_strangers-clause-fault
returns-then-is_strangers-clause-fault c = λ config rounds ask s a.
    fault-strangers rounds ask (sym (c.is_strangers.ensures config rounds ask s (a.from_tag_is ∙ sym c.as_slice.ensures)) ∙ c.if-is_strangers.true)

pub returns-then-section_count-committed_count-clause-fault : goal.returns-then-section_count-committed_count-clause-fault
returns-then-section_count-committed_count-clause-fault c = λ config rounds ask s a.
    let known : is_strangers rounds ask ≡ false = sym (c.is_strangers.ensures config rounds ask s (a.from_tag_is ∙ sym c.as_slice.ensures)) ∙ c.if-is_strangers.false in
    let few : section_count ask.sdp < committed_count rounds =
    omega (arith, c.if-section_count-committed_count.true, c.section_count.ensures.count, c.committed_count.ensures, s.committed_count_is, count-heard c.args.sdp.now ask a.hears) in
    fault-few rounds ask known few

pub returns-then-misfits-clause-fault : goal.returns-then-misfits-clause-fault
returns-then-misfits-clause-fault c = λ config rounds ask s a.
    let known : is_strangers rounds ask ≡ false = sym (c.is_strangers.ensures config rounds ask s (a.from_tag_is ∙ sym c.as_slice.ensures)) ∙ c.if-is_strangers.false in
    let enough : committed_count rounds ≤ section_count ask.sdp =
    omega (arith, c.if-section_count-committed_count.false, c.section_count.ensures.count, c.committed_count.ensures, s.committed_count_is, count-heard c.args.sdp.now ask a.hears) in
    let side = c.offerer-side.ensures config rounds ask s (a.from_tag_is ∙ sym c.as_slice-2.ensures) in
    fault-misfits rounds ask known enough (sym (c.misfits.ensures config rounds ask s a.hears (sym a.options_are) side) ∙ c.if-misfits.true)

pub returns-then-lacks_lines-clause-fault : goal.returns-then-lacks_lines-clause-fault
returns-then-lacks_lines-clause-fault c = λ config rounds ask s a.
    let known : is_strangers rounds ask ≡ false = sym (c.is_strangers.ensures config rounds ask s (a.from_tag_is ∙ sym c.as_slice.ensures)) ∙ c.if-is_strangers.false in
    let enough : committed_count rounds ≤ section_count ask.sdp =
    omega (arith, c.if-section_count-committed_count.false, c.section_count.ensures.count, c.committed_count.ensures, s.committed_count_is, count-heard c.args.sdp.now ask a.hears) in
    let side = c.offerer-side.ensures config rounds ask s (a.from_tag_is ∙ sym c.as_slice-2.ensures) in
    let fits = sym (c.misfits.ensures config rounds ask s a.hears (sym a.options_are) side) ∙ c.if-misfits.false in
    fault-lines rounds ask true known enough fits (sym (c.lacks_lines.ensures config rounds ask s a.hears) ∙ c.if-lacks_lines.true)

pub returns-clause-fault : goal.returns-clause-fault
returns-clause-fault c = λ config rounds ask s a.
    let known : is_strangers rounds ask ≡ false = sym (c.is_strangers.ensures config rounds ask s (a.from_tag_is ∙ sym c.as_slice.ensures)) ∙ c.if-is_strangers.false in
    let enough : committed_count rounds ≤ section_count ask.sdp =
    omega (arith, c.if-section_count-committed_count.false, c.section_count.ensures.count, c.committed_count.ensures, s.committed_count_is, count-heard c.args.sdp.now ask a.hears) in
    let side = c.offerer-side.ensures config rounds ask s (a.from_tag_is ∙ sym c.as_slice-2.ensures) in
    let fits = sym (c.misfits.ensures config rounds ask s a.hears (sym a.options_are) side) ∙ c.if-misfits.false in
    fault-lines rounds ask false known enough fits (sym (c.lacks_lines.ensures config rounds ask s a.hears) ∙ c.if-lacks_lines.false)

pub returns-clause-enough : goal.returns-clause-enough
returns-clause-enough c = omega (arith, c.if-section_count-committed_count.false, c.section_count.ensures.count, c.committed_count.ensures)

use Rattle.std.proofs.Common.{◌<◌, ◌≤◌, ℕ, List, sym, ap, ◌∙◌, subst, arith}
use Rattle.std.proofs.lemmas.List.Elements.{All-push}
use Rattle.sdp_edit.specs.declared.edits.SectionEdit.{SectionEdit}
use Rattle.sdp_edit.specs.EditedText.{KeysHaveTags, HaveTags}
use Rattle.offer_answer.specs.Sections.{section_count}
use Rattle.offer_answer.specs.Texts.{session_host, answer_section}
use Rattle.offer_answer.proofs.Written.{map-pushed, map-end}
use Rattle.offer_answer.proofs.WrittenBack.{count-is, answer-written}
use Rattle.offer_answer.proofs.answer_text.answer_sections.Goals as goal

pub loop-index-preserved : goal.loop-index-preserved
loop-index-preserved c =
    let i : ℕ = c.loop-index.index in
    let old : List SectionEdit = c.loop-index.edit.sections.list in
    let it : SectionEdit = c.answered_section.result in record {
      origin = c.loop-index.invariant.origin;
      session = c.loop-index.invariant.session;
      list = λ rounds offer ask d o m heard l.
          let below : i < section_count ask.sdp =
          omega (arith, c.loop-index-test.true, c.section_count-index-end.ensures.count, count-is ask.sdp c.args.sdp.now l) in
          map-pushed (answer_section c.args.config.now rounds offer ask) old c.push.new.self.list it i (section_count ask.sdp) below
          (c.answered_section.ensures.edit rounds offer ask d o m heard l) c.push.ensures.list
          ∙ c.loop-index.invariant.list rounds offer ask d o m heard l;
      room = omega (arith, c.push.ensures.spare, c.loop-index.invariant.room);
      tags = subst HaveTags (sym c.push.ensures.list)
          (All-push (λ (e : SectionEdit). KeysHaveTags e.crypto) old it c.loop-index.invariant.tags c.answered_section.ensures.tags);
    }

pub returns-clause-text : goal.returns-clause-text
returns-clause-text c = λ rounds offer ask d o m heard options l.
    let i : ℕ = c.loop-index.index in
    let past : section_count ask.sdp ≤ i =
    omega (arith, c.loop-index-test.false, c.section_count-index-end.ensures.count, count-is ask.sdp c.args.sdp.now l) in
    answer-written c.args.config.now rounds offer ask c.args.options.now c.args.sdp.now (record c.loop-index.edit { address = c.session_host-edit.result }) o options l
    (c.session_host-edit.ensures ∙ ap (session_host c.args.config.now) c.as_slice.ensures) c.loop-index.invariant.origin c.loop-index.invariant.session
    (sym (map-end (answer_section c.args.config.now rounds offer ask) c.loop-index.edit.sections.list i (section_count ask.sdp) past)
    ∙ c.loop-index.invariant.list rounds offer ask d o m heard l)

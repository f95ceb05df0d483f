use Rattle.std.proofs.Common.{◌≡◌, ◌≤◌, ◌++◌, List, ℕ, length, ap, ◌∙◌, arith}
use Rattle.std.proofs.lemmas.List.{length-append}
use Rattle.relay_outside.specs.declared.settings.Config.{Config}
use Rattle.sdp_text.specs.Room.{Reserve}
use Rattle.sdp_text.specs.declared.host.Host.{Host}
use Rattle.sdp_edit.specs.EditedText.{edited}
use Rattle.sdp_edit.specs.Widths.{AreSectionsWithin}
use Rattle.sdp_edit.specs.declared.edits.SectionEdit.{SectionEdit}
use Rattle.sdp_edit.specs.declared.edits.Edit.{Edit}
use Rattle.offer_answer.specs.Texts.{interface_host, session_host}
use Rattle.offer_answer.specs.Edits.{IsEditReserved, sections_written, longest_host, widest_sections, widest_len}
use Rattle.offer_answer.specs.declared.last_offer.OfferedNext.{OfferedNext}
use Rattle.offer_answer.proofs.Written.{pushed-to-none, offer-fits, offer-written}
use Rattle.offer_answer.proofs.offer_text.write_offer.Goals as goal

-- the edit with its sections and its address
abbrev filled : Edit → Reserve SectionEdit → Host → Edit
filled edit sections host = record edit { sections = sections; address = host }

fits : (lines : List (List ℕ)) (edit : Edit) (sections : Reserve SectionEdit) (host : Host) (config : Config) (next : OfferedNext) →
    IsEditReserved (interface_host config) next.last.options next.last.count edit →
    sections.list ≡ edit.sections.list ++ sections_written config next → host ≡ session_host config sections.list →
    AreSectionsWithin (sections_written config next) (widest_sections (longest_host config) next.last) →
    length (edited lines (filled edit sections host)) ≤ widest_len config next.last lines
fits lines edit sections host config next r e h within =
    offer-fits lines (filled edit sections host) config next h r.origin_is r.session_is
    (pushed-to-none edit.sections.list sections.list (sections_written config next) r.none_yet e) within

pub edit_into-requires-clause-room : goal.edit_into-requires-clause-room
edit_into-requires-clause-room c =
    let host = c.session_host-edit.ensures ∙ ap (session_host c.args.config.now) c.as_slice.ensures in
    let short = fits c.args.sdp.now c.args.edit.now c.push_offered.new.sections c.session_host-edit.result c.args.config.now c.args.next.now c.requires.reserved
    c.push_offered.ensures.sections host c.push_offered.ensures.within in
    omega (arith, short, c.requires.room)

pub returns-clause-text : goal.returns-clause-text
returns-clause-text c = λ rounds ask ports keys f l.
    let r = c.requires.reserved in
    let host = c.session_host-edit.ensures ∙ ap (session_host c.args.config.now) c.as_slice.ensures in
    c.edit_into.ensures.list ∙ ap (λ t. c.args.out.now.list ++ t)
    (offer-written c.args.config.now rounds ask ports keys c.args.next.now c.args.sdp.now (filled c.args.edit.now c.push_offered.new.sections c.session_host-edit.result) f l
    host r.origin_is r.session_is
    (pushed-to-none _ _ (sections_written c.args.config.now c.args.next.now) r.none_yet c.push_offered.ensures.sections))

pub returns-clause-within : goal.returns-clause-within
returns-clause-within c =
    let host = c.session_host-edit.ensures ∙ ap (session_host c.args.config.now) c.as_slice.ensures in
    let short = fits c.args.sdp.now c.args.edit.now c.push_offered.new.sections c.session_host-edit.result c.args.config.now c.args.next.now c.requires.reserved
    c.push_offered.ensures.sections host c.push_offered.ensures.within in
    omega (arith, short, ap length c.edit_into.ensures.list, length-append c.args.out.now.list (edited c.args.sdp.now (filled c.args.edit.now c.push_offered.new.sections c.session_host-edit.result)))

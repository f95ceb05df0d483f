use Rattle.sdp_edit.proofs.KeyLemmas.{edit_at_tags}
use Rattle.sdp_edit.proofs.step.edited_line.Goals as goal

pub added_keys-first_key-requires : goal.added_keys-first_key-requires
added_keys-first_key-requires c = rw (c.edit_at-section.ensures, c.as_slice.ensures) (edit_at_tags c.args.edit.now.sections.list c.after-here.result.section c.requires.tags)

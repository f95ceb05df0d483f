use Rattle.std.proofs.Common.{◌≡◌, length, None, arith}
use Rattle.sdp_edit.proofs.KeyLemmas.{two_keys}
use Rattle.sdp_edit.specs.EditedText.{added_keys}
use Rattle.sdp_edit.proofs.step.added_keys.Goals as goal

pub returns-clause-text : goal.returns-clause-text
unfolding added_keys
returns-clause-text c =
    let two : length c.in-Some.edit.crypto ≡ 2 = omega arith in
    rw (c.key_line.ensures.text, c.key_line-2.ensures.text, c.in-Some.is, ← c.if-not-ends_section.ensures) (two_keys c.in-Some.edit.crypto None two)

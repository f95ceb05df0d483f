use Rattle.std.proofs.Common.{rules, ◌∙◌}
use Rattle.std.proofs.lemmas.Nat.{be_bytes_4}
use Rattle.srtp_sources.proofs.words.word_at.Goals as goal

pub returns : goal.returns
returns c = be_bytes_4 c.part_at-word.result c.from_be_bytes.result (search rules) (search rules) c.from_be_bytes.ensures ∙ c.part_at-word.ensures

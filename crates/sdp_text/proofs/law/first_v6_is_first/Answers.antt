use Rattle.sdp_text.specs.Parts.{media_parts}
use Rattle.sdp_text.proofs.Faults.{first_v6, no_v6}
use Rattle.sdp_text.proofs.law.first_v6_is_first.Goals as goal

pub returns-clause-first : goal.returns-clause-first
returns-clause-first c lines = first_v6 (media_parts lines)

pub returns-clause-missing : goal.returns-clause-missing
returns-clause-missing c lines = no_v6 (media_parts lines)

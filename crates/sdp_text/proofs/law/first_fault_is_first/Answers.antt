use Rattle.sdp_text.specs.Parts.{media_parts}
use Rattle.sdp_text.proofs.Faults.{first_fault, no_fault}
use Rattle.sdp_text.proofs.Numbers.{lines_are}
use Rattle.sdp_text.proofs.law.first_fault_is_first.Goals as goal

pub returns-clause-first : goal.returns-clause-first
returns-clause-first c lines = first_fault (media_parts lines)

pub returns-clause-missing : goal.returns-clause-missing
returns-clause-missing c lines = no_fault (media_parts lines)

pub returns-clause-kept : goal.returns-clause-kept
returns-clause-kept c = lines_are

use Rattle.relay_script.proofs.Shown.{shown_is_text}
use Rattle.relay_script.proofs.law.printed_text_is_read.Goals as goal

pub returns : goal.returns
returns c = shown_is_text

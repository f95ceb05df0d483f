use Rattle.std.proofs.Common.{◌∙◌, Some, sym, ap}
use Rattle.control_messages.proofs.description.DescriptionFaultFromSdpFault.from.Goals as goal

pub returns-in_default : goal.returns-in_default
returns-in_default c = λ error is. is c.in_default.not-OutOfMemory ∙ ap Some (sym c.sdp_code.ensures)

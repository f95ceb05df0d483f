use Rattle.std.proofs.Common.{◌≡◌, map, take}
use Rattle.sdp_text.specs.Parts.{section_of}
use Rattle.sdp_text.proofs.summary.sections_of.Given as goal

abbrev pub invariant-loop-part : goal.invariant-loop-part
invariant-loop-part l = l.sections.items ≡ map section_of (take l.part-index l.parts)

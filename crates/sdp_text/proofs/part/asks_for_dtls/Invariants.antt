use Rattle.std.proofs.Common.{◌≡◌, drop}
use Rattle.std.specs.List.{list_any}
use Rattle.sdp_text.specs.Parts.{is_dtls_part}
use Rattle.sdp_text.proofs.part.asks_for_dtls.Given as goal

abbrev pub invariant-loop-part : goal.invariant-loop-part
invariant-loop-part l = list_any is_dtls_part l.parts ≡ list_any is_dtls_part (drop l.part-index l.parts)

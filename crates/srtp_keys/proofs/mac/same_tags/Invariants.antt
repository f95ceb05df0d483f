use Rattle.srtp_keys.proofs.Comparing.{Differ}
use Rattle.srtp_keys.proofs.mac.same_tags.Given as goal

abbrev pub invariant-bytes : goal.invariant-bytes
invariant-bytes l = Differ l.one l.other l.i l.difference

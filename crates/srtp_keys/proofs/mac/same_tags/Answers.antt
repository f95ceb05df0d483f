use Rattle.srtp_keys.proofs.Comparing.{differ_more, differ_all}
use Rattle.std.proofs.Common.{subst, ◌≡◌, length, arith}
use Rattle.srtp_keys.proofs.Comparing.{Differ}
use Rattle.srtp_keys.proofs.mac.same_tags.Goals as goal

pub bytes-preserved : goal.bytes-preserved
bytes-preserved c = differ_more c.args.one.now c.args.other.now c.bytes.i c.bytes.difference c.bytes.invariant

pub returns : goal.returns
returns c =
    let all : c.bytes.i ≡ length c.args.one.now = omega arith in
    differ_all c.args.one.now c.args.other.now c.bytes.difference c.requires (subst (λ n. Differ c.args.one.now c.args.other.now n c.bytes.difference) all c.bytes.invariant)

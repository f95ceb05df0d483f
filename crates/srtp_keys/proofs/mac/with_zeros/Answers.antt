use Rattle.srtp_keys.proofs.Authenticating.{zeros_behind}
use Rattle.srtp_keys.proofs.mac.with_zeros.Goals as goal

pub returns : goal.returns
returns c = zeros_behind c.args.bytes.now _ c.requires c.write_front.ensures

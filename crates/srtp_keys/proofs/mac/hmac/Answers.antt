use Rattle.std.proofs.Common.{refl}
use Rattle.srtp_keys.proofs.Authenticating.{hmac_of_states}
use Rattle.srtp_keys.proofs.mac.hmac.Goals as goal

pub returns : goal.returns
returns c =
    hmac_of_states c.args.key.now c.args.key.now c.args.text.now c.args.tail.now c.padded-inner.result c.padded-outer.result c.padded-inner.result c.padded-outer.result c.finished.result refl
    (rw c.key_block-block.ensures at c.padded-inner.ensures) (rw c.key_block-block.ensures at c.padded-outer.ensures) refl refl c.finished.ensures

use Rattle.srtp_keys.proofs.Authenticating.{hmac_of_states}
use Rattle.srtp_keys.proofs.mac.MacKey.tag.Goals as goal

pub returns : goal.returns
returns c =
    hmac_of_states c.self.inside.key c.args.self.now c.args.text.now c.args.tail.now c.self.inside.inner c.self.inside.outer _ _ c.finished.result c.self.view_is c.self.invariant.0 c.self.invariant.1
    c.copied.ensures c.copied-2.ensures c.finished.ensures

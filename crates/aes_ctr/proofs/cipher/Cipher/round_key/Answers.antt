use Rattle.aes_ctr.proofs.RoundKeys.{round_key_words}
use Rattle.aes_ctr.proofs.cipher.Cipher.round_key.Goals as goal

pub returns : goal.returns
returns c = round_key_words c.self.inside.words c.self.inside.key c.args.self.now c.args.round c.self.view_is c.self.invariant c.requires

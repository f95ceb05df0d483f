use Rattle.std.proofs.Common.{◌∙◌, ap, List, ℕ}
use Rattle.std.proofs.lemmas.List.{append-nil}
use Rattle.srtp_keys.specs.Hmac.{hmac}
use Rattle.srtcp_context.specs.Packets.{rtcp_code}
use Rattle.srtcp_context.proofs.session.RtcpSession.code.Goals as goal

pub returns : goal.returns
unfolding rtcp_code
returns c master for =
    c.tag.ensures ∙ ap (λ (l : List ℕ). hmac c.args.self.now.mac l) (append-nil c.args.bytes.now) ∙ ap (λ (k : List ℕ). hmac k c.args.bytes.now) for.mac

-- The keys of a session, made of a master key.
use Rattle.std.specs.Prelude.{ℕ, ◌≡◌, List}
use Rattle.rtp_packet.specs.declared.head.Half.TheVariants.{Rtcp}
use Rattle.srtp_keys.specs.Derivation.{cipher_key, authentication_key, session_salt}
use Rattle.srtcp_context.specs.declared.session.RtcpSession.{RtcpSession}

pub record RtcpSessionFor (master : List ℕ) (session : RtcpSession) : Type 0 where
  pub cipher : session.cipher ≡ cipher_key master Rtcp
  pub mac : session.mac ≡ authentication_key master Rtcp
  pub salt : session.salt ≡ session_salt master Rtcp

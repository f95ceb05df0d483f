-- The keys of a session, made of a master key.
use Rattle.std.specs.Prelude.{ℕ, ◌≡◌, List}
use Rattle.rtp_packet.specs.declared.head.Half.TheVariants.{Rtp}
use Rattle.sdes_lines.specs.declared.crypto_line.Suite.{Suite}
use Rattle.srtp_keys.specs.Derivation.{cipher_key, authentication_key, session_salt}
use Rattle.srtp_context.specs.declared.session.RtpSession.{RtpSession}

pub record SessionFor (master : List ℕ) (suite : Suite) (session : RtpSession) : Type 0 where
  pub cipher : session.cipher ≡ cipher_key master Rtp
  pub mac : session.mac ≡ authentication_key master Rtp
  pub salt : session.salt ≡ session_salt master Rtp
  pub is_of : session.suite ≡ suite

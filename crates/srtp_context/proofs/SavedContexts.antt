-- The parts of saved sessions and contexts.
use Rattle.std.proofs.Common.{◌≡◌, ℕ, List, [], ◌∷◌, length, get_or, take, drop, arith, sym, ap, ◌∙◌, refl, length-append}
use Rattle.std.proofs.lemmas.List.{get_or_at}
use Rattle.sdes_lines.specs.declared.crypto_line.Suite.{Suite}
use Rattle.sdes_lines.specs.declared.crypto_line.Suite.TheVariants.{Tag80, Tag32}
use Rattle.srtp_sources.specs.declared.sources.Sources.{Sources}
use Rattle.srtp_sources.specs.SavedKeys.{saved_keys}
use Rattle.srtp_sources.specs.SavedSources.{saved_sources}
use Rattle.srtp_sources.proofs.Pieces.{same_parts, front_is, back_is, two_read}
use Rattle.srtp_sources.proofs.SavedKeyParts.{length-saved_keys, same_keys}
use Rattle.srtp_sources.proofs.SavedTables.{length-saved_sources, same_sources}
use Rattle.srtp_context.specs.declared.session.RtpSession.{RtpSession}
use Rattle.srtp_context.specs.declared.inbound.InRtp.{InRtp}
use Rattle.srtp_context.specs.declared.outbound.OutRtp.{OutRtp}
use Rattle.srtp_context.specs.Packets.{tag_size}
use Rattle.srtp_context.specs.SavedRtp.{FitsSession, saved_session, FitsRtp, saved_rtp, FitsInRtp, saved_in_rtp, FitsOutRtp, saved_out_rtp}

pub length-saved_session : (session : RtpSession) → FitsSession session → length (saved_session session) ≡ 51
unfolding saved_session
length-saved_session session fits =
    let keys = saved_keys session.cipher session.mac session.salt in
    omega (arith, length-append keys (tag_size session.suite ∷ []), length-saved_keys session.cipher session.mac session.salt fits)

-- the byte of the suite
pub saved_suite : (session : RtpSession) (bytes : List ℕ) → FitsSession session → saved_session session ≡ bytes → tag_size session.suite ≡ get_or bytes 50 0
unfolding saved_session
saved_suite session bytes fits is =
    sym (get_or_at (saved_keys session.cipher session.mac session.salt) (tag_size session.suite) [] 0 50 (length-saved_keys session.cipher session.mac session.salt fits))
    ∙ ap (λ (l : List ℕ). get_or l 50 0) is

tag_tells : (a b : Suite) → tag_size a ≡ tag_size b → a ≡ b
tag_tells Tag80 Tag80 is = refl
tag_tells Tag80 Tag32 is = absurd (omega arith)
tag_tells Tag32 Tag80 is = absurd (omega arith)
tag_tells Tag32 Tag32 is = refl

pub same_session : (a b : RtpSession) → FitsSession a → FitsSession b → saved_session a ≡ saved_session b → a ≡ b
unfolding saved_session
same_session a b fits_a fits_b is =
    let cut = same_parts (saved_keys a.cipher a.mac a.salt) (tag_size a.suite ∷ []) (saved_keys b.cipher b.mac b.salt) (tag_size b.suite ∷ [])
    (length-saved_keys a.cipher a.mac a.salt fits_a ∙ sym (length-saved_keys b.cipher b.mac b.salt fits_b)) is in
    let keys = same_keys a.cipher a.mac a.salt b.cipher b.mac b.salt fits_a fits_b cut.0 in
    let suite = tag_tells a.suite b.suite (ap (λ (l : List ℕ). get_or l 0 0) cut.1) in
    λ i. record { cipher = keys.cipher_same i; mac = keys.mac_same i; salt = keys.salt_same i; suite = suite i }

pub session_part : (session : RtpSession) (sources : Sources) (bytes : List ℕ) → FitsRtp session sources → saved_rtp session sources ≡ bytes
    → saved_session session ≡ take 51 bytes
unfolding saved_rtp
session_part session sources bytes fits is = front_is bytes (saved_session session) (saved_sources sources) 51 is (length-saved_session session fits.session_fits)

pub sources_part : (session : RtpSession) (sources : Sources) (bytes : List ℕ) → FitsRtp session sources → saved_rtp session sources ≡ bytes
    → saved_sources sources ≡ take 929 (drop 51 bytes)
unfolding saved_rtp
sources_part session sources bytes fits is =
    back_is bytes (saved_session session) (saved_sources sources) 51 929 is (length-saved_session session fits.session_fits)
    (length-saved_sources sources fits.sources_fit)

pub context_read : (session : RtpSession) (sources : Sources) (bytes : List ℕ) → length bytes ≡ 980 → saved_session session ≡ take 51 bytes
    → saved_sources sources ≡ take 929 (drop 51 bytes) → saved_rtp session sources ≡ bytes
unfolding saved_rtp
context_read session sources bytes long first second = two_read bytes (saved_session session) (saved_sources sources) 51 929 first second long

record SameRtp (session other : RtpSession) (sources others : Sources) : Type 0 where
  pub session_same : session ≡ other
  pub sources_same : sources ≡ others

same_rtp : (session other : RtpSession) (sources others : Sources) → FitsRtp session sources → FitsRtp other others
    → saved_rtp session sources ≡ saved_rtp other others → SameRtp session other sources others
unfolding saved_rtp
same_rtp session other sources others fits fits' is =
    let cut = same_parts (saved_session session) (saved_sources sources) (saved_session other) (saved_sources others)
    (length-saved_session session fits.session_fits ∙ sym (length-saved_session other fits'.session_fits)) is in
    record {
      session_same = same_session session other fits.session_fits fits'.session_fits cut.0;
      sources_same = same_sources sources others fits.sources_fit fits'.sources_fit cut.1;
    }

pub same_in_rtp : (a b : InRtp) → FitsInRtp a → FitsInRtp b → saved_in_rtp a ≡ saved_in_rtp b → a ≡ b
same_in_rtp a b fits_a fits_b is =
    let same = same_rtp a.session b.session a.sources b.sources fits_a fits_b is in
    λ i. record { session = same.session_same i; sources = same.sources_same i }

pub same_out_rtp : (a b : OutRtp) → FitsOutRtp a → FitsOutRtp b → saved_out_rtp a ≡ saved_out_rtp b → a ≡ b
same_out_rtp a b fits_a fits_b is =
    let same = same_rtp a.session b.session a.sources b.sources fits_a fits_b is in
    λ i. record { session = same.session_same i; sources = same.sources_same i }

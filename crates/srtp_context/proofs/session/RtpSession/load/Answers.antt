use Rattle.std.proofs.Common.{◌≡◌, [], ◌∷◌, List, ℕ, length, take, drop, arith, sym, ap, ◌∙◌}
use Rattle.srtp_sources.specs.SavedKeys.{saved_keys}
use Rattle.srtp_sources.proofs.Pieces.{two_read, byte_part}
use Rattle.srtp_sources.proofs.SavedLists.{if_none}
use Rattle.srtp_context.specs.Packets.{tag_size}
use Rattle.srtp_context.specs.SavedRtp.{saved_session}
use Rattle.srtp_context.proofs.SavedContexts.{saved_suite}
use Rattle.srtp_context.proofs.session.RtpSession.load.Goals as goal

pub returns-in_err-suite-clause-none : goal.returns-in_err-suite-clause-none
returns-in_err-suite-clause-none c =
    if_none c.from_residual.result _ (λ session fits is. c.in_err-suite.ensures.none session.suite (saved_suite session c.args.bytes.now fits is))

pub returns-clause-some : goal.returns-clause-some
unfolding saved_session
returns-clause-some c =
    let bytes = c.args.bytes.now in
    let keys = c.load_keys-cipher.result in
    let fits = c.load_keys-cipher.ensures.fits in
    let first : saved_keys keys.cipher c.new.result keys.salt ≡ take 50 bytes =
    ap (λ (mac : List ℕ). saved_keys keys.cipher mac keys.salt) c.new.ensures ∙ c.load_keys-cipher.ensures.saved ∙ c.part_at.ensures in
    let second : tag_size c.in_ok-suite.suite ∷ [] ≡ take 1 (drop 50 bytes) =
    ap (λ (n : ℕ). n ∷ []) c.in_ok-suite.ensures.some ∙ sym (byte_part bytes 50 (omega arith)) in (
      record { cipher_size = fits.cipher_size; mac_size = ap length c.new.ensures ∙ fits.mac_size; salt_size = fits.salt_size },
      two_read bytes (saved_keys keys.cipher c.new.result keys.salt) (tag_size c.in_ok-suite.suite ∷ []) 50 1 first second (omega arith),
    )

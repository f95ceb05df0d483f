use Rattle.std.proofs.Common.{◌≡◌, [], ◌∷◌, ◌++◌, List, ℕ, length, rules, arith, ap, ◌∙◌}
use Rattle.srtp_sources.specs.SavedKeys.{saved_keys}
use Rattle.srtp_sources.proofs.Pieces.{two_written}
use Rattle.srtp_context.specs.SavedRtp.{saved_session}
use Rattle.srtp_context.proofs.session.RtpSession.save.Goals as goal

pub returns-clause-saved : goal.returns-clause-saved
unfolding saved_session
returns-clause-saved c =
    let session = c.args.self.now in
    let keys : length c.save_keys.result ≡ 50 = search rules in
    let long : length c.put_part-2.new.bytes ≡ 51 = search rules in
    two_written c.put_part.new.bytes c.put_part-2.new.bytes c.save_keys.result (c.tag_size.result ∷ []) 50 51 c.put_part.ensures.begins c.put_part-2.ensures.begins keys (omega arith) long
    ∙ ap (λ (l : List ℕ). l ++ c.tag_size.result ∷ []) c.save_keys.ensures.saved
    ∙ ap (λ (n : ℕ). saved_keys session.cipher session.mac session.salt ++ n ∷ []) c.tag_size.ensures

use Rattle.std.proofs.Common.{◌≡◌, ◌++◌, List, ℕ, length, rules, arith, ap, ◌∙◌}
use Rattle.srtp_sources.proofs.Pieces.{two_written}
use Rattle.srtp_context.specs.SavedRtp.{saved_rtp, saved_session}
use Rattle.srtp_context.proofs.saved.save_rtp.Goals as goal

pub returns-clause-saved : goal.returns-clause-saved
unfolding saved_rtp
returns-clause-saved c =
    let session : length c.save.result ≡ 51 = search rules in
    let sources : length c.save-2.result ≡ 929 = search rules in
    let long : length c.put_part-2.new.bytes ≡ 980 = search rules in
    two_written c.put_part.new.bytes c.put_part-2.new.bytes c.save.result c.save-2.result 51 980 c.put_part.ensures.begins c.put_part-2.ensures.begins session (omega arith) long
    ∙ ap (λ (l : List ℕ). l ++ c.save-2.result) c.save.ensures.saved
    ∙ ap (λ (l : List ℕ). saved_session c.args.session.now ++ l) c.save-2.ensures.saved

use Rattle.std.proofs.Common.{◌≡◌, ◌++◌, List, ℕ, length, rules, arith, ap, ◌∙◌}
use Rattle.srtp_sources.proofs.Pieces.{two_written}
use Rattle.srtcp_context.specs.SavedRtcp.{saved_out_rtcp, saved_rtcp_session}
use Rattle.srtcp_context.proofs.outbound.OutRtcp.save.Goals as goal

pub returns-clause-saved : goal.returns-clause-saved
unfolding saved_out_rtcp
returns-clause-saved c =
    let session : length c.save.result ≡ 50 = search rules in
    let counts : length c.save-2.result ≡ 257 = search rules in
    let long : length c.put_part-2.new.bytes ≡ 307 = search rules in
    two_written c.put_part.new.bytes c.put_part-2.new.bytes c.save.result c.save-2.result 50 307 c.put_part.ensures.begins c.put_part-2.ensures.begins session (omega arith) long
    ∙ ap (λ (l : List ℕ). l ++ c.save-2.result) c.save.ensures.saved
    ∙ ap (λ (l : List ℕ). saved_rtcp_session c.args.self.session ++ l) c.save-2.ensures.saved

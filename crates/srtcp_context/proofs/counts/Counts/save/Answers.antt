use Rattle.std.proofs.Common.{◌≡◌, [], ◌∷◌, ◌++◌, List, ℕ, length, take, rules, arith, sym, ap, ◌∙◌}
use Rattle.std.proofs.lemmas.List.{take_all}
use Rattle.srtp_sources.specs.SavedWords.{saved_words}
use Rattle.srtcp_context.specs.SavedCounts.{saved_counts}
use Rattle.srtp_sources.proofs.Pieces.{written_more}
use Rattle.srtcp_context.proofs.counts.Counts.save.Goals as goal

pub returns-clause-saved : goal.returns-clause-saved
unfolding saved_counts
returns-clause-saved c =
    let count = c.args.self.count in
    let words : length c.save_words.result ≡ 128 = search rules in
    let sent : length c.save_words-2.result ≡ 128 = search rules in
    let one : take 1 c.put_part.new.bytes ≡ count ∷ [] = c.put_part.ensures.begins in
    let two : take 129 c.put_part-2.new.bytes ≡ count ∷ c.save_words.result =
    written_more c.put_part.new.bytes c.put_part-2.new.bytes (count ∷ []) c.save_words.result 1 129 c.put_part-2.ensures.begins one (omega arith) in
    let three : take 257 c.put_part-3.new.bytes ≡ count ∷ (c.save_words.result ++ c.save_words-2.result) =
    written_more c.put_part-2.new.bytes c.put_part-3.new.bytes (count ∷ c.save_words.result) c.save_words-2.result 129 257 c.put_part-3.ensures.begins two (omega arith) in
    let long : length c.put_part-3.new.bytes ≡ 257 = search rules in
    sym (take_all 257 c.put_part-3.new.bytes (omega arith)) ∙ three
    ∙ ap (λ (l : List ℕ). count ∷ (l ++ c.save_words-2.result)) c.save_words.ensures.saved
    ∙ ap (λ (l : List ℕ). count ∷ (saved_words c.args.self.ssrcs ++ l)) c.save_words-2.ensures.saved

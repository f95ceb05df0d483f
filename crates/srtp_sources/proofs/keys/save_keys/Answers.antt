use Rattle.std.proofs.Common.{◌≡◌, [], ◌++◌, List, ℕ, length, take, rules, arith, sym, ap, ◌∙◌, refl, append_assoc}
use Rattle.std.proofs.lemmas.List.{take_all}
use Rattle.srtp_sources.specs.SavedKeys.{saved_keys}
use Rattle.srtp_sources.proofs.Pieces.{written_more}
use Rattle.srtp_sources.proofs.keys.save_keys.Goals as goal

pub returns-clause-saved : goal.returns-clause-saved
unfolding saved_keys
returns-clause-saved c =
    let cipher : length c.key.result ≡ 16 = search rules in
    let mac : length c.key-2.result ≡ 20 = search rules in
    let one : take 16 c.put_part.new.bytes ≡ c.key.result =
    written_more [] c.put_part.new.bytes [] c.key.result 0 16 c.put_part.ensures.begins refl (omega arith) in
    let two : take 36 c.put_part-2.new.bytes ≡ c.key.result ++ c.key-2.result =
    written_more c.put_part.new.bytes c.put_part-2.new.bytes c.key.result c.key-2.result 16 36 c.put_part-2.ensures.begins one (omega arith) in
    let three : take 50 c.put_part-3.new.bytes ≡ (c.key.result ++ c.key-2.result) ++ c.args.salt.now =
    written_more c.put_part-2.new.bytes c.put_part-3.new.bytes (c.key.result ++ c.key-2.result) c.args.salt.now 36 50 c.put_part-3.ensures.begins two (omega arith) in
    let long : length c.put_part-3.new.bytes ≡ 50 = search rules in
    sym (take_all 50 c.put_part-3.new.bytes (omega arith)) ∙ three ∙ append_assoc c.key.result c.key-2.result c.args.salt.now
    ∙ ap (λ (l : List ℕ). l ++ (c.key-2.result ++ c.args.salt.now)) c.key.ensures.key
    ∙ ap (λ (l : List ℕ). c.args.cipher.now ++ (l ++ c.args.salt.now)) c.key-2.ensures.key

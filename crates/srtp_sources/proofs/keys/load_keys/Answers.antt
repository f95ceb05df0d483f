use Rattle.std.proofs.Common.{◌≡◌, ◌++◌, take, arith, sym, ◌∙◌, refl, append_assoc}
use Rattle.std.proofs.lemmas.List.{take_all}
use Rattle.srtp_sources.specs.SavedKeys.{saved_keys}
use Rattle.srtp_sources.proofs.Pieces.{read_more}
use Rattle.srtp_sources.proofs.keys.load_keys.Goals as goal

pub returns-clause-saved : goal.returns-clause-saved
unfolding saved_keys
returns-clause-saved c =
    let bytes = c.args.bytes.now in
    let two : c.new.result ++ c.part_at-2.result ≡ take 36 bytes =
    read_more bytes c.new.result c.part_at-2.result 16 20 36 (c.new.ensures ∙ c.part_at.ensures) c.part_at-2.ensures refl in
    let three : (c.new.result ++ c.part_at-2.result) ++ c.part_at-3.result ≡ take 50 bytes =
    read_more bytes (c.new.result ++ c.part_at-2.result) c.part_at-3.result 36 14 50 two c.part_at-3.ensures refl in
    sym (append_assoc c.new.result c.part_at-2.result c.part_at-3.result) ∙ three ∙ take_all 50 bytes (omega arith)

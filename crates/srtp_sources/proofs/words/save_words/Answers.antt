use Rattle.std.proofs.Common.{◌*◌, arith, sym, ap, ◌∙◌}
use Rattle.std.specs.List.{flat_map}
use Rattle.std.specs.Int.{w32, to_be_bytes}
use Rattle.std.proofs.lemmas.List.{take_all}
use Rattle.srtp_sources.specs.SavedWords.{saved_words}
use Rattle.srtp_sources.proofs.words.save_words.Goals as goal

pub returns-clause-saved : goal.returns-clause-saved
unfolding saved_words
returns-clause-saved c =
    sym (take_all (4 * c.places.place) c.places.bytes (omega arith)) ∙ c.places.invariant.written
    ∙ ap (flat_map (to_be_bytes w32)) (take_all c.places.place c.args.words.now (omega arith))

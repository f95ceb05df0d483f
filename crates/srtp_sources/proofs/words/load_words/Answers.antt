use Rattle.std.proofs.Common.{◌≡◌, ◌+◌, ◌*◌, ◌<◌, ◌^◌, ◌++◌, List, ℕ, take, arith, sym, ap, ◌∙◌, length-set, refl}
use Rattle.std.specs.List.{flat_map}
use Rattle.std.specs.Int.{w32, to_be_bytes}
use Rattle.std.proofs.lemmas.List.{take_all}
use Rattle.std.proofs.lemmas.List.Elements.{All-set, All-replicate}
use Rattle.srtp_sources.specs.SavedWords.{saved_words}
use Rattle.srtp_sources.proofs.Pieces.{piece_more_set, part_more}
use Rattle.srtp_sources.proofs.words.load_words.Goals as goal

pub places-init : goal.places-init
places-init c = record {
  long = refl;
  width = All-replicate (λ word. word < 2 ^ 32) 32 0 (omega arith);
  read = refl;
}

pub places-preserved : goal.places-preserved
places-preserved c =
    let at = c.places.place in
    let step : 4 * at + 4 ≡ 4 * (at + 1) = omega arith in
    record {
      long = length-set c.places.words at c.word_at.result ∙ c.places.invariant.long;
      width = All-set (λ word. word < 2 ^ 32) c.places.words at c.word_at.result c.word_at.type_inv c.places.invariant.width;
      read =
          piece_more_set (to_be_bytes w32) c.places.words at c.word_at.result (omega arith)
          ∙ ap (λ (l : List ℕ). l ++ to_be_bytes w32 c.word_at.result) c.places.invariant.read
          ∙ ap (λ (l : List ℕ). take (4 * at) c.args.bytes.now ++ l) c.word_at.ensures
          ∙ part_more c.args.bytes.now (4 * at) 4 ∙ ap (λ (n : ℕ). take n c.args.bytes.now) step;
    }

pub returns-clause-fits : goal.returns-clause-fits
returns-clause-fits c = record { places = c.places.invariant.long; width = c.places.invariant.width }

pub returns-clause-saved : goal.returns-clause-saved
unfolding saved_words
returns-clause-saved c =
    ap (flat_map (to_be_bytes w32)) (sym (take_all c.places.place c.places.words (omega arith))) ∙ c.places.invariant.read
    ∙ take_all (4 * c.places.place) c.args.bytes.now (omega arith)

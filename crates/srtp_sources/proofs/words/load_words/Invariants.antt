use Rattle.std.proofs.Common.{◌≡◌, ◌*◌, ◌<◌, ◌^◌, length, take, All}
use Rattle.std.specs.List.{flat_map}
use Rattle.std.specs.Int.{w32, to_be_bytes}
use Rattle.srtp_sources.proofs.words.load_words.Given as goal

abbrev pub invariant-places : goal.invariant-places
invariant-places l = record {
  long : length l.words ≡ 32;
  width : All (λ word. word < 2 ^ 32) l.words;
  read : flat_map (to_be_bytes w32) (take l.place l.words) ≡ take (4 * l.place) l.bytes;
}

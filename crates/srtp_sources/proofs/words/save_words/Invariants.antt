use Rattle.std.proofs.Common.{◌≡◌, ◌*◌, length, take}
use Rattle.std.specs.List.{flat_map}
use Rattle.std.specs.Int.{w32, to_be_bytes}
use Rattle.srtp_sources.proofs.words.save_words.Given as goal

abbrev pub invariant-places : goal.invariant-places
invariant-places l = record {
  long : length l.bytes ≡ 128;
  written : take (4 * l.place) l.bytes ≡ flat_map (to_be_bytes w32) (take l.place l.words);
}

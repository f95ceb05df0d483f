use Rattle.std.proofs.Common.{◌≡◌, ℕ, ◌<◌, length, get_or, bit_xor}
use Rattle.srtp_keys.proofs.mac.padded.Given as goal

abbrev pub invariant-bytes : goal.invariant-bytes
invariant-bytes l = record {
  long : length l.bytes ≡ 64;
  done : (k : ℕ) → k < l.i → get_or l.bytes k 0 ≡ bit_xor (get_or l.block k 0) l.pad;
}

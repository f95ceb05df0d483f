use Rattle.std.proofs.Common.{◌≡◌, ℕ, ◌<◌, length, get_or}
use Rattle.aes_ctr.specs.Aes.{word_at}
use Rattle.aes_ctr.specs.Columns.{word_bytes}
use Rattle.aes_ctr.proofs.key_schedule.schedule_words.Given as goal

abbrev pub invariant-words : goal.invariant-words
invariant-words l = record {
  long : length l.words ≡ 44;
  done : (k : ℕ) → k < l.i → word_bytes (get_or l.words k 0) ≡ word_at l.bytes k;
}

-- The keys that draws have to give.
use Rattle.std.proofs.Common.{◌≡◌, ℕ, ◌+◌, true, List, ◌∷◌, Some, None, drop, if◌then◌else◌}
use Rattle.histories.specs.Words.{first}
use Rattle.outside_real.specs.KeyStream.{stream_of}
use Rattle.replay_devices.specs.Devices.{Happening, Drew, streamed, is_of_stream, next_key}
use Rattle.replay_devices.specs.Due.{DueState, stream_from}
use Rattle.replay_devices.specs.Watch.{due}

-- a draw that was due
pub record IsDue (seed : ℕ) (past : List Happening) (new : DueState) (key : List ℕ) : Type 0 where
  pub key_is : key ≡ next_key (stream_from seed) past
  pub new_is : new ≡ due seed (Drew true ∷ past)

abbrev first_of : (seed : ℕ) → List Happening → List (List ℕ) → List ℕ
first_of seed past keys = elim (first keys) [ None ↦ stream_from seed (streamed past) | Some bytes ↦ bytes ]

abbrev left_of : (seed : ℕ) → List Happening → List (List ℕ) → DueState
left_of seed past keys = record { unused = drop 1 keys; seed_words = (stream_of seed).seed_words; streamed = if is_of_stream (Drew true) keys then streamed past + 1 else streamed past }

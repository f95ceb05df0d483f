-- What the key source of a replay tells and gives.
use Rattle.std.specs.Prelude.{◌≡◌, ℕ, ◌-◌, ◌^◌, ◌<◌, Option, Some, None, List, [], ◌∷◌, IsSome, drop, filter_map, length, slice_get}
use Rattle.ng_bencode.specs.Room.{Room}
use Rattle.outside_real.specs.KeyStream.{KeyStream, key_of_draw}
use Rattle.relay_outside.specs.declared.keys.KeyCall.{KeyCall}
use Rattle.relay_outside.specs.Failures.{next_count}
use Rattle.relay_script.specs.declared.step.Step.{Step}
use Rattle.replay_devices.specs.Lines.{between, scripted_key}

-- the key source of a replay: what it tells; the script, the index of the present line, and the index up to which no key of a
-- line `key` is left; the stream of the seed; which later draws fail; the count of faults
pub record KeysState : Type 0 where
  pub log : Option (List KeyCall)
  pub steps : List Step
  pub step : ℕ
  pub next : ℕ
  pub stream : KeyStream
  pub draws : Room ℕ
  pub faults : ℕ

-- the keys of lines before the present one that no draw used up, the oldest first
abbrev pub unused_keys : KeysState → List (List ℕ)
unused_keys keys = filter_map scripted_key (between keys.steps keys.next keys.step)

abbrev pub key_at : Option Step → Option (List ℕ)
key_at None = None
key_at (Some step) = scripted_key step

-- the first line `key` stands at this index: there is a key, before which the lines have none
pub record BeginsAt (place : ℕ) (lines : List Step) : Type 0 where
  pub within : place < length lines
  pub is_key : IsSome (key_at (slice_get lines place))
  pub keys : filter_map scripted_key lines ≡ filter_map scripted_key (drop place lines)

-- the next key of the stream, of which no more than 2 ^ 64 - 1 are counted
pub record DrawsNext (before after : KeyStream) (key : List ℕ) : Type 0 where
  pub key_is : before.drawn < 2 ^ 64 - 1 → key ≡ key_of_draw before.seed_words before.drawn
  pub stream_is : after ≡ record before { drawn = next_count before.drawn }

-- a draw gives the oldest unused key of a line, or else the next one of the stream
abbrev pub GivesNextKey : (unused_keys left : List (List ℕ)) → (before after : KeyStream) → (key : List ℕ) → Type 0
GivesNextKey [] left before after key = (left ≡ []) × DrawsNext before after key
GivesNextKey (front ∷ keys) left before after key = (key ≡ front) × (left ≡ keys) × (after ≡ before)

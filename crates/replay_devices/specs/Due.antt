-- The keys that draws have to give: those of lines `key`, and then those of a stream.
use Rattle.std.specs.Prelude.{◌≡◌, ℕ, ◌+◌, List, [], ◌∷◌}
use Rattle.outside_real.specs.KeyStream.{key_of_draw, stream_of}

-- the keys of lines that no draw used up, the oldest first; the words of the stream's seed, and how many keys were drawn from it
pub record DueState : Type 0 where
  pub unused : List (List ℕ)
  pub seed_words : List ℕ
  pub streamed : ℕ

-- the stream of a seed, key by key
abbrev pub stream_from : (seed : ℕ) → ℕ → List ℕ
stream_from seed n = key_of_draw (stream_of seed).seed_words n

abbrev pub DrawsFrom : List (List ℕ) → DueState → DueState → List ℕ → Type 0
DrawsFrom [] before after key =
    (key ≡ key_of_draw before.seed_words before.streamed) × (after ≡ record { unused = []; seed_words = before.seed_words; streamed = before.streamed + 1 })
DrawsFrom (front ∷ keys) before after key = (key ≡ front) × (after ≡ record { unused = keys; seed_words = before.seed_words; streamed = before.streamed })

-- a draw gives the oldest unused key of a line, or else the next one of the stream
abbrev pub Draws : DueState → DueState → List ℕ → Type 0
Draws before after key = DrawsFrom before.unused before after key

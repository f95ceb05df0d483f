-- The accepted offers and answers of a call, latest first.
use Rattle.std.specs.Prelude.{ℕ, List, [], ◌∷◌, ◌++◌, Option}
use Rattle.relay_outside.specs.declared.address.Family.{Family}
use Rattle.sdes_lines.specs.declared.crypto_line.Suite.{Suite}
use Rattle.sdes_lines.specs.declared.crypto_line.CryptoLine.{CryptoLine}
use Rattle.ng_command.specs.declared.command.Options.{Options}
use Rattle.port_pool.specs.declared.holder.Side.{Side}
use Rattle.port_pool.specs.declared.holder.Holder.{Holder}
use Rattle.port_pool.specs.Signals.{NewKey}

-- what an offer asks; `chosen` is, section by section, the key of its first usable crypto line
pub record OfferAsk : Type 0 where
  pub from_tag : List ℕ
  pub sdp : List ℕ
  pub options : Options
  pub chosen : List (Option CryptoLine)

-- what an answer asks; `chosen` is, section by section, the key of its first usable crypto line among the offered ones
pub record AnswerAsk : Type 0 where
  pub from_tag : List ℕ
  pub to_tag : List ℕ
  pub sdp : List ℕ
  pub options : Options
  pub chosen : List (Option CryptoLine)

-- an accepted offer, with the legs that it leased pairs for and the keys that it drew; or an accepted answer
pub data Round : Type 0 where
  Offered : (ask : OfferAsk) → (legs : List Holder) → (keys : List NewKey) → Round
  Answered : AnswerAsk → Round

-- a leg that an offer demands a pair for
pub record NewLeg : Type 0 where
  pub section : ℕ
  pub side : Side
  pub family : Family

-- a leg and a suite that an offer demands a key for
pub record KeyPlace : Type 0 where
  pub section : ℕ
  pub side : Side
  pub suite : Suite

-- what an offer demands: pairs in the order of leases, keys in the order of draws, and the sections whose legs it drops
pub record Demand : Type 0 where
  pub pairs : List NewLeg
  pub keys : List KeyPlace
  pub dropped : List ℕ

-- all keys that offers among the rounds drew
abbrev pub drawn_for : List Round → List NewKey
drawn_for [] = []
drawn_for (Offered ask legs keys ∷ rounds) = keys ++ drawn_for rounds
drawn_for (Answered ask ∷ rounds) = drawn_for rounds

-- What the control links in memory log and give.
use Rattle.std.specs.Prelude.{◌≡◌, ℕ, min, Option, Some, None, List, [], ◌∷◌, length, take}
use Rattle.std.specs.List.{last_or}
use Rattle.relay_outside.specs.declared.address.Addr.{Addr}
use Rattle.relay_outside.specs.declared.answers.Taken.{Taken}
use Rattle.relay_outside.specs.declared.answers.Taken.TheVariants as taken
use Rattle.relay_outside.specs.declared.link.LinkCall.{LinkCall}
use Rattle.relay_outside.specs.declared.memory.link.LinkGift.{LinkGift}
use Rattle.relay_outside.specs.declared.memory.link.LinkGift.TheVariants as gift
use Rattle.relay_outside.specs.Failures.{Failures}
use Rattle.relay_outside.specs.Link.{sent}

-- a link in memory: its log, and what its takes are still to give
pub record LinkTape : Type 0 where
  pub log : Option (List LinkCall)
  pub gifts : List LinkGift

-- a link in memory whose calls may fail
pub record LinkState : Type 0 where
  pub log : Option (List LinkCall)
  pub gifts : List LinkGift
  pub failures : Failures

-- a take gives the front of the list, a datagram cut at the room of the buffer; after the list, the end, and so from its first end on
abbrev pub GivesGift : List LinkGift → List LinkGift → Taken → List ℕ → Type 0
GivesGift [] left answer buf = (answer ≡ taken.End) × (left ≡ [])
GivesGift (gift.Nothing ∷ gifts) left answer buf = (answer ≡ taken.Nothing) × (left ≡ gifts)
GivesGift (gift.End ∷ gifts) left answer buf = (answer ≡ taken.End) × (left ≡ [])
GivesGift (gift.Datagram from bytes ∷ gifts) left answer buf =
    let len = min (length bytes) (length buf) in
    (answer ≡ taken.Datagram from len) × (take len buf ≡ take len bytes) × (left ≡ gifts)

-- the last datagram that a link says it sent
abbrev pub last_sent : Option (List LinkCall) → Option (Addr × List ℕ)
last_sent None = None
last_sent (Some calls) = last_or None (sent calls)

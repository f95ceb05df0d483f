-- The two sides of a call, and its last offer and answer (RFC 3264 section 4).
use Rattle.std.specs.Prelude.{ℕ, List, [], ◌∷◌, Bool, true, false, ◌||◌, Option, Some, None, if◌then◌else◌}
use Rattle.std.specs.Str.{bytes_eq}
use Rattle.histories.specs.Words.{or_else}
use Rattle.port_pool.specs.declared.holder.Side.{Side}
use Rattle.port_pool.specs.declared.holder.Side.TheVariants.{A, B}
use Rattle.port_pool.specs.Signals.{NewKey}
use Rattle.offer_answer.specs.Rounds.{Round, Offered, Answered, OfferAsk, AnswerAsk}

-- an offer with the keys that it drew and the rounds before it
pub record MadeOffer : Type 0 where
  pub ask : OfferAsk
  pub keys : List NewKey
  pub before : List Round

-- an answer with the rounds before it
pub record GivenAnswer : Type 0 where
  pub ask : AnswerAsk
  pub before : List Round

-- there are rounds
abbrev pub is_begun : List Round → Bool
is_begun [] = false
is_begun (round ∷ rounds) = true

abbrev pub last_offer : List Round → Option MadeOffer
last_offer [] = None
last_offer (Offered ask legs keys ∷ rounds) = Some (record { ask = ask; keys = keys; before = rounds })
last_offer (Answered ask ∷ rounds) = last_offer rounds

abbrev pub last_answer : List Round → Option GivenAnswer
last_answer [] = None
last_answer (Offered ask legs keys ∷ rounds) = last_answer rounds
last_answer (Answered ask ∷ rounds) = Some (record { ask = ask; before = rounds })

-- an answer was committed
abbrev pub has_answer : List Round → Bool
has_answer [] = false
has_answer (Offered ask legs keys ∷ rounds) = has_answer rounds
has_answer (Answered ask ∷ rounds) = true

-- an offer followed the first answer: from then on both sides are settled
abbrev pub is_settled : List Round → Bool
is_settled [] = false
is_settled (Offered ask legs keys ∷ rounds) = has_answer rounds
is_settled (Answered ask ∷ rounds) = is_settled rounds

-- the from-tag of the first offer
abbrev pub first_tag : List Round → Option (List ℕ)
first_tag [] = None
first_tag (Offered ask legs keys ∷ rounds) = or_else (first_tag rounds) (Some ask.from_tag)
first_tag (Answered ask ∷ rounds) = first_tag rounds

-- the to-tag of the last answer that no offer separates from the first answer
abbrev pub answering_tag : List Round → Option (List ℕ)
answering_tag [] = None
answering_tag (Offered ask legs keys ∷ rounds) = answering_tag rounds
answering_tag (Answered ask ∷ rounds) = if is_settled rounds then answering_tag rounds else Some ask.to_tag

-- side A made the first offer, side B answers it
abbrev pub side_tag : List Round → Side → Option (List ℕ)
side_tag rounds A = first_tag rounds
side_tag rounds B = answering_tag rounds

abbrev pub is_tag_of : List Round → Side → List ℕ → Bool
is_tag_of rounds side tag = elim (side_tag rounds side) [ None ↦ false | Some own ↦ bytes_eq own tag ]

abbrev pub is_some_sides : List Round → List ℕ → Bool
is_some_sides rounds tag = is_tag_of rounds A tag || is_tag_of rounds B tag

-- the side that makes an offer; the first offer of a call is side A's
abbrev pub offerer : List Round → OfferAsk → Side
offerer rounds ask = if is_tag_of rounds B ask.from_tag then B else A

abbrev pub maker : MadeOffer → Side
maker offer = offerer offer.before offer.ask

-- the description of the last offer
abbrev pub offered_sdp : List Round → List ℕ
offered_sdp rounds = elim (last_offer rounds) [ None ↦ [] | Some offer ↦ offer.ask.sdp ]

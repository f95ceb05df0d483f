-- The keys of legs, and the crypto lines that carry them (RFC 4568).
use Rattle.std.specs.Prelude.{ℕ, List, [], ◌∷◌, ◌++◌, Bool, ◌&&◌, ◌==◌, Option, Some, None, is_none, if◌then◌else◌, filter, find, map, slice_get, option_map}
use Rattle.sdes_lines.specs.declared.crypto_line.Suite.{Suite}
use Rattle.sdes_lines.specs.declared.crypto_line.Suite.TheVariants.{Tag80, Tag32}
use Rattle.sdes_lines.specs.declared.crypto_line.CryptoLine.{CryptoLine}
use Rattle.port_pool.specs.declared.holder.Side.{Side}
use Rattle.port_pool.specs.Signals.{NewKey, side_eq, suite_eq, other_side}
use Rattle.offer_answer.specs.Rounds.{Round, OfferAsk, AnswerAsk, KeyPlace, drawn_for}
use Rattle.offer_answer.specs.Sides.{MadeOffer, last_offer, last_answer, offerer, maker}
use Rattle.offer_answer.specs.Sections.{section_in, is_active_in, section_life, is_committed}
use Rattle.offer_answer.specs.Profiles.{is_srtp, is_srtp_leg, profile_offered, written_profile}

-- the crypto line that was chosen in a section
abbrev pub chosen_in : List (Option CryptoLine) → ℕ → Option CryptoLine
chosen_in chosen section = elim (slice_get chosen section) [ None ↦ None | Some line ↦ line ]

abbrev pub is_for : ℕ → Side → NewKey → Bool
is_for section side key = key.section == section && side_eq key.side side

-- the keys that a leg has: those that were drawn for it in its life
abbrev pub leg_keys : List Round → ℕ → Side → List NewKey
leg_keys rounds section side = filter (is_for section side) (drawn_for (section_life rounds section))

-- the one for a suite
abbrev pub key_among : List NewKey → Suite → Option NewKey
key_among keys suite = find (λ key. suite_eq key.suite suite) keys

abbrev pub leg_key : List Round → ℕ → Side → Suite → Option NewKey
leg_key rounds section side suite = key_among (leg_keys rounds section side) suite

-- the crypto line that a side chose: the offerer in its offer, the other side in the answer
abbrev pub chosen_by : MadeOffer → AnswerAsk → ℕ → Side → Option CryptoLine
chosen_by offer ask section side = if side_eq side (maker offer) then chosen_in offer.ask.chosen section else chosen_in ask.chosen section

-- the crypto line by which an answer after these rounds commits a leg; none where its profile isn't SRTP
abbrev pub committed_line : List Round → AnswerAsk → ℕ → Side → Option CryptoLine
committed_line rounds ask section side =
    elim (last_offer rounds) [
      | None ↦ None
      | Some offer ↦ if is_srtp_leg (profile_offered rounds section side) then chosen_by offer ask section side else None
    ]

-- the key under which packets are then sent to the leg's side: the leg's key for the suite of that line
abbrev pub committed_key : List Round → AnswerAsk → ℕ → Side → Option NewKey
committed_key rounds ask section side =
    elim (committed_line rounds ask section side) [ None ↦ None | Some line ↦ leg_key rounds section side line.suite ]

-- the key that the last commit of a leg put in force
abbrev pub key_in_force : List Round → ℕ → Side → Option NewKey
key_in_force rounds section side =
    if is_committed rounds section then elim (last_answer rounds) [ None ↦ None | Some answer ↦ committed_key answer.before answer.ask section side ] else None

-- What an offer draws.

abbrev pub key_place_of : ℕ → Side → Suite → KeyPlace
key_place_of section side suite = record { section = section; side = side; suite = suite }

-- of these suites those for which the leg has no key
abbrev pub missing_keys : List Round → ℕ → Side → List Suite → List KeyPlace
missing_keys rounds section side suites = map (key_place_of section side) (filter (λ suite. is_none (leg_key rounds section side suite)) suites)

-- the suite of a chosen line
abbrev pub suite_of : Option CryptoLine → List Suite
suite_of None = []
suite_of (Some line) = line.suite ∷ []

-- an offerer with SRTP is sent packets under the suite of its chosen line
abbrev pub offerers_suites : OfferAsk → ℕ → List Suite
offerers_suites ask section = if is_srtp (section_in ask.sdp section).proto then suite_of (chosen_in ask.chosen section) else []

-- the other side is offered both suites where SRTP is written to it and no key is in force on its leg
abbrev pub others_suites : List Round → OfferAsk → ℕ → List Suite
others_suites rounds ask section =
    if is_srtp (written_profile rounds ask section) && is_none (key_in_force rounds section (other_side (offerer rounds ask))) then Tag80 ∷ Tag32 ∷ [] else []

-- the keys that an active section demands, in the order of draws
abbrev pub section_keys : List Round → OfferAsk → ℕ → List KeyPlace
section_keys rounds ask section =
    missing_keys rounds section (offerer rounds ask) (offerers_suites ask section)
    ++ missing_keys rounds section (other_side (offerer rounds ask)) (others_suites rounds ask section)

-- Which crypto lines the other side is offered.

abbrev pub no_lines : List (Option CryptoLine)
no_lines = None ∷ None ∷ []

-- a line with this tag that carries the key, in the key's suite
abbrev pub line_with : ℕ → NewKey → CryptoLine
line_with tag key = record { tag = tag; suite = key.suite; key = key.bytes }

-- the key in force as tag 1, else tag 1 with 80 bits and tag 2 with 32
abbrev pub lines_of_keys : Option NewKey → List NewKey → List (Option CryptoLine)
lines_of_keys (Some key) keys = Some (line_with 1 key) ∷ None ∷ []
lines_of_keys None keys = option_map (line_with 1) (key_among keys Tag80) ∷ option_map (line_with 2) (key_among keys Tag32) ∷ []

-- the lines of a section in an offer after these rounds, with the keys that it drew
abbrev pub offered_lines : List Round → OfferAsk → List NewKey → ℕ → List (Option CryptoLine)
offered_lines rounds ask keys section =
    let side = other_side (offerer rounds ask) in
    if is_active_in ask.sdp section && is_srtp (written_profile rounds ask section)
    then lines_of_keys (key_in_force rounds section side) (filter (is_for section side) keys ++ leg_keys rounds section side)
    else no_lines

-- the lines of a section in the last offer
abbrev pub last_lines : List Round → ℕ → List (Option CryptoLine)
last_lines rounds section = elim (last_offer rounds) [ None ↦ no_lines | Some offer ↦ offered_lines offer.before offer.ask offer.keys section ]

-- What holds of every plan.
use Rattle.std.specs.Prelude.{◌≡◌, ℕ, ◌<◌, List, [], ◌∷◌, ◌++◌, length, map, Bool, false, true, not, ◌&&◌, Some, None, IsSome}
use Rattle.histories.specs.Words.{In, has}
use Rattle.relay_outside.specs.declared.settings.Config.{Config}
use Rattle.port_pool.specs.declared.holder.Side.{Side}
use Rattle.port_pool.specs.Ports.{pair_family}
use Rattle.port_pool.specs.declared.holder.Holder.{Holder}
use Rattle.port_pool.specs.declared.signal.LegSignal.{LegSignal}
use Rattle.port_pool.specs.Signals.{NewKey, signal_at, is_rejected}
use Rattle.offer_answer.specs.Rounds.{Round, Offered, Answered, OfferAsk, AnswerAsk, NewLeg, KeyPlace}
use Rattle.offer_answer.specs.Sections.{most_sections, leases, has_pairs, leg_of}
use Rattle.offer_answer.specs.Profiles.{is_srtp_leg, profile_offered}
use Rattle.offer_answer.specs.Keys.{key_place_of}
use Rattle.offer_answer.specs.Families.{leg_family}
use Rattle.offer_answer.specs.Plan.{AnswerRead, offer_fault, answer_fault, signal, demand}

-- after the earlier rounds, and through all of the later ones, the section kept its pairs
abbrev pub KeepsPairs : ℕ → List Round → List Round → Type 0
KeepsPairs section [] earlier = has_pairs earlier section ≡ true
KeepsPairs section (round ∷ later) earlier =
    (has_pairs (round ∷ later ++ earlier) section ≡ true) × (leases round section ≡ false) × KeepsPairs section later earlier

-- an offer among the rounds drew the key, and since then no offer dropped the section and no answer rejected it
pub record IsDrawnInLife (rounds : List Round) (section : ℕ) (key : NewKey) : Type 0 where
  pub later : List Round
  pub ask : OfferAsk
  pub legs : List Holder
  pub keys : List NewKey
  pub earlier : List Round
  pub rounds_are : rounds ≡ later ++ Offered ask legs keys ∷ earlier
  pub drawn : In key keys
  pub kept : KeepsPairs section later (Offered ask legs keys ∷ earlier)

-- the key that a signal names for a leg: drawn for this leg in its life, and of the suite under which its side sends
pub record IsKeyOf (rounds : List Round) (section : ℕ) (side : Side) (s : LegSignal) (number : ℕ) : Type 0 where
  pub key : NewKey
  pub number_is : key.number ≡ number
  pub for_section : key.section ≡ section
  pub for_side : key.side ≡ side
  pub is_drawn : IsDrawnInLife rounds section key
  pub inbound : List ℕ
  pub suite_is : s.inbound ≡ Some (inbound, key.suite)

-- a signal names for a leg no key but one that was drawn for that leg in its life
abbrev pub NamesDrawnKeys : Type 0
NamesDrawnKeys =
    (rounds : List Round) (ask : AnswerAsk) (section : ℕ) (side : Side) (s : LegSignal) (number : ℕ) →
    signal_at (signal rounds ask) section side ≡ Some s → s.outbound ≡ Some number → IsKeyOf rounds section side s number

-- A signal rejects exactly the sections that have no pairs after the answer.
abbrev pub RejectsWhatGoes : Type 0
RejectsWhatGoes =
    (rounds : List Round) (ask : AnswerAsk) (section : ℕ) → section < length (signal rounds ask) →
    is_rejected (signal rounds ask) section ≡ not (has_pairs (Answered ask ∷ rounds) section)

-- An offer drops exactly the sections that had pairs before it and have none after it.
abbrev pub DropsWhatGoes : Type 0
DropsWhatGoes =
    (rounds : List Round) (ask : OfferAsk) (legs : List Holder) (keys : List NewKey) (section : ℕ) → section < most_sections →
    leases (Offered ask legs keys) section ≡ false →
    has (demand rounds ask).dropped section ≡ (has_pairs rounds section && not (has_pairs (Offered ask legs keys ∷ rounds) section))

-- Rounds as they come about.

abbrev pub leg_place : Holder → ℕ × Side
leg_place leg = (leg.section, leg.side)

abbrev pub new_leg_place : NewLeg → ℕ × Side
new_leg_place leg = (leg.section, leg.side)

abbrev pub key_place : NewKey → KeyPlace
key_place key = key_place_of key.section key.side key.suite

-- an offer without a fault, with the legs and the keys that it demanded
pub record IsOfferRound (rounds : List Round) (ask : OfferAsk) (legs : List Holder) (keys : List NewKey) : Type 0 where
  pub no_fault : offer_fault rounds ask ≡ None
  pub leased : map leg_place legs ≡ map new_leg_place (demand rounds ask).pairs
  pub drawn : map key_place keys ≡ (demand rounds ask).keys

-- an answer without a fault, with the crypto lines that are chosen in it
pub record IsAnswerRound (rounds : List Round) (ask : AnswerAsk) : Type 0 where
  pub no_fault : answer_fault rounds ask ≡ None
  pub heard : AnswerRead rounds ask

abbrev pub AreRounds : List Round → Type 0
AreRounds [] = Unit {0}
AreRounds (Offered ask legs keys ∷ rounds) = IsOfferRound rounds ask legs keys × AreRounds rounds
AreRounds (Answered ask ∷ rounds) = IsAnswerRound rounds ask × AreRounds rounds

-- keys for both directions where the profile is SRTP, and else for none
abbrev pub IsSecured : Bool → LegSignal → Type 0
IsSecured true s = IsSome s.inbound × IsSome s.outbound
IsSecured false s = (s.inbound ≡ None) × (s.outbound ≡ None)

-- A leg is committed with keys exactly where its profile is SRTP: nothing is sent in the clear to a side that agreed on SRTP.
abbrev pub SecuresLegs : Type 0
SecuresLegs =
    (rounds : List Round) (ask : AnswerAsk) (section : ℕ) (side : Side) (s : LegSignal) →
    AreRounds rounds → IsAnswerRound rounds ask → signal_at (signal rounds ask) section side ≡ Some s →
    IsSecured (is_srtp_leg (profile_offered rounds section side)) s

-- A section that has pairs has one for each of its legs.
abbrev pub HaveLegs : Type 0
HaveLegs = (rounds : List Round) (section : ℕ) (side : Side) → AreRounds rounds → has_pairs rounds section ≡ true → IsSome (leg_of rounds section side)

-- each offer leased for its legs pairs of the families that it demanded
abbrev pub LeaseByFamily : Config → List Round → Type 0
LeaseByFamily config [] = Unit {0}
LeaseByFamily config (Offered ask legs keys ∷ rounds) =
    (map (λ (leg : Holder). pair_family config leg.pair) legs ≡ map (λ (leg : NewLeg). leg.family) (demand rounds ask).pairs) × LeaseByFamily config rounds
LeaseByFamily config (Answered ask ∷ rounds) = LeaseByFamily config rounds

-- A leg has the family of its pair, so the address that a description gets for it is the one at which its ports are.
abbrev pub HavePairsFamilies : Type 0
HavePairsFamilies =
    (config : Config) (rounds : List Round) (section : ℕ) (side : Side) (leg : Holder) → AreRounds rounds → LeaseByFamily config rounds →
    leg_of rounds section side ≡ Some leg → leg_family rounds section side ≡ Some (pair_family config leg.pair)

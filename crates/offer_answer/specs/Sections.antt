-- The sections of descriptions, and their pairs of ports.
use Rattle.std.specs.Prelude.{ℕ, List, [], ◌∷◌, ◌++◌, length, Bool, false, not, ◌&&◌, ◌==◌, Option, None, if◌then◌else◌, filter, find, slice_get, unwrap_or}
use Rattle.std.specs.List.{list_any}
use Rattle.histories.specs.Words.{numbers}
use Rattle.sdp_text.specs.Lines.{lines_of}
use Rattle.sdp_text.specs.Parts.{is_rtp_proto}
use Rattle.sdp_text.specs.Descriptions.{sections_in}
use Rattle.sdp_text.specs.declared.section.Section.{Section}
use Rattle.sdp_text.specs.declared.proto.Proto.TheVariants.{Other}
use Rattle.port_pool.specs.declared.holder.Side.{Side}
use Rattle.port_pool.specs.declared.holder.Holder.{Holder}
use Rattle.port_pool.specs.Signals.{side_eq}
use Rattle.offer_answer.specs.Rounds.{Round, Offered, Answered}
use Rattle.offer_answer.specs.Sides.{is_begun, has_answer, offered_sdp}

-- a call has at most this many sections
abbrev pub most_sections : ℕ
most_sections = 8

abbrev pub sections_of : List ℕ → List Section
sections_of sdp = sections_in (lines_of sdp)

abbrev pub section_count : List ℕ → ℕ
section_count sdp = length (sections_of sdp)

-- a section that isn't there is as one that isn't used
abbrev pub no_section : Section
no_section = record { line = 0; port = 0; proto = Other; address = None; rtcp_port = 0; rtcp_address = None; hold = false; mux = false }

-- the section with this index, from 0
abbrev pub section_in : List ℕ → ℕ → Section
section_in sdp section = unwrap_or (slice_get (sections_of sdp) section) no_section

-- a section is active where its protocol is one of the four of RTP and its port isn't 0 (RFC 3264 section 6)
abbrev pub is_active : Section → Bool
is_active section = not (section.port == 0) && is_rtp_proto section.proto

abbrev pub is_active_in : List ℕ → ℕ → Bool
is_active_in sdp section = is_active (section_in sdp section)

abbrev pub all_sections : List ℕ → List ℕ
all_sections sdp = numbers 0 (section_count sdp)

abbrev pub active_sections : List ℕ → List ℕ
active_sections sdp = filter (is_active_in sdp) (all_sections sdp)

-- the round is an offer that leased pairs for the section
abbrev pub leases : Round → ℕ → Bool
leases (Offered ask legs keys) section = list_any (λ leg. leg.section == section) legs
leases (Answered ask) section = false

-- The round takes the section's pairs away, after the earlier rounds of its life. An offer drops a section that it doesn't
-- use and that no answer has committed. An answer rejects a section that isn't active both in its offer and in itself.
abbrev pub takes_pairs_away : Round → List Round → ℕ → Bool
takes_pairs_away (Offered ask legs keys) section_life section = not (is_active_in ask.sdp section) && not (has_answer section_life)
takes_pairs_away (Answered ask) section_life section = not (is_active_in (offered_sdp section_life) section && is_active_in ask.sdp section)

abbrev pub lives_on : Round → List Round → ℕ → List Round
lives_on round [] section = []
lives_on round (former ∷ section_life) section = if takes_pairs_away round (former ∷ section_life) section then [] else round ∷ former ∷ section_life

-- the rounds since the section got the pairs that it has, from the offer that leased them on; none where it has no pairs
abbrev pub section_life : List Round → ℕ → List Round
section_life [] section = []
section_life (round ∷ rounds) section = if leases round section then round ∷ [] else lives_on round (section_life rounds section) section

abbrev pub has_pairs : List Round → ℕ → Bool
has_pairs rounds section = is_begun (section_life rounds section)

-- an answer has committed the section since it got the pairs that it has
abbrev pub is_committed : List Round → ℕ → Bool
is_committed rounds section = has_answer (section_life rounds section)

-- all legs that offers among the rounds leased pairs for
abbrev pub leased_for : List Round → List Holder
leased_for [] = []
leased_for (Offered ask legs keys ∷ rounds) = legs ++ leased_for rounds
leased_for (Answered ask ∷ rounds) = leased_for rounds

-- the section's leg on a side, with its pair
abbrev pub leg_of : List Round → ℕ → Side → Option Holder
leg_of rounds section side = find (λ leg. leg.section == section && side_eq leg.side side) (leased_for (section_life rounds section))

-- how many sections the last committed offer has; 0 before the first answer
abbrev pub committed_count : List Round → ℕ
committed_count [] = 0
committed_count (Offered ask legs keys ∷ rounds) = committed_count rounds
committed_count (Answered ask ∷ rounds) = section_count (offered_sdp rounds)
